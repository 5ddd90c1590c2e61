-- The lesser and the greater of two coordinates are coordinates.
use Rattle.std.proofs.Common.{◌≡◌, ◌≤◌, true, ℤ, nat_abs, sym, ap, ap₂, ◌∙◌, subst, w32, to_z, of_z, arith}
use Rattle.std.specs.Prelude.{int_le}
use Rattle.std.proofs.lemmas.Bool.{and_parts, and_from, cond_both, le-leb, leb-true}
use Rattle.word.specs.Symbols.{in_range}
use Rattle.word.proofs.Sound.{exact}
use Rattle.turtle.specs.Vectors.{Vector, vec}
use Rattle.turtle.specs.Poses.{in_bounds, all_in_bounds}
use Rattle.walk.specs.Boxes.{lesser, greater}

-- a number as the code holds it
abbrev pub stored : ℤ → ℤ
stored z = to_z w32 (of_z w32 z)

-- a coordinate is held as it is
whole : (z : ℤ) → in_bounds z ≡ true → stored z ≡ z
whole z h =
    let low : nat_abs z ≤ 30_000 = leb-true (nat_abs z) 30_000 h in
    let range : in_range z ≡ true = le-leb (nat_abs z) 1_000_000 (omega (arith, low)) in
    exact true z range

-- whichever of two coordinates is taken
module _ (pick : ℤ → ℤ → ℤ) (near : (a b : ℤ) → in_bounds a ≡ true → in_bounds b ≡ true → in_bounds (pick a b) ≡ true) where
  one : (r a b : ℤ) → in_bounds a ≡ true → in_bounds b ≡ true → r ≡ pick (stored a) (stored b) → in_bounds (stored r) ≡ true
  one r a b ha hb e =
      let is : r ≡ pick a b = e ∙ ap₂ pick (whole a ha) (whole b hb) in
      subst (λ y. in_bounds y ≡ true) (sym (ap stored is ∙ whole (pick a b) (near a b ha hb))) (near a b ha hb)

  all : (u v : Vector) (x y z : ℤ) → all_in_bounds u ≡ true → all_in_bounds v ≡ true → x ≡ pick (stored u.x) (stored v.x) → y ≡ pick (stored u.y) (stored v.y) → z ≡ pick (stored u.z) (stored v.z) → all_in_bounds (vec (stored x) (stored y) (stored z)) ≡ true
  all u v x y z hu hv ex ey ez =
      let pu = and_parts (in_bounds u.x) _ hu in
      let pv = and_parts (in_bounds v.x) _ hv in
      let qu = and_parts (in_bounds u.y) (in_bounds u.z) pu.1 in
      let qv = and_parts (in_bounds v.y) (in_bounds v.z) pv.1 in
      and_from _ _ (one x u.x v.x pu.0 pv.0 ex) (and_from _ _ (one y u.y v.y qu.0 qv.0 ey) (one z u.z v.z qu.1 qv.1 ez))

pub near_least : (u v : Vector) (x y z : ℤ) → all_in_bounds u ≡ true → all_in_bounds v ≡ true → x ≡ lesser (stored u.x) (stored v.x) → y ≡ lesser (stored u.y) (stored v.y) → z ≡ lesser (stored u.z) (stored v.z) → all_in_bounds (vec (stored x) (stored y) (stored z)) ≡ true
near_least = all lesser (λ a b ha hb. cond_both (int_le a b) a b (λ z. in_bounds z ≡ true) (λ e. ha) (λ e. hb))

pub near_greatest : (u v : Vector) (x y z : ℤ) → all_in_bounds u ≡ true → all_in_bounds v ≡ true → x ≡ greater (stored u.x) (stored v.x) → y ≡ greater (stored u.y) (stored v.y) → z ≡ greater (stored u.z) (stored v.z) → all_in_bounds (vec (stored x) (stored y) (stored z)) ≡ true
near_greatest = all greater (λ a b ha hb. cond_both (int_le a b) b a (λ z. in_bounds z ≡ true) (λ e. hb) (λ e. ha))
