-- Where a step leads, and what is drawn on the way.
use Rattle.std.proofs.Common.{◌≡◌, ℕ, zero, suc, ◌≤◌, Bool, true, cond, eqb, [], ◌∷◌, take, ℤ, pos, negsuc, ◌+ℤ◌, ◌*ℤ◌, nat_abs, refl, sym, ap, ◌∙◌, subst, arith, w32, to_z, of_z}
use Rattle.std.specs.Prelude.{unsigned_abs}
use Rattle.std.specs.Int.RustNames.{FitsSigned}
use Rattle.std.proofs.lemmas.Int.{ints, to_z-of_z, fits_signed_from_abs}
use Rattle.std.proofs.lemmas.Bool.{leb-true, both_ways, and_parts}
use Rattle.std.proofs.lemmas.Bool.Decides.{nat_tests}
use Rattle.word.specs.declared.module.Module.{Module}
use Rattle.word.specs.Records.{symbol_of}
use Rattle.word.proofs.Sound.{a_exact}
use Rattle.turtle.specs.Vectors.{vec}
use Rattle.turtle.specs.Poses.{Stance, Stroke, in_bounds, all_in_bounds}
use Rattle.turtle.specs.Deeds.{Deed, goes, draws, breaks, stride, ahead, line, is_length, done}
use Rattle.turtle.specs.declared.command.Command.TheVariants.{Draw, Move}

-- a length along a unit
small : (z : ℤ) → unsigned_abs z ≤ 100_000 → FitsSigned w32 z
small z h = fits_signed_from_abs w32 z (omega (arith, h))

long : (l u : ℤ) → is_length l ≡ true → unsigned_abs u ≤ 1 → unsigned_abs (l *ℤ u) ≤ 4_095
long (negsuc k) u h g = absurd (both_ways _ refl h)
long (pos k) (pos zero) h g = grind (arith, ints, nat_tests)
long (pos k) (pos (suc zero)) h g = grind (arith, ints, nat_tests)
long (pos k) (pos (suc (suc n))) h g = absurd (omega arith)
long (pos k) (negsuc zero) h g = grind (arith, ints, nat_tests)
long (pos k) (negsuc (suc n)) h g = absurd (omega arith)

length_small : (l : ℤ) → is_length l ≡ true → unsigned_abs l ≤ 4_095
length_small (negsuc k) h = absurd (both_ways _ refl h)
length_small (pos k) h = grind (arith, ints, nat_tests)

sum_small : (n p : ℤ) → unsigned_abs n ≤ 30_000 → unsigned_abs p ≤ 4_095 → unsigned_abs (n +ℤ p) ≤ 100_000
sum_small n p h g = grind (arith, ints, nat_tests)

-- a number as the code holds it
abbrev pub stored : ℤ → ℤ
stored z = to_z w32 (of_z w32 z)

stays : (z : ℤ) → unsigned_abs z ≤ 100_000 → stored z ≡ z
stays z h = to_z-of_z w32 z (small z h)

-- a coordinate as the code holds it is in bounds
as_held : (z : ℤ) → in_bounds z ≡ true → in_bounds (stored z) ≡ true
as_held z h = ap in_bounds (stays z (omega (arith, leb-true (unsigned_abs z) 30_000 h))) ∙ h

pub near_y : (x y z : ℤ) → all_in_bounds (vec x y z) ≡ true → in_bounds (stored y) ≡ true
near_y x y z h = as_held y (and_parts (in_bounds y) (in_bounds z) (and_parts (in_bounds x) _ h).1).0

pub near_z : (x y z : ℤ) → all_in_bounds (vec x y z) ≡ true → in_bounds (stored z) ≡ true
near_z x y z h = as_held z (and_parts (in_bounds y) (in_bounds z) (and_parts (in_bounds x) _ h).1).1

-- the sum of a coordinate and a length along a unit is what the code makes of them
module _ (n l u : ℤ) (near : in_bounds n ≡ true) (short : is_length l ≡ true) (unit : unsigned_abs u ≤ 1) where
  near_so : unsigned_abs n ≤ 30_000
  near_so = leb-true (unsigned_abs n) 30_000 near

  n_is : stored n ≡ n
  n_is = stays n (omega (arith, near_so))

  l_is : stored l ≡ l
  l_is = stays l (omega (arith, length_small l short))

  u_is : stored u ≡ u
  u_is = stays u (omega (arith, unit))

  p_is : stored (l *ℤ u) ≡ l *ℤ u
  p_is = stays (l *ℤ u) (omega (arith, long l u short unit))

  product_is : stored (stored l *ℤ stored u) ≡ l *ℤ u
  product_is = (λ i. stored (l_is i *ℤ u_is i)) ∙ p_is

  sum_so : unsigned_abs (n +ℤ l *ℤ u) ≤ 100_000
  sum_so = sum_small n (l *ℤ u) near_so (long l u short unit)

  pub product_fits : FitsSigned w32 (stored l *ℤ stored u)
  product_fits =
      subst (FitsSigned w32) (λ i. sym l_is i *ℤ sym u_is i) (small (l *ℤ u) (omega (arith, long l u short unit)))

  pub sum_fits : FitsSigned w32 (stored n +ℤ stored (stored l *ℤ stored u))
  sum_fits = subst (FitsSigned w32) (λ i. sym n_is i +ℤ sym product_is i) (small (n +ℤ l *ℤ u) sum_so)

  pub sum_is : stored (stored n +ℤ stored (stored l *ℤ stored u)) ≡ n +ℤ l *ℤ u
  sum_is = (λ i. stored (n_is i +ℤ product_is i)) ∙ stays (n +ℤ l *ℤ u) sum_so

-- the first parameter of a module that has one
front : (k : ℕ) (a b c : ℤ) → (k ≡ 0 → ⊥) → a ≡ stride (take k (a ∷ b ∷ c ∷ []))
front zero a b c h = absurd (h refl)
front (suc k) a b c h = refl

pub first : (m : Module) → (m.count ≡ 0 → ⊥) → to_z w32 (of_z w32 m.a) ≡ stride (symbol_of m).params
first m h = a_exact m ∙ front m.count m.a m.b m.c h

-- how far a module asks the turtle to go, as the code holds it
long_held : (k : ℕ) (a b c : ℤ) → stored a ≡ a → stored (stride (take k (a ∷ b ∷ c ∷ []))) ≡ stride (take k (a ∷ b ∷ c ∷ []))
long_held zero a b c h = refl
long_held (suc k) a b c h = h

pub stride_stays : (m : Module) → to_z w32 (of_z w32 (stride (symbol_of m).params)) ≡ stride (symbol_of m).params
stride_stays m = long_held m.count m.a m.b m.c (a_exact m)

-- what becomes of a move where a line is drawn on the way, if there is any
abbrev pub with_line : Bool → Stroke → Deed → Deed
with_line none l (goes s) = cond none (goes s) (draws l s)
with_line none l (draws k s) = draws k s
with_line none l (breaks k) = breaks k

-- a step under three tests: that its length is one, that it is 0, that its end is in bounds
abbrev tested : Bool → Bool → Bool → Stance → Deed → Deed
tested a b c s d = cond a (cond b (goes s) (cond c d (breaks 42))) (breaks 41)

lined : (a b c : Bool) (s t : Stance) (l : Stroke) → with_line b l (tested a b c s (goes t)) ≡ tested a b c s (draws l t)
lined a b c s t l = grind arith

pub drawn_so : (n : ℤ) (s : Stance) → with_line (eqb (nat_abs n) 0) (line n s) (done Move n s) ≡ done Draw n s
drawn_so n s = lined (is_length n) (eqb (nat_abs n) 0) (all_in_bounds (ahead n s).place) s (ahead n s) (line n s)

-- what `Pose::drawn` needs
pub ruleset drawing = (to_z-of_z, drawn_so)
