-- Every value lies in the range.
use Rattle.std.proofs.Common.{◌≡◌, ℕ, Bool, true, false, cond, eqb, List, [], ◌∷◌, ℤ, pos, ◌+ℤ◌, ◌-ℤ◌, ◌*ℤ◌, neg_ℤ, nat_abs, refl, subst, arith}
use Rattle.std.proofs.lemmas.Bool.{and_from}
use Rattle.word.specs.Symbols.{in_range, all_in_range}
use Rattle.expr.specs.Values.{Expr, number, name, minus, plus, less, times, over, Value, is, wrong, Env, ranged, quotient, divided, both, negated, value, Arguments, made, spoilt, with_first, arguments}

abbrev Within : Value → Type 0
Within v = (x : ℤ) → v ≡ is x → in_range x ≡ true

in_ranged : (z : ℤ) → Within (ranged z)
in_ranged z x e = go (in_range z) refl e
  where
    go : (t : Bool) → in_range z ≡ t → cond t (is z) (wrong 32) ≡ is x → in_range x ≡ true
    go true h q = let same : z ≡ x = cc in subst (λ y. in_range y ≡ true) same h
    go false h q = let n : ◌≡◌ {A = ℕ} 0 1 = cc in absurd (omega arith)

in_divided : (y z : ℤ) → Within (divided y z)
in_divided y z x e = go (eqb (nat_abs z) 0) e
  where
    go : (t : Bool) → cond t (wrong 31) (ranged (quotient y z)) ≡ is x → in_range x ≡ true
    go true q = let n : ◌≡◌ {A = ℕ} 0 1 = cc in absurd (omega arith)
    go false q = in_ranged (quotient y z) x q

in_both : (v w : Value) (f : ℤ → ℤ → Value) → ((y z : ℤ) → Within (f y z)) → Within (both v w f)
in_both (wrong c) w f h x e = let n : ◌≡◌ {A = ℕ} 0 1 = cc in absurd (omega arith)
in_both (is y) (wrong c) f h x e = let n : ◌≡◌ {A = ℕ} 0 1 = cc in absurd (omega arith)
in_both (is y) (is z) f h x e = h y z x e

in_negated : (v : Value) → Within (negated v)
in_negated (is y) x e = in_ranged (neg_ℤ y) x e
in_negated (wrong c) x e = let n : ◌≡◌ {A = ℕ} 0 1 = cc in absurd (omega arith)

in_value : (g : Env) (e : Expr) → Within (value g e)
in_value g (number n) = in_ranged (pos n)
in_value g (name x) = in_ranged (g x)
in_value g (minus e) = in_negated (value g e)
in_value g (plus a b) = in_both (value g a) (value g b) (λ x y. ranged (x +ℤ y)) (λ y z. in_ranged (y +ℤ z))
in_value g (less a b) = in_both (value g a) (value g b) (λ x y. ranged (x -ℤ y)) (λ y z. in_ranged (y -ℤ z))
in_value g (times a b) = in_both (value g a) (value g b) (λ x y. ranged (x *ℤ y)) (λ y z. in_ranged (y *ℤ z))
in_value g (over a b) = in_both (value g a) (value g b) divided in_divided

pub arguments_in_range : (g : Env) (es : List Expr) (xs : List ℤ) → arguments g es ≡ made xs → all_in_range xs ≡ true
arguments_in_range g [] xs q = let same : [] ≡ xs = cc in subst (λ (l : List ℤ). all_in_range l ≡ true) same refl
arguments_in_range g (e ∷ es) xs q = go (value g e) (arguments g es) (in_value g e) (arguments_in_range g es) q
  where
    go : (v : Value) (a : Arguments) → Within v → ((ys : List ℤ) → a ≡ made ys → all_in_range ys ≡ true) → with_first v a ≡ made xs → all_in_range xs ≡ true
    go (wrong c) a w ih p = let n : ◌≡◌ {A = ℕ} 0 1 = cc in absurd (omega arith)
    go (is y) (spoilt c) w ih p = let n : ◌≡◌ {A = ℕ} 0 1 = cc in absurd (omega arith)
    go (is y) (made ys) w ih p =
        let same : y ∷ ys ≡ xs = cc in
        subst (λ (l : List ℤ). all_in_range l ≡ true) same (and_from (in_range y) (all_in_range ys) (w y refl) (ih ys refl))
