-- Numbers of 32 bits worked on in 64.
use Rattle.std.proofs.Common.{◌≡◌, ℕ, zero, suc, ◌/◌, ◌≤◌, false, eqb, ℤ, pos, negsuc, ◌+ℤ◌, ◌-ℤ◌, ◌*ℤ◌, neg_ℤ, nat_abs, subst, ap, ◌∙◌, div-le_self, arith, w32, w64, SFits, to_z, of_z}
use borrow.Author.Numbers.{signed_product}
use lib.Signed.{mag, quot_z}
use Rattle.std.proofs.lemmas.Int.{to_z-of_z, ints}
use Rattle.std.proofs.lemmas.Bool.{ne_eqb}

pub wide : (x : ℤ) → SFits w32 x → to_z w64 (of_z w64 (to_z w32 (of_z w32 x))) ≡ x
wide x f = ap (λ v. to_z w64 (of_z w64 v)) (to_z-of_z w32 x f) ∙ to_z-of_z w64 x (record { sfits = omega (arith, f.sfits) })

sum_fits : (x y : ℤ) → SFits w32 x → SFits w32 y → SFits w64 (x +ℤ y)
sum_fits x y f g = grind (arith, ints, f, g)

difference_fits : (x y : ℤ) → SFits w32 x → SFits w32 y → SFits w64 (x -ℤ y)
difference_fits x y f g = grind (arith, ints, f, g)

product_fits : (x y : ℤ) → SFits w32 x → SFits w32 y → SFits w64 (x *ℤ y)
product_fits x y f g = subst (SFits w64) (λ i. wide x f i *ℤ wide y g i) (signed_product w64 w32 w32 x y f g tt)

mag_neg : (n : ℕ) → mag (neg_ℤ (pos n)) ≤ n
mag_neg zero = omega arith
mag_neg (suc n) = omega arith

quotient_fits : (x y : ℤ) → SFits w32 x → SFits w32 y → SFits w64 (quot_z x y)
quotient_fits (pos a) (pos b) f g = record { sfits = omega (arith, f.sfits, div-le_self a b) }
quotient_fits (pos a) (negsuc b) f g = record { sfits = omega (arith, f.sfits, div-le_self a (suc b), mag_neg (a / suc b)) }
quotient_fits (negsuc a) (pos b) f g = record { sfits = omega (arith, f.sfits, div-le_self (suc a) b, mag_neg (suc a / b)) }
quotient_fits (negsuc a) (negsuc b) f g = record { sfits = omega (arith, f.sfits, div-le_self (suc a) (suc b)) }

-- two numbers, and the code's copies of them
module _ (x y v w : ℤ) (f : SFits w32 x) (g : SFits w32 y) (d : v ≡ to_z w32 (of_z w32 x)) (e : w ≡ to_z w32 (of_z w32 y)) where
  exact : (o : ℤ → ℤ → ℤ) → SFits w64 (o x y) → to_z w64 (of_z w64 (o (to_z w64 (of_z w64 v)) (to_z w64 (of_z w64 w)))) ≡ o x y
  exact o h = (λ i. to_z w64 (of_z w64 (o ((ap (λ z. to_z w64 (of_z w64 z)) d ∙ wide x f) i) ((ap (λ z. to_z w64 (of_z w64 z)) e ∙ wide y g) i)))) ∙ to_z-of_z w64 (o x y) h

  pub sum : to_z w64 (of_z w64 (to_z w64 (of_z w64 v) +ℤ to_z w64 (of_z w64 w))) ≡ x +ℤ y
  sum = exact (λ a b. a +ℤ b) (sum_fits x y f g)

  pub difference : to_z w64 (of_z w64 (to_z w64 (of_z w64 v) -ℤ to_z w64 (of_z w64 w))) ≡ x -ℤ y
  difference = exact (λ a b. a -ℤ b) (difference_fits x y f g)

  pub product : to_z w64 (of_z w64 (to_z w64 (of_z w64 v) *ℤ to_z w64 (of_z w64 w))) ≡ x *ℤ y
  product = exact (λ a b. a *ℤ b) (product_fits x y f g)

  pub quotient : to_z w64 (of_z w64 (quot_z (to_z w64 (of_z w64 v)) (to_z w64 (of_z w64 w)))) ≡ quot_z x y
  quotient = exact quot_z (quotient_fits x y f g)

pub nonzero : (y : ℤ) → (of_z w32 y ≡ 0 → ⊥) → eqb (nat_abs y) 0 ≡ false
nonzero (pos n) h = ne_eqb n 0 h
nonzero (negsuc n) h = ne_eqb (suc n) 0 (λ e. omega arith)
