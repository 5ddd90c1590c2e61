-- A case on a test, where the test is known.
use Rattle.std.proofs.Common.{◌≡◌, Bool, true, false}

pub when_true : {A : Type 0} (t : Bool) (x y : A) → t ≡ true → ◌≡◌ {A = A} (elim t [ true ↦ x | false ↦ y ]) x
when_true t x y e = rw e

pub when_false : {A : Type 0} (t : Bool) (x y : A) → t ≡ false → ◌≡◌ {A = A} (elim t [ true ↦ x | false ↦ y ]) y
when_false t x y e = rw e
