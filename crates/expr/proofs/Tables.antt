-- Tables of names.
use Rattle.std.proofs.Common.{◌≡◌, ℕ, zero, suc, get_or, replicate, refl}

pub all_same : {A : Type 0} (n : ℕ) (a : A) (i : ℕ) → get_or (replicate n a) i a ≡ a
all_same zero a i = refl
all_same (suc n) a zero = refl
all_same (suc n) a (suc i) = all_same n a i
