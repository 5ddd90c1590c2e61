-- Whether a byte is among some, as the library's `contains` tells.
use Rattle.std.proofs.Common.{◌≡◌, ℕ, Bool, true, false, ◌||◌, eqb, List, [], ◌∷◌, sym, refl}
use Rattle.std.specs.List.{list_any}
use Rattle.std.proofs.lemmas.Bool.{eq-eqb, ne_eqb, eqb-true, eqb-false}
use Rattle.word.specs.Symbols.{among}

turned : (x c : ℕ) → eqb x c ≡ eqb c x
turned x c = go (eqb x c) refl
  where
    go : (t : Bool) → eqb x c ≡ t → t ≡ eqb c x
    go true e = sym (eq-eqb c x (sym (eqb-true x c e)))
    go false e = sym (ne_eqb c x (λ same. eqb-false x c e (sym same)))

pub among_is : (c : ℕ) (xs : List ℕ) → list_any (λ x. eqb x c) xs ≡ among c xs
among_is c [] = refl
among_is c (x ∷ xs) = λ i. turned x c i || among_is c xs i
