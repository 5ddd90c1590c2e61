-- Searches along a list.
use Rattle.std.proofs.Common.{◌≡◌, ℕ, ◌+◌, ◌<◌, Bool, true, false, not, ◌||◌, ltb, List, [], ◌∷◌, ◌++◌, length, get_or, drop, sym, refl, ap, ◌∙◌, arith}
use Rattle.std.specs.Bool.{MatchBool}
use Rattle.std.proofs.Math.Bool.{or-false, or_assoc}
use Rattle.std.specs.List.{list_any, HoldsAt, AllWithin}
use Rattle.std.proofs.lemmas.List.{at_drop_more}
use Rattle.std.proofs.lemmas.List.Folds.{list_any_at, list_any_none}
use Rattle.word.specs.Symbols.{among}
use Rattle.expr.specs.declared.code.Code.{Code}
use Rattle.rules.specs.Picked.{given_by, picked}
use Rattle.rules.specs.Wrong.{some_over, some_missing}

-- a loop along a list, where what is left still gives the answer y
module _ {X Y : Type 0} (F : List X → Y) (xs : List X) (i : ℕ) {y : Y} (left : F (drop i xs) ≡ y) where
  pub opened : (d : X) → i < length xs → F (get_or xs i d ∷ drop (i + 1) xs) ≡ y
  opened d h = sym (at_drop_more F xs i d h) ∙ left

-- what `any` answers, as a test of the list
pub any_is : {A : Type 0} (p : A → Bool) (xs : List A) (r : Bool) → MatchBool r ((k : ℕ) × (k < length xs) × HoldsAt (λ x. p x ≡ true) xs k) (AllWithin (λ x. p x ≡ false) xs 0 (length xs)) → r ≡ list_any p xs
any_is p [] true h = absurd (omega (arith, h.1))
any_is p (x ∷ xs) true h = sym (list_any_at p (x ∷ xs) h.0 x h.1 (h.2 x))
any_is p xs false h = sym (list_any_none p xs (λ k d l. h k d (omega arith) l))

-- what a number or a name of code gives is told place by place
pub placed : (f g : ℕ → List ℕ) (some : List ℕ → Bool) → some [] ≡ false → ((xs ys : List ℕ) → some (xs ++ ys) ≡ (some xs || some ys)) → (cs : List Code) → list_any (λ c. some (picked f g (c ∷ []))) cs ≡ some (picked f g cs)
placed f g some none joined [] = sym none
placed f g some none joined (c ∷ cs) =
    (λ i. (joined (given_by f g c) [] ∙ ap (λ (t : Bool). some (given_by f g c) || t) none ∙ or-false (some (given_by f g c))) i || placed f g some none joined cs i)
    ∙ sym (joined (given_by f g c) (picked f g cs))

pub over_on : (xs ys : List ℕ) → some_over (xs ++ ys) ≡ (some_over xs || some_over ys)
over_on [] ys = refl
over_on (x ∷ xs) ys = ap (λ (t : Bool). ltb 1000000 x || t) (over_on xs ys) ∙ sym (or_assoc (ltb 1000000 x) (some_over xs) (some_over ys))

pub missing_on : (given xs ys : List ℕ) → some_missing given (xs ++ ys) ≡ (some_missing given xs || some_missing given ys)
missing_on given [] ys = refl
missing_on given (x ∷ xs) ys = ap (λ (t : Bool). not (among x given) || t) (missing_on given xs ys) ∙ sym (or_assoc (not (among x given)) (some_missing given xs) (some_missing given ys))
