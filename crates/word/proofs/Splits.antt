-- A text is split at the first byte that is found.
use Rattle.std.proofs.Common.{◌≡◌, ℕ, zero, suc, Bool, true, false, cond, eqb, ltb, List, [], ◌∷◌, length, take, drop, sym, refl, ap, ◌∙◌, arith}
use lib.Dec.{leb-suc-suc}
use Rattle.std.specs.List.{slice_split, onto_first}
use Rattle.std.proofs.lemmas.Bool.{eq-eqb, ne_eqb, lt-ltb}
use Rattle.word.specs.Text.{First, glued, split}
use Rattle.word.proofs.When.{when_true, when_false}

pub first_later : (c b : ℕ) (l : List ℕ) (r : ℕ) → First c (b ∷ l) (suc r) → First c l r
first_later c b l r f = record { within = omega (arith, f.within); before = λ k h. f.before (suc k) (omega arith); found = λ h. f.found (omega arith) }

pub first_other : (c b : ℕ) (l : List ℕ) (r : ℕ) → First c (b ∷ l) (suc r) → eqb b c ≡ false
first_other c b l r f = ne_eqb b c (f.before 0 (omega arith))

pub split_here : (c b : ℕ) (l : List ℕ) → eqb b c ≡ true → split c (b ∷ l) ≡ [] ∷ split c l
split_here c b l e = when_true (eqb b c) ([] ∷ split c l) (glued b (split c l)) e

pub split_on : (c b : ℕ) (l : List ℕ) → eqb b c ≡ false → split c (b ∷ l) ≡ glued b (split c l)
split_on c b l e = when_false (eqb b c) ([] ∷ split c l) (glued b (split c l)) e

pub split_first : (c : ℕ) (l : List ℕ) (r : ℕ) → First c l r → split c l ≡ take r l ∷ cond (ltb r (length l)) (split c (drop (suc r) l)) []
split_first c [] zero f = refl
split_first c [] (suc r) f = absurd (omega (arith, f.within))
split_first c (b ∷ l) zero f =
    let e : eqb b c ≡ true = eq-eqb b c (f.found (omega arith)) in
    split_here c b l e ∙ ap (λ (t : Bool). [] ∷ cond t (split c l) []) (sym (lt-ltb 0 (suc (length l)) (omega arith)))
split_first c (b ∷ l) (suc r) f =
    split_on c b l (first_other c b l r f)
    ∙ ap (glued b) (split_first c l r (first_later c b l r f))
    ∙ ap (λ (t : Bool). (b ∷ take r l) ∷ cond t (split c (drop (suc r) l)) []) (sym (leb-suc-suc (suc r) (length l)))

-- the parts, as the library's `split` gives them
pub split_is : (c : ℕ) (text : List ℕ) → slice_split (λ b. eqb b c) text ≡ split c text
split_is c [] = refl
split_is c (b ∷ bs) = go (eqb b c) (split_is c bs)
  where
    glue : (ps : List (List ℕ)) → onto_first b ps ≡ glued b ps
    glue [] = refl
    glue (p ∷ ps) = refl

    go : (t : Bool) → slice_split (λ x. eqb x c) bs ≡ split c bs → cond t ([] ∷ slice_split (λ x. eqb x c) bs) (onto_first b (slice_split (λ x. eqb x c) bs)) ≡ (let r : List (List ℕ) = elim t [ true ↦ [] ∷ split c bs | false ↦ glued b (split c bs) ] in r)
    go true e = ap (λ (ps : List (List ℕ)). [] ∷ ps) e
    go false e = glue (slice_split (λ x. eqb x c) bs) ∙ ap (glued b) e
