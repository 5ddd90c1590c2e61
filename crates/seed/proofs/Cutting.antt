-- A text is cut behind its first module.
use Rattle.std.proofs.Common.{◌≡◌, ℕ, zero, suc, ◌+◌, ◌<◌, ◌≤◌, min, true, false, eqb, ◌⊎◌, List, [], ◌∷◌, length, get_or, take, drop, sym, refl, ap, ◌∙◌, inl, inr, arith}
use Rattle.std.proofs.lemmas.List.{take_all, drop_all}
use Rattle.std.proofs.lemmas.Bool.{eq-eqb, ne_eqb, cases_lt}
use Rattle.word.specs.Text.{First, glued}
use Rattle.word.proofs.When.{when_true, when_false}
use Rattle.word.proofs.Splits.{first_later, first_other}
use Rattle.seed.specs.Seeds.{cut}

-- inside a list, on to the first `)`
cut_list : (b : ℕ) (l : List ℕ) (r : ℕ) → First 41 (b ∷ l) r → cut true (b ∷ l) ≡ take (suc r) (b ∷ l) ∷ cut false (drop (suc r) (b ∷ l))
cut_list b l zero f = when_true (eqb b 41) ((b ∷ []) ∷ cut false l) (glued b (cut true l)) (eq-eqb b 41 (f.found (omega arith)))
cut_list b [] (suc r) f = when_false (eqb b 41) ((b ∷ []) ∷ []) (glued b []) (first_other 41 b [] r f)
cut_list b (c ∷ l) (suc r) f =
    when_false (eqb b 41) ((b ∷ []) ∷ cut false (c ∷ l)) (glued b (cut true (c ∷ l))) (first_other 41 b (c ∷ l) r f)
    ∙ ap (glued b) (cut_list c l r (first_later 41 b (c ∷ l) r f))

-- a byte without a list
pub cut_bare : (l : List ℕ) → 0 < length l → (1 < length l → get_or l 1 0 ≡ 40 → ⊥) → cut false l ≡ take 1 l ∷ cut false (drop 1 l)
cut_bare [] some other = absurd (omega arith)
cut_bare (b ∷ []) some other = refl
cut_bare (b ∷ c ∷ l) some other = when_false (eqb c 40) (glued b (cut true (c ∷ l))) ((b ∷ []) ∷ cut false (c ∷ l)) (ne_eqb c 40 (other (omega arith)))

first_further : (c b : ℕ) (l : List ℕ) (r : ℕ) → (b ≡ c → ⊥) → First c l r → First c (b ∷ l) (suc r)
first_further c b l r ne f = record { within = omega (arith, f.within); before = before; found = λ h. f.found (omega arith) }
  where
    before : (k : ℕ) → k < suc r → get_or (b ∷ l) k 0 ≡ c → ⊥
    before zero h e = ne e
    before (suc k) h e = f.before k (omega arith) e

pub cut_three : (l : List ℕ) (r : ℕ) → 1 < length l → get_or l 1 0 ≡ 40 → First 41 (drop 2 l) r → cut false l ≡ take (suc (suc (suc r))) l ∷ cut false (drop (suc (suc (suc r))) l)
cut_three [] r two e f = absurd (omega arith)
cut_three (b ∷ []) r two e f = absurd (omega arith)
cut_three (b ∷ c ∷ l) r two e f =
    let ne : c ≡ 41 → ⊥ = λ x. omega arith in
    when_true (eqb c 40) (glued b (cut true (c ∷ l))) ((b ∷ []) ∷ cut false (c ∷ l)) (eq-eqb c 40 e)
    ∙ ap (glued b) (cut_list c l (suc r) (first_further 41 c l r ne f))

-- no more than the text has
within : (l : List ℕ) (k n : ℕ) → n ≡ min (length l) k → cut false l ≡ take k l ∷ cut false (drop k l) → cut false l ≡ take n l ∷ cut false (drop n l)
within l k n is e = go (cases_lt k (length l))
  where
    go : (k < length l) ⊎ (length l ≤ k) → cut false l ≡ take n l ∷ cut false (drop n l)
    go (inr h) =
        let m : n ≡ length l = omega arith in
        e ∙ ap (λ (x : List ℕ). x ∷ cut false (drop k l)) (take_all k l h ∙ sym (take_all n l (omega arith))) ∙ ap (λ (x : List ℕ). take n l ∷ cut false x) (drop_all k l h ∙ sym (drop_all n l (omega arith)))
    go (inl h) = let m : n ≡ k = omega arith in rw m e

-- a byte and its list
pub cut_listed : (l : List ℕ) (r n : ℕ) → 1 < length l → get_or l 1 0 ≡ 40 → First 41 (drop 2 l) r → n ≡ min (length l) (r + 3) → cut false l ≡ take n l ∷ cut false (drop n l)
cut_listed l r n two e f is = within l (suc (suc (suc r))) n (is ∙ ap (min (length l)) (omega arith)) (cut_three l r two e f)
