-- A list of parameters, part by part.
use Rattle.std.proofs.Common.{◌≡◌, ℕ, zero, suc, ◌<◌, ◌≤◌, leb, List, [], ◌∷◌, ◌++◌, length, get_or, ℤ, Some, None, Option, sym, refl, ap, ◌∙◌, arith}
use Rattle.std.proofs.lemmas.Bool.{le-leb, lt-leb, cond-true, cond-false}
use Rattle.word.specs.Text.{split}
use Rattle.seed.specs.Seeds.{integer, prefixed, integers, at_most_3, parameters}

-- one part more
pub integers_more : (ps : List (List ℕ)) (q : List ℕ) (zs : List ℤ) (z : ℤ) → integers ps ≡ Some zs → integer q ≡ Some z → integers (ps ++ (q ∷ [])) ≡ Some (zs ++ (z ∷ []))
integers_more [] q zs z e f = go zs e
  where
    go : (l : List ℤ) → Some [] ≡ Some l → integers (q ∷ []) ≡ Some (l ++ (z ∷ []))
    go [] e = ap (λ (o : Option ℤ). prefixed o (Some [])) f
    go (x ∷ xs) e = let no : ◌≡◌ {A = ℕ} 0 1 = cc in absurd (omega arith)
integers_more (p ∷ ps) q zs z e f = go (integer p) (integers ps) (λ ys i. integers_more ps q ys z i f) refl e
  where
    go : (o : Option ℤ) (r : Option (List ℤ)) → ((ys : List ℤ) → integers ps ≡ Some ys → integers (ps ++ (q ∷ [])) ≡ Some (ys ++ (z ∷ []))) → integers ps ≡ r → prefixed o r ≡ Some zs → prefixed o (integers (ps ++ (q ∷ []))) ≡ Some (zs ++ (z ∷ []))
    go None r more i e = let no : ◌≡◌ {A = ℕ} 0 1 = cc in absurd (omega arith)
    go (Some y) None more i e = let no : ◌≡◌ {A = ℕ} 0 1 = cc in absurd (omega arith)
    go (Some y) (Some ys) more i e =
        let same : y ∷ ys ≡ zs = cc in
        ap (λ (r : Option (List ℤ)). prefixed (Some y) r) (more ys i) ∙ ap (λ (l : List ℤ). Some (l ++ (z ∷ []))) same

-- a part that is none
pub integers_none : (ps : List (List ℕ)) (i : ℕ) (p : List ℕ) → i < length ps → p ≡ get_or ps i p → integer p ≡ None → integers ps ≡ None
integers_none [] i p h is e = absurd (omega arith)
integers_none (q ∷ ps) zero p h is e = ap (λ (o : Option ℤ). prefixed o (integers ps)) (ap integer (sym is) ∙ e)
integers_none (q ∷ ps) (suc i) p h is e = ap (prefixed (integer q)) (integers_none ps i p (omega arith) is e) ∙ go (integer q)
  where
    go : (o : Option ℤ) → prefixed o None ≡ None
    go None = refl
    go (Some z) = refl

pub integers_length : (ps : List (List ℕ)) (zs : List ℤ) → integers ps ≡ Some zs → length zs ≡ length ps
integers_length [] zs e = let same : [] ≡ zs = cc in rw (← same) refl
integers_length (p ∷ ps) zs e = go (integer p) (integers ps) (integers_length ps) refl e
  where
    go : (o : Option ℤ) (r : Option (List ℤ)) → ((ys : List ℤ) → integers ps ≡ Some ys → length ys ≡ length ps) → integers ps ≡ r → prefixed o r ≡ Some zs → length zs ≡ suc (length ps)
    go None r ih i e = let no : ◌≡◌ {A = ℕ} 0 1 = cc in absurd (omega arith)
    go (Some y) None ih i e = let no : ◌≡◌ {A = ℕ} 0 1 = cc in absurd (omega arith)
    go (Some y) (Some ys) ih i e = let same : y ∷ ys ≡ zs = cc in rw (← same) (ap suc (ih ys i))

pub too_many : (list : List ℕ) → 3 < length (split 44 list) → parameters list ≡ None
too_many list long = go (integers (split 44 list)) refl
  where
    go : (o : Option (List ℤ)) → integers (split 44 list) ≡ o → at_most_3 o ≡ None
    go None e = refl
    go (Some zs) e = cond-false (leb (length zs) 3) _ _ (lt-leb _ 3 (omega (arith, integers_length (split 44 list) zs e)))

pub few_enough : (list : List ℕ) (zs : List ℤ) → integers (split 44 list) ≡ Some zs → length zs ≤ 3 → parameters list ≡ Some zs
few_enough list zs e few = ap at_most_3 e ∙ cond-true (leb (length zs) 3) _ _ (le-leb _ 3 few)
