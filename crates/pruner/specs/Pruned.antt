-- The word that pruning leaves. Position j is dropped exactly when some position i ≤ j holds `%` and d(t) ≥ d(i) for every t
-- from i to j + 1, where d(t) is the depth of position t. So the bracket that closes the cut branch stays.
use Rattle.std.specs.Prelude.{◌≡◌, ℕ, zero, suc, ◌≤◌, Bool, true, false, cond, not, ◌&&◌, ◌||◌, List, [], ◌∷◌, codes, ◌==◌, nat_le}
use Rattle.word.specs.Symbols.{Symbol}
use Rattle.word.specs.Words.{Meaning, depth}

-- p holds at some position from 0 to n
abbrev pub some_to : ℕ → (ℕ → Bool) → Bool
some_to zero p = p zero
some_to (suc n) p = p zero || some_to n (λ k. p (suc k))

-- p holds at each position from i to n
abbrev pub each_from_to : ℕ → ℕ → (ℕ → Bool) → Bool
each_from_to zero zero p = p zero
each_from_to zero (suc n) p = p zero && each_from_to zero n (λ k. p (suc k))
each_from_to (suc i) zero p = true
each_from_to (suc i) (suc n) p = each_from_to i n (λ k. p (suc k))

-- the modules at whose position p holds
abbrev pub keep : (ℕ → Bool) → List Symbol → List Symbol
keep p [] = []
keep p (s ∷ w) = let rest = keep (λ k. p (suc k)) w in cond (p zero) (s ∷ rest) rest

-- the sign `%`
abbrev pub is_cut : ℕ → Bool
is_cut c = c == 37

-- position i holds `%`
abbrev pub cut_at : List Symbol → ℕ → Bool
cut_at [] i = false
cut_at (s ∷ w) zero = is_cut s.letter
cut_at (s ∷ w) (suc i) = cut_at w i

-- position j is dropped from the word w, before which d brackets are open
abbrev pub dropped : ℕ → List Symbol → ℕ → Bool
dropped d w j = some_to j (λ i. cut_at w i && each_from_to i (suc j) (λ t. nat_le (depth d w i) (depth d w t)))

abbrev pub pruned : ℕ → List Symbol → List Symbol
pruned d w = keep (λ j. not (dropped d w j)) w

-- only modules go: the ending, the brackets open and the generation number stay
abbrev pub pruned_meaning : Meaning → Meaning
pruned_meaning m = record {
  told = record { modules = pruned m.opened m.told.modules; ending = m.told.ending };
  opened = m.opened;
  generation = m.generation;
}

-- The same rule as a relation: a `%` cuts position j off.
pub record CutOff (d : ℕ) (w : List Symbol) (j : ℕ) : Type 0 where
  pub i : ℕ
  pub within : i ≤ j
  pub sign : cut_at w i ≡ true
  pub deep : (t : ℕ) → i ≤ t → t ≤ suc j → depth d w i ≤ depth d w t

-- exactly the positions that are cut off are dropped
abbrev pub DropsWhatIsCut : Type 0
DropsWhatIsCut =
    (d : ℕ) (w : List Symbol) (j : ℕ) → (dropped d w j ≡ true → CutOff d w j) × (CutOff d w j → dropped d w j ≡ true)

-- A[B%C[D]E]F is pruned to A[B]F
abbrev bare : List ℕ → List Symbol
bare [] = []
bare (c ∷ cs) = record { letter = c; params = [] } ∷ bare cs

abbrev pub CutBranch : Type 0
CutBranch = pruned 0 (bare (codes "A[B%C[D]E]F")) ≡ bare (codes "A[B]F")
