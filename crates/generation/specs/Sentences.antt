-- What the neighbours are, in sentences about positions.
use Rattle.std.specs.Prelude.{◌≡◌, ℕ, ◌<◌, ◌≤◌, Bool, true, List, length, Some, None, Option}
use Rattle.word.specs.Symbols.{Symbol}
use Rattle.word.specs.Words.{depth}
use Rattle.generation.specs.Neighbours.{stands, left, right}

module _ (ignored : ℕ → Bool) (k : ℕ) (w : List Symbol) where
  -- j lies left of i: it is no bracket and not ignored, and d(t) ≥ d(j) for every t from j to i
  pub record LeftOf (i j : ℕ) : Type 0 where
    pub before : j < i
    pub letter : stands ignored k w j ≡ true
    pub clear : (t : ℕ) → j ≤ t → t ≤ i → depth k w j ≤ depth k w t

  -- j lies right of i: it is no bracket and not ignored, d(j) = d(i), and d(t) ≥ d(i) for every t from i to j
  pub record RightOf (i j : ℕ) : Type 0 where
    pub behind : i < j
    pub within : j < length w
    pub letter : stands ignored k w j ≡ true
    pub same : depth k w j ≡ depth k w i
    pub clear : (t : ℕ) → i ≤ t → t ≤ j → depth k w i ≤ depth k w t

-- the greatest number with a property, or none if no number has it
abbrev pub Greatest : (ℕ → Type 0) → Option ℕ → Type 0
Greatest P None = (j : ℕ) → P j → ⊥
Greatest P (Some j) = P j × ((x : ℕ) → P x → x ≤ j)

-- the least number with a property, or none if no number has it
abbrev pub Least : (ℕ → Type 0) → Option ℕ → Type 0
Least P None = (j : ℕ) → P j → ⊥
Least P (Some j) = P j × ((x : ℕ) → P x → j ≤ x)

-- the neighbours found are those of the sentences
pub record NeighboursAre : Type 0 where
  pub on_the_left :
      (ignored : ℕ → Bool) (k : ℕ) (w : List Symbol) (i : ℕ) → Greatest (LeftOf ignored k w i) (left ignored k w i)
  pub on_the_right :
      (ignored : ℕ → Bool) (k : ℕ) (w : List Symbol) (i : ℕ) → Least (RightOf ignored k w i) (right ignored k w i)
