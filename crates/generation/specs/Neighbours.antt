-- The neighbours of a position. Positions count from 0, and d(t) is the depth of position t: the brackets open before it, those
-- that are open before the word among them. What stands before the word is unknown, so no neighbour is there.
use Rattle.std.specs.Prelude.{ℕ, zero, suc, ◌-◌, Bool, true, false, cond, not, ◌&&◌, ◌||◌, List, length, Some, None, Option, ◌==◌, nat_le, nat_lt}
use Rattle.std.specs.List.{slice_get}
use Rattle.word.specs.Symbols.{Symbol, is_close, is_bracket}
use Rattle.word.specs.Words.{depth}

-- the greatest j < n at which p holds
abbrev pub greatest : ℕ → (ℕ → Bool) → Option ℕ
greatest zero p = None
greatest (suc n) p = cond (p n) (Some n) (greatest n p)

-- the least of the n positions from i on at which p holds
abbrev pub least : ℕ → ℕ → (ℕ → Bool) → Option ℕ
least i zero p = None
least i (suc n) p = cond (p i) (Some i) (least (suc i) n p)

-- p holds at every t < n
abbrev pub each_below : ℕ → (ℕ → Bool) → Bool
each_below zero p = true
each_below (suc n) p = p n && each_below n p

-- p holds at every t from j to i
abbrev pub between : ℕ → ℕ → (ℕ → Bool) → Bool
between j i p = each_below (suc i) (λ t. nat_lt t j || p t)

-- a test of a module, if there is one
abbrev pub holds : (Symbol → Bool) → Option Symbol → Bool
holds p None = false
holds p (Some s) = p s

-- a `]`
abbrev pub closes : Symbol → Bool
closes s = is_close s.letter

-- no bracket, and not ignored
abbrev pub counts : (ℕ → Bool) → Symbol → Bool
counts ignored s = not (is_bracket s.letter) && not (ignored s.letter)

-- in a word w, before which k brackets are open
module _ (ignored : ℕ → Bool) (k : ℕ) (w : List Symbol) where
  -- at j is no bracket, and nothing that is ignored
  abbrev pub stands : ℕ → Bool
  stands j = holds (counts ignored) (slice_get w j)

  -- d(t) ≥ d(x) for every t from j to i
  abbrev pub above : ℕ → ℕ → ℕ → Bool
  above x j i = between j i (λ t. nat_le (depth k w x) (depth k w t))

  -- THE LEFT NEIGHBOUR of i: the greatest j < i that is no bracket and not ignored, with d(t) ≥ d(j) for every t from j to i
  abbrev pub left : ℕ → Option ℕ
  left i = greatest i (λ j. stands j && above j j i)

  -- j is on the level of i: d(j) = d(i), and d(t) ≥ d(i) for every t from i to j
  abbrev pub level : ℕ → ℕ → Bool
  level i j = depth k w j == depth k w i && above i i j

  -- THE RIGHT NEIGHBOUR of i: the least j > i that is no bracket and not ignored, on the level of i
  abbrev pub right : ℕ → Option ℕ
  right i = least (suc i) (length w - suc i) (λ j. stands j && level i j)

  -- position j settles which the right neighbour of i is: it is that neighbour, or the `]` that closes the branch of i, so that
  -- none comes
  abbrev pub settles : ℕ → ℕ → Bool
  settles i j = (stands j || holds closes (slice_get w j)) && level i j
