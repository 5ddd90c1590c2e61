-- A walk that goes on module by module is the walk over all modules.
use Rattle.std.specs.Prelude.{◌≡◌, ℕ, ◌≤◌, true, List, [], ◌∷◌, ◌++◌, length}
use Rattle.word.specs.Symbols.{Symbol}
use Rattle.word.specs.Words.{Ending, nested}
use Rattle.walk.specs.Walks.{started, walk_over}
use Rattle.walk.specs.Walkers.{gone_on}

pub record Onwards : Type 0 where
  pub starts : (d : ℕ) → started d ≡ walk_over d []
  -- over every word whose brackets nest, of at most 16,000,000 modules: behind the modules v, over the module m
  pub goes_on :
      (d : ℕ) (v : List Symbol) (m : Symbol) (w : List Symbol) (e : Ending) →
      nested d (v ++ (m ∷ w)) e ≡ true → length (v ++ (m ∷ w)) ≤ 16_000_000 →
      gone_on (walk_over d v) m ≡ walk_over d (v ++ (m ∷ []))
