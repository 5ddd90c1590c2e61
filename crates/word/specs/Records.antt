-- What the records of the code mean, and what one draw does.
use Rattle.std.specs.Prelude.{◌≡◌, ℕ, true, false, ◌≤◌, ◌⊎◌, List, [], ◌∷◌, ◌++◌, map, length, take, drop, Some, None, Ok, Err, Option, Result}
use Rattle.word.specs.declared.depth.Depth.{Depth}
use Rattle.word.specs.declared.module.Module.{Module}
use Rattle.word.specs.declared.fault.Fault.{Fault}
use Rattle.word.specs.Symbols.{Symbol, symbol}
use Rattle.word.specs.Spans.{spans}
use Rattle.word.specs.Words.{clean, broken, Meaning, after, depth}

abbrev pub symbol_of : Module → Symbol
symbol_of m = symbol m.letter m.count m.a m.b m.c

-- from d open brackets the modules lead to so many, or they may not stand there
abbrev pub Leads : ℕ → List Symbol → Option Depth → Type 0
Leads d w None = (e : ℕ) → spans d w e ≡ false
Leads d w (Some e) = spans d w e.brackets ≡ true

-- One draw answers, and takes a source that means s to one that means s': the first module goes, and a bracket counts; at
-- the end the ending is told, and nothing changes.
abbrev pub Draws : Meaning → Result (Option Module) Fault → Meaning → Type 0
Draws s (Ok (Some m)) s' =
    (s.told.modules ≡ symbol_of m ∷ s'.told.modules)
    × (s'.told.ending ≡ s.told.ending)
    × (s'.opened ≡ after s.opened (symbol_of m))
    × (s'.generation ≡ s.generation)
Draws s (Ok None) s' = (s.told.modules ≡ []) × (s.told.ending ≡ clean) × (s' ≡ s)
Draws s (Err f) s' = (s.told.modules ≡ []) × (s.told.ending ≡ broken f) × (s' ≡ s)

-- From s to s' the modules v are told.
pub record Tells (s : Meaning) (v : List Symbol) (s' : Meaning) : Type 0 where
  pub modules : s.told.modules ≡ v ++ s'.told.modules
  pub ending : s'.told.ending ≡ s.told.ending
  pub opened : s'.opened ≡ depth s.opened v (length v)
  pub generation : s'.generation ≡ s.generation

-- What n draws in a row come to, each of which answers a module: the first n places hold these modules in order, the places
-- behind them what they held. No module is drawn only where there is no place for one, or where the word has come to a clean end.
pub record Drew (s : Meaning) (places : List Module) (n : ℕ) (places' : List Module) (s' : Meaning) : Type 0 where
  pub told : Tells s (map symbol_of (take n places')) s'
  pub fits : n ≤ length places
  pub behind : drop n places' ≡ drop n places
  pub some : n ≡ 0 → (places ≡ []) ⊎ ((s.told.modules ≡ []) × (s.told.ending ≡ clean))

-- Some draws at once, into the first of some places: so many modules, or the fault that the word has come to, where there is a
-- place and no module is left, and nothing changes.
abbrev pub DrawsSome : Meaning → List Module → Result ℕ Fault → List Module → Meaning → Type 0
DrawsSome s places (Ok n) places' s' = Drew s places n places' s'
DrawsSome s places (Err f) places' s' =
    (s.told.modules ≡ []) × (s.told.ending ≡ broken f) × (s' ≡ s) × (places' ≡ places) × (places ≡ [] → ⊥)
