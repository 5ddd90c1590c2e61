-- Internal: what a source with modules drawn from it has still to tell. `Buffered::new` says what this comes to.
use Rattle.std.specs.Prelude.{◌≡◌, ℕ, ◌<◌, Bool, true, false, List, [], ◌++◌, map, length, take, drop, Some, None, Option}
use Rattle.word.specs.declared.fault.Fault.{Fault}
use Rattle.word.specs.declared.module.Module.{Module}
use Rattle.word.specs.Symbols.{Symbol}
use Rattle.word.specs.Words.{Ending, clean, broken, Meaning, depth}
use Rattle.word.specs.Records.{symbol_of}

-- the modules of a row from one place to another
abbrev pub held : List Module → ℕ → ℕ → List Symbol
held row at count = map symbol_of (drop at (take count row))

-- the brackets open behind the first modules of a row
abbrev pub depth_at : ℕ → List Module → ℕ → ℕ
depth_at d row at = let v = map symbol_of (take at row) in depth d v (length v)

-- the modules held, then those of the source below
abbrev pub left_in : List Module → ℕ → ℕ → ℕ → Meaning → Meaning
left_in row at count first m = record {
  told = record { modules = held row at count ++ m.told.modules; ending = m.told.ending };
  opened = depth_at first row at;
  generation = m.generation;
}

-- the ending of a word that has come to this fault, if to any
abbrev pub ending_by : Option Fault → Ending
ending_by None = clean
ending_by (Some f) = broken f

-- Modules are held now, or the word has come to its end. What is meant stays.
abbrev pub Refills : Meaning → Bool → Meaning → ℕ → ℕ → Option Fault → Type 0
Refills s true s' at count o = (at < count) × (s' ≡ s)
Refills s false s' at count o = (s.told.modules ≡ []) × (s.told.ending ≡ ending_by o) × (s' ≡ s)
