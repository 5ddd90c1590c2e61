-- A word that is written down and read back.
use Rattle.std.specs.Prelude.{◌≡◌, ℕ, ◌≤◌, true, List, length}
use Rattle.word.specs.Symbols.{Symbol}
use Rattle.word.specs.Words.{clean, Told, all_valid, nested}
use Rattle.word.specs.Text.{spelled}

-- valid modules, brackets that are nested at most 32 deep and all closed, and a written form of at most 65,536 bytes
pub record Writable (w : List Symbol) : Type 0 where
  pub modules : all_valid w ≡ true
  pub brackets : nested 0 w clean ≡ true
  pub short : length (spelled w) ≤ 65_536

-- where the text is the written form of such a word, that word is told, and the ending is clean
abbrev pub ReadsBack : List ℕ → Told → Type 0
ReadsBack text told = (w : List Symbol) → Writable w → text ≡ spelled w → told ≡ record { modules = w; ending = clean }
