-- Internal. What a window holds, and what flows in behind it.
use Rattle.std.specs.Prelude.{◌≡◌, ◌<◌, true, List, [], ◌++◌, map, length, take, drop}
use Rattle.word.specs.declared.module.Module.{Module}
use Rattle.word.specs.Symbols.{Symbol}
use Rattle.word.specs.Words.{clean, broken, Told, Meaning, in_bounds}
use Rattle.word.specs.Records.{symbol_of}
use Rattle.generation.specs.declared.window.Window.{Window}
use Rattle.generation.specs.declared.beyond.Beyond.{Beyond}
use Rattle.generation.specs.declared.beyond.Beyond.TheVariants.{Unread, End, Broken}

abbrev pub in_window : Window → List Module
in_window w = take w.len (drop w.start w.row)

abbrev pub held : Window → List Symbol
held w = map symbol_of (in_window w)

-- what is held, then what is to come from below
abbrev pub flow : Window → Meaning → Told
flow w m = record { modules = held w ++ m.told.modules; ending = m.told.ending }

-- what flows on stays, and so does the depth before it
pub record Kept (w : Window) (m : Meaning) (w' : Window) (m' : Meaning) : Type 0 where
  pub flows : flow w' m' ≡ flow w m
  pub first_stays : w'.first ≡ w.first
  pub number_stays : m'.generation ≡ m.generation

-- what is known of what comes after the modules that are held is true of a source that means m
abbrev pub Fits : Beyond → Meaning → Type 0
Fits Unread m = Unit {0}
Fits End m = (m.told.modules ≡ []) × (m.told.ending ≡ clean)
Fits (Broken f) m = (m.told.modules ≡ []) × (m.told.ending ≡ broken f)

-- a fault that comes is one that may end a word
abbrev pub Sure : Beyond → Type 0
Sure Unread = Unit {0}
Sure End = Unit {0}
Sure (Broken f) = in_bounds (broken f) ≡ true

-- modules are read from below, at least one, or how the word below ends is known then
pub record Refilled (w : Window) (m : Meaning) (x : Beyond) (w' : Window) (m' : Meaning) : Type 0 where
  pub kept : Kept w m w' m'
  pub meets : w'.last.brackets ≡ m'.opened
  pub fits : Fits x m'
  pub shorter : x ≡ Unread → length m'.told.modules < length m.told.modules
