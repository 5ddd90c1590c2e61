-- Internal. The law of what is told module by module.
use Rattle.std.specs.Prelude.{◌≡◌, ℕ, ◌+◌, ◌≤◌, true, List, length}
use Rattle.word.specs.Symbols.{Symbol}
use Rattle.word.specs.Words.{Ending, Told, all_valid, nested, in_bounds}
use Rattle.book.specs.Books.{Book}
use Rattle.generation.specs.Stream.{Table, streamed}

-- the law of a told word that goes on behind n modules, where d brackets are open
pub record GoesOn (n d : ℕ) (t : Told) : Type 0 where
  pub modules : all_valid t.modules ≡ true
  pub brackets : nested d t.modules t.ending ≡ true
  pub ending : in_bounds t.ending ≡ true
  pub few : n + length t.modules ≤ 16_000_000

-- by the book b, over whatever modules may come, what is told goes on so
abbrev pub GoesOnBy : Book → Type 0
GoesOnBy b =
    (g : ℕ) (ending : Ending) → in_bounds ending ≡ true →
    (n i d : ℕ) (t : Table Symbol) (w : List Symbol) → n ≤ 16_000_000 → i ≤ 16_000_000 → all_valid w ≡ true → nested d w ending ≡ true →
    GoesOn n d (streamed b g ending n i d t w)
