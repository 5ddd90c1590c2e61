-- A generation module by module is the generation by positions. Internal.
use Rattle.std.specs.Prelude.{◌≡◌, None}
use Rattle.word.specs.Words.{Meaning, Lawful}
use Rattle.book.specs.Books.{Book}
use Rattle.generation.specs.Generations.{generated}
use Rattle.generation.specs.Stream.{streamed}

abbrev pub StreamsAgree : Type 0
StreamsAgree =
    (b : Book) (m : Meaning) → Lawful m →
    streamed b m.generation m.told.ending 0 0 m.opened (λ e. None) m.told.modules ≡ (generated b m).told
