-- A generation of what is lawful is lawful.
use Rattle.std.specs.Prelude.{◌≡◌, true, List, Option}
use Rattle.word.specs.Symbols.{Symbol}
use Rattle.word.specs.Words.{Meaning, all_valid, Lawful}
use Rattle.book.specs.Books.{Book}
use Rattle.books.specs.Outcomes.{grown, becomes}
use Rattle.books.specs.Nesting.{balanced}
use Rattle.generation.specs.Generations.{generated}

-- whatever grows by the book is made of modules, and its brackets close
abbrev pub Tidy : Book → Type 0
Tidy b =
    (l : Option Symbol) (s : Symbol) (r : Option Symbol) (w : List Symbol) → becomes l s r b.rules ≡ grown w →
    (balanced 0 w ≡ true) × (all_valid w ≡ true)

abbrev pub StaysLawful : Type 0
StaysLawful = (b : Book) → Tidy b → (m : Meaning) → Lawful m → Lawful (generated b m)
