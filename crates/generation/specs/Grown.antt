-- Some generations of a word, one upon the other.
use Rattle.std.specs.Prelude.{ℕ, zero, suc}
use Rattle.word.specs.Words.{Meaning}
use Rattle.book.specs.Books.{Book}
use Rattle.generation.specs.Generations.{generated}

-- so many generations by the book b, one upon the other
abbrev pub grown : ℕ → Book → Meaning → Meaning
grown zero b m = m
grown (suc n) b m = generated b (grown n b m)
