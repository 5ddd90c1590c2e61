use Rattle.std.proofs.Common.{ℕ}
use Rattle.book.specs.Books.{Book}
use Rattle.books.specs.Kinds.{open_book}
use Rattle.job.specs.Reading.{to_come}
use Rattle.filling.specs.Filling.{TakesAll, StopsAt}
use Rattle.filling.proofs.fill.fill_book.Given as goal

-- what the lines still to come make of the book is what all lines make of a new one
abbrev pub invariant-loop-line : goal.invariant-loop-line
invariant-loop-line l =
    ((b : Book) → TakesAll (open_book l.book) (to_come l.line-iterator) b → TakesAll (open_book l.initial.book) (to_come l.initial.line-iterator) b)
    × ((k n : ℕ) → StopsAt (open_book l.book) (to_come l.line-iterator) k n → StopsAt (open_book l.initial.book) (to_come l.initial.line-iterator) k n)
