-- A book filled with the lines of a job.
use Rattle.std.specs.Prelude.{◌≡◌, ℕ, ◌⊎◌, List, [], ◌∷◌, Ok, Err, Result, ◌≢◌}
use Rattle.rules.specs.Refusals.{refusal_number}
use Rattle.books.specs.declared.closed_book.ClosedBook.{ClosedBook}
use Rattle.book.specs.Books.{Book}
use Rattle.books.specs.Loading.{Loads}
use Rattle.books.specs.Kinds.{closed_book}
use Rattle.filling.specs.declared.refusal.JobRefusal.{JobRefusal}
use Rattle.filling.specs.declared.refusal.JobRefusal.TheVariants.{Job, Line}

-- the book b takes all of some numbered lines, one after the other, and is b' then
abbrev pub TakesAll : Book → List (ℕ × List ℕ) → Book → Type 0
TakesAll b [] b' = b' ≡ b
TakesAll b (l ∷ ls) b' = (m : Book) × (Loads l.1 b 0 m × TakesAll m ls b')

-- of some numbered lines offered to the book b, the first that is refused is line n, by the number k
abbrev pub StopsAt : Book → List (ℕ × List ℕ) → ℕ → ℕ → Type 0
StopsAt b [] k n = ⊥
StopsAt b (l ∷ ls) k n = ((l.0 ≡ n) × ((k ≢ 0) × Loads l.1 b k b)) ⊎ ((m : Book) × (Loads l.1 b 0 m × StopsAt m ls k n))

-- what some numbered lines make of the book b: a closed book, or the refusal of a line
abbrev pub Fills : Book → List (ℕ × List ℕ) → Result ClosedBook JobRefusal → Type 0
Fills b ls (Ok c) = TakesAll b ls (closed_book c)
Fills b ls (Err (Job why)) = ⊥
Fills b ls (Err (Line why n)) = StopsAt b ls (refusal_number why) n
