-- What a job asks for.
use Rattle.std.specs.Prelude.{◌≡◌, ℕ, false, List, Ok, Err, Result}
use Rattle.job.specs.Jobs.{is_refused, generations_of, seed_text, book_lines}
use Rattle.job.specs.Reading.{Refuses}
use Rattle.rules.specs.Refusals.{refusal_number}
use Rattle.book.specs.Books.{empty}
use Rattle.books.specs.Kinds.{closed_book}
use Rattle.filling.specs.Filling.{TakesAll, StopsAt}
use Rattle.filling.specs.declared.refusal.JobRefusal.{JobRefusal}
use Rattle.filling.specs.declared.refusal.JobRefusal.TheVariants.{Job, Line}
use Rattle.filling.specs.declared.order.Order.{Order}

-- the bytes are a job, and its book takes all of its lines
pub record Asks (bytes : List ℕ) (order : Order) : Type 0 where
  pub accepted : is_refused bytes ≡ false
  pub generations_are : order.generations ≡ generations_of bytes
  pub seed_is : order.seed.now ≡ seed_text bytes
  pub book_takes : TakesAll empty (book_lines bytes) (closed_book order.book)

-- a job is refused for its bytes, or for the first line that its book refuses; any other asks for something
abbrev pub Orders : List ℕ → Result Order JobRefusal → Type 0
Orders bytes (Err (Job why)) = Refuses bytes why
Orders bytes (Err (Line why n)) = (is_refused bytes ≡ false) × StopsAt empty (book_lines bytes) (refusal_number why) n
Orders bytes (Ok order) = Asks bytes order
