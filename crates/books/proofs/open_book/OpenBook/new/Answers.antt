use Rattle.books.proofs.Loading.{law}
use Rattle.books.proofs.open_book.OpenBook.new.Goals as goal

pub returns : goal.returns
returns c = record { holds = c.new.ensures; law = law }
