-- What an open and a closed book hold.
use Rattle.books.specs.declared.open_book.OpenBook.{OpenBook}
use Rattle.books.specs.declared.closed_book.ClosedBook.{ClosedBook}
use Rattle.book.specs.Books.{Book}
use Rattle.books.specs.Contents.{book_in}

abbrev pub open_book : OpenBook → Book
open_book b = book_in b.contents

abbrev pub closed_book : ClosedBook → Book
closed_book b = book_in b.contents
