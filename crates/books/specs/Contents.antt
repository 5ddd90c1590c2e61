-- The book that a record holds.
use Rattle.books.specs.declared.contents.Contents.{Contents}
use Rattle.book.specs.Books.{Book}
use Rattle.books.specs.Stored.{code_held, listed, rules_in, ignored_in}

abbrev pub book_in : Contents → Book
book_in c = record { rules = rules_in (code_held c.code) (listed c.rules); ignored = ignored_in c.ignored }
