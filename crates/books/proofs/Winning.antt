-- The label of a book.
use Rattle.std.proofs.Common.{◌≡◌, true, List, Option}
use Rattle.word.specs.Symbols.{Symbol}
use Rattle.book.specs.Rules.{Rule}
use Rattle.book.specs.Winners.{decides}
use Rattle.books.specs.Label.{Label}
use Rattle.books.specs.Kept.{ascending}
use Rattle.book.proofs.Winning.{first_passes, first_none, first_leads, in_words_or_same}
use Rattle.books.proofs.Sorting.{sorted_of}

pub label : (us : List Rule) → ascending us ≡ true → (l : Option Symbol) (s : Symbol) (r : Option Symbol) → Label us l s r
label us a l s r = record {
  wins = λ u v w h k. in_words_or_same u v (first_leads (decides l s r) us (sorted_of us a) u v w h k);
  fits = first_passes (decides l s r) us;
  none = first_none (decides l s r) us;
}
