-- What generations of a word come to, with a pruner on top.
use Rattle.std.specs.Prelude.{ℕ, min}
use Rattle.word.specs.Words.{Meaning}
use Rattle.book.specs.Books.{Book}
use Rattle.generation.specs.Grown.{grown}
use Rattle.pruner.specs.Pruned.{pruned_meaning}

-- n generations, 8 at most, and then pruned
abbrev pub piled : ℕ → Book → Meaning → Meaning
piled n b m = pruned_meaning (grown (min 8 n) b m)
