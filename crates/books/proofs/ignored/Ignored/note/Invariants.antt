use Rattle.std.proofs.Common.{◌≡◌, ℕ, false, ◌||◌, length, get_or, drop}
use Rattle.word.specs.Symbols.{among}
use Rattle.books.proofs.ignored.Ignored.note.Given as goal

abbrev pub invariant-loop-letter : goal.invariant-loop-letter
invariant-loop-letter l = (length l.self.row ≡ 256) × ((c : ℕ) → (among c (drop l.letter-index l.letters) || get_or l.self.row c false) ≡ (among c l.letters || get_or l.initial.self.row c false))
