use Rattle.std.proofs.Common.{◌≡◌, ℕ, ◌+◌, ◌<◌, ◌≤◌, length, get_or}
use Rattle.books.specs.Index.{letters, next_with}
use Rattle.books.proofs.letter_index.LetterIndex.new.Given as goal

abbrev pub invariant-loop-at : goal.invariant-loop-at
invariant-loop-at l = record {
  lettered : length l.first ≡ 256;
  wide : length l.next ≡ 48;
  firsts : (c : ℕ) → c < 256 → get_or l.first c 0 ≡ next_with c l.at (letters l.rules);
  nexts : (j : ℕ) → l.at ≤ j → j < length (letters l.rules) → get_or l.next j 0 ≡ next_with (get_or (letters l.rules) j 0) (j + 1) (letters l.rules);
}
