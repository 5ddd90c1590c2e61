use Rattle.std.proofs.Common.{◌≡◌, length, take}
use Rattle.books.specs.Index.{Tells}
use Rattle.books.proofs.letter_index.make.looking_ahead.Given as goal

abbrev pub invariant-loop-rule : goal.invariant-loop-rule
invariant-loop-rule l = record {
  long : length l.ahead ≡ 1024;
  tells : Tells (take l.rule-index l.rules) l.ahead;
}
