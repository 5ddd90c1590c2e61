use Rattle.std.proofs.Common.{◌≡◌, true, [], length}
use Rattle.std.specs.Option.{option_map}
use Rattle.word.specs.Records.{symbol_of}
use Rattle.expr.specs.Records.{on_stack}
use Rattle.books.specs.Few.{modules_in}
use Rattle.books.specs.Kept.{within}
use Rattle.books.specs.Outcomes.{becomes}
use Rattle.books.specs.Stored.{code_held, listed, rules_in}
use Rattle.books.specs.Walking.{to_come}
use Rattle.books.proofs.closed_book.ClosedBook.becomes.Given as goal

-- nothing is written, and the rules still to come for the letter make of the module what all rules do
abbrev pub invariant-loop-rule : goal.invariant-loop-rule
invariant-loop-rule l = record {
  empty : modules_in l.grown ≡ [];
  lent : on_stack l.stack ≡ [];
  inside : within (length (code_held l.self.contents.code)) (to_come l.rule-iterator) ≡ true;
  same :
      becomes (option_map symbol_of l.site.left) (symbol_of l.site.module) (option_map symbol_of l.site.right) (rules_in (code_held l.self.contents.code) (to_come l.rule-iterator))
      ≡ becomes (option_map symbol_of l.site.left) (symbol_of l.site.module) (option_map symbol_of l.site.right) (rules_in (code_held l.self.contents.code) (listed l.self.contents.rules));
}
