use Rattle.std.proofs.Common.{ap, ◌∙◌}
use Rattle.books.specs.Stored.{code_held, listed}
use Rattle.books.specs.Walking.{to_come}
use Rattle.books.proofs.Ruled.{some_first, yields_some, has_stored}
use Rattle.books.proofs.closed_book.ClosedBook.has_rule_for.Goals as goal

pub returns : goal.returns
returns c =
    let b = c.args.self.now.contents in
    c.is_some.ensures
    ∙ yields_some (to_come c.rules_for.result) (to_come c.next.new.self) c.next.result c.next.ensures.steps
    ∙ ap some_first c.rules_for.ensures
    ∙ has_stored (code_held b.code) c.args.letter (listed b.rules)
