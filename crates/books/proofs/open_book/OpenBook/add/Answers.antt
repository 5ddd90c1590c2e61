use Rattle.std.proofs.Common.{sym, ◌∙◌}
use Rattle.std.proofs.lemmas.Result.{err_from_is_err_and}
use Rattle.rules.specs.Drafts.{rule_of}
use Rattle.rules.proofs.Judging.{wrong_none, wrong_some}
use Rattle.books.specs.Refused.{no_place}
use Rattle.books.specs.Kinds.{open_book}
use Rattle.books.proofs.Answering.{some_number}
use Rattle.books.proofs.open_book.OpenBook.add.Goals as goal

pub returns-in_err-judge-clause-answer : goal.returns-in_err-judge-clause-answer
returns-in_err-judge-clause-answer c =
    let u = rule_of c.args.draft.now in
    let p = err_from_is_err_and c.from_residual.result c.from_residual.ensures.1 in
    rw (p.1, p.2) (c.in_err-judge.ensures ∙ sym (wrong_some u (no_place (open_book c.args.self.now) u) (λ z. some_number _ (c.in_err-judge.ensures ∙ z))))

pub returns-clause-answer : goal.returns-clause-answer
returns-clause-answer c =
    let u = rule_of c.args.draft.now in
    c.place.ensures.answer ∙ sym (wrong_none u (no_place (open_book c.args.self.now) u) (sym c.in_ok-judge.ensures))
