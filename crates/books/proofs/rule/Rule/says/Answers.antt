use Rattle.std.proofs.Common.{◌-◌, List, [], take, ap, ◌∙◌}
use Rattle.expr.specs.declared.code.Code.{Code}
use Rattle.expr.specs.Values.{guard}
use Rattle.expr.specs.Codes.{comparisons}
use Rattle.expr.specs.Records.{env_of}
use Rattle.books.proofs.Growing.{first_part}
use Rattle.books.proofs.rule.Rule.says.Goals as goal

pub returns-clause-said : goal.returns-clause-said
returns-clause-said c =
    let r = c.args.self.now in
    let code = c.args.code.now in
    c.guard.ensures.answer
    ∙ ap (λ (cs : List Code). guard (env_of c.args.names.now) (comparisons [] cs)) (ap (λ k. take 200 (take (k - 0) code)) c.from.ensures ∙ first_part r.guard code r.few)
