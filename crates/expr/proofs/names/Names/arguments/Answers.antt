use Rattle.std.proofs.Common.{◌≡◌, true, take, Some, sym, ap, ◌∙◌, rules}
use Rattle.expr.specs.Records.{env_of}
use Rattle.expr.specs.Quick.{latest_three}
use Rattle.expr.proofs.Quick.{arguments_found}
use Rattle.expr.proofs.names.Names.arguments.Goals as goal

pub returns-in-Some-true-Some-clause-values : goal.returns-in-Some-true-Some-clause-values
returns-in-Some-true-Some-clause-values c =
    let whole : c.quick-answer.result ≡ Some true = search rules in
    (arguments_found (env_of c.args.self.now) (take 200 c.args.code.now) c.args.count c.in-Some-true-Some.numbers
    (sym whole ∙ c.quick-answer.ensures.answer)
    (sym c.in-Some-true-Some.is-1 ∙ c.latest-numbers.ensures ∙ ap (latest_three c.args.count) c.quick-answer.ensures.left)).0

pub returns-in-Some-true-Some-clause-spare : goal.returns-in-Some-true-Some-clause-spare
returns-in-Some-true-Some-clause-spare c =
    let whole : c.quick-answer.result ≡ Some true = search rules in
    (arguments_found (env_of c.args.self.now) (take 200 c.args.code.now) c.args.count c.in-Some-true-Some.numbers
    (sym whole ∙ c.quick-answer.ensures.answer)
    (sym c.in-Some-true-Some.is-1 ∙ c.latest-numbers.ensures ∙ ap (latest_three c.args.count) c.quick-answer.ensures.left)).1
