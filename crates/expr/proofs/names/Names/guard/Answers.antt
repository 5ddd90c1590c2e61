use Rattle.std.proofs.Common.{take, sym, ◌∙◌}
use Rattle.expr.specs.Records.{env_of}
use Rattle.expr.proofs.Quick.{guard_found}
use Rattle.expr.proofs.names.Names.guard.Goals as goal

pub returns-in-Some-clause-answer : goal.returns-in-Some-clause-answer
returns-in-Some-clause-answer c = guard_found (env_of c.args.self.now) (take 200 c.args.code.now) c.in-Some.holds (sym c.in-Some.is ∙ c.quick-answer.ensures.answer)
