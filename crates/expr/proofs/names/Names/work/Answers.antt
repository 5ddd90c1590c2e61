use Rattle.std.proofs.Common.{◌≡◌, [], take, ◌∙◌, rules}
use Rattle.expr.specs.Records.{env_of}
use Rattle.expr.specs.Machine.{held}
use Rattle.expr.proofs.Working.{work, work_first, works_on}
use Rattle.expr.proofs.names.Names.work.Goals as goal

pub loop-place-init : goal.loop-place-init
loop-place-init c =
    let g = env_of c.args.self.now in
    let it = c.into_iter-place-iterator.result in
    let start : work g (held c.new-values.result) (take it.n it.iter.rest.now) ≡ work g [] (take 200 c.args.code.now) = search rules in
    start ∙ work_first g c.args.code.now

pub loop-place-preserved : goal.loop-place-preserved
loop-place-preserved c = works_on (env_of c.args.self.now) _ _ _ _ _ _ c.in-Some.ensures.steps _ c.step.ensures.after ∙ c.loop-place.invariant
