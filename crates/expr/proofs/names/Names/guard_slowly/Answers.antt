use Rattle.std.proofs.Common.{◌≡◌, [], take, Ok, sym, ap, ◌∙◌, rules}
use Rattle.std.proofs.lemmas.Result.{err_from_is_err_and}
use Rattle.expr.specs.Records.{env_of, verdict_of}
use Rattle.expr.specs.Machine.{held}
use Rattle.expr.proofs.Working.{verdict, verdict_first, goes_on, fails_at, faults_at}
use Rattle.expr.proofs.names.Names.guard_slowly.Goals as goal

pub loop-place-init : goal.loop-place-init
loop-place-init c =
    let g = env_of c.args.self.now in
    let it = c.into_iter-place-iterator.result in
    let start : verdict g (held c.new-values.result) (take it.n it.iter.rest.now) ≡ verdict g [] (take 200 c.args.code.now) = search rules in
    start ∙ verdict_first g c.args.code.now

pub returns-in_err-step : goal.returns-in_err-step
returns-in_err-step c =
    let p = err_from_is_err_and c.from_residual.result c.from_residual.ensures.1 in
    rw (p.1, p.2) (faults_at (env_of c.args.self.now) _ _ _ _ _ _ c.in-Some.ensures.steps _ c.in_err-step.ensures.decided ∙ c.loop-place.invariant)

pub returns-then-not-branch : goal.returns-then-not-branch
returns-then-not-branch c =
    fails_at (env_of c.args.self.now) _ _ _ _ _ _ c.in-Some.ensures.steps (ap (λ b. verdict_of (Ok b)) (sym c.if-not-branch.true) ∙ c.in_ok-step.ensures.decided) ∙ c.loop-place.invariant

pub loop-place-preserved : goal.loop-place-preserved
loop-place-preserved c =
    goes_on (env_of c.args.self.now) _ _ _ _ _ _ c.in-Some.ensures.steps _ c.in_ok-step.ensures.after (ap (λ b. verdict_of (Ok b)) (sym c.if-not-branch.false) ∙ c.in_ok-step.ensures.decided) ∙ c.loop-place.invariant
