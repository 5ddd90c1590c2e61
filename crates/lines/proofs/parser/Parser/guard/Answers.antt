use Rattle.std.proofs.Common.{sym, refl, subst}
use Rattle.tokens.specs.Readers.{first_sign}
use Rattle.book.specs.Grammar.{guard}
use Rattle.lines.specs.Parts.{Took, Stops}
use Rattle.lines.specs.Parsing.{left, laid}
use Rattle.lines.proofs.Steps.{refused}
use Rattle.lines.proofs.Guarding.{as_guard, more_comparisons, lost_comparison}
use Rattle.lines.proofs.parser.Parser.guard.Goals as goal

pub loop-self-preserved : goal.loop-self-preserved
loop-self-preserved c = (
  more_comparisons (left c.comparison.new.self) (left c.loop-self.self) _ (left c.comparison-in-loop-self.new.self) (laid c.comparison.new.self) (laid c.loop-self.self) (laid c.comparison-in-loop-self.new.self) c.loop-self.invariant.0 c.loop-self-test.ensures.took c.in_ok-comparison-2.ensures.0,
  c.in_ok-comparison-2.ensures.1,
)

pub returns-in_err-comparison-2 : goal.returns-in_err-comparison-2
returns-in_err-comparison-2 c =
    rw (refused c.from_residual-in_err-comparison-2.result c.from_residual-in_err-comparison-2.ensures.1 c.in_err-comparison-2.ensures.0)
    (refl, lost_comparison (left c.args.self.now) (left c.loop-self.self) _ (laid c.args.self.now) (laid c.loop-self.self) (c.loop-self.invariant.0 _ _ (as_guard c.in_ok-comparison.ensures.0)) c.loop-self-test.ensures.took c.in_err-comparison-2.ensures.1)

pub returns : goal.returns
returns c =
    let e = c.loop-self-test.ensures.took in
    subst (λ l. Took guard (left c.args.self.now) l (laid c.args.self.now) (laid c.loop-self.self) × Stops guard (first_sign l)) (sym e.0)
    (c.loop-self.invariant.0 _ _ (as_guard c.in_ok-comparison.ensures.0), (c.loop-self.invariant.1, e.1))
