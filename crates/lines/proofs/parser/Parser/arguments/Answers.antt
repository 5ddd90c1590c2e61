use Rattle.std.proofs.Common.{◌≡◌, ◌<◌, false, sym, refl, ◌∙◌, subst, arith}
use Rattle.tokens.specs.declared.token.Sign.TheVariants.{Closes}
use Rattle.tokens.specs.Readers.{unread, first_sign}
use Rattle.lines.specs.Fits.{is}
use Rattle.lines.specs.Parts.{TookArguments}
use Rattle.lines.specs.Parsing.{left, laid}
use Rattle.lines.proofs.Steps.{refused}
use Rattle.lines.proofs.Growing.{one_argument, took_arguments, lost_fourth, lost_next, lost_close, none_argued}
use Rattle.lines.proofs.parser.Parser.arguments.Goals as goal

pub returns-then-not-takes : goal.returns-then-not-takes
returns-then-not-takes c =
    let ts = left c.args.self.now in
    let cs = laid c.args.self.now in
    let e = c.if-not-takes.ensures.took in
    subst (λ l. TookArguments ts l cs cs 0) (sym e.0) (none_argued ts cs e.1)

pub returns-then-count-eq-MOST : goal.returns-then-count-eq-MOST
returns-then-count-eq-MOST c =
    (refl, lost_fourth (left c.args.self.now) (left c.sum.new.self) _ (laid c.args.self.now) (laid c.sum.new.self) c.if-not-takes.ensures.took c.in_ok-sum.ensures.0 c.loop-self.count (left c.loop-self.self) _ (laid c.loop-self.self) c.loop-self.invariant.0 c.if-count-eq-MOST.true c.loop-self-test.ensures.took)

pub returns-in_err-sum-2 : goal.returns-in_err-sum-2
returns-in_err-sum-2 c =
    let most = c.loop-self.invariant.2 in
    let few : c.loop-self.count < 3 = omega arith in
    rw (refused c.from_residual-in_err-sum-2.result c.from_residual-in_err-sum-2.ensures.1 c.in_err-sum-2.ensures.0)
    (refl, lost_next (left c.args.self.now) (left c.sum.new.self) _ (laid c.args.self.now) (laid c.sum.new.self) c.if-not-takes.ensures.took c.in_ok-sum.ensures.0 c.loop-self.count (left c.loop-self.self) _ (laid c.loop-self.self) c.loop-self.invariant.0 few c.loop-self-test.ensures.took c.in_err-sum-2.ensures.1)

pub loop-self-preserved : goal.loop-self-preserved
loop-self-preserved c =
    let most = c.loop-self.invariant.2 in
    (one_argument 1 c.loop-self.count (left c.sum.new.self) (left c.loop-self.self) _ (left c.sum-in-loop-self.new.self) (laid c.sum.new.self) (laid c.loop-self.self) (laid c.sum-in-loop-self.new.self) c.loop-self.invariant.0 (omega arith) c.loop-self-test.ensures.took c.in_ok-sum-2.ensures.0, c.in_ok-sum-2.ensures.1, omega arith)

pub returns-in_err-expect : goal.returns-in_err-expect
returns-in_err-expect c =
    let e = c.loop-self-test.ensures.took in
    rw (refused c.from_residual-in_err-expect.result c.from_residual-in_err-expect.ensures.1 c.in_err-expect.ensures.read.0)
    (refl, lost_close (left c.args.self.now) (left c.sum.new.self) _ (laid c.args.self.now) (laid c.sum.new.self) c.if-not-takes.ensures.took c.in_ok-sum.ensures.0 c.loop-self.count (left c.loop-self.self) (laid c.loop-self.self) c.loop-self.invariant.0 c.loop-self.invariant.1 e.1 (subst (λ l. is Closes (first_sign l) ≡ false) e.0 c.in_err-expect.ensures.read.1))

pub returns : goal.returns
returns c =
    let e = c.loop-self-test.ensures.took in
    took_arguments (left c.args.self.now) (left c.sum.new.self) _ (laid c.args.self.now) (laid c.sum.new.self) c.if-not-takes.ensures.took c.in_ok-sum.ensures.0 c.loop-self.count (left c.loop-self.self) (unread c.expect.new.reader) (laid c.loop-self.self) c.loop-self.invariant.0 c.loop-self.invariant.2 (sym e.0 ∙ c.in_ok-expect.ensures.read)
