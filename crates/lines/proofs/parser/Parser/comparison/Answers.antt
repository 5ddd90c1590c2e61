use Rattle.std.proofs.Common.{length, refl, ap, ◌∙◌, arith}
use Rattle.tokens.specs.Readers.{unread}
use Rattle.expr.specs.declared.code.Code.TheVariants.{Compare}
use Rattle.rules.specs.Records.{code_in}
use Rattle.book.specs.Grammar.{sum}
use Rattle.lines.specs.Parsing.{left, laid}
use Rattle.lines.proofs.Room.{room, room_pushed, one_pushed}
use Rattle.lines.proofs.Steps.{refused, missing, there}
use Rattle.lines.proofs.Guarding.{as_compared, lost_uncompared, lost_second, compared_by, uncompared}
use Rattle.lines.proofs.parser.Parser.comparison.Goals as goal

pub returns-in_err-by : goal.returns-in_err-by
returns-in_err-by c =
    let us = left c.sum.new.self in
    let m = missing c.take_as.result _ c.in_err-by.ensures.value in
    rw (refused c.from_residual-in_err-by.result c.from_residual-in_err-by.ensures.1 m.1)
    (refl, lost_uncompared (left c.args.self.now) us (laid c.args.self.now) (laid c.sum.new.self) c.in_ok-sum.ensures.0 c.in_ok-sum.ensures.1 (uncompared _ _ c.take_as.result us (unread c.take_as.new.reader) c.take_as.ensures.took m.0 (λ s p. p.1)))

pub returns-in_err-sum-2 : goal.returns-in_err-sum-2
returns-in_err-sum-2 c =
    let us = left c.sum.new.self in
    let r = c.in_ok-by.by in
    let head = compared_by _ _ c.take_as.result r us (unread c.take_as.new.reader) c.take_as.ensures.took (there c.take_as.result r c.in_ok-by.ensures.value) (λ s p. p.1) in
    rw (refused c.from_residual-in_err-sum-2.result c.from_residual-in_err-sum-2.ensures.1 c.in_err-sum-2.ensures.0)
    (refl, lost_second r (left c.args.self.now) us _ (laid c.args.self.now) (laid c.sum.new.self) c.in_ok-sum.ensures.0 head c.in_err-sum-2.ensures.1)

pub invariant_of-self-2 : goal.invariant_of-self-2
invariant_of-self-2 c =
    let us = left c.sum.new.self in
    let r = c.in_ok-by.by in
    let h = ap length (compared_by _ _ c.take_as.result r us (unread c.take_as.new.reader) c.take_as.ensures.took (there c.take_as.result r c.in_ok-by.ensures.value) (λ s p. p.1)) in
    let b = room sum _ _ _ _ c.in_ok-sum-2.ensures.0 in
    let k = room_pushed (Compare r) (laid c.sum-2.new.self) (code_in c.push.new.self) c.push.ensures in
    record { room = omega arith }

pub returns : goal.returns
returns c =
    let us = left c.sum.new.self in
    let es = laid c.sum-2.new.self in
    let r = c.in_ok-by.by in
    let head = compared_by _ _ c.take_as.result r us (unread c.take_as.new.reader) c.take_as.ensures.took (there c.take_as.result r c.in_ok-by.ensures.value) (λ s p. p.1) in
    let b = room sum _ _ _ _ c.in_ok-sum-2.ensures.0 in
    let h = ap length head in (
      as_compared r (left c.args.self.now) us _ (left c.sum-2.new.self) (laid c.args.self.now) (laid c.sum.new.self) es (code_in c.push.new.self) c.in_ok-sum.ensures.0 head c.in_ok-sum-2.ensures.0 (c.push.ensures ∙ one_pushed _ es (omega arith)),
      c.in_ok-sum-2.ensures.1,
    )
