use Rattle.std.proofs.Common.{◌≡◌, ◌∷◌, length, Some, sym, refl, ap, ◌∙◌, subst, arith}
use Rattle.std.proofs.lemmas.Bool.{or_from}
use Rattle.tokens.specs.declared.token.Sign.TheVariants.{Opens}
use Rattle.tokens.specs.Tokens.{sign}
use Rattle.tokens.specs.Readers.{unread, first_sign, Takes}
use Rattle.expr.specs.declared.code.Code.TheVariants.{Negate}
use Rattle.rules.specs.Records.{code_in}
use Rattle.book.specs.Grammar.{sum, product, factor, operand}
use Rattle.lines.specs.Fits.{multiplies, adds}
use Rattle.lines.specs.Parts.{Took, Lost, Stops}
use Rattle.lines.specs.Parsing.{left, laid, Read}
use Rattle.lines.proofs.Room.{room, room_pushed, one_pushed}
use Rattle.lines.proofs.Signs.{unlike}
use Rattle.lines.proofs.Steps.{more_factors, more_products, as_product, as_sum, as_negated, lost_factor, lost_product, widened, read_number, read_name, lost_number, lost_sign, read_closed, refused, missing, there, no_sign}
use Rattle.lines.proofs.parser.Parser.+factor_operand_product_sum.Goals as goal

pub factor-invariant_of-self-then-takes : goal.factor-invariant_of-self-then-takes
factor-invariant_of-self-then-takes t c =
    let h = ap length c.if-takes.ensures.took in
    let r = room operand _ _ _ _ c.in_ok-operand.ensures.0 in
    let k = room_pushed Negate (laid c.operand.new.self) (code_in c.push.new.self) c.push.ensures in
    record { room = omega arith }

pub factor-returns-in_ok-operand : goal.factor-returns-in_ok-operand
factor-returns-in_ok-operand t c =
    let ts = left c.args.self.now in
    let ws = unread c.takes.new.reader in
    let us = left c.operand.new.self in
    let cs = laid c.args.self.now in
    let ds = laid c.operand.new.self in
    let h = ap length c.if-takes.ensures.took in
    let r = room operand ws us cs ds c.in_ok-operand.ensures.0 in
    (as_negated ts ws us cs ds (code_in c.push.new.self) c.if-takes.ensures.took c.in_ok-operand.ensures.0 (c.push.ensures ∙ one_pushed _ ds (omega arith)), tt)

pub factor-returns-else-takes : goal.factor-returns-else-takes
factor-returns-else-takes t c =
    let us = left c.operand-else-takes.new.self in
    let cs = laid c.args.self.now in
    let ds = laid c.operand-else-takes.new.self in
    let x = c.operand-else-takes.result in
    let e = c.if-takes.ensures.took in
    widened x (left c.args.self.now) us cs ds e.1 (subst (λ l. Read (λ _. Took operand l us cs ds × Unit {0}) (Lost operand l) x) e.0 c.operand-else-takes.ensures)

pub operand-returns-in_err-n-in-Some-Number : goal.operand-returns-in_err-n-in-Some-Number
operand-returns-in_err-n-in-Some-Number t c =
    let s = subst (λ k. Takes c.args.self.now.reader (Some k) c.next.new.self) c.in-Some-Number.field-0-is c.in-Some-Number.ensures.steps in
    let m = missing c.number.result _ c.in_err-n-in-Some-Number.ensures.value in
    rw (refused c.from_residual.result c.from_residual.ensures.1 m.1)
    (refl, subst (Lost operand) (sym s.whole) (lost_number (unread c.next.new.self) _ (sym m.0 ∙ c.number.ensures.value) s.formed.0 s.formed.1))

pub operand-returns-in_ok-n-in-Some-Number : goal.operand-returns-in_ok-n-in-Some-Number
operand-returns-in_ok-n-in-Some-Number t c =
    let us = unread c.next.new.self in
    let cs = laid c.args.self.now in
    let ds = code_in c.push.new.self in
    let s = subst (λ k. Takes c.args.self.now.reader (Some k) c.next.new.self) c.in-Some-Number.field-0-is c.in-Some-Number.ensures.steps in
    let h = ap length s.whole in
    (subst (λ x. Took operand x us cs ds) (sym s.whole) (read_number us cs ds _ c.in_ok-n-in-Some-Number.n (there c.number.result _ c.in_ok-n-in-Some-Number.ensures.value ∙ c.number.ensures.value) (c.push.ensures ∙ one_pushed _ cs (omega arith))), tt)

pub operand-returns-in-Some-Name : goal.operand-returns-in-Some-Name
operand-returns-in-Some-Name t c =
    let us = unread c.next.new.self in
    let cs = laid c.args.self.now in
    let ds = code_in c.push-in-Some-Name.new.self in
    let s = subst (λ k. Takes c.args.self.now.reader (Some k) c.next.new.self) c.in-Some-Name.field-0-is c.in-Some-Name.ensures.steps in
    let h = ap length s.whole in
    (subst (λ x. Took operand x us cs ds) (sym s.whole) (read_name us cs ds _ (c.push-in-Some-Name.ensures ∙ one_pushed _ cs (omega arith))), tt)

pub operand-returns-in_ok-sum-in-Opens : goal.operand-returns-in_ok-sum-in-Opens
operand-returns-in_ok-sum-in-Opens t c =
    let s = subst (λ k. Takes c.args.self.now.reader (Some k) c.next.new.self) c.in-Some-Sign.field-0-is c.in-Some-Sign.ensures.steps in
    let ts = unread c.next.new.self in
    let vs = unread c.expect.new.reader in
    let cs = laid c.args.self.now in
    let ds = laid c.sum.new.self in
    let whole : left c.args.self.now ≡ sign Opens ∷ ts = s.whole ∙ ap (λ s. sign s ∷ ts) (sym c.from.ensures ∙ c.in-Opens.is) in
    subst (λ x. Read (λ _. Took operand x vs cs ds × Unit {0}) (Lost operand x) c.expect.result) (sym whole)
    (read_closed c.expect.result ts (left c.sum.new.self) vs cs ds c.in_ok-sum-in-Opens.ensures.0 c.in_ok-sum-in-Opens.ensures.1 c.expect.ensures.read)

pub operand-returns-in_default : goal.operand-returns-in_default
operand-returns-in_default t c =
    let s = subst (λ k. Takes c.args.self.now.reader (Some k) c.next.new.self) c.in-Some-Sign.field-0-is c.in-Some-Sign.ensures.steps in
    (refl, subst (Lost operand) (sym s.whole) (lost_sign _ (unread c.next.new.self) (unlike Opens _ (omega arith) (λ e. c.in_default.not-Opens (c.from.ensures ∙ e)))))

pub product-factor-requires-in-Some : goal.product-factor-requires-in-Some
product-factor-requires-in-Some t c =
    let a = room product _ _ _ (laid c.loop-code.self) (c.loop-code.invariant _ _ (as_product c.in_ok-factor.ensures.0)) in
    (omega arith, tt)

pub product-returns-in_err-factor-2 : goal.product-returns-in_err-factor-2
product-returns-in_err-factor-2 t c =
    let took = c.in-Some.ensures.took in
    rw (refused c.from_residual-in_err-factor-2.result c.from_residual-in_err-factor-2.ensures.1 c.in_err-factor-2.ensures.0)
    (refl, lost_factor (left c.args.self.now) (left c.loop-code.self) _ (laid c.args.self.now) (laid c.loop-code.self) took.1.1 (c.loop-code.invariant _ _ (as_product c.in_ok-factor.ensures.0)) took.2 c.in_err-factor-2.ensures.1)

pub product-invariant_of-self-in-Some : goal.product-invariant_of-self-in-Some
product-invariant_of-self-in-Some t c =
    let h = ap length c.in-Some.ensures.took.2 in
    let r = room factor _ _ _ _ c.in_ok-factor-2.ensures.0 in
    let k = room_pushed c.in-Some.code (laid c.factor-in-Some.new.self) (code_in c.push.new.self) c.push.ensures in
    record { room = omega arith }

pub product-loop-code-preserved : goal.product-loop-code-preserved
product-loop-code-preserved t c =
    let us = left c.loop-code.self in
    let vs = left c.factor-in-Some.new.self in
    let ds = laid c.loop-code.self in
    let es = laid c.factor-in-Some.new.self in
    let took = c.in-Some.ensures.took in
    let h = ap length took.2 in
    let r = room factor _ vs ds es c.in_ok-factor-2.ensures.0 in
    more_factors (left c.factor.new.self) us _ vs (laid c.factor.new.self) ds es (code_in c.push.new.self) took.1.1 c.loop-code.invariant took.2 c.in_ok-factor-2.ensures.0
    (c.push.ensures ∙ one_pushed _ es (omega arith))

pub product-returns : goal.product-returns
product-returns t c =
    let took = c.in_default.ensures.took in
    subst (λ l. Took product (left c.args.self.now) l (laid c.args.self.now) (laid c.loop-code.self) × Stops product (first_sign l)) (sym took.0)
    (c.loop-code.invariant _ _ (as_product c.in_ok-factor.ensures.0), no_sign multiplies refl (left c.loop-code.self) took.1 (λ s p. p.1))

pub sum-product-requires-in-Some : goal.sum-product-requires-in-Some
sum-product-requires-in-Some t c =
    let a = room sum _ _ _ (laid c.loop-code.self) (c.loop-code.invariant.0 _ _ (as_sum c.in_ok-product.ensures.0)) in
    (omega arith, tt)

pub sum-returns-in_err-product-2 : goal.sum-returns-in_err-product-2
sum-returns-in_err-product-2 t c =
    let took = c.in-Some.ensures.took in
    rw (refused c.from_residual-in_err-product-2.result c.from_residual-in_err-product-2.ensures.1 c.in_err-product-2.ensures.0)
    (refl, lost_product (left c.args.self.now) (left c.loop-code.self) _ (laid c.args.self.now) (laid c.loop-code.self) took.1.1 (c.loop-code.invariant.0 _ _ (as_sum c.in_ok-product.ensures.0)) took.2 c.in_err-product-2.ensures.1)

pub sum-invariant_of-self-in-Some : goal.sum-invariant_of-self-in-Some
sum-invariant_of-self-in-Some t c =
    let h = ap length c.in-Some.ensures.took.2 in
    let r = room product _ _ _ _ c.in_ok-product-2.ensures.0 in
    let k = room_pushed c.in-Some.code (laid c.product-in-Some.new.self) (code_in c.push.new.self) c.push.ensures in
    record { room = omega arith }

pub sum-loop-code-preserved : goal.sum-loop-code-preserved
sum-loop-code-preserved t c =
    let us = left c.loop-code.self in
    let vs = left c.product-in-Some.new.self in
    let ds = laid c.loop-code.self in
    let es = laid c.product-in-Some.new.self in
    let took = c.in-Some.ensures.took in
    let h = ap length took.2 in
    let r = room product _ vs ds es c.in_ok-product-2.ensures.0 in (
      more_products (left c.product.new.self) us _ vs (laid c.product.new.self) ds es (code_in c.push.new.self) took.1.1 c.loop-code.invariant.0 took.2 c.in_ok-product-2.ensures.0
          (c.push.ensures ∙ one_pushed _ es (omega arith)),
      c.in_ok-product-2.ensures.1,
    )

pub sum-returns : goal.sum-returns
sum-returns t c =
    let took = c.in_default.ensures.took in
    subst (λ l. Took sum (left c.args.self.now) l (laid c.args.self.now) (laid c.loop-code.self) × Stops sum (first_sign l)) (sym took.0)
    (c.loop-code.invariant.0 _ _ (as_sum c.in_ok-product.ensures.0), or_from _ _ (no_sign adds refl (left c.loop-code.self) took.1 (λ s p. p.1)) c.loop-code.invariant.1)
