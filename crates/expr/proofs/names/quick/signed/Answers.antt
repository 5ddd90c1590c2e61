use Rattle.std.proofs.Common.{◌≡◌, ◌-◌, get_or, pos, w32, to_z, of_z, ap, ◌∙◌, to_z-of_z, rules}
use Rattle.expr.specs.Values.{is}
use Rattle.expr.specs.Machine.{binary}
use Rattle.expr.specs.Quick.{reached}
use Rattle.expr.proofs.Numbers.{no_pair, joined_pair}
use Rattle.expr.proofs.names.quick.signed.Goals as goal

pub returns-then-len-lt2-clause-answer : goal.returns-then-len-lt2-clause-answer
returns-then-len-lt2-clause-answer c = no_pair _ c.args.last c.args.below.now c.args.len c.if-len-lt2.true

pub returns-clause-answer : goal.returns-clause-answer
returns-clause-answer c =
    let ps = c.args.below.now in
    let x = get_or ps (c.args.len - 1) (pos 0) in
    let same : to_z w32 (of_z w32 x) ≡ x = search rules in
    ap (λ p. reached p ps) c.counted.ensures
    ∙ joined_pair (λ x y. binary c.args.sign (is x) (is y)) c.joined.result c.args.last ps c.args.len c.if-len-lt2.false (c.joined.ensures ∙ (λ i. binary c.args.sign (is (same i)) (is (to_z-of_z c.ranges.last i))))
