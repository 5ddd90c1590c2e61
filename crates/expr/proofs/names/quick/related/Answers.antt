use Rattle.std.proofs.Common.{◌≡◌, ◌-◌, true, false, get_or, pos, w32, to_z, of_z, sym, ap, ◌∙◌, to_z-of_z, rules}
use Rattle.expr.specs.Values.{compared}
use Rattle.expr.specs.Quick.{on}
use Rattle.expr.specs.Records.{numbers}
use Rattle.expr.proofs.Numbers.{no_pair, compared_pair}
use Rattle.expr.proofs.names.quick.related.Goals as goal

pub returns-then-len-lt2-clause-answer : goal.returns-then-len-lt2-clause-answer
returns-then-len-lt2-clause-answer c = no_pair _ c.args.last c.args.below.now c.args.len c.if-len-lt2.true

pub returns-then-not-compared-clause-answer : goal.returns-then-not-compared-clause-answer
returns-then-not-compared-clause-answer c =
    let ps = c.args.below.now in
    let x = get_or ps (c.args.len - 1) (pos 0) in
    let same : to_z w32 (of_z w32 x) ≡ x = search rules in
    compared_pair c.args.relation c.args.last ps c.args.len c.if-len-lt2.false false (sym c.if-not-compared.true ∙ c.compared.ensures ∙ (λ i. compared c.args.relation (same i) (to_z-of_z c.ranges.last i)))

pub returns-clause-answer : goal.returns-clause-answer
returns-clause-answer c =
    let ps = c.args.below.now in
    let x = get_or ps (c.args.len - 1) (pos 0) in
    let z = get_or ps (c.args.len - 2) (pos 0) in
    let same : to_z w32 (of_z w32 x) ≡ x = search rules in
    let left : to_z w32 (of_z w32 z) ≡ z = search rules in
    ap (λ t. on (numbers t ps (c.args.len - 2))) left
    ∙ compared_pair c.args.relation c.args.last ps c.args.len c.if-len-lt2.false true (sym c.if-not-compared.false ∙ c.compared.ensures ∙ (λ i. compared c.args.relation (same i) (to_z-of_z c.ranges.last i)))
