use Rattle.std.proofs.Common.{◌≡◌, ◌+◌, ◌*◌, ◌<◌, ◌≤◌, length, refl, ◌∙◌, arith}
use Rattle.std.proofs.lemmas.List.{get_or-replicate, length-set}
use Rattle.rows.specs.Rows.{held}
use Rattle.books.specs.Index.{letter_of}
use Rattle.books.proofs.Ahead.{one_told}
use Rattle.books.proofs.letter_index.make.looking_ahead.Goals as goal

pub loop-rule-init : goal.loop-rule-init
loop-rule-init c = record { long = refl; tells = λ k n hk hn. get_or-replicate 1024 (k * 4 + n) _ _ (omega arith) }

pub loop-rule-preserved : goal.loop-rule-preserved
loop-rule-preserved c =
    let inv = c.loop-rule.invariant in
    let r = c.rule-item.result in
    let t = c.loop-rule.ahead in
    let spot = c.spot_of-spot.result in
    let at : spot ≡ letter_of r * 4 + length (held r.head.predecessor.names) = c.spot_of-spot.ensures ∙ (λ i. c.letter.ensures i * 4 + c.parameters.ensures.many i) in
    let low : letter_of r < 256 = omega (arith, c.letter.ensures, c.letter.type_inv) in
    let few : length (held r.head.predecessor.names) ≤ 3 = omega (arith, c.parameters.ensures.many, c.parameters.ensures.few) in
    record {
      long = length-set t spot _ ∙ inv.long;
      tells = one_told c.args.rules.now c.loop-rule.rule-index r t c.looks_right.result c.loop-rule-test.true c.rule-item.is inv.long low few c.looks_right.ensures inv.tells spot at;
    }
