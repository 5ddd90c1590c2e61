use Rattle.std.proofs.Common.{◌∷◌, arith}
use Rattle.std.specs.Fmt.{signed_decimal}
use Rattle.word.proofs.Sound.{at_most_3, a_exact, b_exact, c_exact}
use Rattle.text.proofs.Over.{puts_byte, puts_next, puts_as}
use Rattle.text.proofs.Modules.{with_one, with_two, with_three, a_ranged, b_ranged}
use Rattle.text.proofs.text.put.put_module.Goals as goal

pub put_behind-first-requires-clause-small : goal.put_behind-first-requires-clause-small
put_behind-first-requires-clause-small c = rw (a_exact c.args.symbol) (a_ranged c.args.symbol)

pub put_behind-second-requires-clause-small : goal.put_behind-second-requires-clause-small
put_behind-second-requires-clause-small c = rw (b_exact c.args.symbol) (b_ranged c.args.symbol)

pub returns-then-symbol-eq1-clause-puts : goal.returns-then-symbol-eq1-clause-puts
returns-then-symbol-eq1-clause-puts c =
    let m = c.args.symbol in
    let first = puts_as _ _ _ _ _ _ (λ i. 40 ∷ signed_decimal (a_exact m i)) c.put_behind-first.ensures.puts in
    let so_far = puts_next _ _ _ _ _ _ _ _ (puts_byte c.args.at m.letter c.args.bytes.now) first in
    puts_as _ _ _ _ _ _ (with_one m.letter m.count m.a m.b m.c c.if-symbol-eq1.true) (puts_next _ _ _ _ _ _ _ _ so_far c.put_close.ensures.puts)

pub returns-then-symbol-eq2-clause-puts : goal.returns-then-symbol-eq2-clause-puts
returns-then-symbol-eq2-clause-puts c =
    let m = c.args.symbol in
    let first = puts_as _ _ _ _ _ _ (λ i. 40 ∷ signed_decimal (a_exact m i)) c.put_behind-first.ensures.puts in
    let second = puts_as _ _ _ _ _ _ (λ i. 44 ∷ signed_decimal (b_exact m i)) c.put_behind-second.ensures.puts in
    let so_far = puts_next _ _ _ _ _ _ _ _ (puts_next _ _ _ _ _ _ _ _ (puts_byte c.args.at m.letter c.args.bytes.now) first) second in
    puts_as _ _ _ _ _ _ (with_two m.letter m.count m.a m.b m.c c.if-symbol-eq2.true)
    (puts_next _ _ _ _ _ _ _ _ so_far c.put_close-then-symbol-eq2.ensures.puts)

pub returns-clause-puts : goal.returns-clause-puts
returns-clause-puts c =
    let m = c.args.symbol in
    let most = at_most_3 m in
    let first = puts_as _ _ _ _ _ _ (λ i. 40 ∷ signed_decimal (a_exact m i)) c.put_behind-first.ensures.puts in
    let second = puts_as _ _ _ _ _ _ (λ i. 44 ∷ signed_decimal (b_exact m i)) c.put_behind-second.ensures.puts in
    let third = puts_as _ _ _ _ _ _ (λ i. 44 ∷ signed_decimal (c_exact m i)) c.put_behind-third.ensures.puts in
    let so_far = puts_next _ _ _ _ _ _ _ _ (puts_next _ _ _ _ _ _ _ _ (puts_byte c.args.at m.letter c.args.bytes.now) first) second in
    puts_as _ _ _ _ _ _ (with_three m.letter m.count m.a m.b m.c (omega arith))
    (puts_next _ _ _ _ _ _ _ _ (puts_next _ _ _ _ _ _ _ _ so_far third) c.put_close-2.ensures.puts)
