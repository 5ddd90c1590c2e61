use Rattle.std.proofs.Common.{get_or, arith}
use Rattle.word.proofs.Digits.{digit, small, grows, goes_on, at_end, below_ten_million}
use Rattle.word.proofs.numbers.value.Goals as goal

pub overflow_mul-n : goal.overflow_mul-n
overflow_mul-n c = let s = small c.loop-d.n c.loop-d.d-index _ c.loop-d.invariant.0 c.loop-d-test.true c.requires.short in omega arith

pub overflow_sub-d : goal.overflow_sub-d
overflow_sub-d c = let d = digit c.args.digits.now c.loop-d.d-index c.requires.all c.loop-d-test.true in omega arith

pub overflow_add-n : goal.overflow_add-n
overflow_add-n c =
    let s = small c.loop-d.n c.loop-d.d-index _ c.loop-d.invariant.0 c.loop-d-test.true c.requires.short in
    let d = digit c.args.digits.now c.loop-d.d-index c.requires.all c.loop-d-test.true in
    omega arith

pub loop-d-preserved : goal.loop-d-preserved
loop-d-preserved c =
    let i = c.loop-d.d-index in
    let d = digit c.args.digits.now i c.requires.all c.loop-d-test.true in
    rw c.from.ensures (grows c.loop-d.n i (get_or c.args.digits.now i 0) c.loop-d.invariant.0 (omega arith), goes_on c.args.digits.now c.loop-d.n i c.loop-d-test.true c.loop-d.invariant.1)

pub returns : goal.returns
returns c =
    let is = at_end c.args.digits.now c.loop-d.n c.loop-d.d-index (omega arith) c.loop-d.invariant.1 in
    record { value = is; bound = omega (arith, below_ten_million c.args.digits.now c.requires.all c.requires.short) }
