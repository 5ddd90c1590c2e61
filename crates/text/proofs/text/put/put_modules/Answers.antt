use Rattle.std.proofs.Common.{arith}
use Rattle.text.proofs.Over.{puts_next, puts_as}
use Rattle.text.proofs.Modules.{spelled_more}
use Rattle.text.proofs.text.put.put_modules.Goals as goal

pub loop-symbol-preserved : goal.loop-symbol-preserved
loop-symbol-preserved c =
    let so_far = c.loop-symbol.invariant in
    let put = c.put_module-end.ensures in
    let more = spelled_more c.args.modules.now c.loop-symbol.symbol-index c.symbol-item.result c.loop-symbol-test.true c.symbol-item.is in
    (puts_as _ _ _ _ _ _ more (puts_next _ _ _ _ _ _ _ _ so_far.0 put.puts), omega (arith, so_far.1, put.within))
