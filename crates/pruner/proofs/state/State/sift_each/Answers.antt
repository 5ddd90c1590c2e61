use Rattle.std.proofs.Common.{◌<◌, length, ◌∙◌, arith}
use Rattle.std.proofs.lemmas.List.{length-take}
use Rattle.word.specs.Records.{symbol_of}
use Rattle.pruner.proofs.Sifting.{behind_more, sifts_dropped, sifts_passed, after_low}
use Rattle.pruner.proofs.state.State.sift_each.Goals.{in-Some, in_default}
use Rattle.pruner.proofs.state.State.sift_each.Goals as goal

pub loop-module-preserved : goal.loop-module-preserved
loop-module-preserved c =
    let q = c.args.self.now in
    let d = c.args.before.brackets in
    let ms = c.args.modules.now in
    let i = c.loop-module.module-index in
    let x = c.module-item.result in
    let here = c.loop-module-test.true in
    let is = c.module-item.is in
    let b = c.loop-module.before in
    let at = c.loop-module.invariant.depth in
    let so_far = c.loop-module.invariant.sifted in
    let n = c.loop-module.kept in
    let places = c.loop-module.places in
    let q' = c.loop-module.state in
    let room : n < length places = omega (arith, so_far.fits, length-take i ms) in
    let depth = c.behind-behind.ensures ∙ behind_more q d ms i x here is b at in
    let low = after_low b (symbol_of x) in
    elim c.match-behind_dropped.branch [
      | in-Some w ↦ rw (w.places-is, w.state-is, w.before-is, w.kept-is) (record {
        sifted = sifts_dropped q d ms i x here is b at c.args.places.now n places q' so_far w.in-Some.dropped w.in-Some.ensures.0 w.in-Some.ensures.1;
        depth = depth;
        low = omega arith;
      })
      | in_default w ↦ rw (w.places-is, w.state-is, w.before-is, w.kept-is) (record {
        sifted = sifts_passed q d ms i x here is b at c.args.places.now n places q' so_far w.in_default.ensures room;
        depth = depth;
        low = omega arith;
      })
    ]
