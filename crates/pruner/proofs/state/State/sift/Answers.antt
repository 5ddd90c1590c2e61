use Rattle.std.proofs.Common.{◌++◌, length, drop, sym, subst}
use Rattle.pruner.specs.Streaming.{Sifts}
use Rattle.pruner.proofs.Uncut.{sifts_uncut}
use Rattle.pruner.proofs.state.State.sift.Goals as goal

pub returns-in-Passing : goal.returns-in-Passing
returns-in-Passing c =
    let q = c.args.self.now in
    let d = c.args.before.brackets in
    let ms = c.args.modules.now in
    let places = c.args.places.now in
    subst (λ copied. Sifts q d ms places (length ms) (copied ++ drop (length ms) places) q) (sym c.copy_from_slice.ensures.after)
    (sifts_uncut q d ms places c.in-Passing.is (sym c.if-not-has_cut.ensures))
