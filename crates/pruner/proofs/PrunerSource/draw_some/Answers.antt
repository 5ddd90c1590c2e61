use Rattle.std.proofs.Common.{◌≡◌, ◌≤◌, [], length, map, take, drop, ap, ◌∙◌, arith}
use Rattle.std.proofs.lemmas.List.{take-append-le, length-take}
use Rattle.word.specs.declared.module.Module.{Module}
use Rattle.word.specs.Records.{symbol_of}
use Rattle.word.proofs.Joined.{tells_on}
use Rattle.pruner.proofs.Sifting.{sifted_told, none_told, none_behind}
use Rattle.pruner.proofs.PrunerSource.draw_some.Goals as goal

pub returns-then-kept-gt0 : goal.returns-then-kept-gt0
returns-then-kept-gt0 g c =
    let means = g.S.Source.means in
    let n = c.in_ok-count.count in
    let part = c.draw_some.new.places in
    let below = c.in_ok-count.ensures in
    let so_far = c.loop-count.invariant in
    let short : n ≤ length part = omega (arith, below.fits) in
    let told = sifted_told c.loop-count.self.state c.sift-kept.new.self (means c.loop-count.self.below) (means c.draw_some.new.self) c.open_brackets-before.result.brackets (take n part) _ _ c.sift-kept.result c.sift-kept.new.places c.open_brackets-before.ensures below.told c.sift-kept.ensures (take-append-le n part _ short) in
    record {
      told = tells_on _ _ _ [] (map symbol_of (take c.sift-kept.result c.sift-kept.new.places)) so_far.same told;
      fits = omega (arith, c.sift-kept.ensures.fits, below.fits, length-take {A = Module});
      behind = c.sift-kept.ensures.behind ∙ ap (drop c.sift-kept.result) so_far.places;
      some = λ e. absurd (omega arith);
    }

pub loop-count-preserved : goal.loop-count-preserved
loop-count-preserved g c =
    let means = g.S.Source.means in
    let n = c.in_ok-count.count in
    let part = c.draw_some.new.places in
    let below = c.in_ok-count.ensures in
    let so_far = c.loop-count.invariant in
    let short : n ≤ length part = omega (arith, below.fits) in
    let none : c.sift-kept.result ≡ 0 = omega arith in
    let told = sifted_told c.loop-count.self.state c.sift-kept.new.self (means c.loop-count.self.below) (means c.draw_some.new.self) c.open_brackets-before.result.brackets (take n part) _ _ c.sift-kept.result c.sift-kept.new.places c.open_brackets-before.ensures below.told c.sift-kept.ensures (take-append-le n part _ short) in
    record {
      same = tells_on _ _ _ [] [] so_far.same (none_told _ _ c.sift-kept.result c.sift-kept.new.places none told);
      places = none_behind c.sift-kept.result _ c.sift-kept.new.places none c.sift-kept.ensures.behind ∙ so_far.places;
    }
