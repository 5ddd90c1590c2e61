use Rattle.std.proofs.Common.{Some, None}
use Rattle.buffered.proofs.Refilled.{drained, filled_means, filled_joined, filled_few, fresh, refills, none_drawn}
use Rattle.buffered.proofs.Buffered.refill.Goals.{in-Ok, in-Err}
use Rattle.buffered.proofs.Buffered.refill.Goals as goal

pub invariant_of-self-clause-joined : goal.invariant_of-self-clause-joined
invariant_of-self-clause-joined g c =
    let s = c.args.self.now in
    filled_joined s.row c.draw_some.new.places c.in-Ok.count c.open_brackets-self.result.brackets (g.S.Source.means s.below) (g.S.Source.means c.draw_some.new.self) c.in-Ok.ensures c.open_brackets-self.ensures (g.met.S.Source.lawful s.below)

pub invariant_of-self-clause-few : goal.invariant_of-self-clause-few
invariant_of-self-clause-few g c =
    let s = c.args.self.now in
    filled_few s.row c.draw_some.new.places c.in-Ok.count c.open_brackets-self.result.brackets (g.S.Source.means s.below) (g.S.Source.means c.draw_some.new.self) c.in-Ok.ensures c.open_brackets-self.ensures (g.met.S.Source.lawful s.below) c.draw_some.auto.places

pub returns : goal.returns
returns g c =
    let s = c.args.self.now in
    let m = g.S.Source.means s.below in
    let m' = g.S.Source.means c.draw_some.new.self in
    let first = c.open_brackets-self.result.brackets in
    let row = c.draw_some.new.places in
    let old = drained s.row s.at s.count s.first.brackets m c.requires s.joined in
    elim c.match-draw_some.branch [
      | in-Ok w ↦
          let n = w.in-Ok.count in
          let drew = w.in-Ok.ensures in
          rw w.self-is (refills _ m _ old (filled_means s.row row n first m m' drew c.open_brackets-self.ensures) n None (none_drawn s.row row n m m' s.wide drew))
      | in-Err w ↦
          let e = w.in-Err.ensures in
          rw w.self-is (refills _ m _ old (fresh row first m m' c.open_brackets-self.ensures e.2) 0 (Some w.in-Err.fault) (λ _. (e.0, e.1)))
    ]
