use Rattle.std.proofs.Common.{◌≡◌, ◌<◌, true, refl, subst, arith}
use Rattle.word.specs.Words.{Meaning}
use Rattle.buffered.specs.declared.Buffered.{Buffered}
use Rattle.buffered.specs.Held.{left_in, Refills}
use Rattle.buffered.proofs.Refilled.{draws_held}
use Rattle.buffered.proofs.BufferedSource.draw.Goals.{else-self-via-then-self+else-not-refill, else-self-via-else-self}
use Rattle.buffered.proofs.BufferedSource.draw.Goals as goal

pub returns : goal.returns
returns g c =
    let means = g.S.Source.means in
    let meant : Buffered g.row.S.Denot g.S.Source → Meaning = λ x. left_in x.row x.at x.count x.first.brackets (means x.below) in
    let s = c.args.self.now in
    let t = c.else-self.self in
    let held : (t.at < t.count) × (meant t ≡ meant s) =
    elim c.else-self.branch [
      | else-self-via-then-self+else-not-refill w ↦
          let more : Refills (meant s) true (meant w.refill.new.self) w.refill.new.self.at w.refill.new.self.count w.refill.new.self.fault =
          subst (λ b. Refills (meant s) b (meant w.refill.new.self) w.refill.new.self.at w.refill.new.self.count w.refill.new.self.fault) w.if-not-refill.false w.refill.ensures
          in
          rw w.self-is more
      | else-self-via-else-self w ↦ rw w.self-is (omega (arith, w.if-self.false, s.ordered), refl {a = meant s})
    ]
    in
    draws_held t.row t.at t.count t.first.brackets (means t.below) (meant s) c.index-self-self.result held.0 (omega (arith, t.wide, t.within)) held.1
