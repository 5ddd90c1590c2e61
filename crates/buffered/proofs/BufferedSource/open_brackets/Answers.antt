use Rattle.std.proofs.Common.{map, take}
use Rattle.word.specs.Records.{symbol_of}
use Rattle.buffered.specs.Held.{depth_at}
use Rattle.buffered.specs.Lawful.{halves}
use Rattle.buffered.proofs.Refilled.{leads_some, leads_to}
use Rattle.buffered.proofs.BufferedSource.open_brackets.Goals as goal

pub unwrap-requires : goal.unwrap-requires
unwrap-requires g c =
    let s = c.args.self.now in
    let led = halves s.row s.at s.count s.first.brackets (g.S.Source.means s.below) s.ordered s.joined in
    leads_some s.first.brackets (map symbol_of (take s.at s.row)) (depth_at s.first.brackets s.row s.at) c.after_all.result led.0 c.after_all.ensures

pub returns : goal.returns
returns g c =
    let s = c.args.self.now in
    leads_to s.first.brackets (map symbol_of (take s.at s.row)) c.after_all.result c.unwrap.result c.after_all.ensures c.unwrap.ensures
