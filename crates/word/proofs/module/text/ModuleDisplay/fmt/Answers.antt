use Rattle.std.proofs.Common.{arith}
use Rattle.std.proofs.Output.{has_written_of_eq}
use Rattle.word.proofs.Sound.{low, at_most_3, a_exact, b_exact, c_exact}
use Rattle.word.proofs.Shown.{shown_1, shown_2, shown_3}
use Rattle.word.proofs.module.text.ModuleDisplay.fmt.Goals as goal

pub returns-in-1-clause-writes : goal.returns-in-1-clause-writes
returns-in-1-clause-writes g c =
    let m = c.args.self.now in
    λ p ok.
    has_written_of_eq g.W.Write.write_str_gives _ _ _ _ (shown_1 m.letter m.count m.a m.b m.c (low m) _ c.from-letter.ensures c.in-1.is _ (a_exact m)) (c.write-in-1.ensures.writes p ok)

pub returns-in-2-clause-writes : goal.returns-in-2-clause-writes
returns-in-2-clause-writes g c =
    let m = c.args.self.now in
    λ p ok.
    has_written_of_eq g.W.Write.write_str_gives _ _ _ _
    (shown_2 m.letter m.count m.a m.b m.c (low m) _ c.from-letter.ensures (omega arith) _ _ (a_exact m) (b_exact m))
    (c.write-in-2.ensures.writes p ok)

pub returns-in_default-clause-writes : goal.returns-in_default-clause-writes
returns-in_default-clause-writes g c =
    let m = c.args.self.now in
    let most = at_most_3 m in
    λ p ok.
    has_written_of_eq g.W.Write.write_str_gives _ _ _ _
    (shown_3 m.letter m.count m.a m.b m.c (low m) _ c.from-letter.ensures (omega arith) _ _ _ (a_exact m) (b_exact m) (c_exact m))
    (c.write-in_default.ensures.writes p ok)
