use Rattle.std.proofs.Common.{◌≡◌, ℕ, List, ◌++◌, length}
use Rattle.std.specs.Fmt.{IsPlainFormatter, HasWritten}
use Rattle.text.specs.Told.{told_text}
use Rattle.text.specs.Texts.{held}
use Rattle.text.proofs.show.show_word.Given as goal

-- what is written so far, then what is held, before what is still to come, is the whole text
abbrev pub invariant-loop-text : goal.invariant-loop-text
invariant-loop-text g l =
    let means = g.S.Source.means in
    (length l.places ≡ 64)
    × (IsPlainFormatter l.initial.f
    → (bs : List ℕ)
    × HasWritten g.W.Write.write_str_gives l.initial.f bs l.f
    × ((bs ++ held l.text) ++ told_text (means l.source).told ≡ told_text (means l.initial.source).told))

abbrev pub decreases-loop-text : goal.decreases-loop-text
decreases-loop-text g l = length (g.S.Source.means l.source).told.modules
