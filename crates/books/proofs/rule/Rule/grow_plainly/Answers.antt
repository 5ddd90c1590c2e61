use Rattle.std.proofs.Common.{◌≡◌, sym, ap, ◌∙◌}
use Rattle.rows.specs.Rows.{held}
use Rattle.rules.specs.Records.{pieces_from}
use Rattle.books.specs.Few.{symbols_in}
use Rattle.books.specs.Outcomes.{grown, successor}
use Rattle.books.proofs.Tidy.{grown_nests}
use Rattle.books.proofs.rule.Rule.grow_plainly.Goals as goal

pub returns : goal.returns
returns c g cs =
    let r = c.args.self.now in
    let w = symbols_in c.grow_plain.new.grown in
    let whole : grown w ≡ successor g (pieces_from (held r.pieces) cs) = c.grow_plain.ensures g cs ∙ ap (λ ps. successor g (pieces_from ps cs)) c.as_slice.ensures in
    (whole, r.deep ∙ sym (grown_nests g (held r.pieces) cs w (sym whole)).1)
