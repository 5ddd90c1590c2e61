use Rattle.std.proofs.Common.{◌≡◌, map, drop, sym, ap, ◌∙◌}
use Rattle.rows.specs.Rows.{held}
use Rattle.expr.specs.Records.{env_of}
use Rattle.rules.specs.Records.{bare, pieces_from}
use Rattle.rules.specs.Wrong.{deepest}
use Rattle.books.specs.Few.{symbols_in}
use Rattle.books.specs.Outcomes.{grown, successor}
use Rattle.books.proofs.Growing.{rest_of}
use Rattle.books.proofs.Tidy.{grown_nests}
use Rattle.books.proofs.rule.Rule.grow.Goals as goal

pub returns-clause-grown : goal.returns-clause-grown
returns-clause-grown c =
    let r = c.args.self.now in
    let g = env_of c.args.names.now in
    let own = c.as_slice.ensures in
    let w = symbols_in c.grow_pieces.new.grown in
    let whole : grown w ≡ successor g (pieces_from (held r.pieces) (drop r.guard c.args.code.now)) =
    c.in_ok-grow_pieces.ensures.grown
    ∙ ap (λ cs. successor g (pieces_from c.as_slice.result.now cs)) (rest_of c.from-2.result c.args.code.now ∙ ap (λ k. drop k c.args.code.now) c.from-2.ensures)
    ∙ ap (λ ps. successor g (pieces_from ps (drop r.guard c.args.code.now))) own in
    let n = grown_nests g _ _ w (sym c.in_ok-grow_pieces.ensures.grown) in
    (whole, r.deep ∙ sym (n.1 ∙ ap (λ ps. deepest 0 (map bare ps)) own))

pub returns-then-self-from-clause-grown : goal.returns-then-self-from-clause-grown
returns-then-self-from-clause-grown c = c.grow_plainly.ensures (env_of c.args.names.now) (drop c.args.self.now.guard c.args.code.now)
