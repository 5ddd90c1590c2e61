use Rattle.std.proofs.Common.{ap, ◌∙◌}
use Rattle.books.specs.Kinds.{closed_book}
use Rattle.pruner.specs.Pruned.{pruned_meaning}
use Rattle.generation.specs.Grown.{grown}
use Rattle.std.specs.Prelude.{min}
use Rattle.pile.proofs.pile.pile_of.Goals as goal

pub returns : goal.returns
returns c =
    let n = min 8 c.args.generations in
    c.new-3.ensures ∙ ap pruned_meaning (c.new-2.ensures ∙ ap (grown n (closed_book c.args.book)) c.new.ensures.meaning)
