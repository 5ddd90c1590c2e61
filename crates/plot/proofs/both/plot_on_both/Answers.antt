use Rattle.std.proofs.Common.{[], ◌∷◌, ap, ◌∙◌}
use Rattle.books.specs.Kinds.{closed_book}
use Rattle.generation.specs.Generations.{generated}
use Rattle.pruner.specs.Pruned.{pruned_meaning}
use Rattle.plot.specs.Piles.{grows, prunes}
use Rattle.plot.proofs.both.plot_on_both.Goals as goal

pub returns : goal.returns
returns g c = λ lines took es v run.
    let b = closed_book c.args.book in
    c.new-4.ensures.law.after (g.S.Source.means c.args.source) (prunes ∷ grows lines b ∷ prunes ∷ []) (took, tt)
    (c.new-3.ensures ∙ ap pruned_meaning (c.new-2.ensures ∙ ap (generated b) c.new.ensures)) es v run
