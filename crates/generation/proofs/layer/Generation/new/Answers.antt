use Rattle.std.proofs.Common.{◌∙◌}
use Rattle.books.specs.Kinds.{closed_book}
use Rattle.books.proofs.Tidy.{tidy}
use Rattle.generation.proofs.Drawing.{begins_as}
use Rattle.generation.proofs.Lawful.{goes_on}
use Rattle.generation.proofs.layer.Generation.new.Goals as goal

pub invariant_of-result : goal.invariant_of-result
invariant_of-result g c = record {
  goes_on = goes_on (closed_book c.args.book) (tidy c.args.book);
  meets = record { joined = c.new.ensures.last_is ∙ c.open_brackets-depth.ensures; numbered = c.new.ensures.generation_is ∙ c.generation-generation.ensures };
}

pub returns : goal.returns
returns g c =
    begins_as c.args.book (g.S.Source.means c.args.below) (g.met.S.Source.lawful c.args.below) c.new.result _ _ c.new.ensures c.generation-generation.ensures c.open_brackets-depth.ensures
