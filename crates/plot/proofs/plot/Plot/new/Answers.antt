use Rattle.std.proofs.Common.{refl, ap, ◌∙◌}
use Rattle.walk.specs.Walks.{started}
use Rattle.plot.proofs.Law.{law}
use Rattle.plot.proofs.plot.Plot.new.Goals as goal

pub returns-clause-new : goal.returns-clause-new
returns-clause-new g c = record { source = refl; held = refl; taken = refl; walk = c.new-walker.ensures ∙ ap started c.open_brackets.ensures; latest = refl }

pub returns-clause-law : goal.returns-clause-law
returns-clause-law g c = law (g.S.Source.means c.args.source) (g.met.S.Source.lawful c.args.source) _ (returns-clause-new g c)
