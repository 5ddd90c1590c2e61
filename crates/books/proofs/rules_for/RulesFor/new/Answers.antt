use Rattle.std.proofs.Common.{◌∙◌, arith}
use Rattle.books.proofs.Chaining.{from_next}
use Rattle.books.proofs.rules_for.RulesFor.new.Goals as goal

pub returns : goal.returns
returns c = from_next c.args.letter c.args.rules.now 0 c.first-at.result (c.first-at.ensures ∙ c.requires.firsts c.args.letter (omega arith))
