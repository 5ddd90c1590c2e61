use Rattle.std.proofs.Common.{◌++◌, take, sym, ap, ◌∙◌}
use Rattle.std.specs.Option.{option_map}
use Rattle.rows.specs.Rows.{held}
use Rattle.book.specs.Records.{form_of}
use Rattle.rules.specs.Places.{names_of}
use Rattle.rules.proofs.Collecting.{no_more}
use Rattle.rules.proofs.given.add_side.Goals as goal

pub returns-in_default : goal.returns-in_default
returns-in_default c = sym (ap (λ o. take 9 (held c.args.given.now ++ names_of (option_map form_of o))) c.in_default.is ∙ no_more c.args.given.now)
