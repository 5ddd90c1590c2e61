-- The rules for one letter, taken one by one. Internal.
use Rattle.std.specs.Prelude.{List, drop, slice_index}
use Rattle.books.specs.declared.rule.Rule.{Rule}
use Rattle.books.specs.declared.rules_for.RulesFor.{RulesFor}
use Rattle.books.specs.Index.{letters, with_letter}

-- the rules still to come
abbrev pub to_come : RulesFor → List Rule
to_come x = with_letter (slice_index (letters x.rules.now) x.at) (drop x.at x.rules.now)
