-- What the records of the code mean.
use Rattle.std.specs.Prelude.{ℕ, List}
use Rattle.rows.specs.declared.row.Row.{Row}
use Rattle.rows.specs.Rows.{held}
use Rattle.book.specs.Books.{Entry, rule, ignores}
use Rattle.rules.specs.Drafts.{rule_of}
use Rattle.lines.specs.declared.line.Line.{Line}
use Rattle.lines.specs.declared.line.Line.TheVariants.{Rule, Ignores}

abbrev pub letters_in : Row ℕ 200 → List ℕ
letters_in l = held l

abbrev pub entry_of : Line → Entry
entry_of (Rule d) = rule (rule_of d)
entry_of (Ignores l) = ignores (letters_in l)
