-- What the records of a book mean.
use Rattle.std.specs.Prelude.{ℕ, Bool, false, List, map, take, drop, slice_index_or}
use Rattle.rows.specs.declared.row.Row.{Row}
use Rattle.rows.specs.Rows.{held}
use Rattle.expr.specs.declared.code.Code.{Code}
use Rattle.book.specs.Rules.{Rule}
use Rattle.rules.specs.Records.{rule_from}
use Rattle.books.specs.declared.code_places.CodePlaces.{CodePlaces}
use Rattle.books.specs.declared.rule.Rule.{Rule as StoredRule}
use Rattle.books.specs.declared.ignored.Ignored.{Ignored}

-- the code places that are filled
abbrev pub code_held : CodePlaces → List Code
code_held p = take p.used p.row

-- a rule, where its book has the code cs
abbrev pub rule_in : List Code → StoredRule → Rule
rule_in cs r = rule_from r.head r.guard (held r.pieces) (take r.size (drop r.start cs))

abbrev pub listed : Row StoredRule 48 → List StoredRule
listed l = held l

abbrev pub rules_in : List Code → List StoredRule → List Rule
rules_in cs rs = map (rule_in cs) rs

abbrev pub ignored_in : Ignored → ℕ → Bool
ignored_in i c = slice_index_or i.row c false
