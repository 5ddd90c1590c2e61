-- The rule of a draft.
use Rattle.rules.specs.declared.draft.Draft.{Draft}
use Rattle.book.specs.Rules.{Rule}
use Rattle.rules.specs.Records.{rule_from, code_in, pieces_in}

abbrev pub rule_of : Draft → Rule
rule_of d = rule_from d.head d.guard (pieces_in d.pieces) (code_in d.codes)
