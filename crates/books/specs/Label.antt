-- The label of every cartridge: where two rules fit one bud, the rule with more neighbours grows; then left before right; then
-- the lower number.
use Rattle.std.specs.Prelude.{◌≡◌, true, false, ◌⊎◌, List, Some, None, Option}
use Rattle.word.specs.Symbols.{Symbol}
use Rattle.book.specs.Rules.{Rule}
use Rattle.book.specs.Label.{GrowsBefore}
use Rattle.book.specs.Books.{Among}
use Rattle.book.specs.Winners.{decides, winner}

-- Of all the rules of a book that fit a module s between its neighbours, the winner grows rather than any other; and where one
-- fits, there is a winner, which fits itself.
pub record Label (us : List Rule) (l : Option Symbol) (s : Symbol) (r : Option Symbol) : Type 0 where
  pub wins : (u v : Rule) → winner l s r us ≡ Some u → Among v us → decides l s r v ≡ true → (u ≡ v) ⊎ GrowsBefore u v
  pub fits : (u : Rule) → winner l s r us ≡ Some u → (decides l s r u ≡ true) × Among u us
  pub none : winner l s r us ≡ None → (v : Rule) → Among v us → decides l s r v ≡ false
