-- The label of every cartridge: where two rules fit one bud, the rule with more neighbours grows; then left before right; then
-- the lower number.
use Rattle.std.specs.Prelude.{◌≡◌, ℕ, ◌+◌, ◌<◌, true, false, ◌⊎◌, List, [], ◌∷◌, is_some, Some, None, Option}
use Rattle.word.specs.Symbols.{Symbol}
use Rattle.book.specs.Rules.{Form, Rule}
use Rattle.book.specs.Books.{Entry, rule, empty, loaded, Distinct}
use Rattle.book.specs.Winners.{decides, winner}

abbrev pub counted : Option Form → ℕ
counted None = 0
counted (Some f) = 1

-- how many neighbours a rule names
abbrev pub neighbours : Rule → ℕ
neighbours u = counted u.before + counted u.behind

-- u grows rather than v
abbrev pub GrowsBefore : Rule → Rule → Type 0
GrowsBefore u v =
    (neighbours v < neighbours u)
    ⊎ ((neighbours u ≡ neighbours v) × (is_some u.before ≡ true) × (is_some v.before ≡ false))
    ⊎ ((neighbours u ≡ neighbours v) × (is_some u.before ≡ is_some v.before) × (u.number < v.number))

-- u is the rule of one of the entries
abbrev pub Holds : Rule → List Entry → Type 0
Holds u [] = ⊥
Holds u (e ∷ es) = (e ≡ rule u) ⊎ Holds u es

-- Of all the rules of a book that fit a module between its neighbours, the winner grows rather than any other; and where one fits,
-- there is a winner, which fits itself.
pub record Label : Type 0 where
  pub wins :
      (es : List Entry) → Distinct es → (l : Option Symbol) (s : Symbol) (r : Option Symbol) (u v : Rule) →
      winner l s r (loaded es empty).rules ≡ Some u → Holds v es → decides l s r v ≡ true → (u ≡ v) ⊎ GrowsBefore u v
  pub fits :
      (es : List Entry) (l : Option Symbol) (s : Symbol) (r : Option Symbol) (u : Rule) →
      winner l s r (loaded es empty).rules ≡ Some u → (decides l s r u ≡ true) × Holds u es
  pub some :
      (es : List Entry) (l : Option Symbol) (s : Symbol) (r : Option Symbol) →
      winner l s r (loaded es empty).rules ≡ None → (v : Rule) → Holds v es → decides l s r v ≡ false
