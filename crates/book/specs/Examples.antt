-- Worked examples of books.
use Rattle.std.specs.Prelude.{◌≡◌, ℕ, [], ◌∷◌, map, Some, None, codes, Option}
use Prim.Native.String.{String}
use Rattle.std.proofs.Common.{lit≤}
use Rattle.word.specs.Symbols.{Symbol}
use Rattle.expr.specs.declared.code.Relation.TheVariants.{Less}
use Rattle.expr.specs.Values.{name, minus}
use Rattle.expr.specs.Values as values
use Rattle.tokens.specs.Tokens.{tokens}
use Rattle.book.specs.Grammar.{sum, Tree, named, plain, negated, one_factor, times, over, one_product, compared, one_comparison, also, small, FormTree, grown, LineTree, ruling, spells_line}
use Rattle.book.specs.Meanings.{line_sense}
use Rattle.book.specs.Rules.{Form, Rule}
use Rattle.book.specs.Books.{Book, rule, empty, loaded}
use Rattle.book.specs.Winners.{winner}

abbrev pub form : ℕ → Form
form c = record { letter = c; names = [] }

abbrev pub bare_rule : ℕ → Option Form → ℕ → Option Form → String → Rule
bare_rule n l p r s = record { number = n; before = l; predecessor = form p; behind = r; guarded = []; successor = map (λ c. record { letter = c; arguments = [] }) (codes s) }

-- `7: A -> X`, `3: A -> Y`, `9: B < A -> Z`
abbrev pub seven : Rule
seven = bare_rule 7 None 65 None "X"

abbrev pub three : Rule
three = bare_rule 3 None 65 None "Y"

abbrev pub nine : Rule
nine = bare_rule 9 (Some (form 66)) 65 None "Z"

abbrev pub book_of : Rule → Rule → Rule → Book
book_of a b c = loaded (rule a ∷ rule b ∷ rule c ∷ []) empty

abbrev pub bare : ℕ → Symbol
bare c = record { letter = c; params = [] }

-- `1: a(b) < c(d) > e(f) ? b<d & d<f -> g(b*-d/f)` as a tree
abbrev is_name : ℕ → Tree sum
is_name c = one_product (one_factor (plain (named c)))

abbrev named_form : ℕ → ℕ → FormTree
named_form c n = record { glyph = small c; names = n ∷ []; few = lit≤ tt }

abbrev pub whole : LineTree
whole = ruling (record {
  printed = codes "1";
  short = lit≤ tt;
  before = Some (named_form 97 98);
  predecessor = named_form 99 100;
  behind = Some (named_form 101 102);
  guarded = Some (also (one_comparison (compared (is_name 98) Less (is_name 100))) (compared (is_name 100) Less (is_name 102)));
  successor = grown (small 103) (one_product (over (times (one_factor (plain (named 98))) (negated (named 100))) (plain (named 102))) ∷ []) (lit≤ tt) ∷ [];
})

pub record Examples : Type 0 where
  -- a line with every part, and what it means
  pub spelt : spells_line whole ≡ tokens (codes "1:a(b)<c(d)>e(f)?b<d&d<f->g(b*-d/f)")
  pub meant : line_sense whole ≡ rule (record {
    number = 1;
    before = Some (record { letter = 97; names = 98 ∷ [] });
    predecessor = record { letter = 99; names = 100 ∷ [] };
    behind = Some (record { letter = 101; names = 102 ∷ [] });
    guarded = record { first = name 98; relation = Less; second = name 100 } ∷ record { first = name 100; relation = Less; second = name 102 } ∷ [];
    successor = record { letter = 103; arguments = values.over (values.times (name 98) (minus (name 100))) (name 102) ∷ [] } ∷ [];
  })
  pub six_orders :
      (book_of seven nine three ≡ book_of seven three nine)
      × (book_of three seven nine ≡ book_of seven three nine)
      × (book_of three nine seven ≡ book_of seven three nine)
      × (book_of nine seven three ≡ book_of seven three nine)
      × (book_of nine three seven ≡ book_of seven three nine)
  -- at `A` behind `B` rule 9 grows, and anywhere else rule 3
  pub behind_b : winner (Some (bare 66)) (bare 65) None (book_of seven three nine).rules ≡ Some nine
  pub alone : winner None (bare 65) (Some (bare 66)) (book_of seven three nine).rules ≡ Some three
  pub none_fits : winner None (bare 66) None (book_of seven three nine).rules ≡ None
