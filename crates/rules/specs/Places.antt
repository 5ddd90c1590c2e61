-- The numbers, the names and the code places of a rule.
use Rattle.std.specs.Prelude.{ℕ, suc, ◌+◌, List, [], ◌∷◌, ◌++◌, length, Some, None, Option}
use Rattle.expr.specs.Values.{Expr, number, name, minus, plus, less, times, over, Comparison}
use Rattle.book.specs.Rules.{Form, Piece, Rule}

-- what the numbers and the names of an expression give, from left to right
abbrev pub leaves : {A : Type 0} → (ℕ → List A) → (ℕ → List A) → Expr → List A
leaves f g (number n) = f n
leaves f g (name x) = g x
leaves f g (minus e) = leaves f g e
leaves f g (plus a b) = leaves f g a ++ leaves f g b
leaves f g (less a b) = leaves f g a ++ leaves f g b
leaves f g (times a b) = leaves f g a ++ leaves f g b
leaves f g (over a b) = leaves f g a ++ leaves f g b

abbrev pub numbers : Expr → List ℕ
numbers e = leaves (λ n. n ∷ []) (λ x. []) e

abbrev pub names : Expr → List ℕ
names e = leaves (λ n. []) (λ x. x ∷ []) e

-- each number, name and sign takes one code place
abbrev pub places : Expr → ℕ
places (number n) = 1
places (name x) = 1
places (minus e) = suc (places e)
places (plus a b) = suc (places a + places b)
places (less a b) = suc (places a + places b)
places (times a b) = suc (places a + places b)
places (over a b) = suc (places a + places b)

-- the sums that a guard compares, and the arguments of a successor
abbrev pub compared_in : List Comparison → List Expr
compared_in [] = []
compared_in (c ∷ cs) = c.first ∷ c.second ∷ compared_in cs

abbrev pub arguments_in : List Piece → List Expr
arguments_in [] = []
arguments_in (p ∷ ps) = p.arguments ++ arguments_in ps

-- the expressions of a rule
abbrev pub expressions : Rule → List Expr
expressions u = compared_in u.guarded ++ arguments_in u.successor

abbrev pub each : (Expr → List ℕ) → List Expr → List ℕ
each f [] = []
each f (e ∷ es) = f e ++ each f es

abbrev pub places_all : List Expr → ℕ
places_all [] = 0
places_all (e ∷ es) = places e + places_all es

-- the code places of a rule: those of its expressions, and one for each sign that compares
abbrev pub places_of : Rule → ℕ
places_of u = places_all (expressions u) + length u.guarded

-- the names that a rule gives, form by form
abbrev pub names_of : Option Form → List ℕ
names_of None = []
names_of (Some f) = f.names

abbrev pub given_names : Rule → List ℕ
given_names u = names_of u.before ++ (u.predecessor.names ++ names_of u.behind)
