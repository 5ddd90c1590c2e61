-- The numbers and the names of code, and the names of a head. Internal.
use Rattle.std.specs.Prelude.{ℕ, List, [], ◌∷◌, ◌++◌}
use Rattle.std.specs.Option.{option_map}
use Rattle.expr.specs.declared.code.Code.{Code}
use Rattle.expr.specs.declared.code.Code.TheVariants.{Blank, Number, Name, Negate, Add, Subtract, Multiply, Divide, Compare}
use Rattle.rules.specs.declared.head.Head.{Head}
use Rattle.rules.specs.Places.{names_of}
use Rattle.book.specs.Records.{form_of}

-- what a place gives, where a number gives f and a name g
abbrev pub given_by : (ℕ → List ℕ) → (ℕ → List ℕ) → Code → List ℕ
given_by f g Blank = []
given_by f g (Number n) = f n
given_by f g (Name x) = g x
given_by f g Negate = []
given_by f g Add = []
given_by f g Subtract = []
given_by f g Multiply = []
given_by f g Divide = []
given_by f g (Compare r) = []

abbrev pub picked : (ℕ → List ℕ) → (ℕ → List ℕ) → List Code → List ℕ
picked f g [] = []
picked f g (c ∷ cs) = given_by f g c ++ picked f g cs

abbrev pub numbers_in : List Code → List ℕ
numbers_in cs = picked (λ n. n ∷ []) (λ x. []) cs

abbrev pub names_in : List Code → List ℕ
names_in cs = picked (λ n. []) (λ x. x ∷ []) cs

-- the names that the forms of a head give
abbrev pub head_names : Head → List ℕ
head_names h = names_of (option_map form_of h.before) ++ ((form_of h.predecessor).names ++ names_of (option_map form_of h.behind))
