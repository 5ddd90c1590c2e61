-- Expressions, their values and their faults; comparisons and guards.
use Rattle.std.specs.Prelude.{ℕ, Bool, cond, not, List, [], ◌∷◌, ℤ, pos, ◌+ℤ◌, ◌-ℤ◌, ◌*ℤ◌, neg_ℤ, ◌==◌, int_div, int_le, int_lt, unsigned_abs}
use Rattle.word.specs.Symbols.{in_range}
use Rattle.expr.specs.declared.code.Relation.{Relation}
use Rattle.expr.specs.declared.code.Relation.TheVariants.{Less, AtMost, Equal, Unequal, AtLeast, More}

-- a number, a name, a negation, or two operands and what is done with them
pub data Expr : Type 0 where
  number : ℕ → Expr
  name : ℕ → Expr
  minus : Expr → Expr
  plus : Expr → Expr → Expr
  less : Expr → Expr → Expr
  times : Expr → Expr → Expr
  over : Expr → Expr → Expr

-- a value, or the cause of a fault
pub data Value : Type 0 where
  is : ℤ → Value
  wrong : ℕ → Value

-- what the names stand for
abbrev pub Env : Type 0
Env = ℕ → ℤ

-- outside ±1,000,000 is fault 32
abbrev pub ranged : ℤ → Value
ranged z = cond (in_range z) (is z) (wrong 32)

-- THE MEANING OF DIVISION: the quotient rounds toward zero
abbrev pub quotient : ℤ → ℤ → ℤ
quotient x y = int_div x y

-- division by 0 is fault 31
abbrev pub divided : ℤ → ℤ → Value
divided x y = cond (unsigned_abs y == 0) (wrong 31) (ranged (quotient x y))

-- operands go left to right, and the first fault counts
abbrev pub both : Value → Value → (ℤ → ℤ → Value) → Value
both (wrong c) v f = wrong c
both (is x) (wrong c) f = wrong c
both (is x) (is y) f = f x y

abbrev pub negated : Value → Value
negated (is x) = ranged (neg_ℤ x)
negated (wrong c) = wrong c

abbrev pub value : Env → Expr → Value
value g (number n) = ranged (pos n)
value g (name x) = ranged (g x)
value g (minus e) = negated (value g e)
value g (plus a b) = both (value g a) (value g b) (λ x y. ranged (x +ℤ y))
value g (less a b) = both (value g a) (value g b) (λ x y. ranged (x -ℤ y))
value g (times a b) = both (value g a) (value g b) (λ x y. ranged (x *ℤ y))
value g (over a b) = both (value g a) (value g b) divided

abbrev pub compared : Relation → ℤ → ℤ → Bool
compared Less x y = int_lt x y
compared AtMost x y = int_le x y
compared Equal x y = unsigned_abs (x -ℤ y) == 0
compared Unequal x y = not (unsigned_abs (x -ℤ y) == 0)
compared AtLeast x y = int_le y x
compared More x y = int_lt y x

pub record Comparison : Type 0 where
  pub first : Expr
  pub relation : Relation
  pub second : Expr

-- what a guard comes to: true, false, or the cause of a fault
pub data Verdict : Type 0 where
  passes fails : Verdict
  faults : ℕ → Verdict

abbrev pub judged : Relation → Value → Value → Verdict
judged r (wrong c) v = faults c
judged r (is x) (wrong c) = faults c
judged r (is x) (is y) = cond (compared r x y) passes fails

-- the first comparison that is false or faults decides
abbrev pub then : Verdict → Verdict → Verdict
then passes v = v
then fails v = fails
then (faults c) v = faults c

abbrev pub guard : Env → List Comparison → Verdict
guard g [] = passes
guard g (c ∷ cs) = then (judged c.relation (value g c.first) (value g c.second)) (guard g cs)

-- the values of arguments, worked out left to right, or the cause of the first fault
pub data Arguments : Type 0 where
  made : List ℤ → Arguments
  spoilt : ℕ → Arguments

abbrev pub with_first : Value → Arguments → Arguments
with_first (wrong c) rest = spoilt c
with_first (is x) (made xs) = made (x ∷ xs)
with_first (is x) (spoilt c) = spoilt c

abbrev pub arguments : Env → List Expr → Arguments
arguments g [] = made []
arguments g (e ∷ es) = with_first (value g e) (arguments g es)
