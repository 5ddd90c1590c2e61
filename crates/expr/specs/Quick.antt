-- Code worked out on plain numbers one place at a time, until something faults or an operand is missing. Internal.
use Rattle.std.specs.Prelude.{ℕ, zero, suc, ◌≤◌, Bool, true, false, cond, List, [], ◌∷◌, ℤ, pos, Ok, Err, Result, Some, None, Option}
use Rattle.expr.specs.declared.code.Code.{Code}
use Rattle.expr.specs.declared.code.Code.TheVariants.{Blank, Number, Name, Negate, Add, Subtract, Multiply, Divide, Compare}
use Rattle.expr.specs.declared.code.Relation.{Relation}
use Rattle.expr.specs.declared.computed.Cause.{Cause}
use Rattle.expr.specs.declared.names.quick.Progress.{Progress}
use Rattle.expr.specs.declared.names.quick.Progress.TheVariants.{On, Untrue, GivenUp}
use Rattle.expr.specs.Values.{Value, is, wrong, Env, ranged, negated, compared}
use Rattle.expr.specs.Records.{numbers}
use Rattle.expr.specs.Machine.{binary}

-- where plain numbers get to: some of them, the latest first; a comparison that is false; or no further
pub data Quick : Type 0 where
  on : List ℤ → Quick
  untrue given_up : Quick

abbrev pub found : Value → List ℤ → Quick
found (is x) xs = on (x ∷ xs)
found (wrong c) xs = given_up

-- a sign takes its operands off, the second first
abbrev pub with_two : (ℤ → ℤ → List ℤ → Quick) → List ℤ → Quick
with_two f [] = given_up
with_two f (y ∷ []) = given_up
with_two f (y ∷ x ∷ xs) = f x y xs

abbrev pub with_one : (ℤ → List ℤ → Quick) → List ℤ → Quick
with_one f [] = given_up
with_one f (x ∷ xs) = f x xs

-- two numbers with a sign between them, and two that are compared
abbrev pub signed : Code → List ℤ → Quick
signed c xs = with_two (λ x y. found (binary c (is x) (is y))) xs

abbrev pub related : Relation → List ℤ → Quick
related r xs = with_two (λ x y ys. cond (compared r x y) (on ys) untrue) xs

-- one place of code
abbrev pub quick_step : Env → List ℤ → Code → Quick
quick_step g xs Blank = on xs
quick_step g xs (Number n) = found (ranged (pos n)) xs
quick_step g xs (Name x) = found (ranged (g x)) xs
quick_step g xs Negate = with_one (λ x. found (negated (is x))) xs
quick_step g xs Add = signed Add xs
quick_step g xs Subtract = signed Subtract xs
quick_step g xs Multiply = signed Multiply xs
quick_step g xs Divide = signed Divide xs
quick_step g xs (Compare r) = related r xs

abbrev pub go_on : Quick → (List ℤ → Quick) → Quick
go_on (on xs) f = f xs
go_on untrue f = untrue
go_on given_up f = given_up

abbrev pub quick : Env → List ℤ → List Code → Quick
quick g xs [] = on xs
quick g xs (c ∷ cs) = go_on (quick_step g xs c) (λ ys. quick g ys cs)

-- whether every comparison is true, if that is found
abbrev pub answered : Quick → Option Bool
answered (on xs) = Some true
answered untrue = Some false
answered given_up = None

-- the numbers that are left
abbrev pub left_by : Quick → List ℤ
left_by (on xs) = xs
left_by untrue = []
left_by given_up = []

-- where the code's own record says that numbers get to, with what stands below the latest
abbrev pub reached : Progress → List ℤ → Quick
reached (On last len) below = on (numbers last below len)
reached Untrue below = untrue
reached GivenUp below = given_up

abbrev pub counted : Result ℤ Cause → ℕ → Progress
counted (Ok last) len = On last len
counted (Err c) len = GivenUp

abbrev pub Few : ℕ → Progress → Type 0
Few n (On last len) = len ≤ n
Few n Untrue = Unit {0}
Few n GivenUp = Unit {0}

-- the latest numbers, up to 3, in the order in which they were laid out; 0 for what does not count
abbrev pub latest_one : List ℤ → Option (ℤ × ℤ × ℤ)
latest_one [] = None
latest_one (a ∷ xs) = Some (a, pos 0, pos 0)

abbrev pub latest_two : List ℤ → Option (ℤ × ℤ × ℤ)
latest_two [] = None
latest_two (b ∷ []) = None
latest_two (b ∷ a ∷ xs) = Some (a, b, pos 0)

abbrev pub all_three : List ℤ → Option (ℤ × ℤ × ℤ)
all_three [] = None
all_three (c ∷ []) = None
all_three (c ∷ b ∷ []) = None
all_three (c ∷ b ∷ a ∷ xs) = Some (a, b, c)

abbrev pub latest_three : ℕ → List ℤ → Option (ℤ × ℤ × ℤ)
latest_three zero xs = Some (pos 0, pos 0, pos 0)
latest_three (suc zero) xs = latest_one xs
latest_three (suc (suc zero)) xs = latest_two xs
latest_three (suc (suc (suc n))) xs = all_three xs
