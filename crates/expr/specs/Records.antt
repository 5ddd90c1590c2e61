-- What the records of the code mean.
use Rattle.std.specs.Prelude.{◌≡◌, ℕ, zero, suc, ◌-◌, ◌<◌, Bool, true, false, cond, ◌&&◌, List, [], ◌∷◌, take, ℤ, pos, Ok, Err, Result, nat_le, slice_index_or}
use Rattle.expr.specs.declared.computed.Cause.{Cause}
use Rattle.expr.specs.declared.computed.Cause.TheVariants.{DividedByZero, OutOfRange}
use Rattle.expr.specs.declared.names.Names.{Names}
use Rattle.expr.specs.declared.stack.Stack.{Stack}
use Rattle.expr.specs.Values.{Value, is, wrong, Env, Verdict, passes, fails, faults, Arguments, made, spoilt}

abbrev pub cause_number : Cause → ℕ
cause_number DividedByZero = 31
cause_number OutOfRange = 32

-- what an expression comes to
abbrev pub value_of : Result ℤ Cause → Value
value_of (Ok x) = is x
value_of (Err c) = wrong (cause_number c)

-- what a guard comes to
abbrev pub verdict_of : Result Bool Cause → Verdict
verdict_of (Ok true) = passes
verdict_of (Ok false) = fails
verdict_of (Err c) = faults (cause_number c)

abbrev pub is_name : ℕ → Bool
is_name c = nat_le 97 c && nat_le c 122

abbrev pub env_of : Names → Env
env_of n x = cond (is_name x) (slice_index_or n.values (x - 97) (pos 0)) (pos 0)

-- the arguments that a result holds, of which the first `count` count
abbrev pub arguments_of : ℕ → Result (ℤ × ℤ × ℤ) Cause → Arguments
arguments_of count (Ok t) = made (take count (t.0 ∷ t.1 ∷ t.2 ∷ []))
arguments_of count (Err c) = spoilt (cause_number c)

-- what does not count is 0
abbrev pub Spare : ℕ → Result (ℤ × ℤ × ℤ) Cause → Type 0
Spare count (Ok t) = (count < 1 → t.0 ≡ pos 0) × (count < 2 → t.1 ≡ pos 0) × (count < 3 → t.2 ≡ pos 0)
Spare count (Err c) = Unit {0}

-- so many numbers, the latest first; of those below the first, the n-th from the bottom stands at place n
abbrev pub numbers : ℤ → List ℤ → ℕ → List ℤ
numbers last below zero = []
numbers last below (suc n) = last ∷ numbers (slice_index_or below n (pos 0)) below n

-- the numbers on a stack, the latest first
abbrev pub on_stack : Stack → List ℤ
on_stack s = numbers s.last s.below s.len
