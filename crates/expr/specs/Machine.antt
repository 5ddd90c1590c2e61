-- Code worked out on values one place at a time. Internal.
use Rattle.std.specs.Prelude.{cond, List, ◌∷◌, map, length, ℤ, pos, ◌+ℤ◌, ◌-ℤ◌, ◌*ℤ◌, Ok, Err, Result, nat_lt, reverse}
use Rattle.rows.specs.Rows.{held as filled}
use Rattle.expr.specs.declared.code.Code.{Code}
use Rattle.expr.specs.declared.code.Code.TheVariants.{Blank, Number, Name, Negate, Add, Subtract, Multiply, Divide, Compare}
use Rattle.expr.specs.declared.computed.Cause.{Cause}
use Rattle.expr.specs.declared.values.Values.{Values}
use Rattle.expr.specs.Values.{Value, is, Env, ranged, divided, both, negated, judged, Verdict, passes}
use Rattle.expr.specs.Codes.{top, below}
use Rattle.expr.specs.Records.{value_of}

-- the values held, the latest first
abbrev pub held : Values → List Value
held s = map value_of (reverse (filled s.values))

-- at most 200 values are held
abbrev pub pushed : Value → List Value → List Value
pushed v vs = cond (nat_lt (length vs) 200) (v ∷ vs) vs

abbrev pub binary : Code → Value → Value → Value
binary Add x y = both x y (λ a b. ranged (a +ℤ b))
binary Subtract x y = both x y (λ a b. ranged (a -ℤ b))
binary Multiply x y = both x y (λ a b. ranged (a *ℤ b))
binary Divide x y = both x y divided
binary Blank x y = x
binary (Number n) x y = x
binary (Name c) x y = x
binary Negate x y = x
binary (Compare r) x y = x

abbrev pub two : Code → List Value → List Value
two c vs = pushed (binary c (top (is (pos 0)) (below vs)) (top (is (pos 0)) vs)) (below (below vs))

-- one place of code, on values
abbrev pub step : Env → List Value → Code → List Value
step g vs Blank = vs
step g vs (Number n) = pushed (ranged (pos n)) vs
step g vs (Name x) = pushed (ranged (g x)) vs
step g vs Negate = pushed (negated (top (is (pos 0)) vs)) (below vs)
step g vs Add = two Add vs
step g vs Subtract = two Subtract vs
step g vs Multiply = two Multiply vs
step g vs Divide = two Divide vs
step g vs (Compare r) = below (below vs)

-- what a place of code decides by itself: only a comparison does
abbrev pub decides : List Value → Code → Verdict
decides vs (Compare r) = judged r (top (is (pos 0)) (below vs)) (top (is (pos 0)) vs)
decides vs _ = passes

-- three values, or the cause of the first fault
abbrev pub gathered : Result ℤ Cause → Result ℤ Cause → Result ℤ Cause → Result (ℤ × ℤ × ℤ) Cause
gathered (Err x) b c = Err x
gathered (Ok a) (Err x) c = Err x
gathered (Ok a) (Ok b) (Err x) = Err x
gathered (Ok a) (Ok b) (Ok c) = Ok (a, b, c)
