-- The cause of a fault that rules come to is at most 255.
use Rattle.std.proofs.Common.{◌≤◌, Bool, true, false, cond, eqb, List, [], ◌∷◌, ℤ, pos, ◌+ℤ◌, ◌-ℤ◌, ◌*ℤ◌, neg_ℤ, nat_abs, Some, None, Option, arith}
use Rattle.word.specs.Symbols.{Symbol, in_range}
use Rattle.expr.specs.declared.code.Relation.{Relation}
use Rattle.expr.specs.Values.{Expr, number, name, minus, plus, less, times, over, Value, is, wrong, Env, ranged, quotient, divided, both, negated, value, compared, Comparison, Verdict, passes, fails, faults, judged, then, guard, Arguments, made, spoilt, arguments}
use Rattle.expr.specs.Values as values
use Rattle.book.specs.Rules.{Piece, Rule, names_at}
use Rattle.book.specs.Winners.{says, winner}
use Rattle.books.specs.Outcomes.{Outcome, itself, grown, fault, with_first, successor, by_verdict, by_rule, becomes}

-- of a value, a verdict, arguments and an outcome
abbrev Small : Value → Type 0
Small (is x) = Unit {0}
Small (wrong c) = c ≤ 255

abbrev SmallVerdict : Verdict → Type 0
SmallVerdict passes = Unit {0}
SmallVerdict fails = Unit {0}
SmallVerdict (faults c) = c ≤ 255

abbrev SmallArguments : Arguments → Type 0
SmallArguments (made xs) = Unit {0}
SmallArguments (spoilt c) = c ≤ 255

abbrev pub SmallOutcome : Outcome → Type 0
SmallOutcome itself = Unit {0}
SmallOutcome (grown w) = Unit {0}
SmallOutcome (fault c) = c ≤ 255

small_ranged : (z : ℤ) → Small (ranged z)
small_ranged z = go (in_range z)
  where
    go : (t : Bool) → Small (cond t (is z) (wrong 32))
    go true = tt
    go false = omega arith

small_divided : (y z : ℤ) → Small (divided y z)
small_divided y z = go (eqb (nat_abs z) 0)
  where
    go : (t : Bool) → Small (cond t (wrong 31) (ranged (quotient y z)))
    go true = omega arith
    go false = small_ranged (quotient y z)

small_both : (v w : Value) (f : ℤ → ℤ → Value) → Small v → Small w → ((y z : ℤ) → Small (f y z)) → Small (both v w f)
small_both (wrong c) w f a b h = a
small_both (is y) (wrong c) f a b h = b
small_both (is y) (is z) f a b h = h y z

small_negated : (v : Value) → Small v → Small (negated v)
small_negated (is y) a = small_ranged (neg_ℤ y)
small_negated (wrong c) a = a

small_value : (g : Env) (e : Expr) → Small (value g e)
small_value g (number n) = small_ranged (pos n)
small_value g (name x) = small_ranged (g x)
small_value g (minus e) = small_negated (value g e) (small_value g e)
small_value g (plus a b) = small_both (value g a) (value g b) (λ x y. ranged (x +ℤ y)) (small_value g a) (small_value g b) (λ y z. small_ranged (y +ℤ z))
small_value g (less a b) = small_both (value g a) (value g b) (λ x y. ranged (x -ℤ y)) (small_value g a) (small_value g b) (λ y z. small_ranged (y -ℤ z))
small_value g (times a b) = small_both (value g a) (value g b) (λ x y. ranged (x *ℤ y)) (small_value g a) (small_value g b) (λ y z. small_ranged (y *ℤ z))
small_value g (over a b) = small_both (value g a) (value g b) divided (small_value g a) (small_value g b) small_divided

small_judged : (r : Relation) (v w : Value) → Small v → Small w → SmallVerdict (judged r v w)
small_judged r (wrong c) w a b = a
small_judged r (is x) (wrong c) a b = b
small_judged r (is x) (is y) a b = go (compared r x y)
  where
    go : (t : Bool) → SmallVerdict (cond t passes fails)
    go true = tt
    go false = tt

small_then : (v w : Verdict) → SmallVerdict v → SmallVerdict w → SmallVerdict (then v w)
small_then passes w a b = b
small_then fails w a b = tt
small_then (faults c) w a b = a

small_guard : (g : Env) (cs : List Comparison) → SmallVerdict (guard g cs)
small_guard g [] = tt
small_guard g (c ∷ cs) =
    small_then (judged c.relation (value g c.first) (value g c.second)) (guard g cs)
    (small_judged c.relation (value g c.first) (value g c.second) (small_value g c.first) (small_value g c.second))
    (small_guard g cs)

small_arguments : (g : Env) (es : List Expr) → SmallArguments (arguments g es)
small_arguments g [] = tt
small_arguments g (e ∷ es) = go (value g e) (arguments g es) (small_value g e) (small_arguments g es)
  where
    go : (v : Value) (a : Arguments) → Small v → SmallArguments a → SmallArguments (values.with_first v a)
    go (wrong c) a h k = h
    go (is x) (made xs) h k = tt
    go (is x) (spoilt c) h k = k

small_successor : (g : Env) (ps : List Piece) → SmallOutcome (successor g ps)
small_successor g [] = tt
small_successor g (p ∷ ps) = go (arguments g p.arguments) (successor g ps) (small_arguments g p.arguments) (small_successor g ps)
  where
    go : (a : Arguments) (o : Outcome) → SmallArguments a → SmallOutcome o → SmallOutcome (with_first p.letter a o)
    go (spoilt c) o h k = h
    go (made xs) itself h k = tt
    go (made xs) (grown w) h k = tt
    go (made xs) (fault c) h k = k

pub small_cause : (l : Option Symbol) (s : Symbol) (r : Option Symbol) (us : List Rule) → SmallOutcome (becomes l s r us)
small_cause l s r us = go (winner l s r us)
  where
    by : (u : Rule) (v : Verdict) → SmallVerdict v → SmallOutcome (by_verdict l s r v u)
    by u passes h = small_successor (names_at l s r u) u.successor
    by u fails h = tt
    by u (faults c) h = h

    go : (o : Option Rule) → SmallOutcome (by_rule l s r o)
    go None = tt
    go (Some u) = by u (says l s r u) (small_guard (names_at l s r u) u.guarded)
