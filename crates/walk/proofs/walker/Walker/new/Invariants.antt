use Rattle.std.proofs.Common.{◌≡◌, ◌≤◌, map, length, reverse, replicate}
use Rattle.rows.specs.Rows.{held}
use Rattle.turtle.specs.Stances.{stance_of}
use Rattle.walk.proofs.walker.Walker.new.Given as goal

-- so many homes are stored as were counted
abbrev pub invariant-loop : goal.invariant-loop
invariant-loop l = (reverse (map stance_of (held l.stored)) ≡ replicate l.counter (stance_of l.home)) × (length (held l.stored) ≡ l.counter) × (l.end ≤ 32)
