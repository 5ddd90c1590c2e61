-- Count and space of a sheet never pass the most that it holds. A lemma of the law of sheets: internal.
use Rattle.std.specs.Prelude.{ℕ, ◌+◌, ◌-◌, ◌/◌, ◌≤◌, min, List, length}
use Rattle.std.proofs.Common.{arith}

pub stays_few : (space count : ℕ) → space ≤ 16_000_000 → count ≤ 16_000_000 → count + (space - count) ≤ 16_000_000
stays_few space count h k = omega arith

pub room_few : (b : List ℕ) → min (length b / 8) 16_000_000 ≤ 16_000_000
room_few b = omega arith
