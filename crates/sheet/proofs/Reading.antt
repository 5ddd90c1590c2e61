-- A record read back is the segment.
use Rattle.std.proofs.Common.{◌≡◌, ℕ, true, zero, suc, ◌+◌, ◌*◌, ◌/◌, ◌%◌, ◌^◌, ◌<◌, ◌≤◌, ℤ, pos, negsuc, nat_abs, ap, ◌∙◌, pow-suc, arith}
use Rattle.std.proofs.lemmas.Nat.{div-add-mod', div_below}
use Rattle.std.proofs.lemmas.List.Sums.{fold_push}
use Rattle.std.proofs.lemmas.Int.{ints}
use Rattle.std.proofs.lemmas.Bool.Decides.{nat_tests}
use Rattle.turtle.specs.Vectors.{Vector}
use Rattle.turtle.specs.Poses.{all_in_bounds}
use Rattle.turtle.specs.Stances.{number_of, stroke_of}
use Rattle.turtle.specs.declared.direction.Direction.{Direction}
use Rattle.turtle.specs.declared.segment.Segment.{Segment}
use Rattle.sheet.specs.Records.{twos, last_bytes, record_of, number, cut, signed, read_back}

near : (v : Vector) → all_in_bounds v ≡ true → (nat_abs v.x ≤ 30_000) × (nat_abs v.y ≤ 30_000) × (nat_abs v.z ≤ 30_000)
near v h = (grind (arith, nat_tests), grind (arith, nat_tests), grind (arith, nat_tests))

-- a coordinate fits 16 bits
pub fits : (z : ℤ) → nat_abs z ≤ 30_000 → twos 16 z < 2 ^ 16
fits (pos n) h = omega arith
fits (negsuc n) h = omega arith

unsigned : (z : ℤ) → nat_abs z ≤ 30_000 → signed 16 (twos 16 z) ≡ z
unsigned (pos n) h = grind (arith, nat_tests)
unsigned (negsuc n) h = grind (arith, ints, nat_tests)

numbered : (k n : ℕ) → n < 256 ^ k → number (last_bytes k n) ≡ n
numbered zero n h = omega arith
numbered (suc k) n h =
    fold_push (λ n b. n * 256 + b) 0 (last_bytes k (n / 256)) (n % 256)
    ∙ ap (λ (m : ℕ). m * 256 + n % 256) (numbered k (n / 256) (div_below n 256 (256 ^ k) (omega arith) (rw pow-suc at h)))
    ∙ div-add-mod' n 256

module _ (x y z h l : ℕ) (fx : x < 2 ^ 16) (fy : y < 2 ^ 16) (fz : z < 2 ^ 16) (fh : h < 2 ^ 3) (fl : l < 2 ^ 12) where
  abbrev whole : ℕ
  whole = ((((((0 * 2 ^ 16 + x) * 2 ^ 16 + y) * 2 ^ 16 + z) * 2 ^ 3 + h) * 2 ^ 12 + l) * 2 ^ 1 + 0)

  small : whole < 256 ^ 8
  small = omega arith

  pub taken_apart : (cut 48 16 whole ≡ x) × (cut 32 16 whole ≡ y) × (cut 16 16 whole ≡ z) × (cut 13 3 whole ≡ h) × (cut 1 12 whole ≡ l)
  taken_apart = (omega arith, omega arith, omega arith, omega arith, omega arith)

  pub whole_again : number (last_bytes 8 whole) ≡ whole
  whole_again = numbered 8 whole small

-- a direction fits 3 bits
small_number : (d : Direction) → number_of d < 2 ^ 3
small_number d = grind arith

pub reads_back : (s : Segment) → read_back (record_of (stroke_of s)) ≡ stroke_of s
unfolding record_of
reads_back s =
    let v = stroke_of s in
    let b = near v.start s.start.near in
    let fx = fits v.start.x b.0 in
    let fy = fits v.start.y b.1 in
    let fz = fits v.start.z b.2 in
    let fh = small_number s.heading in
    let fl : v.length < 2 ^ 12 = omega (arith, s.short) in
    let p = taken_apart (twos 16 v.start.x) (twos 16 v.start.y) (twos 16 v.start.z) v.heading v.length fx fy fz fh fl in
    let w = whole_again (twos 16 v.start.x) (twos 16 v.start.y) (twos 16 v.start.z) v.heading v.length fx fy fz fh fl in
    rw (w, p.0, p.1, p.2, p.3, p.4, unsigned v.start.x b.0, unsigned v.start.y b.1, unsigned v.start.z b.2)
