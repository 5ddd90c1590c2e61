-- The laws of turning, each by a test computed over the 24 orientations.
use Rattle.std.proofs.Common.{◌≡◌, ℕ, ◌<◌, Bool, true, eqb, ltb, ℤ, pos, nat_abs, sym, refl, ap, ◌∙◌, arith}
use Rattle.std.proofs.lemmas.Int.{ints}
use Rattle.std.proofs.lemmas.Bool.{eqb-true, ltb-true, agree_below, agree_below_at}
use Rattle.std.proofs.lemmas.Bool.Decides.{nat_tests}
use Rattle.turtle.specs.Vectors.{dot}
use Rattle.turtle.specs.Turns.{faces, faces_so, rotated, oriented, reoriented}
use Rattle.turtle.specs.Table.{every_turn}
use Rattle.turtle.specs.Laws.{Turning}
use Rattle.turtle.specs.Poses.{Stance}
use Rattle.turtle.specs.Stances.{Turned}
use Rattle.turtle.specs.declared.turn.Turn.{Turn}
use Rattle.turtle.specs.declared.turn.Turn.TheVariants.{Left, Right, Down, Up, RollLeft, RollRight, About}
use Rattle.turtle.proofs.Tests.{faces_so_true, at_turn}

-- what passes a test at all 24 orientations passes it at each
at_each : (p : ℕ → Bool) → agree_below p (λ n. true) 24 ≡ true → (n : ℕ) → n < 24 → p n ≡ true
at_each p h n l = agree_below_at p (λ n. true) 24 n h l

-- a map of orientations that leaves each as it is
still : (f : ℕ → ℕ) → agree_below (λ n. eqb (f n) n) (λ n. true) 24 ≡ true → (n : ℕ) → n < 24 → f n ≡ n
still f h n l = eqb-true (f n) n (at_each (λ n. eqb (f n) n) h n l)

each : (p : Turn → ℕ → Bool) → agree_below (λ n. every_turn (λ t. p t n)) (λ n. true) 24 ≡ true → (t : Turn) (n : ℕ) → n < 24 → p t n ≡ true
each p h t n l = at_turn (λ t. p t n) (at_each (λ n. every_turn (λ t. p t n)) h n l) t

none : (z : ℤ) → eqb (nat_abs z) 0 ≡ true → z ≡ pos 0
none z h = grind (arith, ints, nat_tests)

abbrev four_times : Turn → ℕ → ℕ
four_times t n = reoriented t (reoriented t (reoriented t (reoriented t n)))

pub turning : Turning
unfolding oriented reoriented
turning = record {
  numbered = still (λ n. oriented (faces n)) refl;
  apart = λ n h. none (dot (faces n).ahead (faces n).left) (at_each (λ n. eqb (nat_abs (dot (faces n).ahead (faces n).left)) 0) refl n h);
  known = λ t n h. ltb-true (reoriented t n) 24 (each (λ t n. ltb (reoriented t n) 24) refl t n h);
  ruled = λ t n h. faces_so_true (rotated t (faces n)) (reoriented t n) (each (λ t n. faces_so (rotated t (faces n)) (reoriented t n)) refl t n h);
  four = λ t n h. eqb-true (four_times t n) n (each (λ t n. eqb (four_times t n) n) refl t n h);
  left_right = still (λ n. reoriented Right (reoriented Left n)) refl;
  down_up = still (λ n. reoriented Up (reoriented Down n)) refl;
  rolls = still (λ n. reoriented RollRight (reoriented RollLeft n)) refl;
  about_twice = still (λ n. reoriented About (reoriented About n)) refl;
  home_left = refl;
  home_down = refl;
}

-- the vector rule has one answer
pub turned_so : (s s' : Stance) (t : Turn) → Turned s t s' → s' ≡ record { place = s.place; orientation = reoriented t s.orientation }
unfolding reoriented
turned_so s s' t h =
    let n : s'.orientation ≡ reoriented t s.orientation = sym (turning.numbered s'.orientation h.known) ∙ ap oriented h.faces in
    rw (← h.place, ← n)
