-- What a pruner has still to tell is lawful in every state, where what the source below means is.
use Rattle.std.specs.Prelude.{◌≡◌, ℕ, suc, ◌≤◌, true, false, not, ◌&&◌, List, [], ◌∷◌, length, ◌==◌, nat_le, refl}
use Rattle.std.proofs.Common.{arith}
use Rattle.std.proofs.lemmas.Bool.Decides.{nat_tests}
use Rattle.std.proofs.lemmas.Bool.{and_parts, and_from, cond_both}
use Rattle.word.specs.Symbols.{Symbol, is_close, valid}
use Rattle.word.specs.Words.{Ending, clean, broken, Meaning, after, all_valid, nested, Lawful}
use Rattle.pruner.specs.declared.state.State.{State}
use Rattle.pruner.specs.declared.state.State.TheVariants.{Passing, Dropping}
use Rattle.pruner.specs.Streaming.{drops, falls, streamed, open_in, left_in}

-- a dropped module leaves the brackets that are open outside the cut as they were
pub open_drops : (q : State) (d : ℕ) (s : Symbol) → drops q d s ≡ true → open_in (falls q d) (after d s) ≡ open_in q d
open_drops Passing d s e = grind (arith, nat_tests)
open_drops (Dropping c) d s e = grind (arith, nat_tests)

-- where a module is passed on, as many are open outside the cut as below
pub open_passes : (q : State) (d : ℕ) (s : Symbol) → drops q d s ≡ false → open_in q d ≡ d
open_passes Passing d s e = refl
open_passes (Dropping c) d s e = grind (arith, nat_tests)

open_shallow : (q : State) (d : ℕ) → open_in q d ≤ d
open_shallow Passing d = omega arith
open_shallow (Dropping c) d = omega arith

ends_nested : (q : State) (d : ℕ) (e : Ending) → nested d [] e ≡ true → nested (open_in q d) [] e ≡ true
ends_nested Passing d e h = h
ends_nested (Dropping c) d clean h = grind (arith, nat_tests)
ends_nested (Dropping c) d (broken f) h = grind (arith, nat_tests)

streamed_nested : (q : State) (d : ℕ) (w : List Symbol) (e : Ending) → nested d w e ≡ true → nested (open_in q d) (streamed q d w) e ≡ true
streamed_nested q d [] e h = ends_nested q d e h
streamed_nested q d (s ∷ w) e h =
    let here = and_parts (nat_le d 32) _ h in
    let later = and_parts (not (is_close s.letter && d == 0)) _ here.1 in
    cond_both (drops q d s) _ _ (λ v. nested (open_in q d) v e ≡ true)
    (λ is. rw (open_drops q d s is) at (streamed_nested (falls q d) (after d s) w e later.1))
    (λ is. rw (open_passes q d s is) (and_from _ _ here.0 (and_from _ _ later.0 (streamed_nested Passing (after d s) w e later.1))))

streamed_valid : (q : State) (d : ℕ) (w : List Symbol) → all_valid w ≡ true → all_valid (streamed q d w) ≡ true
streamed_valid q d [] h = refl
streamed_valid q d (s ∷ w) h =
    let parts = and_parts (valid s) (all_valid w) h in
    cond_both (drops q d s) _ _ (λ v. all_valid v ≡ true)
    (λ _. streamed_valid (falls q d) (after d s) w parts.1)
    (λ _. and_from _ _ parts.0 (streamed_valid Passing (after d s) w parts.1))

streamed_few : (q : State) (d : ℕ) (w : List Symbol) → length (streamed q d w) ≤ length w
streamed_few q d [] = omega arith
streamed_few q d (s ∷ w) =
    cond_both (drops q d s) _ _ (λ v. length v ≤ suc (length w))
    (λ _. omega (arith, streamed_few (falls q d) (after d s) w))
    (λ _. omega (arith, streamed_few Passing (after d s) w))

pub lawful_in : (q : State) (m : Meaning) → Lawful m → Lawful (left_in q m)
lawful_in q m l = record {
  modules = streamed_valid q m.opened m.told.modules l.modules;
  brackets = streamed_nested q m.opened m.told.modules m.told.ending l.brackets;
  ending = l.ending;
  few = omega (arith, streamed_few q m.opened m.told.modules);
  shallow = omega (arith, open_shallow q m.opened);
  generation = l.generation;
}
