-- What a generation has still to tell is lawful in every state, where what it reads is.
use Rattle.std.proofs.Common.{◌≡◌, ℕ, suc, ◌+◌, ◌≤◌, true, false, not, ◌&&◌, eqb, leb, List, [], ◌∷◌, ◌++◌, length, Some, None, Option, sym, refl, subst, arith, length-append}
use Rattle.std.proofs.lemmas.Bool.{and_parts, and_from, leb-true, le-leb, eqb-true, cond_both}
use Rattle.std.proofs.lemmas.Bool.Decides.{nat_tests}
use Rattle.word.specs.Symbols.{Symbol, is_close, is_bracket, valid}
use Rattle.word.specs.Words.{Ending, clean, broken, Told, after, all_valid, nested, in_bounds}
use Rattle.word.proofs.Joined.{valid_append}
use Rattle.book.specs.Books.{Book}
use Rattle.books.specs.Ahead.{looks_ahead}
use Rattle.books.specs.Outcomes.{Outcome, itself, grown, fault, becomes}
use Rattle.books.specs.Nesting.{balanced, deepest}
use Rattle.generation.specs.Generations.{next, Part, adds, stops, found, added, worked, unless, followed, fault_of, generated}
use Rattle.generation.specs.Stream.{Table, passed, Look, neighbour, closed, ended, spent, scan, turn_with, turn_by, turn, streamed, onward}
use Rattle.generation.specs.Laws.{Tidy, StaysLawful}
use Rattle.generation.specs.Goes.{GoesOn}
use Rattle.generation.proofs.Causes.{SmallOutcome, small_cause}
use Rattle.generation.proofs.Agreement.{after_plain, streams_agree}

-- brackets that close, put inside d others
pub after_inside : (d x : ℕ) (s : Symbol) → not (is_close s.letter && eqb x 0) ≡ true → after (d + x) s ≡ d + after x s
after_inside d x s h = grind (arith, nat_tests)

pub inside : (d x : ℕ) (v w : List Symbol) (e : Ending) → balanced x v ≡ true → d + deepest x v ≤ 32 → nested d w e ≡ true → nested (d + x) (v ++ w) e ≡ true
inside d x [] w e b h r = let same : d + x ≡ d = omega (arith, eqb-true x 0 b) in rw same r
inside d x (s ∷ v) w e b h r =
    let parts = and_parts (not (is_close s.letter && eqb x 0)) (balanced (after x s) v) b in
    let deeper : not (is_close s.letter && eqb (d + x) 0) ≡ true = grind (arith, nat_tests) in
    let rest = inside d (after x s) v w e parts.1 (omega arith) r in
    and_from (leb (d + x) 32) _ (le-leb (d + x) 32 (omega arith))
    (and_from _ _ deeper (subst (λ (y : ℕ). nested y (v ++ w) e ≡ true) (sym (after_inside d x s parts.0)) rest))

-- a part of a lawful told word: of the module s at depth d, behind n modules
abbrev pub Good : ℕ → ℕ → Symbol → Part → Type 0
Good n d s (stops f) = in_bounds (broken f) ≡ true
Good n d s (adds v) =
    (all_valid v ≡ true)
    × (n + length v ≤ 16_000_000)
    × ((w : List Symbol) (e : Ending) → nested (after d s) w e ≡ true → nested d (v ++ w) e ≡ true)

followed_on : (n d : ℕ) (s : Symbol) (p : Part) (rest : ℕ → Told) → n ≤ 16_000_000 → d ≤ 32 → Good n d s p → ((more : ℕ) → n + more ≤ 16_000_000 → GoesOn (n + more) (after d s) (rest more)) → GoesOn n d (followed p rest)
followed_on n d s (stops f) rest room low good h = record {
  modules = refl;
  brackets = le-leb d 32 low;
  ending = good;
  few = omega arith;
}
followed_on n d s (adds v) rest room low good h =
    let t : Told = rest (length v) in
    let on : GoesOn (n + length v) (after d s) t = h (length v) good.1 in
    record {
      modules = valid_append v t.modules good.0 on.modules;
      brackets = good.2 t.modules t.ending on.brackets;
      ending = on.ending;
      few = omega (arith, length-append v t.modules, on.few);
    }

module _ (b : Book) (tidy : Tidy b) (g : ℕ) (ending : Ending) (bounded : in_bounds ending ≡ true) where
  module _ (n i d : ℕ) (s : Symbol) (within : i ≤ 16_000_000) (low : d ≤ 32) (is_valid : valid s ≡ true) (closes : not (is_close s.letter && eqb d 0) ≡ true) where
    good_fault : (c : ℕ) → c ≤ 255 → Good n d s (stops (found g i c))
    good_fault c h =
        and_from (leb c 255) _ (le-leb c 255 h)
        (and_from (leb (next g) 255) _ (le-leb (next g) 255 (omega arith))
        (and_from (leb 1 (suc i)) _ (le-leb 1 (suc i) (omega arith)) (le-leb (suc i) 16_000_001 (omega arith))))

    good_added : (v : List Symbol) → all_valid v ≡ true → ((w : List Symbol) (e : Ending) → nested (after d s) w e ≡ true → nested d (v ++ w) e ≡ true) → Good n d s (added g n i v)
    good_added v a h =
        cond_both (leb (n + length v) 16_000_000) _ _ (Good n d s)
        (λ e. (a, leb-true (n + length v) 16_000_000 e, h))
        (λ e. good_fault 34 (omega arith))

    good_itself : Good n d s (added g n i (s ∷ []))
    good_itself =
        good_added (s ∷ []) (and_from (valid s) true is_valid refl)
        (λ w e h. and_from (leb d 32) _ (le-leb d 32 low) (and_from _ _ closes h))

    module _ (plain : is_bracket s.letter ≡ false) (l : Option Symbol) where
      good_with : (r : Option Symbol) → Good n d s (turn_with b g ending n i d l s r)
      good_with r = go (becomes l s r b.rules) refl (small_cause l s r b.rules)
        where
          go : (o : Outcome) → becomes l s r b.rules ≡ o → SmallOutcome o → Good n d s (worked g n i d s o)
          go itself e h = good_itself
          go (fault c) e h = good_fault c h
          go (grown v) e h =
              let neat = tidy l s r v e in
              cond_both (leb (d + deepest 0 v) 32) _ _ (Good n d s)
              (λ deep.
              good_added v neat.1
              (λ w x k.
              let same : d + 0 ≡ d = omega arith in
              rw same at (inside d 0 v w x neat.0 (leb-true (d + deepest 0 v) 32 deep)
              (subst (λ (y : ℕ). nested y w x ≡ true) (after_plain d s plain) k))))
              (λ _. good_fault 33 (omega arith))

      good_by : (x : Look) → Good n d s (turn_by b g ending n i d l s x)
      good_by (neighbour x) = good_with (Some x)
      good_by closed = good_with None
      good_by ended = go ending bounded
        where
          go : (e : Ending) → in_bounds e ≡ true → Good n d s (unless (fault_of e) (turn_with b g ending n i d l s None))
          go clean h = good_with None
          go (broken f) h = h
      good_by spent = good_fault 30 (omega arith)

    pub good_turn : (l : Option Symbol) (w : List Symbol) → Good n d s (turn b g ending n i d l s w)
    good_turn l w =
        cond_both (is_bracket s.letter) _ _ (Good n d s) (λ _. good_itself)
        (λ plain.
        cond_both (looks_ahead s b.rules) _ _ (Good n d s)
        (λ _. good_by plain l (scan b.ignored 64 0 w)) (λ _. good_with plain l None))

  -- in every state, reached or not
  pub goes_on : (n i d : ℕ) (t : Table Symbol) (w : List Symbol) → n ≤ 16_000_000 → i ≤ 16_000_000 → all_valid w ≡ true → nested d w ending ≡ true → GoesOn n d (streamed b g ending n i d t w)
  goes_on n i d t [] room short are nest = record { modules = refl; brackets = nest; ending = bounded; few = omega arith }
  goes_on n i d t (s ∷ w) room short are nest =
      let valids = and_parts (valid s) (all_valid w) are in
      let here = and_parts (leb d 32) _ nest in
      let later = and_parts (not (is_close s.letter && eqb d 0)) _ here.1 in
      let low : d ≤ 32 = leb-true d 32 here.0 in
      followed_on n d s _ _ room low
      (good_turn n i d s (omega arith) low valids.0 later.0 (t d) w)
      (λ more fits. goes_on (n + more) (onward i) (after d s) (passed b.ignored d s s t) w fits (omega arith) valids.1 later.1)

pub stays_lawful : StaysLawful
stays_lawful b tidy m h =
    let on : GoesOn 0 m.opened (generated b m).told =
    subst (GoesOn 0 m.opened) (streams_agree b m h)
    (goes_on b tidy m.generation m.told.ending h.ending 0 0 m.opened (λ e. None) m.told.modules
    (omega arith) (omega arith) h.modules h.brackets) in
    record {
      modules = on.modules;
      brackets = on.brackets;
      ending = on.ending;
      few = omega (arith, on.few);
      shallow = h.shallow;
      generation = omega arith;
    }
