-- The law of a plot on a pile.
use Rattle.std.proofs.Common.{◌≡◌, ℕ, Bool, true, false, cond, not, ◌&&◌, eqb, ltb, List, [], ◌∷◌, ◌++◌, map, length, take, drop, sym, refl, ap, ◌∙◌, subst, arith, length-append, append-nil, append_assoc}
use lib.ListN.{length-replicate}
use Rattle.std.proofs.lemmas.Bool.{cond-true, eq-eqb, both_ways}
use Rattle.word.specs.Symbols.{Symbol, is_close}
use Rattle.word.specs.Words.{Ending, clean, Meaning, nested, Lawful}
use Rattle.turtle.specs.Poses.{Stance, Stroke, home}
use Rattle.turtle.specs.Deeds.{Deed, goes, draws, breaks, deed}
use Rattle.sheet.specs.Sheets.{Content, with_stroke}
use Rattle.report.specs.declared.ending.Ending.{Ending as Latest}
use Rattle.report.specs.declared.ending.Ending.TheVariants.{Open}
use Rattle.generation.specs.Generations.{generated}
use Rattle.walk.specs.Walks.{Walk, start, strokes, walked, walk_over}
use Rattle.walk.specs.Walkers.{sheet_after, Drawing, walk_report}
use Rattle.walk.proofs.Onwards.{behind, nest_first, nest_behind, stored_behind}
use Rattle.books.specs.Loading.{taken, Reordered}
use Rattle.books.proofs.Loading.{law as loading}
use Rattle.plot.specs.Views.{View, New, Answer, took, ended, no_space, Over}
use Rattle.plot.specs.Runs.{wrote, refused, Event, stepped, stood, reported, Does, Run}
use Rattle.plot.specs.Piles.{Layer, grows, prunes, Loaded, layered, piled, Alike}
use Rattle.plot.specs.Positions.{Call, to_step, to_stand, to_report, call, met, met_by, ended_by, written, walk_at, answered, taken_by, taken_in, all_taken, heard_by, heard_in, heard, put_in, all_put, seen, to_come, Asked, for_step, for_place, for_report, asked_by, asked, Given, a_step, a_place, a_report, given}
use Rattle.plot.specs.Law.{Draws, After, Law}
use Rattle.plot.proofs.Coming.{comes_first}
use Rattle.plot.proofs.Walking.{On, answers, one_goes, new_on}

-- the front and the rest of a list
front : {A : Type 0} (a b : List A) → take (length a) (a ++ b) ≡ a
front [] b = refl
front (x ∷ a) b = ap (λ l. x ∷ l) (front a b)

rest : {A : Type 0} (a b : List A) → drop (length a) (a ++ b) ≡ b
rest [] b = refl
rest (x ∷ a) b = rest a b

nothing_left : {A : Type 0} (a b : List A) → a ++ b ≡ a → b ≡ []
nothing_left a b e = none b (omega (arith, ap length e, length-append a b))
  where
    none : {A : Type 0} (l : List A) → length l ≡ 0 → l ≡ []
    none [] h = refl
    none (x ∷ l) h = absurd (omega (arith, h))

over_none : (v : View) (e : Ending) → Over v e → to_come v ≡ []
over_none v e o = λ i. seen (o.0 i) (o.1 i)

-- a deed that draws
drawing_is : (x : Deed) → Drawing x → (k : Stroke) × (s : Stance) × (x ≡ draws k s)
drawing_is (goes s) d = absurd d
drawing_is (draws k s) d = (k, s, refl)
drawing_is (breaks n) d = absurd d

-- after a list of events
module _ (w : Meaning) (lawful : Lawful w) where
  runs_on : (done : List Symbol) (l : Latest) (v : View) → On w done l v → (es : List Event) (u : View) → Run v es u →
      On w (done ++ all_taken es) (heard l es) u × (strokes (start w.opened) (done ++ all_taken es) ≡ strokes (start w.opened) done ++ all_put es)
  runs_on done l v on [] u same =
      (subst (λ d. On w d l u) (sym (append-nil done)) (subst (On w done l) (sym same) on), ap (strokes (start w.opened)) (append-nil done) ∙ sym (append-nil (strokes (start w.opened) done)))
  runs_on done l v on (e ∷ es) u (m, (d, r)) =
      let one = one_goes w lawful done l v on e m d in
      let more = runs_on (done ++ taken_in e) (heard_in l e) m one.on es u r in
      let together = append_assoc done (taken_in e) (all_taken es) in (
        subst (λ x. On w x (heard (heard_in l e) es) u) together more.0,
        ap (strokes (start w.opened)) (sym together) ∙ more.1 ∙ (λ i. one.put i ++ all_put es) ∙ append_assoc (strokes (start w.opened) done) (put_in e) (all_put es),
      )

  module _ (done : List Symbol) (l : Latest) (v : View) (on : On w done l v) where
    abbrev n : ℕ
    n = length done

    done_is : done ≡ take n w.told.modules
    done_is = sym (front done (to_come v)) ∙ ap (take n) on.modules

    come_is : to_come v ≡ drop n w.told.modules
    come_is = sym (rest done (to_come v)) ∙ ap (drop n) on.modules

    walk_is : v.walk ≡ walk_at w n
    walk_is = on.walk ∙ ap (walk_over w.opened) done_is

    same_answer : (c : Call) → answers w done l (to_come v) c ≡ answered w n l c
    same_answer (to_step c) = λ i. met w n (walk_over w.opened (done_is i)) c (come_is i)
    same_answer to_stand = λ i. stood (walk_over w.opened (done_is i)).turtle.stance
    same_answer (to_report b) = λ i. written (walk_report n (walk_over w.opened (done_is i)) l) b

    pub answer_is : (e : Event) (v' : View) → Does v e v' → e ≡ answered w n l (call e)
    answer_is e v' d = (one_goes w lawful done l v on e v' d).answer ∙ same_answer (call e)

    -- of a step
    module _ (c c' : Content) (a : Answer) (v' : View) (does : Does v (stepped c a c') v') where
      event_is : (ms : List Symbol) → to_come v ≡ ms → stepped c a c' ≡ met w n (walk_over w.opened done) c ms
      event_is ms e = (one_goes w lawful done l v on (stepped c a c') v' does).answer ∙ ap (met w n (walk_over w.opened done) c) e

      ends : a ≡ ended → (done ≡ w.told.modules) × (w.told.ending ≡ clean)
      ends is =
          let d : Does v (stepped c ended c') v' = subst (λ x. Does v (stepped c x c') v') is does in
          (sym (append-nil done) ∙ (λ i. done ++ sym (over_none v clean d.0) i) ∙ on.modules, sym on.ending ∙ d.0.2)

      ends_so : done ≡ w.told.modules → w.told.ending ≡ clean → a ≡ ended
      ends_so all e =
          let none : to_come v ≡ [] = nothing_left done (to_come v) (on.modules ∙ sym all) in
          let same : stepped c a c' ≡ stepped c ended c = event_is [] none ∙ (λ i. stepped c (ended_by (e i)) c) in
          cc

      full : a ≡ no_space → (m : Symbol) × (ms : List Symbol) × (k : Stroke) × (drop n w.told.modules ≡ m ∷ ms) × Draws w n m k × (c.space ≡ 0)
      full is =
          let d : Does v (stepped c no_space c') v' = subst (λ x. Does v (stepped c x c') v') is does in
          let m = d.0.0 in
          let holds = d.0.2 in
          let draws_there = drawing_is (deed m (walk_at w n).turtle.stance) (subst Drawing (ap (λ (x : Walk). deed m x.turtle.stance) walk_is) d.0.1) in
          (m, v'.source.told.modules, draws_there.0, sym come_is ∙ comes_first v.held v.source m v'.source holds.0, (draws_there.1, draws_there.2), d.1)

      full_so : (m : Symbol) (ms : List Symbol) (k : Stroke) → drop n w.told.modules ≡ m ∷ ms → Draws w n m k → c.space ≡ 0 → a ≡ no_space
      full_so m ms k first d z =
          let is : deed m (walk_over w.opened done).turtle.stance ≡ draws k d.0 = (λ i. deed m (walk_over w.opened (done_is i)).turtle.stance) ∙ d.1 in
          let same : stepped c a c' ≡ stepped c no_space c =
          event_is (m ∷ ms) (come_is ∙ first)
          ∙ ap (met_by w n c m) is
          ∙ cond-true (eqb c.space 0) (stepped c no_space c) (stepped c (took m) (with_stroke c k)) (eq-eqb c.space 0 z) in
          cc

    on_sheet : (c c' : Content) (m : Symbol) (v' : View) → Does v (stepped c (took m) c') v' → (k : Stroke) → Draws w n m k → c' ≡ with_stroke c k
    on_sheet c c' m v' d k x = d.3 ∙ ap (sheet_after c) (ap (λ (y : Walk). deed m y.turtle.stance) walk_is ∙ x.1)

    store : (m : Symbol) (ms : List Symbol) → to_come v ≡ m ∷ ms → is_close m.letter ≡ true → v.walk.turtle.stored ≡ [] → ⊥
    store m ms first close empty =
        let nests : nested w.opened (done ++ (m ∷ ms)) w.told.ending ≡ true = subst (λ l. nested w.opened l w.told.ending ≡ true) (sym on.modules ∙ (λ i. done ++ first i)) lawful.brackets in
        let closes : not (is_close m.letter && eqb (behind w.opened done) 0) ≡ true = (nest_first (behind w.opened done) m ms w.told.ending (nest_behind w.opened done (m ∷ ms) w.told.ending nests)).0 in
        let many : length (walked (start w.opened) done).stored ≡ behind w.opened done = stored_behind (start w.opened) w.opened done (m ∷ ms) w.told.ending (length-replicate w.opened home) nests in
        let none : behind w.opened done ≡ 0 = sym many ∙ sym (ap (λ (x : Walk). length x.turtle.stored) on.walk) ∙ ap length empty in
        both_ways _ (λ i. not (close i && eqb (none i) 0)) closes

  pub after : (new : View) → New w new → (es : List Event) (v : View) → Run new es v → After w es v
  after new h es v r =
      let all = runs_on [] Open new (new_on w new h) es v r in
      let done = all_taken es in
      let l = heard Open es in
      record {
        modules = all.0.modules;
        answers = answer_is done l v all.0;
        ends = ends done l v all.0;
        ends_so = ends_so done l v all.0;
        puts = sym all.1;
        on_sheet = on_sheet done l v all.0;
        full = full done l v all.0;
        full_so = full_so done l v all.0;
        store = store done l v all.0;
      }

-- two runs of the same calls
abbrev taken_of : Given → List Symbol
taken_of (a_step a c) = taken_by a
taken_of (a_place s) = []
taken_of (a_report r b) = []

abbrev heard_of : Latest → Given → Latest
heard_of l (a_step a c) = heard_by l a
heard_of l (a_place s) = l
heard_of l (a_report r b) = l

taken_given : (e : Event) → taken_in e ≡ taken_of (given e)
taken_given (stepped c a c') = refl
taken_given (stood s) = refl
taken_given (reported b r b') = refl

heard_given : (l : Latest) (e : Event) → heard_in l e ≡ heard_of l (given e)
heard_given l (stepped c a c') = refl
heard_given l (stood s) = refl
heard_given l (reported b r b') = refl

-- of a report's buffer only its length matters
given_written : (text b : List ℕ) → given (written text b) ≡ cond (ltb (length b) 160) (a_report (refused 9) []) (a_report (wrote (length text)) text)
given_written text b = by (ltb (length b) 160)
  where
    by : (t : Bool) → given (cond t (reported b (refused 9) b) (reported b (wrote (length text)) (text ++ drop (length text) b))) ≡ cond t (a_report (refused 9) []) (a_report (wrote (length text)) text)
    by true = refl
    by false = ap (a_report (wrote (length text))) (front text (drop (length text) b))

abbrev shape : Asked → ℕ
shape (for_step c) = 0
shape for_place = 1
shape (for_report n) = 2

given_same : (w : Meaning) (done : List Symbol) (l : Latest) (ms : List Symbol) (a b : Call) → asked_by a ≡ asked_by b → given (answers w done l ms a) ≡ given (answers w done l ms b)
given_same w done l ms (to_step c) (to_step d) e = let same : c ≡ d = cc in ap (λ x. given (met w (length done) (walk_over w.opened done) x ms)) same
given_same w done l ms to_stand to_stand e = refl
given_same w done l ms (to_report b) (to_report d) e =
    let text = walk_report (length done) (walk_over w.opened done) l in
    let same : length b ≡ length d = cc in
    given_written text b ∙ ap (λ n. cond (ltb n 160) (a_report (refused 9) []) (a_report (wrote (length text)) text)) same ∙ sym (given_written text d)
given_same w done l ms (to_step c) to_stand e = absurd (omega (arith, ap shape e))
given_same w done l ms (to_step c) (to_report d) e = absurd (omega (arith, ap shape e))
given_same w done l ms to_stand (to_step d) e = absurd (omega (arith, ap shape e))
given_same w done l ms to_stand (to_report d) e = absurd (omega (arith, ap shape e))
given_same w done l ms (to_report b) (to_step d) e = absurd (omega (arith, ap shape e))
given_same w done l ms (to_report b) to_stand e = absurd (omega (arith, ap shape e))

module _ (w : Meaning) (lawful : Lawful w) where
  same_runs : (done : List Symbol) (l : Latest) (v v' : View) → On w done l v → On w done l v' → (es es' : List Event) (u u' : View) → Run v es u → Run v' es' u' → map asked es ≡ map asked es' → map given es ≡ map given es'
  same_runs done l v v' on on' [] [] u u' r r' e = refl
  same_runs done l v v' on on' [] (x ∷ es') u u' r r' e = absurd (omega (arith, ap length e))
  same_runs done l v v' on on' (x ∷ es) [] u u' r r' e = absurd (omega (arith, ap length e))
  same_runs done l v v' on on' (x ∷ es) (y ∷ es') u u' (m, (d, r)) (m', (d', r')) e =
      let heads : asked x ≡ asked y = cc in
      let tails : map asked es ≡ map asked es' = cc in
      let one = one_goes w lawful done l v on x m d in
      let other = one_goes w lawful done l v' on' y m' d' in
      let come : to_come v ≡ to_come v' = sym (rest done (to_come v)) ∙ ap (drop (length done)) (on.modules ∙ sym on'.modules) ∙ rest done (to_come v') in
      let same : given x ≡ given y =
      ap given one.answer
      ∙ (λ i. given (answers w done l (come i) (call x)))
      ∙ given_same w done l (to_come v') (call x) (call y) heads
      ∙ ap given (sym other.answer) in
      let took_same : taken_in y ≡ taken_in x = taken_given y ∙ ap taken_of (sym same) ∙ sym (taken_given x) in
      let heard_same : heard_in l y ≡ heard_in l x = heard_given l y ∙ ap (heard_of l) (sym same) ∙ sym (heard_given l x) in
      let on_y = subst (λ t. On w (done ++ t) (heard_in l x) m') took_same (subst (λ t. On w (done ++ taken_in y) t m') heard_same other.on) in
      λ i. same i ∷ same_runs (done ++ taken_in x) (heard_in l x) m m' one.on on_y es es' u u' r r' tails i

-- piles alike mean the same
alike_piles : (m : Meaning) (ls ks : List Layer) → Loaded ls → Loaded ks → Alike ls ks → piled m ls ≡ piled m ks
alike_piles m [] [] a b h = refl
alike_piles m [] (k ∷ ks) a b h = absurd h
alike_piles m (prunes ∷ ls) (prunes ∷ ks) a b h = alike_piles (layered prunes m) ls ks a b h
alike_piles m (grows x c ∷ ls) (grows y d ∷ ks) (t, a) (s, b) (p, h) =
    let same : c ≡ d = loading.any_order t.offers s.offers c d t.run s.run (subst (λ z. Reordered z (taken s.offers)) (sym t.lines_are) (subst (λ z. Reordered x z) (sym s.lines_are) p)) in
    alike_piles (generated c m) ls ks a b h ∙ (λ i. piled (generated (same i) m) ks)
alike_piles m (prunes ∷ ls) (grows y d ∷ ks) a b h = absurd h
alike_piles m (grows x c ∷ ls) (prunes ∷ ks) a b h = absurd h
alike_piles m (prunes ∷ ls) [] a b h = absurd h
alike_piles m (grows x c ∷ ls) [] a b h = absurd h

pub law : (source : Meaning) → Lawful source → (new : View) → New source new → Law source new
law source lawful new h = record {
  after = λ base layers loaded is es v r.
      let w = piled base layers in
      after w (subst Lawful is lawful) new (subst (λ x. New x new) is h) es v r;
  alike = λ base layers others loaded too alike is new' h' es es' v v' r r' e.
      let w = piled base layers in
      let same : piled base others ≡ w = sym (alike_piles base layers others loaded too alike) in
      same_runs w (subst Lawful is lawful) [] Open new new' (new_on w new (subst (λ x. New x new) is h)) (new_on w new' (subst (λ x. New x new') same h')) es es' v v' r r' e;
}
