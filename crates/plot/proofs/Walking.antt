-- One event: the plot stays on the walk, and the answer is that of the walk.
use Rattle.std.proofs.Common.{◌≡◌, ℕ, ◌+◌, ◌≤◌, true, cond, eqb, ltb, List, [], ◌∷◌, ◌++◌, length, drop, sym, refl, ap, ◌∙◌, subst, arith, inl, inr, length-append, append-nil, append_assoc}
use Rattle.std.proofs.lemmas.Bool.{cond-true, cond-false, ne_eqb, eq-eqb, lt-ltb, le-ltb}
use Rattle.word.specs.declared.fault.Fault.{Fault}
use Rattle.word.specs.Symbols.{Symbol}
use Rattle.word.specs.Words.{Ending, clean, broken, Meaning, nested, Lawful}
use Rattle.turtle.specs.Poses.{Stance}
use Rattle.turtle.specs.Deeds.{Deed, goes, draws, breaks, deed}
use Rattle.sheet.specs.Sheets.{Content, with_stroke}
use Rattle.report.specs.declared.ending.Ending.{Ending as Latest}
use Rattle.report.specs.declared.ending.Ending.TheVariants.{Open, Clean, Broken}
use Rattle.walk.specs.Walks.{Walk, drawn_by, start, strokes, walk_over}
use Rattle.walk.specs.Walkers.{gone_on, sheet_after, Fits, Drawing, walk_report}
use Rattle.walk.proofs.Onwards.{onwards, strokes_more}
use Rattle.plot.specs.Views.{View, New, took, ended, faulted, no_space, Over, Holds}
use Rattle.plot.specs.Runs.{Reply, wrote, refused, Event, stepped, stood, reported, Replies, Does}
use Rattle.plot.specs.Positions.{Call, to_step, to_stand, to_report, call, ended_by, met_by, met, written, taken_in, heard_in, listed, put_in, seen, to_come}
use Rattle.plot.proofs.Coming.{comes_first, comes_ending, comes_number}

-- the plot v is on the walk of the word that w means, behind the modules `done`, and l was the latest ending
pub record On (w : Meaning) (done : List Symbol) (l : Latest) (v : View) : Type 0 where
  pub modules : done ++ to_come v ≡ w.told.modules
  pub taken : v.taken ≡ length done
  pub walk : v.walk ≡ walk_over w.opened done
  pub number : v.source.generation ≡ w.generation
  pub ending : v.source.told.ending ≡ w.told.ending
  pub latest : v.latest ≡ l

-- the answer there, by what is to come
abbrev pub answers : Meaning → List Symbol → Latest → List Symbol → Call → Event
answers w done l ms (to_step c) = met w (length done) (walk_over w.opened done) c ms
answers w done l ms to_stand = stood (walk_over w.opened done).turtle.stance
answers w done l ms (to_report b) = written (walk_report (length done) (walk_over w.opened done) l) b

-- what became of one event
pub record Goes (w : Meaning) (done : List Symbol) (l : Latest) (v : View) (e : Event) (v' : View) : Type 0 where
  pub on : On w (done ++ taken_in e) (heard_in l e) v'
  pub answer : e ≡ answers w done l (to_come v) (call e)
  pub put : strokes (start w.opened) (done ++ taken_in e) ≡ strokes (start w.opened) done ++ put_in e

-- a taken module's answer, and what came upon the sheet, by its deed
took_by : (w : Meaning) (n : ℕ) (c c' : Content) (m : Symbol) (x : Deed) → Fits c x → c' ≡ sheet_after c x → stepped c (took m) c' ≡ met_by w n c m x
took_by w n c c' m (goes s) f e = ap (stepped c (took m)) e
took_by w n c c' m (draws k s) f e =
    ap (stepped c (took m)) e
    ∙ sym (cond-false (eqb c.space 0) (stepped c no_space c) (stepped c (took m) (with_stroke c k)) (ne_eqb c.space 0 (λ z. absurd (omega (arith, z, f)))))
took_by w n c c' m (breaks y) f e = absurd f

put_by : (c c' : Content) (x : Deed) → Fits c x → c' ≡ sheet_after c x → cond (eqb c'.count c.count) [] (listed c'.latest) ≡ drawn_by x
put_by c c' (goes s) f e = cond-true (eqb c'.count c.count) [] (listed c'.latest) (eq-eqb c'.count c.count (ap (λ (y : Content). y.count) e))
put_by c c' (draws k s) f e =
    let more : c'.count ≡ c.count + 1 = ap (λ (y : Content). y.count) e in
    cond-false (eqb c'.count c.count) [] (listed c'.latest) (ne_eqb c'.count c.count (λ z. absurd (omega (arith, z, more))))
    ∙ ap (λ (y : Content). listed y.latest) e
put_by c c' (breaks y) f e = absurd f

none_put : (c c' : Content) → c' ≡ c → cond (eqb c'.count c.count) [] (listed c'.latest) ≡ []
none_put c c' e = cond-true (eqb c'.count c.count) [] (listed c'.latest) (eq-eqb c'.count c.count (ap (λ (y : Content). y.count) e))

no_room_by : (w : Meaning) (n : ℕ) (c c' : Content) (m : Symbol) (x : Deed) → Drawing x → c.space ≡ 0 → c' ≡ c → stepped c no_space c' ≡ met_by w n c m x
no_room_by w n c c' m (goes s) d z e = absurd d
no_room_by w n c c' m (draws k s) d z e = ap (stepped c no_space) e ∙ sym (cond-true (eqb c.space 0) (stepped c no_space c) (stepped c (took m) (with_stroke c k)) (eq-eqb c.space 0 z))
no_room_by w n c c' m (breaks y) d z e = absurd d

module _ (w : Meaning) (lawful : Lawful w) (done : List Symbol) (l : Latest) (v : View) (on : On w done l v) where
  abbrev n : ℕ
  n = length done

  abbrev k : Walk
  k = walk_over w.opened done

  -- no module more is taken
  same_done : {A : Type 0} (f : List Symbol → A) → f (done ++ []) ≡ f done
  same_done f = ap f (append-nil done)

  nothing_put : (e : Event) → taken_in e ≡ [] → put_in e ≡ [] → strokes (start w.opened) (done ++ taken_in e) ≡ strokes (start w.opened) done ++ put_in e
  nothing_put e t p = (λ i. strokes (start w.opened) (done ++ t i)) ∙ same_done (strokes (start w.opened)) ∙ sym (append-nil (strokes (start w.opened) done)) ∙ (λ i. strokes (start w.opened) done ++ sym p i)

  -- nothing changed but perhaps the latest ending
  stays_on : (v' : View) (l' : Latest) → v'.held ≡ v.held → v'.source ≡ v.source → v'.taken ≡ v.taken → v'.walk ≡ v.walk → v'.latest ≡ l' → On w (done ++ []) l' v'
  stays_on v' l' h s t x e = record {
    modules = same_done (λ d. d ++ to_come v') ∙ (λ i. done ++ seen (h i) (s i).told.modules) ∙ on.modules;
    taken = t ∙ on.taken ∙ sym (same_done length);
    walk = x ∙ on.walk ∙ sym (same_done (walk_over w.opened));
    number = ap (λ (y : Meaning). y.generation) s ∙ on.number;
    ending = ap (λ (y : Meaning). y.told.ending) s ∙ on.ending;
    latest = e;
  }

  -- a module was looked at, and is held
  holds_on : (m : Symbol) (v' : View) (l' : Latest) → Holds v m l' v' → On w (done ++ []) l' v'
  holds_on m v' l' h = record {
    modules = same_done (λ d. d ++ to_come v') ∙ (λ i. done ++ seen (h.1.held i) v'.source.told.modules) ∙ (λ i. done ++ sym (comes_first v.held v.source m v'.source h.0) i) ∙ on.modules;
    taken = h.1.taken ∙ on.taken ∙ sym (same_done length);
    walk = h.1.walk ∙ on.walk ∙ sym (same_done (walk_over w.opened));
    number = comes_number v.held v.source m v'.source h.0 ∙ on.number;
    ending = comes_ending v.held v.source m v'.source h.0 ∙ on.ending;
    latest = h.1.latest;
  }

  -- a step over the word's end
  over : (e : Ending) → Over v e → (to_come v ≡ []) × (w.told.ending ≡ e)
  over e o = ((λ i. seen (o.0 i) (o.1 i)), sym on.ending ∙ o.2)

  took_goes : (c c' : Content) (m : Symbol) (v' : View) → Does v (stepped c (took m) c') v' → Goes w done l v (stepped c (took m) c') v'
  took_goes c c' m v' d =
      let rest = v'.source.told.modules in
      let first : to_come v ≡ m ∷ rest = comes_first v.held v.source m v'.source d.0 in
      let whole : done ++ (m ∷ rest) ≡ w.told.modules = (λ i. done ++ sym first i) ∙ on.modules in
      let nests : nested w.opened (done ++ (m ∷ rest)) w.told.ending ≡ true = subst (λ ms. nested w.opened ms w.told.ending ≡ true) (sym whole) lawful.brackets in
      let short : length (done ++ (m ∷ rest)) ≤ 16_000_000 = subst (λ ms. length ms ≤ 16_000_000) (sym whole) lawful.few in
      let stance = ap (λ (x : Walk). deed m x.turtle.stance) on.walk in
      let fits = subst (Fits c) stance d.2 in
      let sheet = d.3 ∙ ap (sheet_after c) stance in
      record {
        on = record {
          modules = (λ i. (done ++ (m ∷ [])) ++ seen (d.1.held i) rest) ∙ append_assoc done (m ∷ []) rest ∙ whole;
          taken = omega (arith, d.1.taken, on.taken, length-append done (m ∷ rest), length-append done (m ∷ []), short);
          walk = d.1.walk ∙ ap (λ x. gone_on x m) on.walk ∙ onwards.goes_on w.opened done m rest w.told.ending nests short;
          number = comes_number v.held v.source m v'.source d.0 ∙ on.number;
          ending = comes_ending v.held v.source m v'.source d.0 ∙ on.ending;
          latest = d.1.latest ∙ on.latest;
        };
        answer = took_by w n c c' m (deed m k.turtle.stance) fits sheet ∙ (λ i. met w n k c (sym first i));
        put = strokes_more (start w.opened) done m ∙ (λ i. strokes (start w.opened) done ++ sym (put_by c c' (deed m k.turtle.stance) fits sheet) i);
      }

  ended_goes : (c c' : Content) (v' : View) → Does v (stepped c ended c') v' → Goes w done l v (stepped c ended c') v'
  ended_goes c c' v' d =
      let o = over clean d.0 in
      record {
        on = stays_on v' Clean d.1.held d.1.source d.1.taken d.1.walk d.1.latest;
        answer = (λ i. stepped c (ended_by (sym o.1 i)) (d.2 i)) ∙ (λ i. met w n k c (sym o.0 i));
        put = nothing_put (stepped c ended c') refl (none_put c c' d.2);
      }

  faulted_goes : (c c' : Content) (f : Fault) (v' : View) → Does v (stepped c (faulted f) c') v' → Goes w done l v (stepped c (faulted f) c') v'
  faulted_goes c c' f v' (inl d, s) =
      let o = over (broken f) d.0 in
      record {
        on = stays_on v' (Broken f) d.1.held d.1.source d.1.taken d.1.walk d.1.latest;
        answer = (λ i. stepped c (ended_by (sym o.1 i)) (s i)) ∙ (λ i. met w n k c (sym o.0 i));
        put = nothing_put (stepped c (faulted f) c') refl (none_put c c' s);
      }
  faulted_goes c c' f v' (inr (m, x, d, is, h), s) =
      let first = comes_first v.held v.source m v'.source h.0 in
      let broke : deed m k.turtle.stance ≡ breaks x = ap (λ (y : Walk). deed m y.turtle.stance) (sym on.walk) ∙ d in
      let named : f ≡ record { cause = x; generation = w.generation; place = n + 1 } = is ∙ (λ i. record { cause = x; generation = on.number i; place = on.taken i + 1 }) in
      record {
        on = holds_on m v' (Broken f) h;
        answer = (λ i. stepped c (faulted (named i)) (s i)) ∙ (λ i. met_by w n c m (sym broke i)) ∙ (λ i. met w n k c (sym first i));
        put = nothing_put (stepped c (faulted f) c') refl (none_put c c' s);
      }

  full_goes : (c c' : Content) (v' : View) → Does v (stepped c no_space c') v' → Goes w done l v (stepped c no_space c') v'
  full_goes c c' v' ((m, d, h), z, s) =
      let first = comes_first v.held v.source m v'.source h.0 in
      let drawing = subst Drawing (ap (λ (y : Walk). deed m y.turtle.stance) on.walk) d in
      let held_on = holds_on m v' v.latest h in
      record {
        on = subst (λ x. On w (done ++ []) x v') on.latest held_on;
        answer = no_room_by w n c c' m (deed m k.turtle.stance) drawing z s ∙ (λ i. met w n k c (sym first i));
        put = nothing_put (stepped c no_space c') refl (none_put c c' s);
      }

  stood_goes : (s : Stance) (v' : View) → Does v (stood s) v' → Goes w done l v (stood s) v'
  stood_goes s v' (is, same) = record {
    on = stays_on v' l (ap (λ (x : View). x.held) same) (ap (λ (x : View). x.source) same) (ap (λ (x : View). x.taken) same) (ap (λ (x : View). x.walk) same) (ap (λ (x : View). x.latest) same ∙ on.latest);
    answer = ap stood (is ∙ ap (λ (x : Walk). x.turtle.stance) on.walk);
    put = nothing_put (stood s) refl refl;
  }

  reply_is : (text b : List ℕ) (r : Reply) (b' : List ℕ) → Replies text b r b' → reported b r b' ≡ written text b
  reply_is text b (wrote m) b' (long, is, now) =
      (λ i. reported b (wrote (is i)) ((now ∙ (λ j. text ++ drop (is j) b)) i))
      ∙ sym (cond-false (ltb (length b) 160) (reported b (refused 9) b) (reported b (wrote (length text)) (text ++ drop (length text) b)) (le-ltb (length b) 160 long))
  reply_is text b (refused x) b' (short, is, now) =
      (λ i. reported b (refused (is i)) (now i))
      ∙ sym (cond-true (ltb (length b) 160) (reported b (refused 9) b) (reported b (wrote (length text)) (text ++ drop (length text) b)) (lt-ltb (length b) 160 short))

  reported_goes : (b : List ℕ) (r : Reply) (b' : List ℕ) (v' : View) → Does v (reported b r b') v' → Goes w done l v (reported b r b') v'
  reported_goes b r b' v' (does, same) = record {
    on = stays_on v' l (ap (λ (x : View). x.held) same) (ap (λ (x : View). x.source) same) (ap (λ (x : View). x.taken) same) (ap (λ (x : View). x.walk) same) (ap (λ (x : View). x.latest) same ∙ on.latest);
    answer = reply_is (walk_report v.taken v.walk v.latest) b r b' does ∙ (λ i. written (walk_report (on.taken i) (on.walk i) (on.latest i)) b);
    put = nothing_put (reported b r b') refl refl;
  }

  pub one_goes : (e : Event) (v' : View) → Does v e v' → Goes w done l v e v'
  one_goes (stepped c (took m) c') v' d = took_goes c c' m v' d
  one_goes (stepped c ended c') v' d = ended_goes c c' v' d
  one_goes (stepped c (faulted f) c') v' d = faulted_goes c c' f v' d
  one_goes (stepped c no_space c') v' d = full_goes c c' v' d
  one_goes (stood s) v' d = stood_goes s v' d
  one_goes (reported b r b') v' d = reported_goes b r b' v' d

-- a new plot is on the walk
pub new_on : (w : Meaning) (v : View) → New w v → On w [] Open v
new_on w v h = record {
  modules = λ i. seen (h.held i) (h.source i).told.modules;
  taken = h.taken;
  walk = h.walk ∙ onwards.starts w.opened;
  number = ap (λ (x : Meaning). x.generation) h.source;
  ending = ap (λ (x : Meaning). x.told.ending) h.source;
  latest = h.latest;
}
