-- One module more is taken.
use Rattle.std.proofs.Common.{◌≡◌, ℕ, ◌+◌, min, List, [], ◌∷◌, ◌++◌, None, Option, Ok, Err, Result, inl, inr, sym, refl, ap, ◌∙◌, subst, append_assoc}
use Rattle.std.proofs.lemmas.Grind.{fold-append}
use Rattle.word.specs.Symbols.{Symbol}
use Rattle.word.specs.Words.{clean, broken, Meaning}
use Rattle.turtle.specs.Deeds.{deed}
use Rattle.sheet.specs.Sheets.{Content}
use Rattle.turtle.specs.Acts.{cause_of}
use Rattle.word.specs.declared.fault.Fault.{Fault}
use Rattle.report.specs.declared.ending.Ending.{Ending as Latest}
use Rattle.report.specs.declared.ending.Ending.TheVariants.{Clean, Broken}
use Rattle.walk.specs.declared.refusal.Refusal.{Refusal}
use Rattle.walk.specs.declared.refusal.Refusal.TheVariants.{Limit, NoSpace}
use Rattle.walk.specs.Walks.{Walk}
use Rattle.walk.specs.Walkers.{gone_on, sheet_after, Fits, Takes}
use Rattle.plot.specs.declared.stop.Stop.{Stop}
use Rattle.plot.specs.declared.stop.Stop.TheVariants as stop
use Rattle.plot.specs.Views.{View, took, ended, faulted, answer_of, Comes, Steps}
use Rattle.plot.specs.Positions.{seen, to_come}
use Rattle.plot.specs.ToTheEnd.{gone_over, counted_on, laid, AllFit, TakesAll, last_answer, Runs, Refuses}
use Rattle.plot.proofs.Coming.{comes_first, comes_ending, comes_number}

-- a step takes the first module of those that come
pub step_takes : (v : View) (c : Content) (m : Symbol) (c' : Content) (v' : View) → Steps v c (took m) c' v' → to_come v ≡ m ∷ to_come v'
step_takes v c m c' v' s = comes_first v.held v.source m v'.source s.0 ∙ ap (λ h. m ∷ seen h v'.source.told.modules) (sym s.1.held)

laid_more : (c : Content) (k : Walk) (w : List Symbol) (m : Symbol) → laid c k (w ++ (m ∷ [])) ≡ sheet_after (laid c k w) (deed m (gone_over k w).turtle.stance)
laid_more c k [] m = refl
laid_more c k (x ∷ w) m = laid_more (sheet_after c (deed x k.turtle.stance)) (gone_on k x) w m

fit_more : (c : Content) (k : Walk) (w : List Symbol) (m : Symbol) → AllFit c k w → Fits (laid c k w) (deed m (gone_over k w).turtle.stance) → AllFit c k (w ++ (m ∷ []))
fit_more c k [] m f g = (g, tt)
fit_more c k (x ∷ w) m f g = (f.0, fit_more (sheet_after c (deed x k.turtle.stance)) (gone_on k x) w m f.1 g)

pub takes_none : (v : View) (c : Content) → TakesAll v c [] c v
takes_none v c =
    record {
      modules = refl;
      ending = refl;
      generation = refl;
      taken = refl;
      walk = refl;
      latest = refl;
      fit = tt;
      sheet = refl;
    }

pub takes_more : (v : View) (c : Content) (w : List Symbol) (b : Content) (u : View) (m : Symbol) (c' : Content) (v' : View) → TakesAll v c w b u → Steps u b (took m) c' v' → TakesAll v c (w ++ (m ∷ [])) c' v'
takes_more v c w b u m c' v' t s =
    let fits : Fits (laid c v.walk w) (deed m (gone_over v.walk w).turtle.stance) =
    subst (λ (x : Content × Walk). Fits x.0 (deed m x.1.turtle.stance)) (λ i. (t.sheet i, t.walk i)) s.2 in
    record {
      modules = t.modules ∙ ap (λ l. w ++ l) (step_takes u b m c' v' s) ∙ sym (append_assoc w (m ∷ []) (to_come v'));
      ending = comes_ending u.held u.source m v'.source s.0 ∙ t.ending;
      generation = comes_number u.held u.source m v'.source s.0 ∙ t.generation;
      taken = s.1.taken ∙ ap (λ n. min (n + 1) 16_000_000) t.taken ∙ sym (fold-append (λ k x. min (k + 1) 16_000_000) v.taken w (m ∷ []));
      walk = s.1.walk ∙ ap (λ k. gone_on k m) t.walk ∙ sym (fold-append gone_on v.walk w (m ∷ []));
      latest = s.1.latest ∙ t.latest;
      fit = fit_more c v.walk w m t.fit fits;
      sheet = s.3 ∙ (λ i. sheet_after (t.sheet i) (deed m (t.walk i).turtle.stance)) ∙ sym (laid_more c v.walk w m);
    }

-- a step that takes a module, before those that are taken then
takes_before : (v : View) (c : Content) (m : Symbol) (b : Content) (u : View) (w : List Symbol) (d : Content) (z : View) → Steps v c (took m) b u → TakesAll u b w d z → TakesAll v c (m ∷ w) d z
takes_before v c m b u w d z s t =
    record {
      modules = step_takes v c m b u s ∙ ap (λ l. m ∷ l) t.modules;
      ending = t.ending ∙ comes_ending v.held v.source m u.source s.0;
      generation = t.generation ∙ comes_number v.held v.source m u.source s.0;
      taken = t.taken ∙ ap (λ n. counted_on n w) s.1.taken;
      walk = t.walk ∙ ap (λ k. gone_over k w) s.1.walk;
      latest = t.latest ∙ s.1.latest;
      fit = (s.2, subst (λ (x : Content × Walk). AllFit x.0 x.1 w) (λ i. (s.3 i, s.1.walk i)) t.fit);
      sheet = t.sheet ∙ (λ i. laid (s.3 i) (s.1.walk i) w);
    }

-- a run begins with a step
pub runs_on : (v : View) (c : Content) (m : Symbol) (b : Content) (u : View) (r : Result (Unit {0}) Stop) (d : Content) (z : View) → Steps v c (took m) b u → Runs u b r d z → Runs v c r d z
runs_on v c m b u r d z s t = (m ∷ t.0, t.1, t.2, takes_before v c m b u t.0 t.2 t.1 s t.3, t.4)

pub runs_none : (v : View) (c : Content) (d : Content) (z : View) → Steps v c ended d z → Runs v c (Ok tt) d z
runs_none v c d z s = ([], v, c, takes_none v c, s)

pub runs_stopped : (v : View) (c : Content) (e : Stop) (d : Content) (z : View) → Steps v c (answer_of (Err e)) d z → Runs v c (Err e) d z
runs_stopped v c (stop.Fault f) d z s = ([], v, c, takes_none v c, s)
runs_stopped v c stop.NoSpace d z s = ([], v, c, takes_none v c, s)

-- a plot that holds nothing
abbrev pub free : Meaning → ℕ → Walk → Latest → View
free s n k l = record { source = s; held = None; taken = n; walk = k; latest = l }

pub takes_free : (v : View) (c : Content) → v.held ≡ None → TakesAll v c [] c (free v.source v.taken v.walk v.latest)
takes_free v c h = subst (λ (u : View). TakesAll v c [] c u) (λ i. record v { held = h i }) (takes_none v c)

-- takes the next module of its source
pub free_takes : (s : Meaning) (n : ℕ) (k : Walk) (l : Latest) (c : Content) (m : Symbol) (s' : Meaning) (n' : ℕ) (k' : Walk) (c' : Content) → Comes None s m s' → Takes k c m (Ok tt) k' c' → n' ≡ min (n + 1) 16_000_000 → Steps (free s n k l) c (took m) c' (free s' n' k' l)
free_takes s n k l c m s' n' k' c' comes take more =
    (comes, record { source = refl; held = refl; taken = more; walk = take.1; latest = refl }, take.0, take.2)

-- so one more is taken after some others
pub one_more
    : (v : View) (a : Content) (s : Meaning) (n : ℕ) (k : Walk) (l : Latest) (c : Content) (m : Symbol) (s' : Meaning) (n' : ℕ) (k' : Walk) (c' : Content)
    → (w : List Symbol) × TakesAll v a w c (free s n k l)
    → Comes None s m s'
    → Takes k c m (Ok tt) k' c'
    → n' ≡ min (n + 1) 16_000_000
    → (w : List Symbol) × TakesAll v a w c' (free s' n' k' l)
one_more v a s n k l c m s' n' k' c' so_far comes take more =
    (so_far.0 ++ (m ∷ []), takes_more v a so_far.0 c (free s n k l) m c' (free s' n' k' l) so_far.1 (free_takes s n k l c m s' n' k' c' comes take more))

-- or finds the word ended
pub free_ends : (s : Meaning) (n : ℕ) (k : Walk) (l : Latest) (c : Content) (s' : Meaning) (h : Option Symbol) → (s.told.modules ≡ []) × (s.told.ending ≡ clean) × (s' ≡ s) → h ≡ None → Steps (free s n k l) c ended c (record { source = s'; held = h; taken = n; walk = k; latest = Clean })
free_ends s n k l c s' h d e =
    ((refl, d.0, d.1), record { source = d.2; held = e; taken = refl; walk = refl; latest = refl }, refl)

pub free_breaks : (s : Meaning) (n : ℕ) (k : Walk) (l : Latest) (c : Content) (f : Fault) (s' : Meaning) (h : Option Symbol) → (s.told.modules ≡ []) × (s.told.ending ≡ broken f) × (s' ≡ s) → h ≡ None → Steps (free s n k l) c (faulted f) c (record { source = s'; held = h; taken = n; walk = k; latest = Broken f })
free_breaks s n k l c f s' h d e =
    (inl ((refl, d.0, d.1), record { source = d.2; held = e; taken = refl; walk = refl; latest = refl }), refl)

-- or is stopped at it
pub free_stops : (s : Meaning) (n : ℕ) (k : Walk) (l : Latest) (c : Content) (m : Symbol) (x : Refusal) (u : View) (c' : Content) (t : Stop) (v' : View) → Comes None s m u.source → Takes k c m (Err x) u.walk c' → u.latest ≡ l → Refuses u m n x t v' → Steps (free s n k l) c (last_answer (Err t)) c' v'
free_stops s n k l c m (Limit y) u c' t v' comes take e r =
    subst (λ (t : Stop). Steps (free s n k l) c (last_answer (Err t)) c' v') (sym r.0) (
      inr (
        m,
        cause_of y,
        take.0,
        (λ i. record { cause = cause_of y; generation = comes.3 i; place = n + 1 }),
        (
          subst (Comes None s m) (sym r.1.source) comes,
          record { source = refl; held = r.1.held; taken = r.1.taken; walk = r.1.walk ∙ take.1; latest = r.1.latest },
        ),
      ),
      take.2,
    )
free_stops s n k l c m NoSpace u c' t v' comes take e r =
    subst (λ (t : Stop). Steps (free s n k l) c (last_answer (Err t)) c' v') (sym r.0) (
      (
        m,
        take.0,
        (
          subst (Comes None s m) (sym r.1.source) comes,
          record { source = refl; held = r.1.held; taken = r.1.taken; walk = r.1.walk ∙ take.2; latest = r.1.latest ∙ e },
        ),
      ),
      take.1,
      take.3,
    )
