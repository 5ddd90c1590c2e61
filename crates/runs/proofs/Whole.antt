-- A plot that is stepped to its end from home on is the plot of the word.
use Rattle.std.proofs.Common.{◌≡◌, ℕ, suc, ◌+◌, ◌≤◌, min, true, List, [], ◌∷◌, ◌++◌, length, Ok, Err, Result, inl, inr, ◌⊎◌, sym, refl, ap, ◌∙◌, subst, arith, length-append, append-nil, append_assoc}
use Rattle.word.specs.Symbols.{Symbol}
use Rattle.word.specs.Words.{Ending, clean, broken, Meaning, nested, Lawful}
use Rattle.turtle.specs.Deeds.{Deed, goes, draws, breaks, deed}
use Rattle.sheet.specs.Sheets.{Content}
use Rattle.report.specs.declared.ending.Ending.{Ending as Latest}
use Rattle.report.specs.declared.ending.Ending.TheVariants.{Broken}
use Rattle.walk.specs.Walks.{Turtle, moved, walked, Walk, start, walk_over}
use Rattle.walk.specs.Walkers.{gone_on, sheet_after, Fits}
use Rattle.walk.proofs.Onwards.{onwards}
use Rattle.word.specs.declared.fault.Fault.{Fault}
use Rattle.plot.specs.Views.{View, New, fault_at, deed_in, Over, Hears, Holds, Steps}
use Rattle.plot.specs.declared.stop.Stop.{Stop}
use Rattle.plot.specs.declared.stop.Stop.TheVariants as stop
use Rattle.plot.specs.Positions.{seen, to_come}
use Rattle.plot.specs.ToTheEnd.{gone_over, counted_on, laid, AllFit, TakesAll, last_answer}
use Rattle.plot.proofs.Coming.{comes_first}
use Rattle.runs.specs.Plotted.{unless_breaks, passed, latest_of, unless_broken, way_ends, way, way_end, Plotted}

-- the next module, behind v, of the word v ++ (m ∷ (w ++ r))
shifted : (v : List Symbol) (m : Symbol) (w r : List Symbol) → (v ++ (m ∷ [])) ++ (w ++ r) ≡ v ++ (m ∷ (w ++ r))
shifted v m w r = append_assoc v (m ∷ []) (w ++ r)

nested_on : (d : ℕ) (v : List Symbol) (m : Symbol) (w r : List Symbol) (e : Ending) → nested d (v ++ (m ∷ (w ++ r))) e ≡ true → nested d ((v ++ (m ∷ [])) ++ (w ++ r)) e ≡ true
nested_on d v m w r e h = ap (λ l. nested d l e) (shifted v m w r) ∙ h

few_on : (v : List Symbol) (m : Symbol) (w r : List Symbol) → length (v ++ (m ∷ (w ++ r))) ≤ 16_000_000 → length ((v ++ (m ∷ [])) ++ (w ++ r)) ≤ 16_000_000
few_on v m w r s = let P : List Symbol → Type 0 = λ l. length l ≤ 16_000_000 in subst P (sym (shifted v m w r)) s

-- the walk over v, gone on over w
over : (d : ℕ) (v w r : List Symbol) (e : Ending) → nested d (v ++ (w ++ r)) e ≡ true → length (v ++ (w ++ r)) ≤ 16_000_000 → gone_over (walk_over d v) w ≡ walk_over d (v ++ w)
over d v [] r e h s = ap (walk_over d) (sym (append-nil v))
over d v (m ∷ w) r e h s =
    ap (λ k. gone_over k w) (onwards.goes_on d v m (w ++ r) e h s)
    ∙ over d (v ++ (m ∷ [])) w r e (nested_on d v m w r e h) (few_on v m w r s)
    ∙ ap (walk_over d) (append_assoc v (m ∷ []) w)

walked_more : (t : Turtle) (v : List Symbol) (m : Symbol) → walked t (v ++ (m ∷ [])) ≡ moved (walked t v) m
walked_more t [] m = refl
walked_more t (x ∷ v) m = walked_more (moved t x) v m

-- no deed breaks a limit
abbrev Unbreaking : Deed → Type 0
Unbreaking (goes s) = Unit {0}
Unbreaking (draws k s) = Unit {0}
Unbreaking (breaks n) = ⊥

abbrev Unbroken : Turtle → List Symbol → Type 0
Unbroken t [] = Unit {0}
Unbroken t (m ∷ w) = Unbreaking (deed m t.stance) × Unbroken (moved t m) w

unbreaking : (c : Content) (x : Deed) → Fits c x → Unbreaking x
unbreaking c (goes s) f = tt
unbreaking c (draws k s) f = tt
unbreaking c (breaks n) f = f

unbroken : (d : ℕ) (v w r : List Symbol) (e : Ending) → nested d (v ++ (w ++ r)) e ≡ true → length (v ++ (w ++ r)) ≤ 16_000_000 → (c : Content) → AllFit c (walk_over d v) w → Unbroken (walked (start d) v) w
unbroken d v [] r e h s c f = tt
unbroken d v (m ∷ w) r e h s c f =
    let x = deed m (walked (start d) v).stance in
    let rest : AllFit (sheet_after c x) (walk_over d (v ++ (m ∷ []))) w =
    subst (λ (k : Walk). AllFit (sheet_after c x) k w) (onwards.goes_on d v m (w ++ r) e h s) f.1 in (
      unbreaking c x f.0,
      subst (λ (t : Turtle). Unbroken t w) (walked_more (start d) v m)
          (unbroken d (v ++ (m ∷ [])) w r e (nested_on d v m w r e h) (few_on v m w r s) (sheet_after c x) rest),
    )

-- modules that break no limit are passed
passes : (x : Deed) (l : List Symbol) → Unbreaking x → unless_breaks x l ≡ l
passes (goes s) l u = refl
passes (draws k s) l u = refl
passes (breaks n) l u = absurd u

passed_on : (t : Turtle) (w r : List Symbol) → Unbroken t w → passed t (w ++ r) ≡ w ++ passed (walked t w) r
passed_on t [] r u = refl
passed_on t (m ∷ w) r u = passes (deed m t.stance) (m ∷ passed (moved t m) (w ++ r)) u.0 ∙ ap (λ l. m ∷ l) (passed_on (moved t m) w r u.1)

ends_past : (g n : ℕ) (x : Deed) (l : Latest) → Unbreaking x → unless_broken g n x l ≡ l
ends_past g n (goes s) l u = refl
ends_past g n (draws k s) l u = refl
ends_past g n (breaks c) l u = absurd u

ends_on : (g n : ℕ) (t : Turtle) (w r : List Symbol) (e : Ending) → Unbroken t w → way_ends g n t (w ++ r) e ≡ way_ends g (n + length w) (walked t w) r e
ends_on g n t [] r e u = ap (λ k. way_ends g k t r e) (omega arith)
ends_on g n t (m ∷ w) r e u =
    ends_past g n (deed m t.stance) (way_ends g (n + 1) (moved t m) (w ++ r) e) u.0
    ∙ ends_on g (n + 1) (moved t m) w r e u.1
    ∙ ap (λ k. way_ends g k (walked (moved t m) w) r e) (regroup n (length w))
  where
    regroup : (a b : ℕ) → (a + 1) + b ≡ a + suc b
    regroup a b = omega arith

-- all modules are counted
counted_all : (n : ℕ) (w : List Symbol) → n + length w ≤ 16_000_000 → counted_on n w ≡ n + length w
counted_all n [] h = omega arith
counted_all n (m ∷ w) h = ap (λ k. counted_on k w) less ∙ counted_all (n + 1) w (omega arith) ∙ omega arith
  where
    less : min (n + 1) 16_000_000 ≡ n + 1
    less = omega arith

-- a module takes no more than one place on a sheet
one_place : (c : Content) (x : Deed) → c.space ≤ (sheet_after c x).space + 1
one_place c (goes s) = omega arith
one_place c (draws k s) = omega arith
one_place c (breaks n) = omega arith

places : (c : Content) (k : Walk) (w : List Symbol) → c.space ≤ (laid c k w).space + length w
places c k [] = omega arith
places c k (m ∷ w) =
    omega (arith, one_place c (deed m k.turtle.stance), places (sheet_after c (deed m k.turtle.stance)) (gone_on k m) w)

-- the plot u has taken the modules w of the word that m means
record Along (m : Meaning) (w : List Symbol) (u : View) : Type 0 where
  modules : m.told.modules ≡ w ++ to_come u
  ending : u.source.told.ending ≡ m.told.ending
  generation : u.source.generation ≡ m.generation
  walk : u.walk ≡ walk_over m.opened w
  taken : u.taken ≡ length w
  way : way m ≡ w ++ passed (walked (start m.opened) w) (to_come u)
  way_end : way_end m ≡ way_ends m.generation (length w) (walked (start m.opened) w) (to_come u) m.told.ending

along : (m : Meaning) (v : View) (c : Content) (w : List Symbol) (b : Content) (u : View) → Lawful m → New m v → TakesAll v c w b u → Along m w u
along m v c w b u law n t =
    let d = m.opened in
    let e = m.told.ending in
    let whole : m.told.modules ≡ w ++ to_come u = sym (λ i. seen (n.held i) (n.source i).told.modules) ∙ t.modules in
    let h : nested d (w ++ to_come u) e ≡ true = ap (λ l. nested d l e) (sym whole) ∙ law.brackets in
    let P : List Symbol → Type 0 = λ l. length l ≤ 16_000_000 in
    let few : length (w ++ to_come u) ≤ 16_000_000 = subst P whole law.few in
    let begun : v.walk ≡ walk_over d [] = n.walk ∙ onwards.starts d in
    let fit : AllFit c (walk_over d []) w = subst (λ (k : Walk). AllFit c k w) begun t.fit in
    let free : Unbroken (start d) w = unbroken d [] w (to_come u) e h few c fit in
    let short : 0 + length w ≤ 16_000_000 = omega (arith, length-append w (to_come u), few) in
    record {
      modules = whole;
      ending = t.ending ∙ ap (λ (x : Meaning). x.told.ending) n.source;
      generation = t.generation ∙ ap (λ (x : Meaning). x.generation) n.source;
      walk = t.walk ∙ ap (λ k. gone_over k w) begun ∙ over d [] w (to_come u) e h few;
      taken = t.taken ∙ ap (λ k. counted_on k w) n.taken ∙ counted_all 0 w short ∙ omega arith;
      way = ap (passed (start d)) whole ∙ passed_on (start d) w (to_come u) free;
      way_end = ap (λ l. way_ends m.generation 0 (start d) l e) whole ∙ ends_on m.generation 0 (start d) w (to_come u) e free ∙ ap (λ k. way_ends m.generation k (walked (start d) w) (to_come u) e) (omega arith);
    }

-- no module comes any more
at_end : (m : Meaning) (w : List Symbol) (u : View) (e : Ending) (v' : View) → Along m w u → Over u e → Hears u (latest_of e) v' → Plotted m v'
at_end m w u e v' a o h =
    let t = walked (start m.opened) w in
    let none : to_come u ≡ [] = λ i. seen (o.0 i) (o.1 i) in
    let all : way m ≡ w = a.way ∙ ap (λ r. w ++ passed t r) none ∙ append-nil w in
    let ending : m.told.ending ≡ e = sym a.ending ∙ o.2 in
    record {
      taken = h.taken ∙ a.taken ∙ ap length (sym all);
      walk = h.walk ∙ a.walk ∙ ap (walk_over m.opened) (sym all);
      latest = h.latest ∙ sym (a.way_end ∙ (λ i. way_ends m.generation (length w) t (none i) (ending i)));
    }

-- the next module breaks a limit
at_limit : (m : Meaning) (w : List Symbol) (u : View) (x : Symbol) (n : ℕ) (f : Fault) (v' : View) → Along m w u → deed_in u x ≡ breaks n → f ≡ fault_at u n → Holds u x (Broken f) v' → Plotted m v'
at_limit m w u x n f v' a b g h =
    let t = walked (start m.opened) w in
    let r = v'.source.told.modules in
    let first : to_come u ≡ x ∷ r = comes_first u.held u.source x v'.source h.0 in
    let broken_at : deed x t.stance ≡ breaks n = ap (λ (k : Walk). deed x k.turtle.stance) (sym a.walk) ∙ b in
    let all : way m ≡ w = a.way ∙ ap (λ l. w ++ passed t l) first ∙ ap (λ y. w ++ unless_breaks y (x ∷ passed (moved t x) r)) broken_at ∙ append-nil w in
    let ends : way_end m ≡ Broken (record { cause = n; generation = m.generation; place = length w + 1 }) =
    a.way_end ∙ ap (λ l. way_ends m.generation (length w) t l m.told.ending) first
    ∙ ap (λ y. unless_broken m.generation (length w) y (way_ends m.generation (length w + 1) (moved t x) r m.told.ending)) broken_at in
    record {
      taken = h.1.taken ∙ a.taken ∙ ap length (sym all);
      walk = h.1.walk ∙ a.walk ∙ ap (walk_over m.opened) (sym all);
      latest = h.1.latest ∙ ap Broken g ∙ (λ i. Broken (record { cause = n; generation = a.generation i; place = a.taken i + 1 })) ∙ sym ends;
    }

-- a sheet with space for every word has space for this one
never_full : (m : Meaning) (v : View) (c : Content) (w : List Symbol) (b : Content) (u : View) (x : Symbol) (s : Meaning) → c.space ≡ 16_000_000 → Lawful m → TakesAll v c w b u → Along m w u → to_come u ≡ x ∷ s.told.modules → b.space ≡ 0 → ⊥
never_full m v c w b u x s room law t a first none =
    let left : (laid c v.walk w).space ≡ 0 = ap (λ (k : Content). k.space) (sym t.sheet) ∙ none in
    let long : length m.told.modules ≡ length w + suc (length s.told.modules) = ap length (a.modules ∙ ap (λ l. w ++ l) first) ∙ length-append w (x ∷ s.told.modules) in
    omega (arith, places c v.walk w, room, left, long, law.few)

pub plotted : (m : Meaning) (v : View) (c : Content) (w : List Symbol) (b : Content) (u : View) (r : Result (Unit {0}) Stop) (c' : Content) (v' : View) → c.space ≡ 16_000_000 → Lawful m → New m v → TakesAll v c w b u → Steps u b (last_answer r) c' v' → Plotted m v'
plotted m v c w b u (Ok x) c' v' room law n t s = at_end m w u clean v' (along m v c w b u law n t) s.0 s.1
plotted m v c w b u (Err (stop.Fault f)) c' v' room law n t s = by s.0
  where
    by : (Over u (broken f) × Hears u (Broken f) v') ⊎ ((x : Symbol) × (k : ℕ) × (deed_in u x ≡ breaks k) × (f ≡ fault_at u k) × Holds u x (Broken f) v') → Plotted m v'
    by (inl o) = at_end m w u (broken f) v' (along m v c w b u law n t) o.0 o.1
    by (inr l) = at_limit m w u l.0 l.1 f v' (along m v c w b u law n t) l.2 l.3 l.4
plotted m v c w b u (Err stop.NoSpace) c' v' room law n t s =
    absurd (never_full m v c w b u s.0.0 v'.source room law t (along m v c w b u law n t) (comes_first u.held u.source s.0.0 v'.source s.0.2.0) s.1)
