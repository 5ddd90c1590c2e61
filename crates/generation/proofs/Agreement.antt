-- A generation module by module is the generation by positions.
use Rattle.std.proofs.Common.{◌≡◌, ℕ, zero, suc, pred, ◌+◌, ◌-◌, ◌≤◌, Bool, true, false, cond, not, ◌&&◌, eqb, ltb, leb, List, [], ◌∷◌, ◌++◌, length, drop, Some, None, Option, sym, refl, ap, ◌∙◌, ap₂, arith, length-drop}
use Rattle.std.specs.List.{slice_get}
use Rattle.std.proofs.lemmas.Bool.{or_parts, and_parts, lt-ltb, le-ltb}
use Rattle.std.proofs.lemmas.Bool.Decides.{nat_tests}
use Rattle.word.specs.declared.fault.Fault.{Fault}
use Rattle.word.specs.Symbols.{Symbol, is_open, is_close, is_bracket}
use Rattle.word.specs.Words.{Ending, Told, after, depth, nested}
use Rattle.book.specs.Books.{Book}
use Rattle.books.specs.Ahead.{looks_ahead}
use Rattle.generation.specs.Neighbours.{counts, right}
use Rattle.generation.specs.Generations.{Part, adds, stops, found, added, worked, unless, followed, fault_of, there, left_of, right_of, settled, unsettled, outcome, outcomes}
use Rattle.generation.specs.Stream.{Table, put, passed, Look, neighbour, closed, ended, spent, scan, turn_with, turn_by, turn, streamed, onward}
use Rattle.generation.specs.Agreement.{StreamsAgree}
use Rattle.generation.proofs.LeftSide.{behind, depth_suc, table, table_left}
use Rattle.generation.proofs.RightSide.{nth_drop, settling, Says, Closable, looked, Room, room}
use Rattle.generation.proofs.Unseen.{becomes_same}

-- where brackets nest, no `]` stands where none is open
closable : (k : ℕ) (w : List Symbol) (e : Ending) → nested k w e ≡ true → Closable k w
closable k [] e h t c = let z : ◌≡◌ {A = Bool} false true = c in absurd (let y : ◌≡◌ {A = ℕ} 0 1 = cc in omega arith)
closable k (s ∷ w) e h zero c = grind (arith, nat_tests)
closable k (s ∷ w) e h (suc t) c =
    let later = (and_parts (leb k 32) _ h).1 in
    closable (after k s) w e (and_parts (not (is_close s.letter && eqb k 0)) _ later).1 t c

-- a table of modules beside the table of their positions
put_there : (w : List Symbol) (b : Bool) (t' : Option Symbol) (t : Option ℕ) (o' : Option Symbol) (o : Option ℕ) → t' ≡ there w t → o' ≡ there w o → cond b o' t' ≡ there w (cond b o t)
put_there w true t' t o' o h k = k
put_there w false t' t o' o h k = h

passed_there : (w : List Symbol) (d i : ℕ) (s : Symbol) (t' : Table Symbol) (t : Table ℕ) → slice_get w i ≡ Some s → ((e : ℕ) → t' e ≡ there w (t e)) → (a p : Bool) (e : ℕ) → cond a (put t' (suc d) (t' d)) (cond p (put t' d (Some s)) t') e ≡ there w (cond a (put t (suc d) (t d)) (cond p (put t d (Some i)) t) e)
passed_there w d i s t' t here h true p e = put_there w (eqb e (suc d)) (t' e) (t e) (t' d) (t d) (h e) (h d)
passed_there w d i s t' t here h false true e = put_there w (eqb e d) (t' e) (t e) (Some s) (Some i) (h e) (sym here)
passed_there w d i s t' t here h false false e = h e

-- the table of modules before position i
abbrev modules_table : (ℕ → Bool) → ℕ → List Symbol → ℕ → Table Symbol
modules_table ign k w zero = λ e. None
modules_table ign k w (suc i) = elim (slice_get w i) [ None ↦ modules_table ign k w i | Some s ↦ passed ign (depth k w i) s s (modules_table ign k w i) ]

module _ (ign : ℕ → Bool) (k : ℕ) (w : List Symbol) where
  abbrev step : ℕ → Option Symbol → Table Symbol
  step i None = modules_table ign k w i
  step i (Some s) = passed ign (depth k w i) s s (modules_table ign k w i)

  abbrev position_step : ℕ → Option Symbol → Table ℕ
  position_step i None = table ign k w i
  position_step i (Some s) = passed ign (depth k w i) s i (table ign k w i)

  table_there : (i e : ℕ) → modules_table ign k w i e ≡ there w (table ign k w i e)
  table_there zero e = refl
  table_there (suc i) e = go (table_there i) (slice_get w i) refl
    where
      both : (o : Option Symbol) → slice_get w i ≡ o → step i o e ≡ there w (position_step i o e) → modules_table ign k w (suc i) e ≡ there w (table ign k w (suc i) e)
      both o p h = ap (λ (x : Option Symbol). step i x e) p ∙ h ∙ sym (ap (λ (x : Option Symbol). there w (position_step i x e)) p)

      go : ((x : ℕ) → modules_table ign k w i x ≡ there w (table ign k w i x)) → (o : Option Symbol) → slice_get w i ≡ o → modules_table ign k w (suc i) e ≡ there w (table ign k w (suc i) e)
      go ih None p = both None p (ih e)
      go ih (Some s) p = both (Some s) p (passed_there w (depth k w i) i s (modules_table ign k w i) (table ign k w i) p ih (is_open s.letter) (counts ign s) e)

pub after_plain : (d : ℕ) (s : Symbol) → is_bracket s.letter ≡ false → after d s ≡ d
after_plain d s e =
    let parts = or_parts (is_open s.letter) (is_close s.letter) e in
    ap₂ (λ (a c : Bool). cond a (suc d) (cond c (pred d) d)) parts.0 parts.1

followed_same : (p q : Part) (f h : ℕ → Told) → p ≡ q → ((n : ℕ) → f n ≡ h n) → followed p f ≡ followed q h
followed_same p q f h e same = ap (λ (x : Part). followed x f) e ∙ go q
  where
    go : (x : Part) → followed x f ≡ followed x h
    go (stops x) = refl
    go (adds w) = ap (λ (t : Told). record { modules = w ++ t.modules; ending = t.ending }) (same (length w))

module _ (b : Book) (g k : ℕ) (below : Told) (can-close : Closable k below.modules) where
  abbrev w : List Symbol
  w = below.modules

  abbrev d : ℕ → ℕ
  d t = depth k w t

  module _ (n i : ℕ) (s : Symbol) (v : List Symbol) (at_i : drop i w ≡ s ∷ v) where
    here : slice_get w i ≡ Some s
    here = (nth_drop i w s v at_i).0

    rest : drop (suc i) w ≡ v
    rest = (nth_drop i w s v at_i).1

    long : suc (length v) ≡ length w - i
    long = sym (ap length at_i) ∙ length-drop i w

    abbrev l : Option Symbol
    l = left_of b g k below i

    abbrev with_right : Option Symbol → Part
    with_right r = turn_with b g below.ending n i (d i) l s r

    -- the fault of a look ahead, by whether something settles and whether 64 modules follow
    abbrev pending : Bool → Bool → Option Fault
    pending x y = cond x None (cond y (Some (found g i 30)) (fault_of below.ending))

    put_in : (x x' y y' : Bool) (r r' : Option Symbol) → x' ≡ x → y' ≡ y → r' ≡ r → unless (pending x y) (with_right r) ≡ unless (pending x' y') (with_right r')
    put_in x x' y y' r r' p q o = λ t. unless (pending (sym p t) (sym q t)) (with_right (sym o t))

    look : (x : Look) (settles : Bool) (r : Option ℕ) → settling x ≡ settles → Says w x r → Room x 64 (length v) → turn_by b g below.ending n i (d i) l s x ≡ unless (pending settles (ltb (i + 64) (length w))) (with_right (there w r))
    look (neighbour x) settles r f h q = put_in true settles (ltb (i + 64) (length w)) _ (Some x) (there w r) (sym f) refl h
    look closed settles r f h q = put_in true settles (ltb (i + 64) (length w)) _ None (there w r) (sym f) refl (ap (there w) h)
    look ended settles r f h q = put_in false settles false (ltb (i + 64) (length w)) None (there w r) (sym f) (le-ltb (i + 64) (length w) (omega (arith, long))) (ap (there w) h)
    look spent settles r f h q = put_in false settles true (ltb (i + 64) (length w)) (there w r) _ (sym f) (lt-ltb (i + 64) (length w) (omega (arith, long))) refl

    seeing : is_bracket s.letter ≡ false → turn_by b g below.ending n i (d i) l s (scan b.ignored 64 0 v) ≡ unless (unsettled b g k below i) (with_right (right_of b g k below i))
    seeing z =
        let flat : d (suc i) ≡ d i = depth_suc k w i ∙ ap (behind (d i)) here ∙ after_plain (d i) s z in
        let seen = looked b.ignored k w can-close i v rest flat in
        look (scan b.ignored 64 0 v) (settled b g k below i) (right b.ignored k w i) seen.0 seen.1 (room b.ignored 64 0 v)

    turned : (x y : Bool) → is_bracket s.letter ≡ x → looks_ahead s b.rules ≡ y →
        cond x (added g n i (s ∷ [])) (cond y (turn_by b g below.ending n i (d i) l s (scan b.ignored 64 0 v)) (with_right None))
        ≡ cond x (added g n i (s ∷ [])) (unless (cond y (unsettled b g k below i) None) (with_right (right_of b g k below i)))
    turned true y z a = refl
    turned false true z a = seeing z
    turned false false z a = sym (ap (worked g n i (d i) s) (becomes_same l s (right_of b g k below i) b.rules a))

    turn_is : turn b g below.ending n i (d i) (modules_table b.ignored k w i (d i)) s v ≡ outcome b g k below n i s
    turn_is =
        ap (λ (x : Option Symbol). turn b g below.ending n i (d i) x s v)
        (table_there b.ignored k w i (d i) ∙ ap (there w) (table_left b.ignored k w i))
        ∙ turned (is_bracket s.letter) (looks_ahead s b.rules) refl refl

  streamed_from : (n i : ℕ) (v : List Symbol) → i + length v ≤ 16_000_000 → drop i w ≡ v → streamed b g below.ending n i (d i) (modules_table b.ignored k w i) v ≡ outcomes b g k below n i v
  streamed_from n i [] short e = refl
  streamed_from n i (s ∷ v) short e =
      let deeper = sym (depth_suc k w i ∙ ap (behind (d i)) (here n i s v e)) in
      let further = sym (ap (step b.ignored k w i) (here n i s v e)) in
      let past : onward i ≡ suc i = omega arith in
      followed_same _ _ _ _ (turn_is n i s v e)
      (λ more.
      (λ t. streamed b g below.ending (n + more) (past t) (deeper t) (further t) v)
      ∙ streamed_from (n + more) (suc i) v (omega arith) (rest n i s v e))

pub streams_agree : StreamsAgree
streams_agree b m h =
    streamed_from b m.generation m.opened m.told
    (closable m.opened m.told.modules m.told.ending h.brackets) 0 0 m.told.modules (omega (arith, h.few)) refl
