-- A walk that goes on module by module is the walk over all modules.
use Rattle.std.proofs.Common.{◌≡◌, ℕ, suc, pred, ◌+◌, ◌<◌, ◌≤◌, max, Bool, true, false, cond, not, ◌&&◌, eqb, leb, ltb, List, [], ◌∷◌, ◌++◌, length, fold, sym, refl, ap, ◌∙◌, arith, length-append, append-nil, append_assoc}
use lib.ListN.{length-replicate}
use Rattle.std.proofs.lemmas.Bool.{and_parts, cond-true, leb-true, lt-ltb, both_ways}
use Rattle.std.proofs.lemmas.Bool.Decides.{nat_tests}
use Rattle.std.proofs.lemmas.Grind.{fold-append}
use Rattle.word.specs.Symbols.{Symbol, is_open, is_close}
use Rattle.word.specs.Words.{Ending, after, nested}
use Rattle.turtle.specs.Poses.{Stance, Stroke, home}
use Rattle.turtle.specs.Deeds.{Deed, goes, draws, breaks, deed}
use Rattle.walk.specs.Walks.{Turtle, there, drawn_by, back, moved, walked, strokes, Drawn, none_drawn, one_drawn, all_drawn, most_open, start}
use Rattle.walk.specs.Walkers.{roomy, with_drawn}
use Rattle.walk.specs.Onwards.{Onwards}

-- one module more
walked_more : (t : Turtle) (v : List Symbol) (m : Symbol) → walked t (v ++ (m ∷ [])) ≡ moved (walked t v) m
walked_more t [] m = refl
walked_more t (x ∷ v) m = walked_more (moved t x) v m

pub strokes_more : (t : Turtle) (v : List Symbol) (m : Symbol) → strokes t (v ++ (m ∷ [])) ≡ strokes t v ++ drawn_by (deed m (walked t v).stance)
strokes_more t [] m = append-nil (drawn_by (deed m t.stance))
strokes_more t (x ∷ v) m = ap (λ l. drawn_by (deed x t.stance) ++ l) (strokes_more (moved t x) v m) ∙ sym (append_assoc (drawn_by (deed x t.stance)) (strokes (moved t x) v) (drawn_by (deed m (walked (moved t x) v).stance)))

-- the brackets open behind some modules
abbrev pub behind : ℕ → List Symbol → ℕ
behind d [] = d
behind d (x ∷ v) = behind (after d x) v

most_more : (d : ℕ) (v : List Symbol) (m : Symbol) → most_open d (v ++ (m ∷ [])) ≡ max (most_open d v) (after (behind d v) m)
most_more d [] m = refl
most_more d (x ∷ v) m = ap (max d) (most_more (after d x) v m) ∙ regroup d (most_open (after d x) v) (after (behind (after d x) v) m)
  where
    regroup : (a b c : ℕ) → max a (max b c) ≡ max (max a b) c
    regroup a b c = omega arith

-- so many stances are stored as brackets are open
stored_moved : (t : Turtle) (d : ℕ) (m : Symbol) → length t.stored ≡ d → not (is_close m.letter && eqb d 0) ≡ true → length (moved t m).stored ≡ after d m
stored_moved t d m e h = by (is_open m.letter) (is_close m.letter) h
  where
    popped : (ps : List Stance) → length ps ≡ d → not (true && eqb d 0) ≡ true → length (back t.stance ps).stored ≡ pred d
    popped [] f g = absurd (both_ways _ (ap (λ n. not (true && eqb n 0)) (sym f)) g)
    popped (p ∷ ps) f g = omega (arith, f)

    by : (a b : Bool) → not (b && eqb d 0) ≡ true → length (cond a (record { stance = t.stance; stored = t.stance ∷ t.stored }) (cond b (back t.stance t.stored) (record { stance = there (deed m t.stance) t.stance; stored = t.stored }))).stored ≡ cond a (suc d) (cond b (pred d) d)
    by true b g = ap suc e
    by false true g = popped t.stored e g
    by false false g = e

-- what nests is closed no further than it is open
pub nest_first : (d : ℕ) (m : Symbol) (w : List Symbol) (e : Ending) → nested d (m ∷ w) e ≡ true → (not (is_close m.letter && eqb d 0) ≡ true) × (nested (after d m) w e ≡ true)
nest_first d m w e h = and_parts (not (is_close m.letter && eqb d 0)) (nested (after d m) w e) (and_parts (leb d 32) _ h).1

nest_low : (d : ℕ) (w : List Symbol) (e : Ending) → nested d w e ≡ true → d ≤ 32
nest_low d [] e h = low e h
  where
    low : (x : Ending) → nested d [] x ≡ true → d ≤ 32
    low x g = grind (arith, nat_tests)
nest_low d (m ∷ w) e h = leb-true d 32 (and_parts (leb d 32) _ h).0

pub nest_behind : (d : ℕ) (v w : List Symbol) (e : Ending) → nested d (v ++ w) e ≡ true → nested (behind d v) w e ≡ true
nest_behind d [] w e h = h
nest_behind d (x ∷ v) w e h = nest_behind (after d x) v w e (nest_first d x (v ++ w) e h).1

pub stored_behind : (t : Turtle) (d : ℕ) (v w : List Symbol) (e : Ending) → length t.stored ≡ d → nested d (v ++ w) e ≡ true → length (walked t v).stored ≡ behind d v
stored_behind t d [] w e f h = f
stored_behind t d (x ∷ v) w e f h =
    let n = nest_first d x (v ++ w) e h in
    stored_behind (moved t x) (after d x) v w e (stored_moved t d x f n.0) n.1

-- there is room where brackets nest
roomy_moves : (t : Turtle) (d : ℕ) (m : Symbol) → length t.stored ≡ d → after d m ≤ 32 → roomy t m ≡ moved t m
roomy_moves t d m e h = by (is_open m.letter) refl
  where
    by : (a : Bool) → is_open m.letter ≡ a → cond a (cond (ltb (length t.stored) 32) (moved t m) t) (moved t m) ≡ moved t m
    by true f =
        let deeper : after d m ≡ suc d = cond-true (is_open m.letter) (suc d) (cond (is_close m.letter) (pred d) d) f in
        cond-true (ltb (length t.stored) 32) (moved t m) t (lt-ltb (length t.stored) 32 (omega (arith, e, deeper, h)))
    by false f = refl

-- strokes are counted one by one
count_all : (d : Drawn) (ks : List Stroke) → (fold one_drawn d ks).count ≡ d.count + length ks
count_all d [] = omega arith
count_all d (k ∷ ks) = count_all (one_drawn d k) ks ∙ omega arith

few_by : (x : Deed) → length (drawn_by x) ≤ 1
few_by (goes s) = omega arith
few_by (draws k s) = omega arith
few_by (breaks n) = omega arith

few_strokes : (t : Turtle) (v : List Symbol) → length (strokes t v) ≤ length v
few_strokes t [] = omega arith
few_strokes t (x ∷ v) = omega (arith, length-append (drawn_by (deed x t.stance)) (strokes (moved t x) v), few_by (deed x t.stance), few_strokes (moved t x) v)

drawn_more : (ks : List Stroke) (x : Deed) → length ks < 16_000_000 → with_drawn (all_drawn ks) x ≡ all_drawn (ks ++ drawn_by x)
drawn_more ks (goes s) h = ap all_drawn (sym (append-nil ks))
drawn_more ks (breaks n) h = ap all_drawn (sym (append-nil ks))
drawn_more ks (draws k s) h =
    cond-true (ltb (all_drawn ks).count 16_000_000) _ _ (lt-ltb (all_drawn ks).count 16_000_000 (omega (arith, count_all none_drawn ks, h)))
    ∙ sym (fold-append one_drawn none_drawn ks (k ∷ []))

pub onwards : Onwards
onwards = record {
  starts = λ d. refl;
  goes_on = λ d v m w e h short.
      let t = walked (start d) v in
      let is : length t.stored ≡ behind d v = stored_behind (start d) d v (m ∷ w) e (length-replicate d home) h in
      let next = nest_first (behind d v) m w e (nest_behind d v (m ∷ w) e h) in
      let room = roomy_moves t (behind d v) m is (nest_low (after (behind d v) m) w e next.1) in
      let ks = strokes (start d) v in
      let few : length ks < 16_000_000 = omega (arith, few_strokes (start d) v, length-append v (m ∷ w), short) in
      let turtles = room ∙ sym (walked_more (start d) v m) in
      let drawn = drawn_more ks (deed m t.stance) few ∙ ap all_drawn (sym (strokes_more (start d) v m)) in
      let deepest = ap (max (most_open d v)) (ap (λ (x : Turtle). length x.stored) room ∙ stored_moved t (behind d v) m is next.0) ∙ sym (most_more d v m) in
      λ i. record { turtle = turtles i; drawn = drawn i; deepest = deepest i };
}
