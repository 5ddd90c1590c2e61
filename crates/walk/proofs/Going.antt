-- A walk goes on by what the turtle does.
use Rattle.std.proofs.Common.{◌≡◌, ℕ, ◌+◌, ◌≤◌, max, Bool, true, false, cond, ltb, eqb, List, ◌∷◌, length, ℤ, pos, negsuc, nat_abs, Some, Option, Ok, Err, Result, sym, refl, ap, ◌∙◌, subst, arith}
use Rattle.std.proofs.lemmas.Bool.{eqb-true, both_ways, cond-false}
use Rattle.word.specs.Symbols.{Symbol, is_open, is_close}
use Rattle.turtle.specs.Vectors.{Vector}
use Rattle.turtle.specs.Poses.{Stance, Stroke, all_in_bounds}
use Rattle.turtle.specs.Deeds.{Deed, goes, draws, breaks, is_length, stride, ahead, line, done, deed}
use Rattle.turtle.specs.Commands.{command_of}
use Rattle.turtle.specs.declared.command.Command.{Command}
use Rattle.turtle.specs.declared.command.Command.TheVariants.{Draw, Move, Turn, Nothing}
use Rattle.walk.specs.Boxes.{around}
use Rattle.sheet.specs.Sheets.{Content}
use Rattle.walk.specs.declared.refusal.Refusal.{Refusal}
use Rattle.walk.specs.declared.refusal.Refusal.TheVariants.{Limit, NoSpace}
use Rattle.walk.specs.Walks.{Turtle, there, back, moved, end_of, Walk}
use Rattle.walk.specs.Walkers.{roomy, counted, with_drawn, gone_on, drew, at, branched, went, Takes, TakesBy}

-- a bracket leaves the turtle where it is
stays : (letter : ℕ) (n : ℤ) (s : Stance) (c : ℕ) → letter ≡ c → done (command_of c) n s ≡ goes s → done (command_of letter) n s ≡ goes s
stays letter n s c e h = ap (λ l. done (command_of l) n s) e ∙ h

open_stays : (m : Symbol) (s : Stance) → is_open m.letter ≡ true → deed m s ≡ goes s
open_stays m s e = stays m.letter (stride m.params) s 91 (eqb-true m.letter 91 e) refl

close_stays : (m : Symbol) (s : Stance) → is_close m.letter ≡ true → deed m s ≡ goes s
close_stays m s e = stays m.letter (stride m.params) s 93 (eqb-true m.letter 93 e) refl

goes_where : (p q : Stance) → goes p ≡ goes q → p ≡ q
goes_where p q e = cc

not_both : (k : Stroke) (p q : Stance) → draws k p ≡ goes q → ⊥
not_both k p q e = let z : ◌≡◌ {A = ℕ} 0 1 = cc in absurd (omega arith)

-- where it only goes
pub goes_on : (k : Walk) (m : Symbol) (p : Stance) → goes p ≡ deed m k.turtle.stance → branched k p m.letter ≡ gone_on k m
goes_on k m p e = λ i. let t = turtles i in record { turtle = t; drawn = with_drawn k.drawn (e i); deepest = max k.deepest (length t.stored) }
  where
    s : Stance
    s = k.turtle.stance

    ps : List Stance
    ps = k.turtle.stored

    by : (a b : Bool) → is_open m.letter ≡ a → is_close m.letter ≡ b →
        cond a (cond (ltb (length ps) 32) (record { stance = p; stored = p ∷ ps }) (record { stance = p; stored = ps })) (cond b (back p ps) (record { stance = p; stored = ps }))
        ≡ cond a (cond (ltb (length ps) 32) (cond a (record { stance = s; stored = s ∷ ps }) (cond b (back s ps) (record { stance = there (deed m s) s; stored = ps }))) (record { stance = s; stored = ps })) (cond a (record { stance = s; stored = s ∷ ps }) (cond b (back s ps) (record { stance = there (deed m s) s; stored = ps })))
    by true b ha hb =
        let same : p ≡ s = goes_where p s (e ∙ open_stays m s ha) in
        ap (λ q. cond (ltb (length ps) 32) (record { stance = q; stored = q ∷ ps }) (record { stance = q; stored = ps })) same
    by false true ha hb = let same : p ≡ s = goes_where p s (e ∙ close_stays m s hb) in ap (λ q. back q ps) same
    by false false ha hb = λ i. record { stance = there (e i) s; stored = ps }

    turtles : at ps p m.letter ≡ roomy k.turtle m
    turtles = by (is_open m.letter) (is_close m.letter) refl refl

-- a stroke ends where its deed leads
end_by : (n : ℤ) (s : Stance) (k : Stroke) (p : Stance) → is_length n ≡ true → draws k p ≡ draws (line n s) (ahead n s) → p.place ≡ end_of k
end_by (negsuc n) s k p h e = absurd (both_ways _ refl h)
end_by (pos n) s k p h e =
    let first : k ≡ line (pos n) s = cc in
    let second : p ≡ ahead (pos n) s = cc in
    ap (λ (q : Stance). q.place) second ∙ sym (ap end_of first)

end_is : (c : Command) (n : ℤ) (s : Stance) (k : Stroke) (p : Stance) → draws k p ≡ done c n s → p.place ≡ end_of k
end_is Draw n s k p e = by (is_length n) refl (eqb (nat_abs n) 0) (all_in_bounds (ahead n s).place) e
  where
    by : (a : Bool) → is_length n ≡ a → (b c : Bool) → draws k p ≡ cond a (cond b (goes s) (cond c (draws (line n s) (ahead n s)) (breaks 42))) (breaks 41) → p.place ≡ end_of k
    by true h true c f = absurd (not_both k p s f)
    by true h false true f = end_by n s k p h f
    by true h false false f = let z : ◌≡◌ {A = ℕ} 0 1 = cc in absurd (omega arith)
    by false h b c f = let z : ◌≡◌ {A = ℕ} 0 1 = cc in absurd (omega arith)
end_is Move n s k p e = by (is_length n) (eqb (nat_abs n) 0) (all_in_bounds (ahead n s).place) e
  where
    by : (a b c : Bool) → draws k p ≡ cond a (cond b (goes s) (cond c (goes (ahead n s)) (breaks 42))) (breaks 41) → p.place ≡ end_of k
    by true true c f = absurd (not_both k p s f)
    by true false true f = absurd (not_both k p (ahead n s) f)
    by true false false f = let z : ◌≡◌ {A = ℕ} 0 1 = cc in absurd (omega arith)
    by false b c f = let z : ◌≡◌ {A = ℕ} 0 1 = cc in absurd (omega arith)
end_is (Turn t) n s k p e = absurd (not_both k p _ e)
end_is Nothing n s k p e = absurd (not_both k p _ e)

-- where it draws
pub drew_on : (k : Walk) (c : Command) (n : ℤ) (l : Stroke) (p : Stance) → draws l p ≡ done c n k.turtle.stance → record (drew k l p) { turtle = record { stance = p; stored = k.turtle.stored } } ≡ went k (done c n k.turtle.stance)
drew_on k c n l p e = λ i. record { turtle = record { stance = there (e i) k.turtle.stance; stored = k.turtle.stored }; drawn = (figures ∙ ap (with_drawn k.drawn) e) i; deepest = k.deepest }
  where
    figures : (drew k l p).drawn ≡ counted k.drawn l
    figures =
        let b : Vector → Option _ = λ v. Some (around (Some (around k.drawn.box l.start)) v) in
        ap (λ (v : Vector). cond (ltb k.drawn.count 16_000_000) (record { count = k.drawn.count + 1; length = k.drawn.length + l.length; box = b v }) (record { count = k.drawn.count; length = k.drawn.length; box = b v }))
        (end_is c n k.turtle.stance l p e)

-- the letter of no bracket
off : (b : Bool) → (b ≡ true → ⊥) → b ≡ false
off true h = absurd (h refl)
off false h = refl

-- the deed of a letter that is no bracket is all that is done
went_on : (k : Walk) (m : Symbol) → (is_open m.letter ≡ true → ⊥) → (is_close m.letter ≡ true → ⊥) → length k.turtle.stored ≤ k.deepest → went k (deed m k.turtle.stance) ≡ gone_on k m
went_on k m other_open other_close deep = λ i. record { turtle = turtles i; drawn = with_drawn k.drawn d; deepest = deepest i }
  where
    d : Deed
    d = deed m k.turtle.stance

    there_now : Turtle
    there_now = record { stance = there d k.turtle.stance; stored = k.turtle.stored }

    moves : moved k.turtle m ≡ there_now
    moves = cond-false (is_open m.letter) _ _ (off _ other_open) ∙ cond-false (is_close m.letter) _ _ (off _ other_close)

    turtles : there_now ≡ roomy k.turtle m
    turtles = sym (cond-false (is_open m.letter) _ _ (off _ other_open) ∙ moves)

    deepest : k.deepest ≡ max k.deepest (length (roomy k.turtle m).stored)
    deepest = most ∙ ap (λ (t : Turtle). max k.deepest (length t.stored)) turtles
      where
        most : k.deepest ≡ max k.deepest (length k.turtle.stored)
        most = omega (arith, deep)

-- what a walk makes of the deed of a letter that is no bracket, it makes of the module
takes_by : (k : Walk) (c : Content) (m : Symbol) (r : Result (Unit {0}) Refusal) (k' : Walk) (c' : Content) → (is_open m.letter ≡ true → ⊥) → (is_close m.letter ≡ true → ⊥) → length k.turtle.stored ≤ k.deepest → TakesBy k c (deed m k.turtle.stance) r k' c' → Takes k c m r k' c'
takes_by k c m (Ok u) k' c' other_open other_close deep t = (t.0, t.1 ∙ went_on k m other_open other_close deep, t.2)
takes_by k c m (Err (Limit l)) k' c' other_open other_close deep t = t
takes_by k c m (Err NoSpace) k' c' other_open other_close deep t = t

-- the turtle goes somewhere, or turns
abbrev pub Acts : Command → Type 0
Acts Draw = Unit {0}
Acts Move = Unit {0}
Acts (Turn t) = Unit {0}
Acts Nothing = ⊥

pub takes_so : (k : Walk) (c : Content) (m : Symbol) (r : Result (Unit {0}) Refusal) (k' : Walk) (c' : Content) (x : Command) → command_of m.letter ≡ x → Acts x → length k.turtle.stored ≤ k.deepest → TakesBy k c (done x (stride m.params) k.turtle.stance) r k' c' → Takes k c m r k' c'
takes_so k c m r k' c' x is acts deep t =
    takes_by k c m r k' c'
    (λ h. subst Acts (sym is ∙ ap command_of (eqb-true m.letter 91 h)) acts)
    (λ h. subst Acts (sym is ∙ ap command_of (eqb-true m.letter 93 h)) acts)
    deep
    (subst (λ (y : Command). TakesBy k c (done y (stride m.params) k.turtle.stance) r k' c') (sym is) t)
