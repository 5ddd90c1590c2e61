-- A bounded look ahead settles the right neighbour where one of the next modules does, and finds it.
use Rattle.std.proofs.Common.{◌≡◌, ℕ, zero, suc, pred, ◌+◌, ◌-◌, ◌<◌, ◌≤◌, Bool, true, false, cond, not, ◌&&◌, ◌||◌, eqb, ltb, leb, List, [], ◌∷◌, length, drop, is_some, Some, None, Option, sym, refl, ap, ◌∙◌, subst, ap₂, arith, length-drop}
use Rattle.std.specs.List.{slice_get}
use Rattle.std.proofs.lemmas.Bool.{eq-eqb, ne_eqb, eqb-true, eqb-false, and_right, cond-true, cond-false}
use Rattle.word.specs.Symbols.{Symbol, is_open, is_close}
use Rattle.word.specs.Words.{depth}
use Rattle.generation.specs.Neighbours.{least, each_below, holds, closes, counts, stands, above, level, settles, right}
use Rattle.generation.specs.Generations.{there}
use Rattle.generation.specs.Stream.{Look, neighbour, closed, ended, spent, scan}
use Rattle.generation.proofs.LeftSide.{behind, depth_suc, above_suc, above_end, above_self}

least_none : (j n : ℕ) (p : ℕ → Bool) → ((t : ℕ) → j ≤ t → p t ≡ false) → least j n p ≡ None
least_none j zero p h = refl
least_none j (suc n) p h = cond-false (p j) _ _ (h j (omega arith)) ∙ least_none (suc j) n p (λ t l. h t (omega arith))

-- what fails once fails ever after
each_fails : (n m : ℕ) (p : ℕ → Bool) → each_below n p ≡ false → each_below (m + n) p ≡ false
each_fails n zero p h = let e : 0 + n ≡ n = omega arith in rw e h
each_fails n (suc m) p h = let e : suc m + n ≡ suc (m + n) = omega arith in rw e (and_right (p (m + n)) _ (each_fails n m p h))

pub nth_drop : (j : ℕ) (w : List Symbol) (s : Symbol) (v : List Symbol) → drop j w ≡ s ∷ v → (slice_get w j ≡ Some s) × (drop (suc j) w ≡ v)
nth_drop zero [] s v e = absurd (let z : ◌≡◌ {A = ℕ} 0 1 = cc in omega arith)
nth_drop zero (x ∷ w) s v e = (let f : x ≡ s = cc in ap (λ (y : Symbol). Some y) f, cc)
nth_drop (suc j) [] s v e = absurd (let z : ◌≡◌ {A = ℕ} 0 1 = cc in omega arith)
nth_drop (suc j) (x ∷ w) s v e = nth_drop j w s v e

nth_none : (j : ℕ) (w : List Symbol) → drop j w ≡ [] → (t : ℕ) → j ≤ t → slice_get w t ≡ None
nth_none zero [] e t l = refl
nth_none zero (x ∷ w) e t l = absurd (let z : ◌≡◌ {A = ℕ} 0 1 = cc in omega arith)
nth_none (suc j) [] e t l = refl
nth_none (suc j) (x ∷ w) e zero l = absurd (omega arith)
nth_none (suc j) (x ∷ w) e (suc t) l = nth_none j w e t (omega arith)

-- a look comes to something that settles
abbrev pub settling : Look → Bool
settling (neighbour s) = true
settling closed = true
settling ended = false
settling spent = false

-- what a look says of the right neighbour
abbrev pub Says : List Symbol → Look → Option ℕ → Type 0
Says w (neighbour s) o = there w o ≡ Some s
Says w closed o = o ≡ None
Says w ended o = o ≡ None
Says w spent o = Unit {0}

-- no `]` stands where no bracket is open
abbrev pub Closable : ℕ → List Symbol → Type 0
Closable k w = (t : ℕ) → holds closes (slice_get w t) ≡ true → 0 < depth k w t

module _ (ign : ℕ → Bool) (k : ℕ) (w : List Symbol) (closable : Closable k w) (i : ℕ) where
  abbrev d : ℕ → ℕ
  d t = depth k w t

  -- j settles; j is the right neighbour, if it is the least
  abbrev q : ℕ → Bool
  q j = settles ign k w i j

  abbrev p : ℕ → Bool
  p j = stands ign k w j && level ign k w i j

  -- what a look at n modules from j on comes to, where m are left
  abbrev Good : Look → ℕ → ℕ → ℕ → Type 0
  Good x j n m = (settling x ≡ is_some (least j n q)) × Says w x (least j m p)

  pass : (x : Look) (j n m : ℕ) → q j ≡ false → p j ≡ false → Good x (suc j) n m → Good x j (suc n) (suc m)
  pass x j n m a b g = (g.0 ∙ sym (ap is_some (cond-false (q j) _ _ a)), subst (Says w x) (sym (cond-false (p j) _ _ b)) g.1)

  -- the level, by the brackets open since i
  level_no : (j r : ℕ) → d j ≡ d i + r → (r ≡ 0 → ⊥) → level ign k w i j ≡ false
  level_no j r e n = ap (λ (b : Bool). b && above ign k w i i j) (ne_eqb (d j) (d i) (λ h. n (omega arith)))

  level_yes : (j : ℕ) → d j ≡ d i → above ign k w i i j ≡ true → level ign k w i j ≡ true
  level_yes j e a = ap (λ (b : Bool). b && above ign k w i i j) (eq-eqb (d j) (d i) e) ∙ a

  -- past the end of the branch
  beyond : (j t : ℕ) → i ≤ j → d j < d i → j ≤ t → p t ≡ false
  beyond j t h l m =
      let e : suc t ≡ (t - j) + suc j = omega arith in
      let test : ℕ → Bool = λ u. ltb u i || leb (d i) (d u) in
      let fails : above ign k w i i t ≡ false = ap (λ (x : ℕ). each_below x test) e ∙ each_fails (suc j) (t - j) test (above_end ign k w i i j h l) in
      and_right (stands ign k w t) _ (and_right (eqb (d t) (d i)) _ fails)

  -- one module: a opens, c closes, g is ignored, z says that no bracket is open since i
  one_more : (j r n m : ℕ) (s : Symbol) → slice_get w j ≡ Some s → (x₁ x₂ x₃ : Look) (a c g z : Bool) →
      i < j → d j ≡ d i + r → above ign k w i i j ≡ true →
      (a ≡ true → c ≡ true → ⊥) → (z ≡ true → r ≡ 0) → (z ≡ false → r ≡ 0 → ⊥) →
      d (suc j) ≡ cond a (suc (d j)) (cond c (pred (d j)) (d j)) →
      stands ign k w j ≡ (not (a || c) && not g) → holds closes (slice_get w j) ≡ c →
      (d (suc j) ≡ d i + suc r → above ign k w i i (suc j) ≡ true → Good x₁ (suc j) n m) →
      (d (suc j) ≡ d i + pred r → above ign k w i i (suc j) ≡ true → Good x₂ (suc j) n m) →
      (d (suc j) ≡ d i + r → above ign k w i i (suc j) ≡ true → Good x₃ (suc j) n m) →
      Good (cond a x₁ (cond c (cond z closed x₂) (cond (z && not g) (neighbour s) x₃))) j (suc n) (suc m)
  one_more j r n m s here x₁ x₂ x₃ true true g z h e ab never z₁ z₀ ds st cl g₁ g₂ g₃ = absurd (never refl refl)
  one_more j r n m s here x₁ x₂ x₃ true false g z h e ab never z₁ z₀ ds st cl g₁ g₂ g₃ =
      let f : d (suc j) ≡ suc (d j) = ds in
      pass x₁ j n m
      (ap₂ (λ (x y : Bool). (x || y) && level ign k w i j) st cl)
      (ap (λ (x : Bool). x && level ign k w i j) st)
      (g₁ (omega arith) (above_suc ign k w i i j (omega arith) ∙ ab))
  one_more j r n m s here x₁ x₂ x₃ false true g true h e ab never z₁ z₀ ds st cl g₁ g₂ g₃ =
      let f : d (suc j) ≡ pred (d j) = ds in
      let rz : r ≡ 0 = z₁ refl in
      let up : 0 < d j = closable j cl in (
        sym (ap is_some (cond-true (q j) _ _ (ap₂ (λ (x y : Bool). (x || y) && level ign k w i j) st cl ∙ level_yes j (omega arith) ab))),
        cond-false (p j) _ _ (ap (λ (x : Bool). x && level ign k w i j) st)
            ∙ least_none (suc j) m p (λ t l. beyond (suc j) t (omega arith) (omega arith) l),
      )
  one_more j r n m s here x₁ x₂ x₃ false true g false h e ab never z₁ z₀ ds st cl g₁ g₂ g₃ =
      let f : d (suc j) ≡ pred (d j) = ds in
      let nz : r ≡ 0 → ⊥ = z₀ refl in
      pass x₂ j n m
      (ap₂ (λ (x y : Bool). (x || y) && level ign k w i j) st cl ∙ level_no j r e nz)
      (ap (λ (x : Bool). x && level ign k w i j) st)
      (g₂ (omega arith) (above_suc ign k w i i j (omega arith) ∙ ab))
  one_more j r n m s here x₁ x₂ x₃ false false true true h e ab never z₁ z₀ ds st cl g₁ g₂ g₃ =
      let f : d (suc j) ≡ d j = ds in
      pass x₃ j n m
      (ap₂ (λ (x y : Bool). (x || y) && level ign k w i j) st cl)
      (ap (λ (x : Bool). x && level ign k w i j) st)
      (g₃ (omega arith) (above_suc ign k w i i j (omega arith) ∙ ab))
  one_more j r n m s here x₁ x₂ x₃ false false true false h e ab never z₁ z₀ ds st cl g₁ g₂ g₃ =
      let f : d (suc j) ≡ d j = ds in
      pass x₃ j n m
      (ap₂ (λ (x y : Bool). (x || y) && level ign k w i j) st cl)
      (ap (λ (x : Bool). x && level ign k w i j) st)
      (g₃ (omega arith) (above_suc ign k w i i j (omega arith) ∙ ab))
  one_more j r n m s here x₁ x₂ x₃ false false false true h e ab never z₁ z₀ ds st cl g₁ g₂ g₃ =
      let rz : r ≡ 0 = z₁ refl in
      let lv : level ign k w i j ≡ true = level_yes j (omega arith) ab in (
        sym (ap is_some (cond-true (q j) _ _ (ap₂ (λ (x y : Bool). (x || y) && level ign k w i j) st cl ∙ lv))),
        ap (there w) (cond-true (p j) _ _ (ap (λ (x : Bool). x && level ign k w i j) st ∙ lv)) ∙ here,
      )
  one_more j r n m s here x₁ x₂ x₃ false false false false h e ab never z₁ z₀ ds st cl g₁ g₂ g₃ =
      let f : d (suc j) ≡ d j = ds in
      let lv : level ign k w i j ≡ false = level_no j r e (z₀ refl) in
      pass x₃ j n m
      (ap₂ (λ (x y : Bool). (x || y) && level ign k w i j) st cl ∙ lv)
      (ap (λ (x : Bool). x && level ign k w i j) st ∙ lv)
      (g₃ (omega arith) (above_suc ign k w i i j (omega arith) ∙ ab))

  scanned : (n r j : ℕ) (v : List Symbol) → drop j w ≡ v → i < j → d j ≡ d i + r → above ign k w i i j ≡ true → Good (scan ign n r v) j n (length v)
  scanned zero r j v dr h e ab = (refl, tt)
  scanned (suc n) r j [] dr h e ab = (
    sym
        (ap is_some
        (least_none j (suc n) q
        (λ t l. ap (λ (o : Option Symbol). (holds (counts ign) o || holds closes o) && level ign k w i t) (nth_none j w dr t l)))),
    refl,
  )
  scanned (suc n) r j (s ∷ v) dr h e ab =
      let here : slice_get w j ≡ Some s = (nth_drop j w s v dr).0 in
      let rest : drop (suc j) w ≡ v = (nth_drop j w s v dr).1 in
      one_more j r n (length v) s here (scan ign n (suc r) v) (scan ign n (pred r) v) (scan ign n r v)
      (is_open s.letter) (is_close s.letter) (ign s.letter) (eqb r 0)
      h e ab
      (λ x y. omega (arith, eqb-true s.letter 91 x, eqb-true s.letter 93 y))
      (eqb-true r 0) (eqb-false r 0)
      (depth_suc k w j ∙ ap (behind (d j)) here)
      (ap (holds (counts ign)) here)
      (ap (holds closes) here)
      (λ e' ab'. scanned n (suc r) (suc j) v rest (omega arith) e' ab')
      (λ e' ab'. scanned n (pred r) (suc j) v rest (omega arith) e' ab')
      (λ e' ab'. scanned n r (suc j) v rest (omega arith) e' ab')

  -- a look from the module at i, which is no bracket
  pub looked : (v : List Symbol) → drop (suc i) w ≡ v → d (suc i) ≡ d i →
      (settling (scan ign 64 0 v) ≡ is_some (least (suc i) 64 (settles ign k w i))) × Says w (scan ign 64 0 v) (right ign k w i)
  looked v dr e =
      let n : length v ≡ length w - suc i = sym (ap length dr) ∙ length-drop (suc i) w in
      let good : Good (scan ign 64 0 v) (suc i) 64 (length v) = scanned 64 0 (suc i) v dr (omega arith) (omega arith) (above_suc ign k w i i i (omega arith) ∙ above_self ign k w i) in
      (good.0, subst (λ (x : ℕ). Says w (scan ign 64 0 v) (least (suc i) x p)) n good.1)

-- a look is spent where as many modules are left as it may look at, and the word ends it where fewer are
abbrev pub Room : Look → ℕ → ℕ → Type 0
Room (neighbour s) n m = Unit {0}
Room closed n m = Unit {0}
Room ended n m = m < n
Room spent n m = n ≤ m

room_suc : (x : Look) (n m : ℕ) → Room x n m → Room x (suc n) (suc m)
room_suc (neighbour s) n m h = tt
room_suc closed n m h = tt
room_suc ended n m h = omega arith
room_suc spent n m h = omega arith

pub room : (ign : ℕ → Bool) (n r : ℕ) (w : List Symbol) → Room (scan ign n r w) n (length w)
room ign zero r w = omega arith
room ign (suc n) r [] = omega arith
room ign (suc n) r (s ∷ w) =
    go (is_open s.letter) (is_close s.letter) (eqb r 0) (eqb r 0 && not (ign s.letter))
    (scan ign n (suc r) w) (scan ign n (pred r) w) (scan ign n r w)
    (room ign n (suc r) w) (room ign n (pred r) w) (room ign n r w)
  where
    go : (a c z g : Bool) (x₁ x₂ x₃ : Look) → Room x₁ n (length w) → Room x₂ n (length w) → Room x₃ n (length w) → Room (cond a x₁ (cond c (cond z closed x₂) (cond g (neighbour s) x₃))) (suc n) (suc (length w))
    go true c z g x₁ x₂ x₃ h₁ h₂ h₃ = room_suc x₁ n (length w) h₁
    go false true true g x₁ x₂ x₃ h₁ h₂ h₃ = tt
    go false true false g x₁ x₂ x₃ h₁ h₂ h₃ = room_suc x₂ n (length w) h₂
    go false false z true x₁ x₂ x₃ h₁ h₂ h₃ = tt
    go false false z false x₁ x₂ x₃ h₁ h₂ h₃ = room_suc x₃ n (length w) h₃
