-- A table of what stands last at each depth has the left neighbour of each position at the depth of that position.
use Rattle.std.proofs.Common.{◌≡◌, ℕ, zero, suc, pred, ◌<◌, ◌≤◌, Bool, true, false, cond, not, ◌&&◌, ◌||◌, eqb, ltb, leb, ◌⊎◌, List, [], ◌∷◌, Some, None, Option, sym, refl, ap, ◌∙◌, inl, inr, arith}
use Rattle.std.specs.List.{slice_get}
use Rattle.std.proofs.lemmas.Bool.{leb-true, le-leb, lt-leb, le-ltb, eq-eqb, ne_eqb, cases_lt, or_right, and_right, cond-true, cond-false}
use Rattle.word.specs.Symbols.{Symbol, is_open, is_close}
use Rattle.word.specs.Words.{after, depth}
use Rattle.generation.specs.Neighbours.{greatest, each_below, holds, counts, stands, above, left}
use Rattle.generation.specs.Stream.{Table, put, passed}
use Rattle.generation.proofs.Sentences.{between_made}

and_same : (b x y : Bool) → (b ≡ true → x ≡ y) → (b && x) ≡ (b && y)
and_same true x y h = h refl
and_same false x y h = refl

greatest_same : (n : ℕ) (p q : ℕ → Bool) → ((j : ℕ) → j < n → p j ≡ q j) → greatest n p ≡ greatest n q
greatest_same zero p q h = refl
greatest_same (suc n) p q h =
    ap (λ (b : Bool). cond b (Some n) (greatest n p)) (h n (omega arith))
    ∙ ap (cond (q n) (Some n)) (greatest_same n p q (λ j l. h j (omega arith)))

-- the depth behind a module, if there is one
abbrev pub behind : ℕ → Option Symbol → ℕ
behind d None = d
behind d (Some s) = after d s

pub depth_suc : (k : ℕ) (w : List Symbol) (i : ℕ) → depth k w (suc i) ≡ behind (depth k w i) (slice_get w i)
depth_suc k [] zero = refl
depth_suc k [] (suc i) = refl
depth_suc k (s ∷ w) zero = refl
depth_suc k (s ∷ w) (suc i) = depth_suc (after k s) w i

-- the table of positions before position i
abbrev pub table : (ℕ → Bool) → ℕ → List Symbol → ℕ → Table ℕ
table ignored k w zero = λ e. None
table ignored k w (suc i) =
    elim (slice_get w i) [ None ↦ table ignored k w i | Some s ↦ passed ignored (depth k w i) s i (table ignored k w i) ]

module _ (ign : ℕ → Bool) (k : ℕ) (w : List Symbol) where
  abbrev pub d : ℕ → ℕ
  d t = depth k w t

  -- one position more
  pub above_suc : (x j i : ℕ) → d x ≤ d (suc i) → above ign k w x j (suc i) ≡ above ign k w x j i
  above_suc x j i l =
      ap (λ (b : Bool). b && above ign k w x j i)
      (or_right (ltb (suc i) j) (leb (d x) (d (suc i))) (le-leb (d x) (d (suc i)) l))

  -- the last position
  pub above_end : (x j i : ℕ) → j ≤ i → d i < d x → above ign k w x j i ≡ false
  above_end x j i h l =
      ap (λ (b : Bool). b && each_below i (λ t. ltb t j || leb (d x) (d t)))
      (ap (λ (b : Bool). b || leb (d x) (d i)) (le-ltb i j h) ∙ lt-leb (d x) (d i) l)

  -- a position itself
  pub above_self : (i : ℕ) → above ign k w i i i ≡ true
  above_self i =
      between_made i i (λ t. leb (d i) (d t))
      (λ t a b. let same : d i ≡ d t = ap d (let e : i ≡ t = omega arith in e) in le-leb (d i) (d t) (omega arith))

  -- the left neighbour among the positions of depth e at most
  abbrev at_most : ℕ → ℕ → ℕ → Bool
  at_most i e j = stands ign k w j && (leb (d j) e && above ign k w j j i)

  abbrev up_to : ℕ → ℕ → Option ℕ
  up_to i e = greatest i (at_most i e)

  keeps : (i e j : ℕ) → e ≤ d (suc i) → at_most (suc i) e j ≡ at_most i e j
  keeps i e j h =
      and_same (stands ign k w j) _ _
      (λ _. and_same (leb (d j) e) _ _ (λ l. above_suc j j i (omega (arith, leb-true (d j) e l))))

  -- a bound that is no less than the depth of i bounds nothing
  capped : (i e j : ℕ) → j ≤ i → d i ≤ e → (leb (d j) e && above ign k w j j i) ≡ above ign k w j j i
  capped i e j h l = go (cases_lt e (d j))
    where
      go : (e < d j) ⊎ (d j ≤ e) → (leb (d j) e && above ign k w j j i) ≡ above ign k w j j i
      go (inl gt) = ap (λ (b : Bool). b && above ign k w j j i) (lt-leb (d j) e gt) ∙ sym (above_end j j i h (omega arith))
      go (inr le) = ap (λ (b : Bool). b && above ign k w j j i) (le-leb (d j) e le)

  up_to_left : (i e : ℕ) → d i ≤ e → up_to i e ≡ left ign k w i
  up_to_left i e h = greatest_same i _ _ (λ j l. and_same (stands ign k w j) _ _ (λ _. capped i e j (omega arith) h))

  -- a position that does not stand, or lies too deep, makes no difference
  up_to_same : (i e : ℕ) → e ≤ d (suc i) → at_most (suc i) e i ≡ false → up_to (suc i) e ≡ up_to i e
  up_to_same i e h n = cond-false (at_most (suc i) e i) _ _ n ∙ greatest_same i _ _ (λ j l. keeps i e j h)

  not_standing : (i e : ℕ) → stands ign k w i ≡ false → at_most (suc i) e i ≡ false
  not_standing i e s = ap (λ (b : Bool). b && (leb (d i) e && above ign k w i i (suc i))) s

  too_deep : (i e : ℕ) → e < d i → at_most (suc i) e i ≡ false
  too_deep i e h =
      and_right (stands ign k w i) _ (ap (λ (b : Bool). b && above ign k w i i (suc i)) (lt-leb (d i) e h))

  standing : (i : ℕ) → stands ign k w i ≡ true → d (suc i) ≡ d i → up_to (suc i) (d i) ≡ Some i
  standing i s q =
      cond-true (at_most (suc i) (d i) i) _ _
      (ap (λ (b : Bool). b && (leb (d i) (d i) && above ign k w i i (suc i))) s
      ∙ ap (λ (b : Bool). b && above ign k w i i (suc i)) (le-leb (d i) (d i) (omega arith))
      ∙ above_suc i i i (omega arith)
      ∙ above_self i)

  put_same : (t : Table ℕ) (x : ℕ) (o : Option ℕ) → put t x o x ≡ o
  put_same t x o = cond-true (eqb x x) o (t x) (eq-eqb x x refl)

  put_other : (t : Table ℕ) (x y : ℕ) (o : Option ℕ) → (y ≡ x → ⊥) → put t x o y ≡ t y
  put_other t x y o n = cond-false (eqb y x) o (t y) (ne_eqb y x n)

  -- one module, by whether it opens, closes and is ignored
  one_more : (i : ℕ) (t : Table ℕ) → ((e : ℕ) → e ≤ d i → t e ≡ up_to i e) → (e : ℕ) → e ≤ d (suc i) → (a c g : Bool) → d (suc i) ≡ cond a (suc (d i)) (cond c (pred (d i)) (d i)) → stands ign k w i ≡ (not (a || c) && not g) → cond a (put t (suc (d i)) (t (d i))) (cond (not (a || c) && not g) (put t (d i) (Some i)) t) e ≡ up_to (suc i) e
  one_more i t ih e h true c g q st = go (cases_lt (d i) e)
    where
      go : (d i < e) ⊎ (e ≤ d i) → put t (suc (d i)) (t (d i)) e ≡ up_to (suc i) e
      go (inl gt) =
          let x : e ≡ suc (d i) = let r : d (suc i) ≡ suc (d i) = q in omega arith in
          ap (put t (suc (d i)) (t (d i))) x
          ∙ put_same t (suc (d i)) (t (d i))
          ∙ ih (d i) (omega arith)
          ∙ up_to_left i (d i) (omega arith)
          ∙ sym (up_to_left i e (omega arith))
          ∙ sym (up_to_same i e h (not_standing i e st))
      go (inr le) =
          put_other t (suc (d i)) e (t (d i)) (omega arith)
          ∙ ih e le
          ∙ sym (up_to_same i e h (not_standing i e st))
  one_more i t ih e h false true g q st = ih e (let r : d (suc i) ≡ pred (d i) = q in omega arith) ∙ sym (up_to_same i e h (not_standing i e st))
  one_more i t ih e h false false true q st = ih e (let r : d (suc i) ≡ d i = q in omega arith) ∙ sym (up_to_same i e h (not_standing i e st))
  one_more i t ih e h false false false q st = go (cases_lt e (d i))
    where
      go : (e < d i) ⊎ (d i ≤ e) → put t (d i) (Some i) e ≡ up_to (suc i) e
      go (inl lt) =
          put_other t (d i) e (Some i) (omega arith)
          ∙ ih e (omega arith)
          ∙ sym (up_to_same i e h (too_deep i e lt))
      go (inr ge) =
          let x : e ≡ d i = let r : d (suc i) ≡ d i = q in omega arith in
          ap (put t (d i) (Some i)) x
          ∙ put_same t (d i) (Some i)
          ∙ sym (standing i st q)
          ∙ ap (up_to (suc i)) (sym x)

  abbrev after_one : ℕ → Option Symbol → Table ℕ
  after_one i None = table ign k w i
  after_one i (Some s) = passed ign (d i) s i (table ign k w i)

  table_up_to : (i e : ℕ) → e ≤ d i → table ign k w i e ≡ up_to i e
  table_up_to zero e h = refl
  table_up_to (suc i) e h = go (table_up_to i) (slice_get w i) refl
    where
      go : ((x : ℕ) → x ≤ d i → table ign k w i x ≡ up_to i x) → (o : Option Symbol) → slice_get w i ≡ o → table ign k w (suc i) e ≡ up_to (suc i) e
      go ih None p =
          ap (λ (o : Option Symbol). after_one i o e) p
          ∙ ih e (omega (arith, depth_suc k w i ∙ ap (behind (d i)) p))
          ∙ sym (up_to_same i e h (not_standing i e (ap (holds (counts ign)) p)))
      go ih (Some s) p =
          ap (λ (o : Option Symbol). after_one i o e) p
          ∙ one_more i (table ign k w i) ih e h (is_open s.letter) (is_close s.letter) (ign s.letter)
          (depth_suc k w i ∙ ap (behind (d i)) p)
          (ap (holds (counts ign)) p)

  pub table_left : (i : ℕ) → table ign k w i (d i) ≡ left ign k w i
  table_left i = table_up_to i (d i) (omega arith) ∙ up_to_left i (d i) (omega arith)
