-- The neighbours found are those of the sentences.
use Rattle.std.proofs.Common.{◌≡◌, ℕ, zero, suc, ◌+◌, ◌-◌, ◌<◌, ◌≤◌, Bool, true, false, cond, ◌&&◌, ◌||◌, eqb, ltb, leb, List, length, Some, None, Option, sym, refl, ap, ◌∙◌, inl, inr, arith}
use Rattle.std.proofs.lemmas.Bool.{leb-true, le-leb, ltb-false, le-ltb, and_parts, and_from, eqb-true, eq-eqb, both_ways, cases_eq}
use Rattle.word.specs.Symbols.{Symbol}
use Rattle.word.specs.Words.{depth}
use Rattle.generation.specs.Neighbours.{greatest, least, each_below, between, stands, above, level, left, right}
use Rattle.generation.specs.Sentences.{LeftOf, RightOf, Greatest, Least, NeighboursAre}

-- a test of every number below n
each_at : (n : ℕ) (p : ℕ → Bool) → each_below n p ≡ true → (t : ℕ) → t < n → p t ≡ true
each_at zero p h t l = absurd (omega arith)
each_at (suc n) p h t l =
    elim (cases_eq t n) [
      | inl e ↦ ap p e ∙ (and_parts (p n) (each_below n p) h).0
      | inr e ↦ each_at n p (and_parts (p n) (each_below n p) h).1 t (omega arith)
    ]

pub each_made : (n : ℕ) (p : ℕ → Bool) → ((t : ℕ) → t < n → p t ≡ true) → each_below n p ≡ true
each_made zero p h = refl
each_made (suc n) p h = and_from (p n) (each_below n p) (h n (omega arith)) (each_made n p (λ t l. h t (omega arith)))

between_at : (j i : ℕ) (p : ℕ → Bool) → between j i p ≡ true → (t : ℕ) → j ≤ t → t ≤ i → p t ≡ true
between_at j i p h t a b = sym (ap (λ (x : Bool). x || p t) (le-ltb t j a)) ∙ each_at (suc i) (λ u. ltb u j || p u) h t (omega arith)

pub between_made : (j i : ℕ) (p : ℕ → Bool) → ((t : ℕ) → j ≤ t → t ≤ i → p t ≡ true) → between j i p ≡ true
between_made j i p h = each_made (suc i) (λ u. ltb u j || p u) (λ t l. go t l (ltb t j) refl)
  where
    go : (t : ℕ) → t < suc i → (x : Bool) → ltb t j ≡ x → (x || p t) ≡ true
    go t l true e = refl
    go t l false e = h t (ltb-false t j e) (omega arith)

-- the greatest of the numbers below n that pass a test, and the least of n numbers from i on
greatest_is : (n : ℕ) (p : ℕ → Bool) → Greatest (λ j. (j < n) × (p j ≡ true)) (greatest n p)
greatest_is zero p = λ j h. omega (arith, h.0)
greatest_is (suc n) p = go (p n) refl (greatest n p) (greatest_is n p)
  where
    go : (b : Bool) → p n ≡ b → (o : Option ℕ) → Greatest (λ j. (j < n) × (p j ≡ true)) o → Greatest (λ j. (j < suc n) × (p j ≡ true)) (cond b (Some n) o)
    go true e o h = ((omega arith, e), λ x k. omega (arith, k.0))
    go false e None h = λ j k. elim (cases_eq j n) [ inl q ↦ both_ways (p n) e (sym (ap p q) ∙ k.1) | inr q ↦ h j (omega (arith, k.0), k.1) ]
    go false e (Some j) h = (
      (omega (arith, h.0.0), h.0.1),
      λ x k. elim (cases_eq x n) [ inl q ↦ absurd (both_ways (p n) e (sym (ap p q) ∙ k.1)) | inr q ↦ h.1 x (omega (arith, k.0), k.1) ],
    )

least_is : (i n : ℕ) (p : ℕ → Bool) → Least (λ j. (i ≤ j) × (j < i + n) × (p j ≡ true)) (least i n p)
least_is i zero p = λ j h. omega (arith, h.0, h.1)
least_is i (suc n) p = go (p i) refl (least (suc i) n p) (least_is (suc i) n p)
  where
    go : (b : Bool) → p i ≡ b → (o : Option ℕ) → Least (λ j. (suc i ≤ j) × (j < suc i + n) × (p j ≡ true)) o → Least (λ j. (i ≤ j) × (j < i + suc n) × (p j ≡ true)) (cond b (Some i) o)
    go true e o h = ((omega arith, omega arith, e), λ x k. k.0)
    go false e None h = λ j k.
        elim (cases_eq j i) [
          | inl q ↦ both_ways (p i) e (sym (ap p q) ∙ k.2)
          | inr q ↦ h j (omega (arith, k.0), omega (arith, k.1), k.2)
        ]
    go false e (Some j) h = (
      (omega (arith, h.0.0), omega (arith, h.0.1), h.0.2),
      λ x k.
          elim (cases_eq x i) [
            | inl q ↦ absurd (both_ways (p i) e (sym (ap p q) ∙ k.2))
            | inr q ↦ h.1 x (omega (arith, k.0), omega (arith, k.1), k.2)
          ],
    )

-- what is the greatest, or the least, of one property is that of an equivalent one
greatest_like : (P Q : ℕ → Type 0) → ((j : ℕ) → P j → Q j) → ((j : ℕ) → Q j → P j) → (o : Option ℕ) → Greatest P o → Greatest Q o
greatest_like P Q f g None h = λ j q. h j (g j q)
greatest_like P Q f g (Some j) h = (f j h.0, λ x q. h.1 x (g x q))

least_like : (P Q : ℕ → Type 0) → ((j : ℕ) → P j → Q j) → ((j : ℕ) → Q j → P j) → (o : Option ℕ) → Least P o → Least Q o
least_like P Q f g None h = λ j q. h j (g j q)
least_like P Q f g (Some j) h = (f j h.0, λ x q. h.1 x (g x q))

module _ (ignored : ℕ → Bool) (k : ℕ) (w : List Symbol) (i : ℕ) where
  clear_at : (x j n : ℕ) → above ignored k w x j n ≡ true → (t : ℕ) → j ≤ t → t ≤ n → depth k w x ≤ depth k w t
  clear_at x j n h t a b = leb-true (depth k w x) (depth k w t) (between_at j n (λ u. leb (depth k w x) (depth k w u)) h t a b)

  clear_made : (x j n : ℕ) → ((t : ℕ) → j ≤ t → t ≤ n → depth k w x ≤ depth k w t) → above ignored k w x j n ≡ true
  clear_made x j n h = between_made j n (λ u. leb (depth k w x) (depth k w u)) (λ t a b. le-leb (depth k w x) (depth k w t) (h t a b))

  to_left : (j : ℕ) → (j < i) × ((stands ignored k w j && above ignored k w j j i) ≡ true) → LeftOf ignored k w i j
  to_left j h =
      let parts = and_parts (stands ignored k w j) (above ignored k w j j i) h.1 in
      record { before = h.0; letter = parts.0; clear = clear_at j j i parts.1 }

  from_left : (j : ℕ) → LeftOf ignored k w i j → (j < i) × ((stands ignored k w j && above ignored k w j j i) ≡ true)
  from_left j h = (h.before, and_from (stands ignored k w j) (above ignored k w j j i) h.letter (clear_made j j i h.clear))

  abbrev Found : ℕ → Type 0
  Found j = (suc i ≤ j) × (j < suc i + (length w - suc i)) × ((stands ignored k w j && level ignored k w i j) ≡ true)

  to_right : (j : ℕ) → Found j → RightOf ignored k w i j
  to_right j h =
      let parts = and_parts (stands ignored k w j) (level ignored k w i j) h.2 in
      let even = and_parts (eqb (depth k w j) (depth k w i)) (above ignored k w i i j) parts.1 in
      record {
        behind = h.0;
        within = omega (arith, h.0, h.1);
        letter = parts.0;
        same = eqb-true (depth k w j) (depth k w i) even.0;
        clear = clear_at i i j even.1;
      }

  from_right : (j : ℕ) → RightOf ignored k w i j → Found j
  from_right j h = (
    omega arith,
    omega arith,
    and_from (stands ignored k w j) (level ignored k w i j) h.letter
        (and_from (eqb (depth k w j) (depth k w i)) (above ignored k w i i j)
        (eq-eqb (depth k w j) (depth k w i) h.same) (clear_made i i j h.clear)),
  )

pub neighbours_are : NeighboursAre
neighbours_are = record {
  on_the_left = λ ignored k w i.
      greatest_like _ _ (to_left ignored k w i) (from_left ignored k w i) (left ignored k w i)
      (greatest_is i (λ j. stands ignored k w j && above ignored k w j j i));
  on_the_right = λ ignored k w i.
      least_like _ _ (to_right ignored k w i) (from_right ignored k w i) (right ignored k w i)
      (least_is (suc i) (length w - suc i) (λ j. stands ignored k w j && level ignored k w i j));
}
