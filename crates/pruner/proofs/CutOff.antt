-- The positions that are dropped are those that a `%` cuts off.
use Rattle.std.proofs.Common.{◌≡◌, ℕ, zero, suc, ◌≤◌, Bool, true, List, refl, ⊎_elim, arith}
use Rattle.std.proofs.lemmas.Bool.{leb-true, le-leb, and_parts, and_from, or_cases, or_left, or_right}
use Rattle.word.specs.Symbols.{Symbol}
use Rattle.pruner.specs.Pruned.{some_to, each_from_to, cut_at, dropped, CutOff, DropsWhatIsCut}

-- what a test of each position says
each_at : (i n : ℕ) (p : ℕ → Bool) → each_from_to i n p ≡ true → (k : ℕ) → i ≤ k → k ≤ n → p k ≡ true
each_at zero zero p e zero from to = e
each_at zero zero p e (suc k) from to = absurd (omega arith)
each_at zero (suc n) p e zero from to = (and_parts (p zero) _ e).0
each_at zero (suc n) p e (suc k) from to =
    each_at zero n (λ k. p (suc k)) (and_parts (p zero) _ e).1 k (omega arith) (omega arith)
each_at (suc i) zero p e k from to = absurd (omega arith)
each_at (suc i) (suc n) p e zero from to = absurd (omega arith)
each_at (suc i) (suc n) p e (suc k) from to = each_at i n (λ k. p (suc k)) e k (omega arith) (omega arith)

each_made : (i n : ℕ) (p : ℕ → Bool) → ((k : ℕ) → i ≤ k → k ≤ n → p k ≡ true) → each_from_to i n p ≡ true
each_made zero zero p h = h zero (omega arith) (omega arith)
each_made zero (suc n) p h =
    and_from (p zero) _ (h zero (omega arith) (omega arith))
    (each_made zero n (λ k. p (suc k)) (λ k from to. h (suc k) (omega arith) (omega arith)))
each_made (suc i) zero p h = refl
each_made (suc i) (suc n) p h = each_made i n (λ k. p (suc k)) (λ k from to. h (suc k) (omega arith) (omega arith))

-- what a test of some position says
some_at : (n : ℕ) (p : ℕ → Bool) → some_to n p ≡ true → (k : ℕ) × (k ≤ n) × (p k ≡ true)
some_at zero p e = (zero, omega arith, e)
some_at (suc n) p e =
    ⊎_elim (λ here. (zero, omega arith, here))
    (λ later. let r = some_at n (λ k. p (suc k)) later in (suc r.0, omega (arith, r.1), r.2))
    (or_cases (p zero) _ e)

some_made : (n : ℕ) (p : ℕ → Bool) (k : ℕ) → k ≤ n → p k ≡ true → some_to n p ≡ true
some_made zero p zero to h = h
some_made zero p (suc k) to h = absurd (omega arith)
some_made (suc n) p zero to h = or_left (p zero) _ h
some_made (suc n) p (suc k) to h = or_right (p zero) _ (some_made n (λ k. p (suc k)) k (omega arith) h)

is_cut_off : (d : ℕ) (w : List Symbol) (j : ℕ) → dropped d w j ≡ true → CutOff d w j
is_cut_off d w j e =
    let found = some_at j _ e in
    let parts = and_parts (cut_at w found.0) _ found.2 in
    record {
      i = found.0;
      within = found.1;
      sign = parts.0;
      deep = λ t from to. leb-true _ _ (each_at found.0 (suc j) _ parts.1 t from to);
    }

is_dropped : (d : ℕ) (w : List Symbol) (j : ℕ) → CutOff d w j → dropped d w j ≡ true
is_dropped d w j c =
    some_made j _ c.i c.within
    (and_from _ _ c.sign (each_made c.i (suc j) _ (λ t from to. le-leb _ _ (c.deep t from to))))

pub drops_what_is_cut : DropsWhatIsCut
drops_what_is_cut d w j = (is_cut_off d w j, is_dropped d w j)
