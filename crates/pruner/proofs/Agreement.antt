-- A pruner that passes tells, module by module, the word that `Pruned` has by positions.
use Rattle.std.proofs.Common.{◌≡◌, ℕ, zero, suc, ◌≤◌, Bool, true, false, cond, not, ◌&&◌, ◌||◌, leb, List, [], ◌∷◌, sym, refl, ap, ◌∙◌, ap₂, arith}
use Rattle.std.proofs.lemmas.Bool.Decides.{nat_tests}
use Rattle.std.proofs.lemmas.Bool.{leb-true, le-leb, false≢true, and_parts, and_from, cond_both}
use Rattle.word.specs.Symbols.{Symbol}
use Rattle.word.specs.Words.{Meaning, after, depth}
use Rattle.pruner.specs.declared.state.State.{State}
use Rattle.pruner.specs.declared.state.State.TheVariants.{Passing, Dropping}
use Rattle.pruner.specs.Pruned.{each_from_to, keep, is_cut, dropped, pruned_meaning}
use Rattle.pruner.specs.Streaming.{drops, falls, streamed, left_in}

-- equal tests keep equal modules
keep_same : (p q : ℕ → Bool) → ((k : ℕ) → p k ≡ q k) → (w : List Symbol) → keep p w ≡ keep q w
keep_same p q h [] = refl
keep_same p q h (s ∷ w) =
    let rest = keep_same (λ k. p (suc k)) (λ k. q (suc k)) (λ k. h (suc k)) w in
    ap₂ (λ (b : Bool) (v : List Symbol). cond b (s ∷ v) v) (h zero) rest

-- at least c brackets are open from the word's start to what follows position j
abbrev above : ℕ → ℕ → List Symbol → ℕ → Bool
above c d w j = each_from_to 0 (suc j) (λ t. leb c (depth d w t))

each_lower : (c d : ℕ) (x : ℕ → ℕ) (n : ℕ) → c ≤ d → each_from_to 0 n (λ t. leb d (x t)) ≡ true → each_from_to 0 n (λ t. leb c (x t)) ≡ true
each_lower c d x zero h e = grind (arith, nat_tests)
each_lower c d x (suc n) h e =
    let parts = and_parts (leb d (x zero)) _ e in
    let here : leb c (x zero) ≡ true = le-leb c (x zero) (omega (arith, leb-true d (x zero) parts.0)) in
    and_from _ _ here (each_lower c d (λ t. x (suc t)) n h parts.1)

-- the positions that a pruner drops that comes to a word in the state q, with d brackets open
abbrev gone : State → ℕ → List Symbol → ℕ → Bool
gone Passing d w j = dropped d w j
gone (Dropping c) d w j = above c d w j || dropped d w j

-- the states that a pruner reaches
abbrev Reached : State → ℕ → Type 0
Reached Passing d = Unit {0}
Reached (Dropping c) d = c ≤ d

reaches : (q : State) (d : ℕ) (s : Symbol) → drops q d s ≡ true → Reached (falls q d) (after d s)
reaches Passing d s e = grind (arith, nat_tests)
reaches (Dropping c) d s e = grind (arith, nat_tests)

absorbs : (x y b z : Bool) → (y ≡ true → x ≡ true) → (x || ((b && y) || z)) ≡ (x || z)
absorbs true y b z h = refl
absorbs false true true z h = absurd (false≢true (h refl))
absorbs false true false z h = refl
absorbs false false true z h = refl
absorbs false false false z h = refl

module _ (d : ℕ) (s : Symbol) (w : List Symbol) where
  -- the first position
  first : (q : State) → Reached q d → gone q d (s ∷ w) zero ≡ drops q d s
  first Passing r = grind (arith, nat_tests)
  first (Dropping c) r = grind (arith, nat_tests)

  -- the later ones, by the word without the first
  later : (j : ℕ) → dropped d (s ∷ w) (suc j) ≡ ((is_cut s.letter && above d (after d s) w j) || dropped (after d s) w j)
  later j =
      ap (λ (b : Bool). (is_cut s.letter && (b && above d (after d s) w j)) || dropped (after d s) w j)
      (le-leb d d (omega arith))

  later_drops : (q : State) → Reached q d → drops q d s ≡ true → (j : ℕ) → gone q d (s ∷ w) (suc j) ≡ gone (falls q d) (after d s) w j
  later_drops Passing r e j = later j ∙ ap (λ (b : Bool). (b && above d (after d s) w j) || dropped (after d s) w j) e
  later_drops (Dropping c) r e j =
      ap₂ (λ (b z : Bool). (b && above c (after d s) w j) || z) (le-leb c d r) (later j)
      ∙ absorbs (above c (after d s) w j) (above d (after d s) w j) (is_cut s.letter) (dropped (after d s) w j)
      (each_lower c d (λ t. depth (after d s) w t) (suc j) r)

  later_passes : (q : State) → Reached q d → drops q d s ≡ false → (j : ℕ) → gone q d (s ∷ w) (suc j) ≡ dropped (after d s) w j
  later_passes Passing r e j = later j ∙ ap (λ (b : Bool). (b && above d (after d s) w j) || dropped (after d s) w j) e
  later_passes (Dropping c) r e j =
      let low : leb c (after d s) ≡ false = grind (arith, nat_tests) in
      let other : is_cut s.letter ≡ false = grind (arith, nat_tests) in
      let deep = each_from_to 0 j (λ t. leb c (depth (after d s) w (suc t))) in
      ap₂ (λ (b z : Bool). (b && (leb c (after d s) && deep)) || z) (le-leb c d r) (later j)
      ∙ ap₂ (λ (a b : Bool). (a && deep) || ((b && above d (after d s) w j) || dropped (after d s) w j)) low other

  -- what is kept, by what happens to the first module
  kept : (q : State) → Reached q d → (b : Bool) → drops q d s ≡ b → (p : ℕ → Bool) → ((j : ℕ) → gone q d (s ∷ w) (suc j) ≡ p j) → keep (λ j. not (gone q d (s ∷ w) j)) (s ∷ w) ≡ cond (not b) (s ∷ keep (λ j. not (p j)) w) (keep (λ j. not (p j)) w)
  kept q r b e p h =
      ap₂ (λ (x : Bool) (v : List Symbol). cond (not x) (s ∷ v) v) (first q r ∙ e) (keep_same _ _ (λ j. ap not (h j)) w)

agrees : (q : State) (d : ℕ) (w : List Symbol) → Reached q d → streamed q d w ≡ keep (λ j. not (gone q d w j)) w
agrees q d [] r = refl
agrees q d (s ∷ w) r =
    cond_both (drops q d s) _ _ (λ v. v ≡ keep (λ j. not (gone q d (s ∷ w) j)) (s ∷ w))
    (λ e. agrees (falls q d) (after d s) w (reaches q d s e) ∙ sym (kept d s w q r true e _ (later_drops d s w q r e)))
    (λ e. ap (λ v. s ∷ v) (agrees Passing (after d s) w tt) ∙ sym (kept d s w q r false e _ (later_passes d s w q r e)))

pub new_agrees : (m : Meaning) → left_in Passing m ≡ pruned_meaning m
new_agrees m =
    ap (λ w. record { told = record { modules = w; ending = m.told.ending }; opened = m.opened; generation = m.generation })
    (agrees Passing m.opened m.told.modules tt)
