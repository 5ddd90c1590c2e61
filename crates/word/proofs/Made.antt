-- A module that is made of a letter and parameters.
use Rattle.std.proofs.Common.{◌≡◌, ℕ, ◌<◌, ◌≤◌, Bool, true, false, cond, ◌&&◌, ◌⊎◌, eqb, leb, List, [], ◌∷◌, length, get_or, ℤ, pos, refl, inl, inr, arith, w32, to_z, of_z}
use Rattle.std.proofs.lemmas.Bool.{and_parts, and_from, ne_eqb}
use Rattle.word.specs.Symbols.{is_letter, is_bracket, in_range, all_in_range, may_have, sound, symbol, symbol_with, valid}
use Rattle.word.proofs.Sound.{exact}

pub valid_is : (l : ℕ) (ps : List ℤ) → valid (symbol_with l ps) ≡ (may_have l (length ps) && all_in_range ps)
valid_is l [] = go (is_bracket l) (is_letter l)
  where
    go : (b t : Bool) → cond b true (t && true) ≡ (cond b true (t && true) && true)
    go true t = refl
    go false true = refl
    go false false = refl
valid_is l (z ∷ zs) = go (is_bracket l) (eqb (length (z ∷ zs)) 0) (is_letter l) (leb (length (z ∷ zs)) 3) (all_in_range (z ∷ zs)) (ne_eqb (length (z ∷ zs)) 0 (λ e. omega arith))
  where
    go : (b none t few all : Bool) → none ≡ false → cond b none (t && (few && all)) ≡ (cond b none (t && few) && all)
    go true none t few all e = rw e refl
    go false none true few all e = refl
    go false none false few all e = refl

pub either_false : (x y : Bool) → (x ≡ false) ⊎ (y ≡ false) → (x && y) ≡ false
either_false x y (inl e) = rw e refl
either_false true y (inr e) = e
either_false false y (inr e) = refl

pub made_of_2 : (l : ℕ) (ps : List ℤ) → all_in_range ps ≡ true → 2 ≤ length ps → length ps < 3 → symbol l (length ps) (to_z w32 (of_z w32 (get_or ps 0 (pos 0)))) (to_z w32 (of_z w32 (get_or ps 1 (pos 0)))) (pos 0) ≡ symbol_with l ps
made_of_2 l [] all low high = absurd (omega arith)
made_of_2 l (x ∷ []) all low high = absurd (omega arith)
made_of_2 l (x ∷ y ∷ []) all low high =
    let here = and_parts (in_range x) _ all in
    let there = and_parts (in_range y) _ here.1 in
    λ i. symbol_with l (exact true x here.0 i ∷ exact true y there.0 i ∷ [])
made_of_2 l (x ∷ y ∷ z ∷ zs) all low high = absurd (omega arith)

pub made_of_3 : (l : ℕ) (ps : List ℤ) → all_in_range ps ≡ true → 3 ≤ length ps → length ps ≤ 3 → symbol l (length ps) (to_z w32 (of_z w32 (get_or ps 0 (pos 0)))) (to_z w32 (of_z w32 (get_or ps 1 (pos 0)))) (to_z w32 (of_z w32 (get_or ps 2 (pos 0)))) ≡ symbol_with l ps
made_of_3 l [] all low high = absurd (omega arith)
made_of_3 l (x ∷ []) all low high = absurd (omega arith)
made_of_3 l (x ∷ y ∷ []) all low high = absurd (omega arith)
made_of_3 l (x ∷ y ∷ z ∷ []) all low high =
    let here = and_parts (in_range x) _ all in
    let there = and_parts (in_range y) _ here.1 in
    let last = and_parts (in_range z) _ there.1 in
    λ i. symbol_with l (exact true x here.0 i ∷ exact true y there.0 i ∷ exact true z last.0 i ∷ [])
made_of_3 l (w ∷ x ∷ y ∷ z ∷ zs) all low high = absurd (omega arith)

pub sound_of_2 : (l : ℕ) (ps : List ℤ) → may_have l (length ps) ≡ true → all_in_range ps ≡ true → 2 ≤ length ps → length ps < 3 → sound l (length ps) (to_z w32 (of_z w32 (get_or ps 0 (pos 0)))) (to_z w32 (of_z w32 (get_or ps 1 (pos 0)))) (pos 0) ≡ true
sound_of_2 l [] may all low high = absurd (omega arith)
sound_of_2 l (x ∷ []) may all low high = absurd (omega arith)
sound_of_2 l (x ∷ y ∷ []) may all low high =
    let here = and_parts (in_range x) _ all in
    let there = and_parts (in_range y) _ here.1 in
    rw (exact true x here.0, exact true y there.0) (and_from _ _ may (and_from _ _ here.0 (and_from _ _ there.0 refl)))
sound_of_2 l (x ∷ y ∷ z ∷ zs) may all low high = absurd (omega arith)

pub sound_of_3 : (l : ℕ) (ps : List ℤ) → may_have l (length ps) ≡ true → all_in_range ps ≡ true → 3 ≤ length ps → length ps ≤ 3 → sound l (length ps) (to_z w32 (of_z w32 (get_or ps 0 (pos 0)))) (to_z w32 (of_z w32 (get_or ps 1 (pos 0)))) (to_z w32 (of_z w32 (get_or ps 2 (pos 0)))) ≡ true
sound_of_3 l [] may all low high = absurd (omega arith)
sound_of_3 l (x ∷ []) may all low high = absurd (omega arith)
sound_of_3 l (x ∷ y ∷ []) may all low high = absurd (omega arith)
sound_of_3 l (x ∷ y ∷ z ∷ []) may all low high =
    let here = and_parts (in_range x) _ all in
    let there = and_parts (in_range y) _ here.1 in
    let last = and_parts (in_range z) _ there.1 in
    rw (exact true x here.0, exact true y there.0, exact true z last.0) (and_from _ _ may (and_from _ _ here.0 (and_from _ _ there.0 last.0)))
sound_of_3 l (w ∷ x ∷ y ∷ z ∷ zs) may all low high = absurd (omega arith)
