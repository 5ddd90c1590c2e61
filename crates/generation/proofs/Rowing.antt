-- A row of which a part is held.
use Rattle.std.proofs.Common.{◌≡◌, ℕ, suc, ◌+◌, ◌-◌, ◌<◌, ◌≤◌, List, [], ◌∷◌, ◌++◌, length, get_or, take, drop, set, sym, ap, ◌∙◌, arith, length-drop}
use Rattle.std.proofs.lemmas.List.{take_more_set, drop-set-add, drop_more}

module _ {A : Type 0} (row : List A) (start len : ℕ) {n : ℕ} (wide : length row ≡ n) (within : start + len ≤ n) where
  pub part_more : (x : A) → start + len < n → take (len + 1) (drop start (set row (start + len) x)) ≡ take len (drop start row) ++ (x ∷ [])
  part_more x room = ap (take (len + 1)) (drop-set-add start row len x) ∙ take_more_set (drop start row) len x (simp length-drop (omega arith))

  pub part_less : (x : A) → 0 < len → x ≡ get_or row start x → take len (drop start row) ≡ x ∷ take (len - 1) (drop (start + 1) row)
  part_less x h e =
      let one : len ≡ (len - 1) + 1 = omega arith in
      ap (λ (k : ℕ). take k (drop start row)) one
      ∙ ap (take ((len - 1) + 1)) (drop_more row start x (omega arith) ∙ ap (λ (y : A). y ∷ drop (start + 1) row) (sym e))
      ∙ first (len - 1)
    where
      first : (k : ℕ) → take (k + 1) (x ∷ drop (start + 1) row) ≡ x ∷ take k (drop (start + 1) row)
      first k = let s : k + 1 ≡ suc k = omega arith in ap (λ (m : ℕ). take m (x ∷ drop (start + 1) row)) s
