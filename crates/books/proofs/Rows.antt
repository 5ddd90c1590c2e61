-- Rows of which the first places are filled.
use Rattle.std.proofs.Common.{◌≡◌, ℕ, ◌+◌, ◌-◌, ◌<◌, ◌≤◌, List, ◌∷◌, length, get_or, take, drop, sym, ap, ◌∙◌, arith, length-take-le}
use Rattle.std.proofs.lemmas.List.{drop_more, drop-take, take-take}

-- what is left of a list from an element on
pub item_at : {A : Type 0} (xs : List A) (i : ℕ) (x : A) → i < length xs → x ≡ get_or xs i x → drop i xs ≡ x ∷ drop (i + 1) xs
item_at {A = A} xs i x h e = drop_more xs i x h ∙ ap (λ (y : A). y ∷ drop (i + 1) xs) (sym e)

module _ {A : Type 0} (row : List A) (used : ℕ) where
  pub length_held : {n : ℕ} → length row ≡ n → used ≤ n → length (take used row) ≡ used
  length_held w s = length-take-le used row (omega arith)

  -- a part of what is filled
  pub part_of : {n : ℕ} (start size : ℕ) → length row ≡ n → used ≤ n → start + size ≤ length (take used row) → take (start + size - start) (drop start row) ≡ take size (drop start (take used row))
  part_of start size w s h =
      let e = length_held w s in
      let whole : used ≡ start + (used - start) = omega arith in
      let few : size ≤ used - start = omega arith in
      let same : start + size - start ≡ size = omega arith in
      ap (λ k. take k (drop start row)) same
      ∙ sym (take-take size (used - start) (drop start row) few)
      ∙ ap (take size) (sym (drop-take start (used - start) row) ∙ ap (λ k. drop start (take k row)) (sym whole))
