-- What a row holds after values more, as many as there are places for.
use borrow.Rule.Slice.PartMut.{put_mid}
use Rattle.std.proofs.Common.{◌≡◌, ℕ, ◌+◌, ◌-◌, ◌≤◌, min, List, ◌++◌, length, take, sym, ap, ◌∙◌, arith}
use Rattle.std.proofs.Math.Seq.{take-append-add}
use Rattle.std.proofs.lemmas.List.{take_min, length-take-le}
use Rattle.std.proofs.lemmas.Slice.{take-put_mid}

module _ {A : Type 0} where
  take_over : (xs ys : List A) (n : ℕ) → length xs ≤ n → take n (xs ++ ys) ≡ xs ++ take (n - length xs) ys
  take_over xs ys n h = let whole : n ≡ length xs + (n - length xs) = omega arith in ap (λ k. take k (xs ++ ys)) whole ∙ take-append-add xs ys (n - length xs)

  pub fills : (places values part : List A) (n len k : ℕ) → length places ≡ n → len ≤ n → k ≡ min (length values) (n - len) → part ≡ take k values → take (len + k) (put_mid len (len + k - len) places part) ≡ take n (take len places ++ values)
  fills places values part n len k wide short fitting is =
      let counted : length (take len places) ≡ len = length-take-le len places (omega arith) in
      let size : length part ≡ k = ap length is ∙ length-take-le k values (omega arith) in
      let fit : k ≡ min (n - length (take len places)) (length values) = omega arith in
      let same : take k values ≡ take (n - length (take len places)) values = ap (λ j. take j values) fit ∙ take_min (n - length (take len places)) values in
      take-put_mid len (len + k - len) places part (len + k) (omega arith) (omega arith)
      ∙ ap (λ (l : List A). take len places ++ l) (is ∙ same)
      ∙ sym (take_over (take len places) values n (omega arith))
