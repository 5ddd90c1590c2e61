-- What a row holds, and what it holds after values more where there is room.
use Rattle.std.proofs.Common.{◌≡◌, ℕ, ◌+◌, ◌<◌, ◌≤◌, cond, ltb, List, [], ◌∷◌, ◌++◌, length, take, arith, length-append}
use Rattle.std.proofs.lemmas.Bool.{cond-true, lt-ltb}
use Rattle.std.proofs.lemmas.List.{take_all, length-take-le}
use Rattle.rows.specs.declared.row.Row.{Row}
use Rattle.rows.specs.Rows.{held}

module _ {T : Type 0} where
  pub counted : {N : ℕ} (r : Row T N) → length (held r) ≡ r.len
  counted r = length-take-le r.len r.places (omega (arith, r.wide, r.short))

  pub within : {N : ℕ} (r : Row T N) → length (held r) ≤ N
  within r = omega (arith, counted r, r.short)

  pub all_fit : (n : ℕ) (xs ys : List T) → length xs + length ys ≤ n → take n (xs ++ ys) ≡ xs ++ ys
  all_fit n xs ys h = take_all n (xs ++ ys) (simp length-append (omega arith))

  pub one_fits : (n : ℕ) (xs : List T) (x : T) → length xs < n → cond (ltb (length xs) n) (xs ++ (x ∷ [])) xs ≡ xs ++ (x ∷ [])
  one_fits n xs x h = cond-true (ltb (length xs) n) _ _ (lt-ltb (length xs) n h)
