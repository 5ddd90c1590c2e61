use Rattle.std.proofs.Common.{◌≡◌, ℕ, ◌<◌, ◌≤◌, ◌⊎◌, min, List, take, length, sym, ap, ◌∙◌, inl, inr, arith}
use Rattle.std.proofs.lemmas.List.{take_all}
use Rattle.std.proofs.lemmas.Bool.{cases_lt}
use Rattle.expr.proofs.names.work.first_places.Goals as goal

few : {A : Type 0} (n : ℕ) (l : List A) → take (min (length l) n) l ≡ take n l
few n l = either (cases_lt (length l) n)
  where
    either : (length l < n) ⊎ (n ≤ length l) → take (min (length l) n) l ≡ take n l
    either (inl h) = take_all (min (length l) n) l (omega arith) ∙ sym (take_all n l (omega arith))
    either (inr h) = let e : min (length l) n ≡ n = omega arith in ap (λ k. take k l) e

pub returns : goal.returns
returns c = ap (λ k. take k c.args.code.now) c.min.ensures ∙ few 200 c.args.code.now
