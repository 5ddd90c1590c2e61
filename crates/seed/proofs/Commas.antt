-- A list that is split at its commas, in a loop over the parts.
use Rattle.std.proofs.Common.{◌≡◌, ℕ, ◌<◌, Bool, false, eqb, List, map, length, get_or, Some, None, Option}
use denote.Param.Members.{Mut}
use denote.Ref.{Bor}
use Rattle.std.specs.Fn.{CalledAt}
use Rattle.std.specs.Iterator.{Yields}
use Rattle.std.specs.Slice.Iter as slice
use Rattle.std.proofs.lemmas.Iterator.Splits.{YieldsList-from_slice_split}
use Rattle.std.proofs.lemmas.Iterator.Consumers.{YieldsList-turn, YieldsList-end}
use Rattle.word.specs.Text.{split}
use Rattle.word.proofs.Splits.{split_is}

-- the closure is the test for a comma
abbrev pub IsComma : {F : Type 0} → Mut F (Bor ℕ × Unit {0}) Bool → F → Type 0
IsComma g f = (x : ℕ) (b : Bool) (q : _) → CalledAt g f x b q → (q ≡ f) × (b ≡ eqb x 44)

module _ {F : Type 0} {g : Mut F (Bor ℕ × Unit {0}) Bool} (s : _) (xs : List (Bor (List ℕ))) (t : _) (y : Yields (slice.split_steps g) s xs t) (r : Option (Bor (List ℕ))) (u : _) (step : slice.split_steps g t r u) (list : List ℕ) (rest : slice.split_rest s ≡ list) (done : slice.split_done s ≡ false) where
  pub turn : (x : Bor (List ℕ)) → r ≡ Some x → IsComma g (slice.split_callee s) → (length xs < length (split 44 list)) × (x.now ≡ get_or (split 44 list) (length xs) x.now)
  turn x is comma = rw (← split_is 44 list) (YieldsList-turn (YieldsList-from_slice_split g (λ b. eqb b 44) list rest done (λ i. slice.split_callee s) comma) xs t y r u x is step)

  pub whole : r ≡ None → IsComma g (slice.split_callee s) → map (λ p. p.now) xs ≡ split 44 list
  whole is comma = rw (← split_is 44 list) (YieldsList-end (YieldsList-from_slice_split g (λ b. eqb b 44) list rest done (λ i. slice.split_callee s) comma) xs t y r u is step).0
