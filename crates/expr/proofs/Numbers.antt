-- Numbers whose latest stands by itself, and the others in places.
use Rattle.std.proofs.Common.{◌≡◌, ℕ, zero, suc, ◌+◌, ◌-◌, ◌<◌, ◌≤◌, Bool, cond, List, ◌∷◌, length, get_or, ℤ, pos, Some, Ok, Err, Result, sym, refl, ap, ◌∙◌, add-one, arith}
use Rattle.std.proofs.Math.ListN.{set}
use Rattle.std.proofs.lemmas.List.{get_or-set_same, get_or-set_other}
use Rattle.expr.specs.declared.computed.Cause.{Cause}
use Rattle.expr.specs.declared.code.Relation.{Relation}
use Rattle.expr.specs.Values.{Value, compared}
use Rattle.expr.specs.Records.{value_of, numbers}
use Rattle.expr.specs.Quick.{Quick, on, untrue, given_up, found, with_two, reached, counted, latest_three, all_three}

-- what is written behind the numbers changes none of them
written : (t v : ℤ) (ps : List ℤ) (n k : ℕ) → n ≤ k → numbers t (set ps k v) n ≡ numbers t ps n
written t v ps zero k h = refl
written t v ps (suc n) k h =
    (λ i. t ∷ numbers (get_or-set_other ps k n v (pos 0) (λ e. absurd (omega arith)) i) (set ps k v) n)
    ∙ ap (λ (l : List ℤ). t ∷ l) (written (get_or ps n (pos 0)) v ps n k (omega arith))

-- one number more: the latest so far goes below it
pub one_more : (v t : ℤ) (ps : List ℤ) (n : ℕ) → n < length ps → numbers v (set ps n t) (n + 1) ≡ v ∷ numbers t ps n
one_more v t ps n h =
    ap (numbers v (set ps n t)) (add-one n)
    ∙ (λ i. v ∷ numbers (get_or-set_same ps n t (pos 0) h i) (set ps n t) n)
    ∙ ap (λ (l : List ℤ). v ∷ l) (written t t ps n n (omega arith))

latest : (t : ℤ) (ps : List ℤ) (n : ℕ) → 1 ≤ n → numbers t ps n ≡ t ∷ numbers (get_or ps (n - 1) (pos 0)) ps (n - 1)
latest t ps zero h = absurd (omega arith)
latest t ps (suc n) h = let e : suc n - 1 ≡ n = omega arith in ap (λ k. t ∷ numbers (get_or ps k (pos 0)) ps k) (sym e)

above : (v : ℤ) (ps : List ℤ) (n : ℕ) → 2 ≤ n → numbers v ps (n - 1) ≡ v ∷ numbers (get_or ps (n - 2) (pos 0)) ps (n - 2)
above v ps n h =
    let e : n - 1 - 1 ≡ n - 2 = omega arith in
    latest v ps (n - 1) (omega arith) ∙ ap (λ k. v ∷ numbers (get_or ps k (pos 0)) ps k) e

pub latest_pair : (t : ℤ) (ps : List ℤ) (n : ℕ) → 2 ≤ n → numbers t ps n ≡ t ∷ get_or ps (n - 1) (pos 0) ∷ numbers (get_or ps (n - 2) (pos 0)) ps (n - 2)
latest_pair t ps n h = latest t ps n (omega arith) ∙ ap (λ (l : List ℤ). t ∷ l) (above (get_or ps (n - 1) (pos 0)) ps n h)

pub no_pair : (f : ℤ → ℤ → List ℤ → Quick) (t : ℤ) (ps : List ℤ) (n : ℕ) → n < 2 → given_up ≡ with_two f (numbers t ps n)
no_pair f t ps zero h = refl
no_pair f t ps (suc zero) h = refl
no_pair f t ps (suc (suc n)) h = absurd (omega arith)

-- a value on top of some numbers
topped : (r : Result ℤ Cause) (ps : List ℤ) (n : ℕ) (xs : List ℤ) → ((v : ℤ) → numbers v ps n ≡ v ∷ xs) → reached (counted r n) ps ≡ found (value_of r) xs
topped (Ok v) ps n xs h = ap on (h v)
topped (Err c) ps n xs h = refl

-- one that is put on top, where w is written below it
pub put_on : (r : Result ℤ Cause) (t w : ℤ) (ps : List ℤ) (n : ℕ) → w ≡ t → n < length ps → reached (counted r (n + 1)) (set ps n w) ≡ found (value_of r) (numbers t ps n)
put_on r t w ps n e h =
    ap (λ x. reached (counted r (n + 1)) (set ps n x)) e
    ∙ topped r (set ps n t) (n + 1) (numbers t ps n) (λ v. one_more v t ps n h)

-- one in the place of the two latest
pub joined_pair : (f : ℤ → ℤ → Value) (r : Result ℤ Cause) (t : ℤ) (ps : List ℤ) (n : ℕ) → 2 ≤ n → value_of r ≡ f (get_or ps (n - 1) (pos 0)) t → reached (counted r (n - 1)) ps ≡ with_two (λ x y. found (f x y)) (numbers t ps n)
joined_pair f r t ps n h e =
    let rest = numbers (get_or ps (n - 2) (pos 0)) ps (n - 2) in
    topped r ps (n - 1) rest (λ v. above v ps n h)
    ∙ ap (λ v. found v rest) e
    ∙ sym (ap (with_two (λ x y. found (f x y))) (latest_pair t ps n h))

-- the two latest compared
pub compared_pair : (r : Relation) (t : ℤ) (ps : List ℤ) (n : ℕ) → 2 ≤ n → (b : Bool) → b ≡ compared r (get_or ps (n - 1) (pos 0)) t → cond b (on (numbers (get_or ps (n - 2) (pos 0)) ps (n - 2))) untrue ≡ with_two (λ x y ys. cond (compared r x y) (on ys) untrue) (numbers t ps n)
compared_pair r t ps n h b e =
    ap (λ d. cond d (on (numbers (get_or ps (n - 2) (pos 0)) ps (n - 2))) untrue) e
    ∙ sym (ap (with_two (λ x y ys. cond (compared r x y) (on ys) untrue)) (latest_pair t ps n h))

pub all_of_three : (n : ℕ) (xs : List ℤ) → 3 ≤ n → latest_three n xs ≡ all_three xs
all_of_three zero xs h = absurd (omega arith)
all_of_three (suc zero) xs h = absurd (omega arith)
all_of_three (suc (suc zero)) xs h = absurd (omega arith)
all_of_three (suc (suc (suc n))) xs h = refl

pub latest_triple : (t : ℤ) (ps : List ℤ) (n : ℕ) → 3 ≤ n → all_three (numbers t ps n) ≡ Some (get_or ps (n - 2) (pos 0), get_or ps (n - 1) (pos 0), t)
latest_triple t ps n h =
    ap all_three (latest_pair t ps n (omega arith) ∙ ap (λ (l : List ℤ). t ∷ get_or ps (n - 1) (pos 0) ∷ l) (latest (get_or ps (n - 2) (pos 0)) ps (n - 2) (omega arith)))
