-- Where plain numbers get to, values and faults get to as well.
use Rattle.std.proofs.Common.{◌≡◌, ℕ, zero, suc, ◌+◌, ◌<◌, min, Bool, true, false, cond, List, [], ◌∷◌, ◌++◌, map, length, drop, get_or, ℤ, pos, Some, Ok, sym, refl, ap, ◌∙◌, subst, add-one, arith, drop-cons}
use Rattle.expr.specs.declared.code.Code.{Code}
use Rattle.expr.specs.declared.code.Code.TheVariants.{Blank, Number, Name, Negate, Add, Subtract, Multiply, Divide, Compare}
use Rattle.expr.specs.declared.code.Relation.{Relation}
use Rattle.expr.specs.Values.{Expr, number, name, minus, plus, less, times, over, Value, is, wrong, Env, ranged, value, negated, compared, Comparison, passes, fails, judged, then, guard, arguments}
use Rattle.expr.specs.Codes.{top, below, stacked, decoded, noted, comparisons, latest}
use Rattle.expr.specs.Records.{verdict_of, arguments_of, Spare}
use Rattle.expr.specs.Machine.{binary}
use Rattle.expr.specs.Quick.{Quick, on, untrue, given_up, found, with_two, quick_step, go_on, quick, answered, left_by, latest_three}
use Rattle.expr.proofs.Gathering.{gives_1, gives_2, gives_3}

module _ (g : Env) where
  abbrev vals : List Expr → List Value
  vals st = map (value g) st

  abbrev plain : List ℤ → List Value
  plain xs = map is xs

  -- one place of code, where the values of some expressions are numbers
  abbrev Steps : List Expr → Code → Quick → Type 0
  Steps st c (on ys) = (vals (stacked st c) ≡ plain ys) × ((cs : List Comparison) → guard g (noted st c ++ cs) ≡ guard g cs)
  Steps st c untrue = (cs : List Comparison) → guard g (noted st c ++ cs) ≡ fails
  Steps st c given_up = Unit {0}

  found_steps : (st : List Expr) (c : Code) (e : Expr) (under : List Expr) → stacked st c ≡ e ∷ under → noted st c ≡ [] → (v : Value) (xs : List ℤ) → value g e ≡ v → vals under ≡ plain xs → Steps st c (found v xs)
  found_steps st c e under q n (is x) xs ev er =
      (ap vals q ∙ (λ i. ev i ∷ er i), λ cs. ap (λ (l : List Comparison). guard g (l ++ cs)) n)
  found_steps st c e under q n (wrong k) xs ev er = tt

  negate_steps : (st : List Expr) (xs : List ℤ) → vals st ≡ plain xs → Steps st Negate (quick_step g xs Negate)
  negate_steps st [] h = tt
  negate_steps [] (x ∷ xs) h = let n : ◌≡◌ {A = ℕ} 0 1 = cc in absurd (omega arith)
  negate_steps (e ∷ st) (x ∷ xs) h =
      let ex : value g e ≡ is x = cc in
      let er : vals st ≡ plain xs = cc in
      found_steps (e ∷ st) Negate (minus e) st refl refl (negated (is x)) xs (ap negated ex) er

  two_steps : (c : Code) (joined : Expr → Expr → Expr) (f : Value → Value → Value) → ((a b : Expr) → value g (joined a b) ≡ f (value g a) (value g b)) → ((st : List Expr) → stacked st c ≡ joined (top (number 0) (below st)) (top (number 0) st) ∷ below (below st)) → ((st : List Expr) → noted st c ≡ []) → (st : List Expr) (xs : List ℤ) → vals st ≡ plain xs → Steps st c (with_two (λ x y. found (f (is x) (is y))) xs)
  two_steps c joined f v q n st [] h = tt
  two_steps c joined f v q n st (y ∷ []) h = tt
  two_steps c joined f v q n [] (y ∷ x ∷ xs) h = let z : ◌≡◌ {A = ℕ} 0 1 = cc in absurd (omega arith)
  two_steps c joined f v q n (b ∷ []) (y ∷ x ∷ xs) h = let z : ◌≡◌ {A = ℕ} 0 1 = cc in absurd (omega arith)
  two_steps c joined f v q n (b ∷ a ∷ st) (y ∷ x ∷ xs) h =
      let eb : value g b ≡ is y = cc in
      let ea : value g a ≡ is x = cc in
      let er : vals st ≡ plain xs = cc in
      found_steps (b ∷ a ∷ st) c (joined a b) st (q (b ∷ a ∷ st)) (n (b ∷ a ∷ st)) (f (is x) (is y)) xs (v a b ∙ (λ i. f (ea i) (eb i))) er

  compare_steps : (r : Relation) (st : List Expr) (xs : List ℤ) → vals st ≡ plain xs → Steps st (Compare r) (quick_step g xs (Compare r))
  compare_steps r st [] h = tt
  compare_steps r st (y ∷ []) h = tt
  compare_steps r [] (y ∷ x ∷ xs) h = let z : ◌≡◌ {A = ℕ} 0 1 = cc in absurd (omega arith)
  compare_steps r (b ∷ []) (y ∷ x ∷ xs) h = let z : ◌≡◌ {A = ℕ} 0 1 = cc in absurd (omega arith)
  compare_steps r (b ∷ a ∷ st) (y ∷ x ∷ xs) h = go (compared r x y) refl
    where
      eb : value g b ≡ is y
      eb = cc

      ea : value g a ≡ is x
      ea = cc

      er : vals st ≡ plain xs
      er = cc

      go : (t : Bool) → compared r x y ≡ t → Steps (b ∷ a ∷ st) (Compare r) (cond t (on xs) untrue)
      go true e = (er, λ cs. (λ i. then (judged r (ea i) (eb i)) (guard g cs)) ∙ ap (λ t. then (cond t passes fails) (guard g cs)) e)
      go false e = λ cs. (λ i. then (judged r (ea i) (eb i)) (guard g cs)) ∙ ap (λ t. then (cond t passes fails) (guard g cs)) e

  steps : (st : List Expr) (c : Code) (xs : List ℤ) → vals st ≡ plain xs → Steps st c (quick_step g xs c)
  steps st Blank xs h = (h, λ cs. refl)
  steps st (Number n) xs h = found_steps st (Number n) (number n) st refl refl (ranged (pos n)) xs refl h
  steps st (Name x) xs h = found_steps st (Name x) (name x) st refl refl (ranged (g x)) xs refl h
  steps st Negate xs h = negate_steps st xs h
  steps st Add xs h = two_steps Add plus (binary Add) (λ a b. refl) (λ l. refl) (λ l. refl) st xs h
  steps st Subtract xs h = two_steps Subtract less (binary Subtract) (λ a b. refl) (λ l. refl) (λ l. refl) st xs h
  steps st Multiply xs h = two_steps Multiply times (binary Multiply) (λ a b. refl) (λ l. refl) (λ l. refl) st xs h
  steps st Divide xs h = two_steps Divide over (binary Divide) (λ a b. refl) (λ l. refl) (λ l. refl) st xs h
  steps st (Compare r) xs h = compare_steps r st xs h

  -- all places of code
  abbrev Means : List Expr → List Code → Quick → Type 0
  Means st cs (on ys) = (vals (decoded st cs) ≡ plain ys) × (guard g (comparisons st cs) ≡ passes)
  Means st cs untrue = guard g (comparisons st cs) ≡ fails
  Means st cs given_up = Unit {0}

  carried : (st : List Expr) (c : Code) (cs : List Code) (q : Quick) → guard g (comparisons st (c ∷ cs)) ≡ guard g (comparisons (stacked st c) cs) → Means (stacked st c) cs q → Means st (c ∷ cs) q
  carried st c cs (on ys) p m = (m.0, p ∙ m.1)
  carried st c cs untrue p m = p ∙ m
  carried st c cs given_up p m = tt

  further : (st : List Expr) (c : Code) (cs : List Code) (q : Quick) → Steps st c q → ((ys : List ℤ) → vals (stacked st c) ≡ plain ys → Means (stacked st c) cs (quick g ys cs)) → Means st (c ∷ cs) (go_on q (λ ys. quick g ys cs))
  further st c cs (on ys) s rest = carried st c cs (quick g ys cs) (s.1 (comparisons (stacked st c) cs)) (rest ys s.0)
  further st c cs untrue s rest = s (comparisons (stacked st c) cs)
  further st c cs given_up s rest = tt

  means : (st : List Expr) (cs : List Code) (xs : List ℤ) → vals st ≡ plain xs → Means st cs (quick g xs cs)
  means st [] xs h = (h, refl)
  means st (c ∷ cs) xs h = further st c cs (quick_step g xs c) (steps st c xs h) (λ ys e. means (stacked st c) cs ys e)

  -- a guard that the quick way answers
  pub guard_found : (code : List Code) (b : Bool) → Some b ≡ answered (quick g [] code) → verdict_of (Ok b) ≡ guard g (comparisons [] code)
  guard_found code b = go (quick g [] code) (means [] code [] refl)
    where
      go : (q : Quick) → Means [] code q → Some b ≡ answered q → verdict_of (Ok b) ≡ guard g (comparisons [] code)
      go (on ys) m e = let h : b ≡ true = cc in ap (λ t. verdict_of (Ok t)) h ∙ sym m.1
      go untrue m e = let h : b ≡ false = cc in ap (λ t. verdict_of (Ok t)) h ∙ sym m
      go given_up m e = let z : ◌≡◌ {A = ℕ} 0 1 = cc in absurd (omega arith)

  -- three values are what the latest expressions come to
  abbrev Gives : List Expr → ℕ → ℤ × ℤ × ℤ → Type 0
  Gives es n t = (arguments_of (min n 3) (Ok t) ≡ arguments g (latest (min n 3) es)) × Spare n (Ok t)

  gives_latest : (es : List Expr) (ys : List ℤ) → vals es ≡ plain ys → (n : ℕ) (t : ℤ × ℤ × ℤ) → Some t ≡ latest_three n ys → Gives es n t
  gives_latest es ys h zero t e =
      let same : (pos 0, pos 0, pos 0) ≡ t = cc in
      subst (Gives es 0) same (refl, (λ k. refl, λ k. refl, λ k. refl))
  gives_latest es [] h (suc zero) t e = let z : ◌≡◌ {A = ℕ} 0 1 = cc in absurd (omega arith)
  gives_latest es (a ∷ ys) h (suc zero) t e =
      let same : (a, pos 0, pos 0) ≡ t = cc in
      subst (Gives es 1) same (gives_1 g es (plain (a ∷ ys)) (sym h) 1 refl (Ok a) refl (Ok (a, pos 0, pos 0)) refl)
  gives_latest es [] h (suc (suc zero)) t e = let z : ◌≡◌ {A = ℕ} 0 1 = cc in absurd (omega arith)
  gives_latest es (b ∷ []) h (suc (suc zero)) t e = let z : ◌≡◌ {A = ℕ} 0 1 = cc in absurd (omega arith)
  gives_latest es (b ∷ a ∷ ys) h (suc (suc zero)) t e =
      let same : (a, b, pos 0) ≡ t = cc in
      subst (Gives es 2) same (gives_2 g es (plain (b ∷ a ∷ ys)) (plain (a ∷ ys)) (sym h) refl 2 refl (Ok a) (Ok b) refl refl (Ok (a, b, pos 0)) refl)
  gives_latest es [] h (suc (suc (suc n))) t e = let z : ◌≡◌ {A = ℕ} 0 1 = cc in absurd (omega arith)
  gives_latest es (c ∷ []) h (suc (suc (suc n))) t e = let z : ◌≡◌ {A = ℕ} 0 1 = cc in absurd (omega arith)
  gives_latest es (c ∷ b ∷ []) h (suc (suc (suc n))) t e = let z : ◌≡◌ {A = ℕ} 0 1 = cc in absurd (omega arith)
  gives_latest es (c ∷ b ∷ a ∷ ys) h (suc (suc (suc n))) t e =
      let same : (a, b, c) ≡ t = cc in
      subst (Gives es (suc (suc (suc n)))) same (gives_3 g es (plain (c ∷ b ∷ a ∷ ys)) (plain (b ∷ a ∷ ys)) (plain (a ∷ ys)) (sym h) refl refl (suc (suc (suc n))) (omega arith) (Ok a) (Ok b) (Ok c) refl refl refl (Ok (a, b, c)) refl)

  -- arguments that the quick way answers
  pub arguments_found : (code : List Code) (n : ℕ) (t : ℤ × ℤ × ℤ) → Some true ≡ answered (quick g [] code) → Some t ≡ latest_three n (left_by (quick g [] code)) → (arguments_of (min n 3) (Ok t) ≡ arguments g (latest (min n 3) (decoded [] code))) × Spare n (Ok t)
  arguments_found code n t = go (quick g [] code) (means [] code [] refl)
    where
      go : (q : Quick) → Means [] code q → Some true ≡ answered q → Some t ≡ latest_three n (left_by q) → Gives (decoded [] code) n t
      go (on ys) m e f = gives_latest (decoded [] code) ys m.0 n t f
      go untrue m e f = let z : ◌≡◌ {A = ℕ} 0 1 = cc in absurd (omega arith)
      go given_up m e f = let z : ◌≡◌ {A = ℕ} 0 1 = cc in absurd (omega arith)

-- one place further
pub turned : (g : Env) (xs : List ℤ) (cs : List Code) (n : ℕ) (d : Code) (q : Quick) → n < length cs → q ≡ quick_step g xs (get_or cs n d) → quick g xs (drop n cs) ≡ go_on q (λ ys. quick g ys (drop (n + 1) cs))
turned g xs cs n d q h e =
    ap (quick g xs) (drop-cons cs n d h)
    ∙ ap (λ r. go_on r (λ ys. quick g ys (drop (suc n) cs))) (sym e)
    ∙ ap (λ k. go_on q (λ ys. quick g ys (drop k cs))) (sym (add-one n))
