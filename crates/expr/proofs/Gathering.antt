-- Up to three arguments taken off a stack.
use Rattle.std.proofs.Common.{◌≡◌, ℕ, ◌<◌, ◌≤◌, min, List, [], map, ℤ, pos, Ok, Err, Result, sym, refl, ap, ◌∙◌, ap₂, subst, arith}
use Rattle.expr.specs.declared.computed.Cause.{Cause}
use Rattle.expr.specs.Values.{Expr, number, Value, is, Env, value, made, with_first, arguments}
use Rattle.expr.specs.Codes.{top, below, latest}
use Rattle.expr.specs.Records.{value_of, arguments_of, Spare}
use Rattle.expr.specs.Machine.{gathered}
use Rattle.expr.proofs.Working.{top_value, below_values}

abbrev none : Result ℤ Cause
none = Ok (pos 0)

one : (a : Result ℤ Cause) → arguments_of 1 (gathered a none none) ≡ with_first (value_of a) (made [])
one (Ok a) = refl
one (Err x) = refl

two : (a b : Result ℤ Cause) → arguments_of 2 (gathered a b none) ≡ with_first (value_of a) (with_first (value_of b) (made []))
two (Err x) b = refl
two (Ok a) (Err x) = refl
two (Ok a) (Ok b) = refl

three : (a b c : Result ℤ Cause) → arguments_of 3 (gathered a b c) ≡ with_first (value_of a) (with_first (value_of b) (with_first (value_of c) (made [])))
three (Err x) b c = refl
three (Ok a) (Err x) c = refl
three (Ok a) (Ok b) (Err x) = refl
three (Ok a) (Ok b) (Ok c) = refl

spare : (n : ℕ) (a b c : Result ℤ Cause) → (n < 1 → a ≡ none) → (n < 2 → b ≡ none) → (n < 3 → c ≡ none) → Spare n (gathered a b c)
spare n (Err x) b c f g h = tt
spare n (Ok a) (Err x) c f g h = tt
spare n (Ok a) (Ok b) (Err x) f g h = tt
spare n (Ok a) (Ok b) (Ok c) f g h = (λ k. let e = f k in cc, λ k. let e = g k in cc, λ k. let e = h k in cc)

-- what is taken off the stack of some expressions' values
module _ (g : Env) (es : List Expr) (vs : List Value) (same : vs ≡ map (value g) es) where
  first : (a : Result ℤ Cause) → value_of a ≡ top (is (pos 0)) vs → value_of a ≡ value g (top (number 0) es)
  first a e = e ∙ ap (top (is (pos 0))) same ∙ top_value g es

  under : below vs ≡ map (value g) (below es)
  under = ap below same ∙ below_values g es

  -- of which so many count
  module _ (n k : ℕ) (few : min n 3 ≡ k) (a b c : Result ℤ Cause) (f : n < 1 → a ≡ none) (h : n < 2 → b ≡ none) (i : n < 3 → c ≡ none) (r : Result (ℤ × ℤ × ℤ) Cause) (e : r ≡ gathered a b c) where
    gives : arguments_of k (gathered a b c) ≡ arguments g (latest k es) → (arguments_of (min n 3) r ≡ arguments g (latest (min n 3) es)) × Spare n r
    gives w = ((λ j. arguments_of (few j) (e j)) ∙ w ∙ ap (λ m. arguments g (latest m es)) (sym few), subst (Spare n) (sym e) (spare n a b c f h i))

pub gives_1 : (g : Env) (es : List Expr) (vs : List Value) → vs ≡ map (value g) es → (n : ℕ) → n ≡ 1 → (a : Result ℤ Cause) → value_of a ≡ top (is (pos 0)) vs → (r : Result (ℤ × ℤ × ℤ) Cause) → r ≡ gathered a none none → (arguments_of (min n 3) r ≡ arguments g (latest (min n 3) es)) × Spare n r
gives_1 g es vs same n en a ea r er =
    gives g es vs same n 1 (omega arith) a none none (λ k. absurd (omega arith)) (λ k. refl) (λ k. refl) r er
    (one a ∙ ap (λ (v : Value). with_first v (made [])) (first g es vs same a ea))

pub gives_2 : (g : Env) (es : List Expr) (vs ws : List Value) → vs ≡ map (value g) es → ws ≡ below vs → (n : ℕ) → n ≡ 2 → (a b : Result ℤ Cause) → value_of b ≡ top (is (pos 0)) vs → value_of a ≡ top (is (pos 0)) ws → (r : Result (ℤ × ℤ × ℤ) Cause) → r ≡ gathered a b none → (arguments_of (min n 3) r ≡ arguments g (latest (min n 3) es)) × Spare n r
gives_2 g es vs ws same ew n en a b eb ea r er =
    let second = first g (below es) ws (ew ∙ under g es vs same) a ea in
    gives g es vs same n 2 (omega arith) a b none (λ k. absurd (omega arith)) (λ k. absurd (omega arith)) (λ k. refl) r er
    (two a b ∙ ap₂ (λ (v w : Value). with_first v (with_first w (made []))) second (first g es vs same b eb))

pub gives_3 : (g : Env) (es : List Expr) (vs ws us : List Value) → vs ≡ map (value g) es → ws ≡ below vs → us ≡ below ws → (n : ℕ) → 3 ≤ n → (a b c : Result ℤ Cause) → value_of c ≡ top (is (pos 0)) vs → value_of b ≡ top (is (pos 0)) ws → value_of a ≡ top (is (pos 0)) us → (r : Result (ℤ × ℤ × ℤ) Cause) → r ≡ gathered a b c → (arguments_of (min n 3) r ≡ arguments g (latest (min n 3) es)) × Spare n r
gives_3 g es vs ws us same ew eu n en a b c ec eb ea r er =
    let mid = ew ∙ under g es vs same in
    let second = first g (below es) ws mid b eb in
    let third = first g (below (below es)) us (eu ∙ under g (below es) ws mid) a ea in
    gives g es vs same n 3 (omega arith) a b c (λ k. absurd (omega arith)) (λ k. absurd (omega arith)) (λ k. absurd (omega arith)) r er
    (three a b c ∙ (λ i. with_first (third i) (with_first (second i) (with_first (first g es vs same c ec i) (made [])))))
