-- Names given one at a time, the last first.
use Rattle.std.proofs.Common.{◌≡◌, ℕ, zero, suc, ◌<◌, ◌≤◌, true, cond, ◌&&◌, eqb, List, [], ◌∷◌, length, get_or, take, ℤ, sym, refl, ap, ◌∙◌, arith}
use mathlib.Core.Path.{fun_ext}
use Rattle.std.specs.List.{list_all}
use Rattle.std.proofs.lemmas.List.{take_all}
use Rattle.std.proofs.lemmas.Bool.{and_parts}
use Rattle.expr.specs.Values.{Env}
use Rattle.expr.specs.Records.{is_name}
use Rattle.book.specs.Rules.{given}
use Rattle.book.specs.Binding.{bound}

pub past : (ns : List ℕ) (i : ℕ) (v : ℤ) (g : Env) → length ns ≤ i → bound ns i v g ≡ g
past [] i v g h = refl
past (n ∷ ns) zero v g h = absurd (omega arith)
past (n ∷ ns) (suc i) v g h = past ns i v g (omega arith)

-- where there is one, it is a name
pub here : (ns : List ℕ) (i : ℕ) (v : ℤ) (g : Env) → list_all is_name ns ≡ true → i < length ns → (x : ℕ) → cond (is_name (get_or ns i 0) && eqb x (get_or ns i 0)) v (g x) ≡ bound ns i v g x
here [] i v g a h x = absurd (omega arith)
here (n ∷ ns) zero v g a h x = ap (λ t. cond (t && eqb x n) v (g x)) (and_parts (is_name n) (list_all is_name ns) a).0
here (n ∷ ns) (suc i) v g a h x = here ns i v g (and_parts (is_name n) (list_all is_name ns) a).1 (omega arith) x

pub none_given : (ns : List ℕ) (g : Env) → g ≡ given ns [] g
none_given [] g = refl
none_given (n ∷ ns) g = refl

pub one_given : (ns : List ℕ) (a : ℤ) (g : Env) → bound ns 0 a g ≡ given ns (a ∷ []) g
one_given [] a g = refl
one_given (n ∷ ns) a g = ap (λ (h : Env). λ x. cond (eqb x n) a (h x)) (none_given ns g)

two_given : (ns : List ℕ) (a b : ℤ) (g : Env) → bound ns 0 a (bound ns 1 b g) ≡ given ns (a ∷ b ∷ []) g
two_given [] a b g = refl
two_given (n ∷ ns) a b g = ap (λ (h : Env). λ x. cond (eqb x n) a (h x)) (one_given ns b g)

three_given : (ns : List ℕ) (a b c : ℤ) (g : Env) → bound ns 0 a (bound ns 1 b (bound ns 2 c g)) ≡ given ns (a ∷ b ∷ c ∷ []) g
three_given [] a b c g = refl
three_given (n ∷ ns) a b c g = ap (λ (h : Env). λ x. cond (eqb x n) a (h x)) (two_given ns b c g)

-- the names given to two and three numbers, the last first, where each name in turn stands for its number
pub in_two : (ns : List ℕ) (a b : ℤ) (g g₁ g₂ : Env) → ((x : ℕ) → g₁ x ≡ bound ns 1 b g x) → ((x : ℕ) → g₂ x ≡ bound ns 0 a g₁ x) → (x : ℕ) → g₂ x ≡ given ns (a ∷ b ∷ []) g x
in_two ns a b g g₁ g₂ e₁ e₂ x = e₂ x ∙ ap (λ (h : Env). h x) (ap (bound ns 0 a) (fun_ext e₁) ∙ two_given ns a b g)

pub in_three : (ns : List ℕ) (a b c : ℤ) (g g₁ g₂ g₃ : Env) → ((x : ℕ) → g₁ x ≡ bound ns 2 c g x) → ((x : ℕ) → g₂ x ≡ bound ns 1 b g₁ x) → ((x : ℕ) → g₃ x ≡ bound ns 0 a g₂ x) → (x : ℕ) → g₃ x ≡ given ns (a ∷ b ∷ c ∷ []) g x
in_three ns a b c g g₁ g₂ g₃ e₁ e₂ e₃ x =
    e₃ x ∙ ap (λ (h : Env). h x) (ap (bound ns 0 a) (fun_ext e₂ ∙ ap (bound ns 1 b) (fun_ext e₁)) ∙ three_given ns a b c g)

-- what counts of three numbers where 3 or more count
pub whole : (n : ℕ) (a b c : ℤ) → 3 ≤ n → a ∷ b ∷ c ∷ [] ≡ take n (a ∷ b ∷ c ∷ [])
whole n a b c h = sym (take_all n (a ∷ b ∷ c ∷ []) h)
