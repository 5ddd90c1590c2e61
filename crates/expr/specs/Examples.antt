-- Worked examples, and that code is read back as what it lays out.
use Rattle.std.specs.Prelude.{◌≡◌, List, [], ◌∷◌, pos, negsuc}
use Rattle.expr.specs.declared.code.Relation.TheVariants.{Less}
use Rattle.expr.specs.Values.{Expr, number, name, minus, plus, less, times, over, is, wrong, Env, value, Comparison, passes, fails, faults, guard, made, spoilt, arguments}
use Rattle.expr.specs.Codes.{code_of, comparisons_code, decoded, comparisons}

-- every name is 5
abbrev fives : Env
fives x = pos 5

abbrev pub is_less : Expr → Expr → Comparison
is_less a b = record { first = a; relation = Less; second = b }

abbrev zeroth : Expr
zeroth = over (number 1) (less (name 120) (number 5))

pub record Examples : Type 0 where
  -- −7/2 is −3, and 7/2 is 3
  pub rounds : (value fives (over (minus (number 7)) (number 2)) ≡ is (negsuc 2)) × (value fives (over (number 7) (number 2)) ≡ is (pos 3))
  -- 1001*1000 is fault 32, and so is what would come back into the range
  pub too_large : (value fives (times (number 1001) (number 1000)) ≡ wrong 32) × (value fives (less (times (number 1001) (number 1000)) (number 1001)) ≡ wrong 32)
  -- 1/(x-5) is fault 31
  pub by_zero : value fives zeroth ≡ wrong 31
  -- the first fault counts
  pub first_fault : (value fives (plus (times (number 1001) (number 1000)) zeroth) ≡ wrong 32) × (value fives (plus zeroth (times (number 1001) (number 1000))) ≡ wrong 31)
  -- a false comparison decides before one that faults, and a fault before a false one
  pub first_decides : (guard fives (is_less (number 2) (number 1) ∷ is_less zeroth (number 1) ∷ []) ≡ fails) × (guard fives (is_less zeroth (number 1) ∷ is_less (number 2) (number 1) ∷ []) ≡ faults 31)
  -- a guard without a comparison is true
  pub no_guard : guard fives [] ≡ passes
  pub worked : (arguments fives (name 97 ∷ number 3 ∷ []) ≡ made (pos 5 ∷ pos 3 ∷ [])) × (arguments fives (number 3 ∷ zeroth ∷ times (number 1001) (number 1000) ∷ []) ≡ spoilt 31)

-- the code of an expression, or of a guard's comparisons, lays out just those
pub record ReadsBack : Type 0 where
  pub expressions : (e : Expr) → decoded [] (code_of e) ≡ e ∷ []
  pub guards : (cs : List Comparison) → comparisons [] (comparisons_code cs) ≡ cs
