-- Code: expressions laid out operands first, one place for each number, name and sign. Internal.
use Rattle.std.specs.Prelude.{ℕ, zero, suc, List, [], ◌∷◌, ◌++◌}
use Rattle.expr.specs.declared.code.Code.{Code}
use Rattle.expr.specs.declared.code.Code.TheVariants.{Blank, Number, Name, Negate, Add, Subtract, Multiply, Divide, Compare}
use Rattle.expr.specs.Values.{Expr, number, name, minus, plus, less, times, over, Comparison}

abbrev pub code_of : Expr → List Code
code_of (number n) = Number n ∷ []
code_of (name x) = Name x ∷ []
code_of (minus e) = code_of e ++ (Negate ∷ [])
code_of (plus a b) = (code_of a ++ code_of b) ++ (Add ∷ [])
code_of (less a b) = (code_of a ++ code_of b) ++ (Subtract ∷ [])
code_of (times a b) = (code_of a ++ code_of b) ++ (Multiply ∷ [])
code_of (over a b) = (code_of a ++ code_of b) ++ (Divide ∷ [])

abbrev pub codes_of : List Expr → List Code
codes_of [] = []
codes_of (e ∷ es) = code_of e ++ codes_of es

abbrev pub comparisons_code : List Comparison → List Code
comparisons_code [] = []
comparisons_code (c ∷ cs) = ((code_of c.first ++ code_of c.second) ++ (Compare c.relation ∷ [])) ++ comparisons_code cs

-- the first of a stack, and what is below it; an empty stack has 0
abbrev pub top : {A : Type 0} → A → List A → A
top z [] = z
top z (e ∷ es) = e

abbrev pub below : {A : Type 0} → List A → List A
below [] = []
below (e ∷ es) = es

-- one place of code: operands go on the stack, and a sign takes its operands off it
abbrev pub stacked : List Expr → Code → List Expr
stacked st Blank = st
stacked st (Number n) = number n ∷ st
stacked st (Name x) = name x ∷ st
stacked st Negate = minus (top (number 0) st) ∷ below st
stacked st Add = plus (top (number 0) (below st)) (top (number 0) st) ∷ below (below st)
stacked st Subtract = less (top (number 0) (below st)) (top (number 0) st) ∷ below (below st)
stacked st Multiply = times (top (number 0) (below st)) (top (number 0) st) ∷ below (below st)
stacked st Divide = over (top (number 0) (below st)) (top (number 0) st) ∷ below (below st)
stacked st (Compare r) = below (below st)

-- the expressions that code lays out, the last first
abbrev pub decoded : List Expr → List Code → List Expr
decoded st [] = st
decoded st (c ∷ cs) = decoded (stacked st c) cs

-- the comparisons that code lays out
abbrev pub noted : List Expr → Code → List Comparison
noted st Blank = []
noted st (Number n) = []
noted st (Name x) = []
noted st Negate = []
noted st Add = []
noted st Subtract = []
noted st Multiply = []
noted st Divide = []
noted st (Compare r) = record { first = top (number 0) (below st); relation = r; second = top (number 0) st } ∷ []

abbrev pub comparisons : List Expr → List Code → List Comparison
comparisons st [] = []
comparisons st (c ∷ cs) = noted st c ++ comparisons (stacked st c) cs

-- the latest n expressions of a stack, in the order in which they were laid out
abbrev pub latest : ℕ → List Expr → List Expr
latest zero st = []
latest (suc n) st = latest n (below st) ++ (top (number 0) st ∷ [])
