use Rattle.std.proofs.Common.{◌≡◌, List, [], ◌∷◌, ◌++◌, sym, refl, ap, ◌∙◌, append_assoc}
use Rattle.expr.specs.declared.code.Code.{Code}
use Rattle.expr.specs.declared.code.Code.TheVariants.{Negate, Add, Subtract, Multiply, Divide, Compare}
use Rattle.expr.specs.Values.{Expr, number, name, minus, plus, less, times, over, Comparison}
use Rattle.expr.specs.Codes.{code_of, comparisons_code, stacked, decoded, noted, comparisons}
use Rattle.expr.specs.Examples.{Examples, ReadsBack}

pub examples : Examples
examples = record {
  rounds = (refl, refl);
  too_large = (refl, refl);
  by_zero = refl;
  first_fault = (refl, refl);
  first_decides = (refl, refl);
  no_guard = refl;
  worked = (refl, refl);
}

pub on : (st : List Expr) (cs ds : List Code) → decoded st (cs ++ ds) ≡ decoded (decoded st cs) ds
on st [] ds = refl
on st (c ∷ cs) ds = on (stacked st c) cs ds

two_laid : (st : List Expr) (a b : Expr) (c : Code) → decoded st (code_of a) ≡ a ∷ st → decoded (a ∷ st) (code_of b) ≡ b ∷ a ∷ st → decoded st ((code_of a ++ code_of b) ++ (c ∷ [])) ≡ stacked (b ∷ a ∷ st) c
two_laid st a b c ia ib =
    on st (code_of a ++ code_of b) (c ∷ [])
    ∙ ap (λ (s : List Expr). stacked s c) (on st (code_of a) (code_of b) ∙ ap (λ (s : List Expr). decoded s (code_of b)) ia ∙ ib)

-- code puts its expression on the stack, whatever is there
pub laid : (st : List Expr) (e : Expr) → decoded st (code_of e) ≡ e ∷ st
laid st (number n) = refl
laid st (name x) = refl
laid st (minus e) = on st (code_of e) (Negate ∷ []) ∙ ap (λ (s : List Expr). stacked s Negate) (laid st e)
laid st (plus a b) = two_laid st a b Add (laid st a) (laid (a ∷ st) b)
laid st (less a b) = two_laid st a b Subtract (laid st a) (laid (a ∷ st) b)
laid st (times a b) = two_laid st a b Multiply (laid st a) (laid (a ∷ st) b)
laid st (over a b) = two_laid st a b Divide (laid st a) (laid (a ∷ st) b)

comparisons_on : (st : List Expr) (cs ds : List Code) → comparisons st (cs ++ ds) ≡ comparisons st cs ++ comparisons (decoded st cs) ds
comparisons_on st [] ds = refl
comparisons_on st (c ∷ cs) ds =
    ap (λ (l : List Comparison). noted st c ++ l) (comparisons_on (stacked st c) cs ds)
    ∙ sym (append_assoc (noted st c) (comparisons (stacked st c) cs) (comparisons (decoded (stacked st c) cs) ds))

-- an expression notes no comparison
silent_two : (st : List Expr) (a b : Expr) → comparisons st (code_of a) ≡ [] → comparisons (decoded st (code_of a)) (code_of b) ≡ [] → comparisons st (code_of a ++ code_of b) ≡ []
silent_two st a b ia ib = comparisons_on st (code_of a) (code_of b) ∙ ap (λ (l : List Comparison). l ++ comparisons (decoded st (code_of a)) (code_of b)) ia ∙ ib

then_sign : (st : List Expr) (cs : List Code) (c : Code) → comparisons st cs ≡ [] → comparisons st (cs ++ (c ∷ [])) ≡ noted (decoded st cs) c ++ []
then_sign st cs c e = comparisons_on st cs (c ∷ []) ∙ ap (λ (l : List Comparison). l ++ (noted (decoded st cs) c ++ [])) e

silent : (st : List Expr) (e : Expr) → comparisons st (code_of e) ≡ []
silent st (number n) = refl
silent st (name x) = refl
silent st (minus e) = then_sign st (code_of e) Negate (silent st e)
silent st (plus a b) = then_sign st (code_of a ++ code_of b) Add (silent_two st a b (silent st a) (silent (decoded st (code_of a)) b))
silent st (less a b) = then_sign st (code_of a ++ code_of b) Subtract (silent_two st a b (silent st a) (silent (decoded st (code_of a)) b))
silent st (times a b) = then_sign st (code_of a ++ code_of b) Multiply (silent_two st a b (silent st a) (silent (decoded st (code_of a)) b))
silent st (over a b) = then_sign st (code_of a ++ code_of b) Divide (silent_two st a b (silent st a) (silent (decoded st (code_of a)) b))

guards_back : (cs : List Comparison) → comparisons [] (comparisons_code cs) ≡ cs
guards_back [] = refl
guards_back (c ∷ cs) =
    let a = c.first in
    let b = c.second in
    let both : List Code = code_of a ++ code_of b in
    let stack : decoded [] both ≡ b ∷ a ∷ [] = on [] (code_of a) (code_of b) ∙ ap (λ (s : List Expr). decoded s (code_of b)) (laid [] a) ∙ laid (a ∷ []) b in
    let one : comparisons [] (both ++ (Compare c.relation ∷ [])) ≡ c ∷ [] =
    then_sign [] both (Compare c.relation) (silent_two [] a b (silent [] a) (silent (decoded [] (code_of a)) b))
    ∙ ap (λ (s : List Expr). noted s (Compare c.relation) ++ []) stack in
    let empty : decoded [] (both ++ (Compare c.relation ∷ [])) ≡ [] =
    on [] both (Compare c.relation ∷ []) ∙ ap (λ (s : List Expr). stacked s (Compare c.relation)) stack in
    comparisons_on [] (both ++ (Compare c.relation ∷ [])) (comparisons_code cs)
    ∙ (λ i. one i ++ comparisons (empty i) (comparisons_code cs))
    ∙ ap (λ (l : List Comparison). c ∷ l) (guards_back cs)

pub reads_back : ReadsBack
reads_back = record { expressions = laid []; guards = guards_back }
