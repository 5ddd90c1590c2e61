-- A rule has as many code places as its code is long.
use Rattle.std.proofs.Common.{◌≡◌, suc, ◌+◌, List, [], ◌∷◌, ◌++◌, length, sym, refl, ap, ◌∙◌, arith, length-append}
use Rattle.expr.specs.declared.code.Code.{Code}
use Rattle.expr.specs.declared.code.Code.TheVariants.{Negate, Add, Subtract, Multiply, Divide, Compare}
use Rattle.expr.specs.Values.{Expr, number, name, minus, plus, less, times, over, Comparison}
use Rattle.expr.specs.Codes.{code_of, codes_of, comparisons_code}
use Rattle.rules.specs.declared.draft.Draft.{Draft}
use Rattle.book.specs.Rules.{Piece, Rule}
use Rattle.rules.specs.Layout.{successor_code, rule_code}
use Rattle.rules.specs.Places.{places, compared_in, arguments_in, places_all, places_of}
use Rattle.rules.specs.Records.{code_in}
use Rattle.rules.specs.Drafts.{rule_of}

both : (a b : Expr) (c : Code) → length (code_of a) ≡ places a → length (code_of b) ≡ places b → length ((code_of a ++ code_of b) ++ (c ∷ [])) ≡ suc (places a + places b)
both a b c ia ib = omega (arith, length-append (code_of a ++ code_of b) (c ∷ []), length-append (code_of a) (code_of b))

of_expression : (e : Expr) → length (code_of e) ≡ places e
of_expression (number n) = refl
of_expression (name x) = refl
of_expression (minus e) = omega (arith, length-append (code_of e) (Negate ∷ []), of_expression e)
of_expression (plus a b) = both a b Add (of_expression a) (of_expression b)
of_expression (less a b) = both a b Subtract (of_expression a) (of_expression b)
of_expression (times a b) = both a b Multiply (of_expression a) (of_expression b)
of_expression (over a b) = both a b Divide (of_expression a) (of_expression b)

places_on : (es fs : List Expr) → places_all (es ++ fs) ≡ places_all es + places_all fs
places_on [] fs = omega arith
places_on (e ∷ es) fs = omega (arith, places_on es fs)

of_arguments : (es : List Expr) → length (codes_of es) ≡ places_all es
of_arguments [] = refl
of_arguments (e ∷ es) = omega (arith, length-append (code_of e) (codes_of es), of_expression e, of_arguments es)

of_guard : (cs : List Comparison) → length (comparisons_code cs) ≡ places_all (compared_in cs) + length cs
of_guard [] = refl
of_guard (c ∷ cs) =
    let one = both c.first c.second (Compare c.relation) (of_expression c.first) (of_expression c.second) in
    omega (arith, one, length-append ((code_of c.first ++ code_of c.second) ++ (Compare c.relation ∷ [])) (comparisons_code cs), of_guard cs)

of_successor : (ps : List Piece) → length (successor_code ps) ≡ places_all (arguments_in ps)
of_successor [] = refl
of_successor (p ∷ ps) = omega (arith, length-append (codes_of p.arguments) (successor_code ps), of_arguments p.arguments, of_successor ps, places_on p.arguments (arguments_in ps))

pub rule_places : (u : Rule) → length (rule_code u) ≡ places_of u
rule_places u =
    omega (arith, length-append (comparisons_code u.guarded) (successor_code u.successor), of_guard u.guarded, of_successor u.successor, places_on (compared_in u.guarded) (arguments_in u.successor))

pub draft_places : (d : Draft) → length (code_in d.codes) ≡ places_of (rule_of d)
draft_places d = sym (ap length d.whole) ∙ rule_places (rule_of d)
