-- What is picked from the code of a rule is what its expressions have.
use Rattle.std.proofs.Common.{◌≡◌, ℕ, List, [], ◌∷◌, ◌++◌, sym, refl, ap, ◌∙◌, ap₂, append_assoc, append-nil}
use Rattle.expr.specs.declared.code.Code.{Code}
use Rattle.expr.specs.declared.code.Code.TheVariants.{Negate, Add, Subtract, Multiply, Divide, Compare}
use Rattle.expr.specs.Values.{Expr, number, name, minus, plus, less, times, over, Comparison}
use Rattle.expr.specs.Codes.{code_of, codes_of, comparisons_code}
use Rattle.book.specs.Rules.{Piece, Rule}
use Rattle.rules.specs.Layout.{successor_code, rule_code}
use Rattle.rules.specs.Places.{leaves, compared_in, arguments_in, expressions, each}
use Rattle.rules.specs.Picked.{given_by, picked}

module _ (f g : ℕ → List ℕ) where
  on : (cs ds : List Code) → picked f g (cs ++ ds) ≡ picked f g cs ++ picked f g ds
  on [] ds = refl
  on (c ∷ cs) ds = ap (λ (xs : List ℕ). given_by f g c ++ xs) (on cs ds) ∙ sym (append_assoc (given_by f g c) (picked f g cs) (picked f g ds))

  -- code with a sign behind it
  signed : (cs : List Code) (c : Code) → given_by f g c ≡ [] → picked f g (cs ++ (c ∷ [])) ≡ picked f g cs
  signed cs c e = on cs (c ∷ []) ∙ ap (λ (xs : List ℕ). picked f g cs ++ (xs ++ [])) e ∙ append-nil (picked f g cs)

  both : (a b : Expr) (c : Code) → given_by f g c ≡ [] → picked f g (code_of a) ≡ leaves f g a → picked f g (code_of b) ≡ leaves f g b → picked f g ((code_of a ++ code_of b) ++ (c ∷ [])) ≡ leaves f g a ++ leaves f g b
  both a b c e ia ib = signed (code_of a ++ code_of b) c e ∙ on (code_of a) (code_of b) ∙ ap₂ ◌++◌ ia ib

  of_expression : (e : Expr) → picked f g (code_of e) ≡ leaves f g e
  of_expression (number n) = append-nil (f n)
  of_expression (name x) = append-nil (g x)
  of_expression (minus e) = signed (code_of e) Negate refl ∙ of_expression e
  of_expression (plus a b) = both a b Add refl (of_expression a) (of_expression b)
  of_expression (less a b) = both a b Subtract refl (of_expression a) (of_expression b)
  of_expression (times a b) = both a b Multiply refl (of_expression a) (of_expression b)
  of_expression (over a b) = both a b Divide refl (of_expression a) (of_expression b)

  abbrev all : List Expr → List ℕ
  all es = each (leaves f g) es

  all_on : (es fs : List Expr) → all (es ++ fs) ≡ all es ++ all fs
  all_on [] fs = refl
  all_on (e ∷ es) fs = ap (λ (xs : List ℕ). leaves f g e ++ xs) (all_on es fs) ∙ sym (append_assoc (leaves f g e) (all es) (all fs))

  of_arguments : (es : List Expr) → picked f g (codes_of es) ≡ all es
  of_arguments [] = refl
  of_arguments (e ∷ es) = on (code_of e) (codes_of es) ∙ ap₂ ◌++◌ (of_expression e) (of_arguments es)

  of_guard : (cs : List Comparison) → picked f g (comparisons_code cs) ≡ all (compared_in cs)
  of_guard [] = refl
  of_guard (c ∷ cs) =
      on ((code_of c.first ++ code_of c.second) ++ (Compare c.relation ∷ [])) (comparisons_code cs)
      ∙ ap₂ ◌++◌ (both c.first c.second (Compare c.relation) refl (of_expression c.first) (of_expression c.second)) (of_guard cs)
      ∙ append_assoc (leaves f g c.first) (leaves f g c.second) (all (compared_in cs))

  of_successor : (ps : List Piece) → picked f g (successor_code ps) ≡ all (arguments_in ps)
  of_successor [] = refl
  of_successor (p ∷ ps) = on (codes_of p.arguments) (successor_code ps) ∙ ap₂ ◌++◌ (of_arguments p.arguments) (of_successor ps) ∙ sym (all_on p.arguments (arguments_in ps))

  pub picked_rule : (u : Rule) → picked f g (rule_code u) ≡ each (leaves f g) (expressions u)
  picked_rule u = on (comparisons_code u.guarded) (successor_code u.successor) ∙ ap₂ ◌++◌ (of_guard u.guarded) (of_successor u.successor) ∙ sym (all_on (compared_in u.guarded) (arguments_in u.successor))
