-- A letter has a rule exactly where one of the stored rules is for it, and stays as it is where it has none.
use Rattle.std.proofs.Common.{◌≡◌, ℕ, Bool, true, false, cond, ◌&&◌, ◌||◌, eqb, List, [], ◌∷◌, length, is_some, Some, None, Option, MatchOption, Bor, sym, refl, ap, ◌∙◌}
use Rattle.std.proofs.lemmas.Bool.{or_parts}
use Rattle.word.specs.Symbols.{Symbol}
use Rattle.expr.specs.declared.code.Code.{Code}
use Rattle.book.specs.Rules.{Rule, agrees, beside}
use Rattle.book.specs.Winners.{not_false, says, decides, winner}
use Rattle.books.specs.Ahead.{looks_ahead}
use Rattle.books.specs.Outcomes.{itself, by_rule, becomes}
use Rattle.books.specs.Stored.{rules_in}
use Rattle.books.specs.Ruled.{has_rule}
use Rattle.books.specs.Index.{letter_of, with_letter}
use Rattle.books.specs.declared.rule.Rule.{Rule as StoredRule}

-- whether there is a first
abbrev pub some_first : {A : Type 0} → List A → Bool
some_first [] = false
some_first (x ∷ xs) = true

-- an iterator has an item exactly where some is to come
pub yields_some : (w v : List StoredRule) (o : Option (Bor StoredRule)) → MatchOption o ((w ≡ []) × (v ≡ [])) (λ x. w ≡ x.now ∷ v) → is_some o ≡ some_first w
yields_some w v None h = sym (ap some_first h.0)
yields_some w v (Some x) h = sym (ap some_first h)

pub has_stored : (cs : List Code) (c : ℕ) (rs : List StoredRule) → some_first (with_letter c rs) ≡ has_rule c (rules_in cs rs)
has_stored cs c [] = refl
has_stored cs c (r ∷ rs) = go (eqb (letter_of r) c) (has_stored cs c rs)
  where
    go : (t : Bool) → some_first (with_letter c rs) ≡ has_rule c (rules_in cs rs) → some_first (cond t (r ∷ with_letter c rs) (with_letter c rs)) ≡ (t || has_rule c (rules_in cs rs))
    go true ih = refl
    go false ih = ih

-- a letter without a rule
module _ (s : Symbol) where
  off : (u : Rule) → eqb u.predecessor.letter s.letter ≡ false → agrees u.predecessor s ≡ false
  off u e = λ k. e k && eqb (length u.predecessor.names) (length s.params)

  pub none_ahead : (us : List Rule) → has_rule s.letter us ≡ false → looks_ahead s us ≡ false
  none_ahead [] e = refl
  none_ahead (u ∷ us) e =
      let parts = or_parts (eqb u.predecessor.letter s.letter) (has_rule s.letter us) e in
      (λ k. (off u parts.0 k && is_some u.behind) || looks_ahead s us) ∙ none_ahead us parts.1

  module _ (l r : Option Symbol) where
    none_wins : (us : List Rule) → has_rule s.letter us ≡ false → winner l s r us ≡ None
    none_wins [] e = refl
    none_wins (u ∷ us) e =
        let parts = or_parts (eqb u.predecessor.letter s.letter) (has_rule s.letter us) e in
        let loses : decides l s r u ≡ false = λ k. (off u parts.0 k && (beside u.before l && beside u.behind r)) && not_false (says l s r u) in
        ap (λ (b : Bool). cond b (Some u) (winner l s r us)) loses ∙ none_wins us parts.1

    pub stays_itself : (us : List Rule) → has_rule s.letter us ≡ false → becomes l s r us ≡ itself
    stays_itself us e = ap (by_rule l s r) (none_wins us e)
