-- The right neighbour of a module that does not look ahead makes no difference.
use Rattle.std.proofs.Common.{◌≡◌, Bool, true, false, cond, ◌&&◌, ◌⊎◌, List, [], ◌∷◌, pos, is_some, Some, None, Option, sym, refl, ap, ◌∙◌, ap₂, inl, inr}
use Rattle.std.proofs.lemmas.Bool.{or_parts, and_cases, true≢false}
use Rattle.word.specs.Symbols.{Symbol}
use Rattle.expr.specs.Values.{Env, Verdict, passes, fails, faults, guard}
use Rattle.book.specs.Rules.{Form, Rule, agrees, beside, given, given_beside, names_at}
use Rattle.book.specs.Winners.{not_false, says, decides, winner}
use Rattle.books.specs.Ahead.{looks_right, looks_ahead}
use Rattle.books.specs.Outcomes.{Outcome, successor, by_verdict, by_rule, becomes}

is_none : {A : Type 0} (o : Option A) → is_some o ≡ false → o ≡ None
is_none None e = refl
is_none (Some x) e = absurd (true≢false e)

module _ (l : Option Symbol) (s : Symbol) (r : Option Symbol) where
  -- a rule without a right side
  module _ (u : Rule) (bare : u.behind ≡ None) where
    names_same : names_at l s r u ≡ names_at l s None u
    names_same =
        ap (λ (g : Env). given_beside u.before l (given u.predecessor.names s.params g))
        (ap (λ (o : Option Form). given_beside o r (λ x. pos 0)) bare ∙ sym (ap (λ (o : Option Form). given_beside o None (λ x. pos 0)) bare))

    decides_same : decides l s r u ≡ decides l s None u
    decides_same =
        ap₂ (λ (b : Bool) (g : Env). (agrees u.predecessor s && (beside u.before l && b)) && not_false (guard g u.guarded))
        (ap (λ (o : Option Form). beside o r) bare ∙ sym (ap (λ (o : Option Form). beside o None) bare))
        names_same

    rule_same : by_rule l s r (Some u) ≡ by_rule l s None (Some u)
    rule_same = ap (λ (g : Env). by_verdict l s r (guard g u.guarded) u) names_same ∙ go (says l s None u)
      where
        go : (v : Verdict) → by_verdict l s r v u ≡ by_verdict l s None v u
        go passes = ap (λ (g : Env). successor g u.successor) names_same
        go fails = refl
        go (faults c) = refl

  -- a rule for other modules
  decides_no : (o : Option Symbol) (u : Rule) → agrees u.predecessor s ≡ false → decides l s o u ≡ false
  decides_no o u e = ap (λ (b : Bool). (b && (beside u.before l && beside u.behind o)) && not_false (says l s o u)) e

  -- the first rule decides or does not
  abbrev step : Rule → List Rule → Option Symbol → Bool → Outcome
  step u us o b = by_rule l s o (cond b (Some u) (winner l s o us))

  pub becomes_same : (us : List Rule) → looks_ahead s us ≡ false → becomes l s r us ≡ becomes l s None us
  becomes_same [] e = refl
  becomes_same (u ∷ us) e =
      go (becomes_same us parts.1) (and_cases (agrees u.predecessor s) (is_some u.behind) parts.0)
    where
      parts : (looks_right s u ≡ false) × (looks_ahead s us ≡ false)
      parts = or_parts (looks_right s u) (looks_ahead s us) e

      chosen : (b : Bool) → u.behind ≡ None → becomes l s r us ≡ becomes l s None us → step u us r b ≡ step u us None b
      chosen true bare ih = rule_same u bare
      chosen false bare ih = ih

      go : becomes l s r us ≡ becomes l s None us → (agrees u.predecessor s ≡ false) ⊎ (is_some u.behind ≡ false) → becomes l s r (u ∷ us) ≡ becomes l s None (u ∷ us)
      go ih (inl n) = ap (step u us r) (decides_no r u n) ∙ ih ∙ sym (ap (step u us None) (decides_no None u n))
      go ih (inr n) = let bare = is_none u.behind n in ap (step u us r) (decides_same u bare) ∙ chosen (decides l s None u) bare ih
