-- A rule tried at a module.
use Rattle.std.proofs.Common.{◌≡◌, ℕ, true, false, ◌&&◌, List, [], ◌∷◌, map, length, Option, sym, refl, ap, ◌∙◌, arith}
use mathlib.Core.Path.{fun_ext}
use Rattle.std.proofs.lemmas.Bool.{and_from}
use Rattle.word.specs.declared.module.Module.{Module}
use Rattle.word.specs.Symbols.{Symbol}
use Rattle.word.specs.Records.{symbol_of}
use Rattle.expr.specs.Values.{Env, Verdict, passes, fails, faults, guard}
use Rattle.book.specs.Rules.{Rule, names_at}
use Rattle.book.specs.Winners.{not_false, says, decides}
use Rattle.book.specs.Winners.{candidate}
use Rattle.books.specs.Outcomes.{Outcome, fault, successor, by_verdict}

module _ (l : Option Symbol) (s : Symbol) (r : Option Symbol) where
  module _ (u : Rule) (g : Env) (same : (x : ℕ) → g x ≡ names_at l s r u x) (fits : candidate l s r u ≡ true) where
    named : g ≡ names_at l s r u
    named = fun_ext same

    verdict : (v : Verdict) → v ≡ guard g u.guarded → says l s r u ≡ v
    verdict v e = sym (e ∙ ap (λ (h : Env). guard h u.guarded) named)

    pub on_pass : (o : Outcome) → passes ≡ guard g u.guarded → o ≡ successor g u.successor → (decides l s r u ≡ true) × (o ≡ by_verdict l s r (says l s r u) u)
    on_pass o p e =
        let v = verdict passes p in (
          and_from (candidate l s r u) (not_false (says l s r u)) fits (ap not_false v),
          e ∙ ap (λ (h : Env). successor h u.successor) named ∙ ap (λ (x : Verdict). by_verdict l s r x u) (sym v),
        )

    pub on_fail : fails ≡ guard g u.guarded → decides l s r u ≡ false
    on_fail p = (λ i. fits i && not_false (verdict fails p i))

    pub on_fault : (n : ℕ) → faults n ≡ guard g u.guarded → (decides l s r u ≡ true) × (fault n ≡ by_verdict l s r (says l s r u) u)
    on_fault n p =
        let v = verdict (faults n) p in
        (and_from (candidate l s r u) (not_false (says l s r u)) fits (ap not_false v), ap (λ (x : Verdict). by_verdict l s r x u) (sym v))

-- where no module is written, none is held
pub none_of : (l : List Module) → map symbol_of l ≡ [] → l ≡ []
none_of [] e = refl
none_of (m ∷ l) e = absurd (omega (arith, ap length e))
