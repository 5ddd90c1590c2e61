-- The depth behind a module that may stand.
use Rattle.std.proofs.Common.{◌≡◌, ℕ, true, false, IsSome, MatchOption, Some, None, Option, ap, ◌∙◌, rules}
use Rattle.std.proofs.lemmas.Bool.{both_ways}
use Rattle.word.specs.declared.depth.Depth.{Depth}
use Rattle.word.specs.Symbols.{Symbol}
use Rattle.word.specs.Words.{after, may_stand}

module _ (d : ℕ) (s : Symbol) (may : may_stand d s ≡ true) where
  pub there : (o : Option Depth) → MatchOption o (may_stand d s ≡ false) (λ e. (may_stand d s ≡ true) × (e.brackets ≡ after d s)) → IsSome o
  there None h = absurd (both_ways _ h may)
  there (Some e) h = search rules

  pub behind : (o : Option Depth) → MatchOption o (may_stand d s ≡ false) (λ e. (may_stand d s ≡ true) × (e.brackets ≡ after d s)) → (e : Depth) → o ≡ Some e → e.brackets ≡ after d s
  behind None h e is = absurd (both_ways _ h may)
  behind (Some x) h e is = let same : e ≡ x = cc in ap (λ y. y.brackets) same ∙ h.1
