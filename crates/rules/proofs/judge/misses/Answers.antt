use Rattle.std.proofs.Common.{rules, ◌≡◌, true, false, [], ◌∷◌, refl, ◌∙◌}
use borrow.Author.Tests.{tests}
use Rattle.std.proofs.lemmas.Iterator.{cases_from_any, YieldsList-from_slice}
use Rattle.expr.specs.declared.code.Code.{Code}
use Rattle.rules.specs.Picked.{names_in}
use Rattle.rules.specs.Wrong.{some_missing}
use Rattle.rules.proofs.Searching.{any_is, placed, missing_on}
use Rattle.rules.proofs.judge.misses.Goals as goal

pub returns : goal.returns
returns c =
    let xs = c.args.given.now in
    let cs = c.args.code.now in
    let p = λ (x : Code). some_missing xs (names_in (x ∷ [])) in
    any_is p cs c.any.result
    (cases_from_any _ _ _ (λ x. p x ≡ true) (λ x. p x ≡ false) c.any.ensures.ran (YieldsList-from_slice cs c.iter.ensures.rest) (λ x q k. search (rules, tests)) (λ x q k. search (rules, tests)))
    ∙ placed (λ n. []) (λ x. x ∷ []) (some_missing xs) refl (missing_on xs) cs
