use Rattle.std.proofs.Common.{rules, ◌≡◌, true, false, [], ◌∷◌, refl, ◌∙◌}
use borrow.Author.Tests.{tests}
use Rattle.std.proofs.lemmas.Iterator.{cases_from_any, YieldsList-from_slice}
use Rattle.expr.specs.declared.code.Code.{Code}
use Rattle.rules.specs.Picked.{numbers_in}
use Rattle.rules.specs.Wrong.{some_over}
use Rattle.rules.proofs.Searching.{any_is, placed, over_on}
use Rattle.rules.proofs.judge.has_large.Goals as goal

pub returns : goal.returns
returns c =
    let cs = c.args.code.now in
    let p = λ (x : Code). some_over (numbers_in (x ∷ [])) in
    any_is p cs c.any.result
    (cases_from_any _ _ _ (λ x. p x ≡ true) (λ x. p x ≡ false) c.any.ensures.ran (YieldsList-from_slice cs c.iter.ensures.rest) (λ x q k. search (rules, tests)) (λ x q k. search (rules, tests)))
    ∙ placed (λ n. n ∷ []) (λ x. []) some_over refl over_on cs
