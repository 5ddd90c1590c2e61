use Rattle.std.proofs.Common.{◌≡◌, ◌+◌, true, false, cond, not, sym, refl, ap, ◌∙◌, add-one, one-add, rules}
use borrow.Author.Tests.{tests}
use Rattle.std.proofs.lemmas.Iterator.{IsFirst-from_position, YieldsList-from_slice, index_from_first}
use Rattle.books.specs.declared.rule.Rule.{Rule}
use Rattle.books.specs.Order.{head_precedes, spot}
use Rattle.books.proofs.rule.order.spot.Goals as goal

pub returns : goal.returns
returns c =
    let h = c.args.head.now in
    let rs = c.args.rules.now in
    let yes = λ (r : Rule). head_precedes h r.head ≡ true in
    let no = λ (r : Rule). head_precedes h r.head ≡ false in
    let first = IsFirst-from_position _ _ _ yes no c.position.ensures.ran (YieldsList-from_slice rs c.iter.ensures.rest) (λ x q k. search (rules, tests)) (λ x q k. search (rules, tests)) in
    c.unwrap_or.ensures
    ∙ sym (index_from_first (spot h) yes no refl (λ r qs e. ap (λ t. cond (not t) (1 + spot h qs) 0) e) (λ r qs e. ap (λ t. cond (not t) (1 + spot h qs) 0) e ∙ one-add (spot h qs) ∙ sym (add-one (spot h qs))) rs c.position.result first)
