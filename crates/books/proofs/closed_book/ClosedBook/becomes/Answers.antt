use Rattle.std.proofs.Common.{◌≡◌, ℕ, cond, List, ◌∷◌, length, Some, Ok, Option, Result, sym, ap, ◌∙◌, subst, rules}
use Rattle.std.proofs.lemmas.Bool.{and_parts}
use Rattle.std.specs.Option.{option_map}
use Rattle.word.specs.Symbols.{Symbol}
use Rattle.word.specs.Records.{symbol_of}
use Rattle.books.specs.declared.closed_book.ClosedBook.{ClosedBook}
use Rattle.books.specs.declared.code_places.CodePlaces.{CodePlaces}
use Rattle.books.specs.declared.rule.Rule.{Rule as StoredRule}
use Rattle.expr.specs.declared.computed.Cause.{Cause}
use Rattle.book.specs.Winners.{winner}
use Rattle.books.specs.Label.{Label}
use Rattle.books.specs.Outcomes.{by_rule, becomes}
use Rattle.books.specs.Stored.{code_held, rule_in, listed, rules_in}
use Rattle.books.specs.Kept.{within}
use Rattle.books.specs.Walking.{to_come}
use Rattle.books.specs.Kinds.{closed_book}
use Rattle.books.specs.Few.{modules_in, symbols_in}
use Rattle.books.specs.Trying.{Tried}
use Rattle.books.proofs.Tidy.{brackets_nest}
use Rattle.books.proofs.Trying.{none_of}
use Rattle.books.proofs.Winning.{label}
use Rattle.books.proofs.Chaining.{some_within, only_becomes}
use Rattle.books.proofs.closed_book.ClosedBook.becomes.Goals as goal

labelled : (b : ClosedBook) (l : Option Symbol) (s : Symbol) (r : Option Symbol) → Label (closed_book b).rules l s r
labelled b l s r = label (closed_book b).rules b.contents.ordered l s r

pub loop-rule-init : goal.loop-rule-init
loop-rule-init c =
    let s = c.args.self.now.contents in
    let m = symbol_of c.args.site.module in
    let cs = code_held s.code in
    let rs = listed s.rules in
    let own = ap to_come c.into_iter-rule-iterator.ensures.into_iter_gives ∙ c.rules_for-rule-items.ensures in
    record {
      empty = c.clear.ensures;
      lent = c.clear-2.ensures;
      inside = ap (within (length cs)) own ∙ some_within (length cs) m.letter rs s.inside;
      same =
          ap (λ (qs : List StoredRule). becomes (option_map symbol_of c.args.site.left) m (option_map symbol_of c.args.site.right) (rules_in cs qs)) own
          ∙ only_becomes cs m (option_map symbol_of c.args.site.left) (option_map symbol_of c.args.site.right) rs;
    }

pub returns-in-Err-clause-label : goal.returns-in-Err-clause-label
returns-in-Err-clause-label c = labelled c.args.self.now (option_map symbol_of c.args.site.left) (symbol_of c.args.site.module) (option_map symbol_of c.args.site.right)

pub returns-in-Ok-Some-clause-label : goal.returns-in-Ok-Some-clause-label
returns-in-Ok-Some-clause-label c = labelled c.args.self.now (option_map symbol_of c.args.site.left) (symbol_of c.args.site.module) (option_map symbol_of c.args.site.right)

pub returns-in-Ok-Some-clause-nested : goal.returns-in-Ok-Some-clause-nested
returns-in-Ok-Some-clause-nested c = brackets_nest c.args.self.now (option_map symbol_of c.args.site.left) (symbol_of c.args.site.module) (option_map symbol_of c.args.site.right) _ (search rules)

pub returns-clause-label : goal.returns-clause-label
returns-clause-label c = labelled c.args.self.now (option_map symbol_of c.args.site.left) (symbol_of c.args.site.module) (option_map symbol_of c.args.site.right)

pub loop-rule-preserved : goal.loop-rule-preserved
loop-rule-preserved c =
    let l = option_map symbol_of c.args.site.left in
    let m = symbol_of c.args.site.module in
    let r = option_map symbol_of c.args.site.right in
    let cs = code_held c.args.self.now.contents.code in
    let rest = to_come c.next.new.self in
    let q = c.in-Some.rule.now in
    let inv = c.loop-rule.invariant in
    let steps : to_come c.loop-rule.rule-iterator ≡ q ∷ rest = search rules in
    let by_code = subst (λ (k : CodePlaces). Tried l m r (rule_in (code_held k) q) c.try_at.result (symbols_in c.try_at.new.grown)) c.code.ensures c.try_at.ensures.tried in
    let tried = subst (λ (x : Result (Option ℕ) Cause). Tried l m r (rule_in cs q) x (symbols_in c.try_at.new.grown)) (c.in-Ok-None.is ∙ ap Ok c.in-Ok-None.field-0-is) by_code in
    record {
      empty = none_of (modules_in c.try_at.new.grown) tried.1;
      lent = c.try_at.ensures.emptied;
      inside = (and_parts _ _ (sym (ap (within (length cs)) steps) ∙ inv.inside)).1;
      same =
          sym (ap (λ b. by_rule l m r (cond b (Some (rule_in cs q)) (winner l m r (rules_in cs rest)))) tried.0)
          ∙ sym (ap (λ (qs : List StoredRule). becomes l m r (rules_in cs qs)) steps)
          ∙ inv.same;
    }
