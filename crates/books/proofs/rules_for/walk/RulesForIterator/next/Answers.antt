use Rattle.std.proofs.Common.{length, ap, ◌∙◌, arith}
use Rattle.books.proofs.Chaining.{counted, one_taken}
use Rattle.books.proofs.rules_for.walk.RulesForIterator.next.Goals as goal

pub returns-clause-steps : goal.returns-clause-steps
returns-clause-steps c =
    let s = c.args.self.now in
    let rs = s.rules.now in
    let h = c.in_ok-rule.ensures.lookup in
    one_taken rs s.at c.next-self.result c.in_ok-rule.rule.now h.3.0 h.1 (c.next-self.ensures ∙ s.nexts s.at (omega (arith, counted rs, h.3.0)))

pub returns-clause-goes : goal.returns-clause-goes
returns-clause-goes c =
    let fewer = ap length (returns-clause-steps c) in
    record { on = λ f. (tt, f, omega arith); keeps = tt; rests = λ f. tt }
