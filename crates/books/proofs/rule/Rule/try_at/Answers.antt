use Rattle.std.proofs.Common.{◌≡◌, List, [], map, take, drop, Ok, sym, refl, ap, ◌∙◌, arith}
use Rattle.std.proofs.lemmas.Result.{err_from_is_err_and}
use Rattle.std.specs.Option.{option_map}
use Rattle.word.specs.Records.{symbol_of}
use Rattle.rows.specs.Rows.{held}
use Rattle.expr.specs.declared.code.Code.{Code}
use Rattle.expr.specs.Values.{passes, guard}
use Rattle.expr.specs.Codes.{comparisons}
use Rattle.expr.specs.Records.{env_of, verdict_of}
use Rattle.book.specs.Rules.{names_at}
use Rattle.rules.specs.Records.{pieces_from}
use Rattle.books.specs.Outcomes.{successor}
use Rattle.books.specs.Stored.{code_held, rule_in}
use Rattle.books.proofs.Trying.{on_pass, on_fail, on_fault}
use Rattle.books.proofs.rule.Rule.try_at.Goals as goal

pub returns-in_err-says-clause-tried : goal.returns-in_err-says-clause-tried
returns-in_err-says-clause-tried c =
    let r = c.args.self.now in
    let g = env_of c.give.new.names in
    let p = err_from_is_err_and c.from_residual.result c.from_residual.ensures.1 in
    rw (p.1, p.2)
    (on_fault (option_map symbol_of c.args.site.left) (symbol_of c.args.site.module) (option_map symbol_of c.args.site.right) (rule_in (code_held c.args.book.now) r) g c.give.ensures (sym c.fits.ensures ∙ c.if-not-fits.false) _
    (c.in_err-says.ensures.said ∙ ap (λ (cs : List Code). guard g (comparisons [] (take r.guard cs))) (c.part-code.ensures ∙ (λ i. take (c.from-2.ensures i) (drop (c.from.ensures i) (code_held c.args.book.now))))))

pub returns-then-not-branch-clause-tried : goal.returns-then-not-branch-clause-tried
returns-then-not-branch-clause-tried c =
    let r = c.args.self.now in
    let g = env_of c.give.new.names in (
      on_fail (option_map symbol_of c.args.site.left) (symbol_of c.args.site.module) (option_map symbol_of c.args.site.right) (rule_in (code_held c.args.book.now) r) g c.give.ensures (sym c.fits.ensures ∙ c.if-not-fits.false)
          (ap (λ b. verdict_of (Ok b)) (sym c.if-not-branch.true) ∙ c.in_ok-says.ensures.said ∙ ap (λ (cs : List Code). guard g (comparisons [] (take r.guard cs))) (c.part-code.ensures ∙ (λ i. take (c.from-2.ensures i) (drop (c.from.ensures i) (code_held c.args.book.now))))),
      ap (map symbol_of) c.requires.empty,
    )

pub returns-in_err-depth-clause-tried : goal.returns-in_err-depth-clause-tried
returns-in_err-depth-clause-tried c =
    let r = c.args.self.now in
    let g = env_of c.give.new.names in
    let p = err_from_is_err_and c.from_residual-in_err-depth.result c.from_residual-in_err-depth.ensures.1 in
    rw (p.1, p.2)
    (on_pass (option_map symbol_of c.args.site.left) (symbol_of c.args.site.module) (option_map symbol_of c.args.site.right) (rule_in (code_held c.args.book.now) r) g c.give.ensures (sym c.fits.ensures ∙ c.if-not-fits.false) _
    (ap (λ b. verdict_of (Ok b)) (sym c.if-not-branch.false) ∙ c.in_ok-says.ensures.said ∙ ap (λ (cs : List Code). guard g (comparisons [] (take r.guard cs))) (c.part-code.ensures ∙ (λ i. take (c.from-2.ensures i) (drop (c.from.ensures i) (code_held c.args.book.now)))))
    (c.in_err-depth.ensures.grown ∙ ap (λ (cs : List Code). successor g (pieces_from (held r.pieces) (drop r.guard cs))) (c.part-code.ensures ∙ (λ i. take (c.from-2.ensures i) (drop (c.from.ensures i) (code_held c.args.book.now))))))

pub returns-clause-tried : goal.returns-clause-tried
returns-clause-tried c =
    let r = c.args.self.now in
    let g = env_of c.give.new.names in
    let passed =
    on_pass (option_map symbol_of c.args.site.left) (symbol_of c.args.site.module) (option_map symbol_of c.args.site.right) (rule_in (code_held c.args.book.now) r) g c.give.ensures (sym c.fits.ensures ∙ c.if-not-fits.false) _
    (ap (λ b. verdict_of (Ok b)) (sym c.if-not-branch.false) ∙ c.in_ok-says.ensures.said ∙ ap (λ (cs : List Code). guard g (comparisons [] (take r.guard cs))) (c.part-code.ensures ∙ (λ i. take (c.from-2.ensures i) (drop (c.from.ensures i) (code_held c.args.book.now)))))
    (c.in_ok-depth.ensures.grown.0 ∙ ap (λ (cs : List Code). successor g (pieces_from (held r.pieces) (drop r.guard cs))) (c.part-code.ensures ∙ (λ i. take (c.from-2.ensures i) (drop (c.from.ensures i) (code_held c.args.book.now))))) in
    (passed.0, passed.1, c.in_ok-depth.ensures.grown.1)

pub returns-then-self-eq0-clause-tried : goal.returns-then-self-eq0-clause-tried
returns-then-self-eq0-clause-tried c =
    let l = option_map symbol_of c.args.site.left in
    let m = symbol_of c.args.site.module in
    let q = option_map symbol_of c.args.site.right in
    let r = c.args.self.now in
    let own = take r.size (drop r.start (code_held c.args.book.now)) in
    let u = rule_in (code_held c.args.book.now) r in
    let g = names_at l m q u in
    let none : r.guard ≡ 0 = omega (arith, r.within) in
    let unguarded : passes ≡ guard g (comparisons [] (take r.guard own)) = ap (λ k. guard g (comparisons [] (take k own))) (sym none) in
    let whole = c.grow_plainly.ensures g (drop r.guard own) in
    let passed = on_pass l m q u g (λ x. refl) (sym c.fits.ensures ∙ c.if-not-fits.false) _ unguarded whole.0 in
    (passed.0, passed.1, whole.1)
