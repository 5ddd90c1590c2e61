use Rattle.std.proofs.Common.{◌≡◌, ℕ, ◌≤◌, true, ◌&&◌, ◌||◌, leb, sym, refl, ◌∙◌, arith}
use Rattle.std.proofs.lemmas.Bool.{and_from, le-leb, lt-ltb, le-ltb}
use Rattle.rules.specs.Picked.{names_in}
use Rattle.rules.specs.Wrong.{some_twice, some_missing}
use Rattle.rules.proofs.Judging.{judged}
use Rattle.rules.proofs.draft.Draft.judge.Goals as goal
use Rattle.rules.proofs.draft.Draft.judge.Goals.{then-repeats-via-then-repeats, then-repeats-via-else-repeats+then-misses}

right : (x : ℕ) → 1 ≤ x → x ≤ 999 → true ≡ (leb 1 x && leb x 999)
right x h k = sym (and_from (leb 1 x) (leb x 999) (le-leb 1 x h) (le-leb x 999 k))

pub returns-then-has_large : goal.returns-then-has_large
returns-then-has_large c =
    judged c.args.self.now c.as_slice-code.ensures refl refl
    (right c.args.self.now.head.printed (omega arith) (omega arith)) c.if-has_large.ensures refl refl refl

pub returns-then-repeats : goal.returns-then-repeats
returns-then-repeats c =
    let given = c.as_slice-names.result.now in
    let code = c.as_slice-code.result.now in
    let named : true ≡ (some_twice given || some_missing given (names_in code)) = elim c.then-repeats.branch [
      | then-repeats-via-then-repeats w ↦ λ i. w.if-repeats.ensures i || some_missing given (names_in code)
      | then-repeats-via-else-repeats+then-misses w ↦ λ i. w.if-repeats.ensures i || w.if-misses.ensures i
    ] in
    judged c.args.self.now c.as_slice-code.ensures (c.as_slice-names.ensures ∙ c.given_names-given.ensures) refl
    (right c.args.self.now.head.printed (omega arith) (omega arith)) c.if-has_large.ensures named refl refl

pub returns-then-not-nests : goal.returns-then-not-nests
returns-then-not-nests c =
    judged c.args.self.now c.as_slice-code.ensures (c.as_slice-names.ensures ∙ c.given_names-given.ensures) c.as_slice-pieces.ensures
    (right c.args.self.now.head.printed (omega arith) (omega arith)) c.if-has_large.ensures (λ i. c.if-repeats.ensures i || c.if-misses.ensures i) c.if-not-nests.ensures refl

pub returns-then-pieces-gt-MOST : goal.returns-then-pieces-gt-MOST
returns-then-pieces-gt-MOST c =
    judged c.args.self.now c.as_slice-code.ensures (c.as_slice-names.ensures ∙ c.given_names-given.ensures) c.as_slice-pieces.ensures
    (right c.args.self.now.head.printed (omega arith) (omega arith)) c.if-has_large.ensures (λ i. c.if-repeats.ensures i || c.if-misses.ensures i) c.if-not-nests.ensures (sym (lt-ltb 24 _ c.if-pieces-gt-MOST.true))

pub returns : goal.returns
returns c =
    judged c.args.self.now c.as_slice-code.ensures (c.as_slice-names.ensures ∙ c.given_names-given.ensures) c.as_slice-pieces.ensures
    (right c.args.self.now.head.printed (omega arith) (omega arith)) c.if-has_large.ensures (λ i. c.if-repeats.ensures i || c.if-misses.ensures i) c.if-not-nests.ensures (sym (le-ltb 24 _ c.if-pieces-gt-MOST.false))
