use Rattle.std.proofs.Common.{◌≤◌, length, sym, ◌∙◌, inl, inr, arith}
use Rattle.word.proofs.Sound.{few}
use Rattle.word.proofs.Made.{valid_is, either_false, made_of_2, made_of_3, sound_of_2, sound_of_3}
use Rattle.word.proofs.module.Module.new.Goals.{then-not-may_have-via-then-not-may_have, then-not-may_have-via-else-not-may_have+then-not-all_in_range}
use Rattle.word.proofs.module.Module.new.Goals as goal

pub returns-then-not-may_have : goal.returns-then-not-may_have
returns-then-not-may_have c =
    valid_is c.args.letter c.args.parameters.now
    ∙ either_false _ _ (elim c.then-not-may_have.branch [
      | then-not-may_have-via-then-not-may_have w ↦ inl (sym w.if-not-may_have.ensures)
      | then-not-may_have-via-else-not-may_have+then-not-all_in_range w ↦ inr (sym w.if-not-all_in_range.ensures)
    ])

pub returns-in-len2 : goal.returns-in-len2
returns-in-len2 c = made_of_2 c.args.letter c.args.parameters.now (sym c.if-not-all_in_range.ensures) (omega arith) (omega arith)

pub returns-in-len3-up : goal.returns-in-len3-up
returns-in-len3-up c =
    let most : length c.args.parameters.now ≤ 3 = few c.args.letter (length c.args.parameters.now) (sym c.if-not-may_have.ensures) in
    made_of_3 c.args.letter c.args.parameters.now (sym c.if-not-all_in_range.ensures) (omega arith) most

pub invariant_of-result-in-len2 : goal.invariant_of-result-in-len2
invariant_of-result-in-len2 c =
    record { ok = sound_of_2 c.args.letter c.args.parameters.now (sym c.if-not-may_have.ensures) (sym c.if-not-all_in_range.ensures) (omega arith) (omega arith) }

pub invariant_of-result-in-len3-up : goal.invariant_of-result-in-len3-up
invariant_of-result-in-len3-up c =
    let most : length c.args.parameters.now ≤ 3 = few c.args.letter (length c.args.parameters.now) (sym c.if-not-may_have.ensures) in
    record { ok = sound_of_3 c.args.letter c.args.parameters.now (sym c.if-not-may_have.ensures) (sym c.if-not-all_in_range.ensures) (omega arith) most }
