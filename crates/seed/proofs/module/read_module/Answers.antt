use Rattle.std.proofs.Common.{rules, ◌≡◌, ◌∙◌, true, false, Some, ap}
use Rattle.rows.specs.Rows.{held}
use Rattle.word.specs.Symbols.{symbol_with, valid}
use Rattle.word.specs.Words.{may_stand}
use Rattle.word.specs.Records.{symbol_of}
use Rattle.seed.specs.Seeds.{form, wrong}
use Rattle.seed.specs.Parts.{cause_number}
use Rattle.seed.proofs.Judging.{out_of_range, stands, closes_none, opens_too_deep}
use Rattle.seed.proofs.module.read_module.Goals.{then-module-eq93, else-module-eq93}
use Rattle.seed.proofs.module.read_module.Goals as goal

pub returns-in_default-new-clause-told : goal.returns-in_default-new-clause-told
returns-in_default-new-clause-told c =
    let letter = c.in-Some.letter in
    let parameters = held c.read_form.new.parameters in
    let read : form c.args.own.now ≡ Some (symbol_with letter parameters) = search rules in
    let none : valid (symbol_with letter parameters) ≡ false = search rules in
    out_of_range c.args.depth.brackets c.args.own.now letter parameters read none

pub returns-in-None-clause-told : goal.returns-in-None-clause-told
returns-in-None-clause-told c =
    let letter = c.in-Some.letter in
    let parameters = held c.read_form.new.parameters in
    let m = c.in-Some-new.module in
    let read : form c.args.own.now ≡ Some (symbol_with letter parameters) = search rules in
    let same : symbol_of m ≡ symbol_with letter parameters = search rules in
    let none : may_stand c.args.depth.brackets (symbol_of m) ≡ false = search rules in
    elim c.if-module-eq93.branch [
      | then-module-eq93 w ↦ ap (λ b. wrong (cause_number b)) w.bracketed-is ∙ closes_none c.args.depth.brackets c.args.own.now letter parameters read m same none w.if-module-eq93.true
      | else-module-eq93 w ↦ ap (λ b. wrong (cause_number b)) w.bracketed-is ∙ opens_too_deep c.args.depth.brackets c.args.own.now letter parameters read m same none w.if-module-eq93.false
    ]

pub returns-in-Some-after-clause-told : goal.returns-in-Some-after-clause-told
returns-in-Some-after-clause-told c =
    let letter = c.in-Some.letter in
    let parameters = held c.read_form.new.parameters in
    let m = c.in-Some-new.module in
    let read : form c.args.own.now ≡ Some (symbol_with letter parameters) = search rules in
    let same : symbol_of m ≡ symbol_with letter parameters = search rules in
    let may : may_stand c.args.depth.brackets (symbol_of m) ≡ true = search rules in
    stands c.args.depth.brackets c.args.own.now letter parameters read m same may
