use Rattle.std.proofs.Common.{suc, ◌+◌, length, drop, sym, ap, ◌∙◌, add-one, arith, rules}
use Rattle.std.proofs.lemmas.List.{take_all, take_rest, drop_all}
use Rattle.word.specs.Text.{First}
use Rattle.job.specs.Jobs.{lines_of}
use Rattle.job.proofs.Cutting.{first_line, other_lines}
use Rattle.job.proofs.lines.walk.cut_line.Goals as goal

pub returns-in-Some-clause-first : goal.returns-in-Some-clause-first
returns-in-Some-clause-first c =
    let found : First 10 c.args.text.now c.in-Some.end = search rules in
    first_line c.args.text.now c.in-Some.end found

pub returns-in-Some-clause-others : goal.returns-in-Some-clause-others
returns-in-Some-clause-others c =
    let t = c.args.text.now in
    let r = c.in-Some.end in
    let found : First 10 t r = search rules in
    ap lines_of (take_rest t (r + 1) ∙ ap (λ k. drop k t) (add-one r)) ∙ other_lines t r found

pub returns-in-None-clause-first : goal.returns-in-None-clause-first
returns-in-None-clause-first c =
    let t = c.args.text.now in
    let none : First 10 t (length t) = search rules in
    sym (take_all (length t) t (omega arith)) ∙ first_line t (length t) none

pub returns-in-None-clause-others : goal.returns-in-None-clause-others
returns-in-None-clause-others c =
    let t = c.args.text.now in
    let none : First 10 t (length t) = search rules in
    ap lines_of (sym (drop_all (suc (length t)) t (omega arith))) ∙ other_lines t (length t) none
