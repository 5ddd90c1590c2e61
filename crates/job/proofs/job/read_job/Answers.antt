use Rattle.std.proofs.Common.{◌≡◌, ◌≤◌, [], length, get_or, drop, sym, refl, ap, ◌∙◌, arith}
use Rattle.std.proofs.lemmas.List.{get_or-drop, drop-drop}
use Rattle.std.proofs.lemmas.Bool.{ltb-true, ltb-false}
use Rattle.word.specs.Text.{worth}
use Rattle.job.specs.Jobs.{lines_of, is_digit_to_8, numbered}
use Rattle.job.proofs.Judging.{refused_long, refused_whole, accepted, digit_alone, worth_alone}
use Rattle.word.proofs.Among.{among_is}
use Rattle.job.proofs.job.read_job.Goals as goal
use Rattle.job.proofs.job.read_job.Goals.{then-bytes-gt-LONGEST-via-then-bytes-gt-LONGEST, then-bytes-gt-LONGEST-via-else-bytes-gt-LONGEST+then-not-contains}

pub returns-then-bytes-gt-LONGEST : goal.returns-then-bytes-gt-LONGEST
returns-then-bytes-gt-LONGEST c =
    let job = c.args.bytes.now in
    elim c.then-bytes-gt-LONGEST.branch [
      | then-bytes-gt-LONGEST-via-then-bytes-gt-LONGEST w ↦ (refused_long job w.if-bytes-gt-LONGEST.true, refl, refl)
      | then-bytes-gt-LONGEST-via-else-bytes-gt-LONGEST+then-not-contains w ↦ (refused_whole job (sym (among_is 10 job) ∙ sym w.if-not-contains.ensures.value), refl, refl)
    ]

pub returns : goal.returns
returns c =
    let job = c.args.bytes.now in
    let first = c.cut_line.result.0.now in
    let alone : length first ≡ 1 = omega (arith, ltb-true, ltb-false) in
    let low : 48 ≤ get_or first 0 0 = omega (arith, ltb-false) in
    let high : get_or first 0 0 ≤ 56 = omega (arith, ltb-true) in
    let digit = ap is_digit_to_8 (sym c.cut_line.ensures.first) ∙ digit_alone first alone low high in (
      accepted job c.if-bytes-gt-LONGEST.false (sym (among_is 10 job) ∙ sym c.if-not-contains.ensures.value) digit,
      record {
        generations_are = worth_alone first alone ∙ ap worth c.cut_line.ensures.first;
        few = omega arith;
        seed_is = c.cut_line-2.ensures.first ∙ ap (λ ls. get_or ls 0 []) c.cut_line.ensures.others ∙ get_or-drop 1 (lines_of job) 0 [];
        book_has = ap (numbered 3) (c.cut_line-2.ensures.others ∙ ap (drop 1) c.cut_line.ensures.others ∙ drop-drop 1 1 (lines_of job));
      },
    )
