use Rattle.std.proofs.Common.{◌≡◌, ◌+◌, ◌-◌, ◌<◌, length, get_or, refl, sym, ap, ◌∙◌, arith}
use Rattle.std.proofs.lemmas.List.{get_or-map, get_or-replicate, length-set}
use Rattle.books.specs.Index.{letter_of, letters}
use Rattle.books.proofs.Chaining.{counted, none_left, first_put, next_put}
use Rattle.books.proofs.letter_index.LetterIndex.new.Goals as goal

pub loop-at-init : goal.loop-at-init
loop-at-init c =
    let rs = c.args.rules.now in
    record {
      lettered = refl;
      wide = refl;
      firsts = λ k h. get_or-replicate 256 k (length rs) 0 h ∙ sym (none_left (letters rs) k (length rs) (omega (arith, counted rs)));
      nexts = λ j l h. absurd (omega (arith, counted rs));
    }

pub loop-at-preserved : goal.loop-at-preserved
loop-at-preserved c =
    let rs = c.args.rules.now in
    let at = c.loop-at.at in
    let i = at - 1 in
    let d = c.from-letter.result in
    let inv = c.loop-at.invariant in
    let r = c.index-rules-at.result in
    let up : at ≡ i + 1 = omega arith in
    let inside : i < length (letters rs) = omega (arith, counted rs) in
    let own : get_or (letters rs) i 0 ≡ d =
    get_or-map letter_of rs i r 0 (omega arith)
    ∙ ap letter_of (sym c.index-rules-at.is)
    ∙ sym (c.from-letter.ensures ∙ c.letter.ensures) in
    let known : d < 256 = omega arith in
    record {
      lettered = length-set c.loop-at.first d i ∙ inv.lettered;
      wide = length-set c.loop-at.next i _ ∙ inv.wide;
      firsts = first_put (letters rs) d i at up inside own c.loop-at.first (omega (arith, inv.lettered)) inv.firsts;
      nexts = next_put (letters rs) d i at up inside own c.loop-at.next (get_or c.loop-at.first d 0) (omega (arith, inv.wide)) (inv.firsts d known) inv.nexts;
    }
