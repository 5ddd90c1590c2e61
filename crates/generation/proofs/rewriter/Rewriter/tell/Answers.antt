use Rattle.std.proofs.Common.{◌≡◌, ◌+◌, ◌<◌, ◌≤◌, ◌++◌, List, map, length, take, drop, refl, sym, ap, ◌∙◌, arith}
use Rattle.std.proofs.Math.Seq.{take-append_seam, drop-append_seam}
use Rattle.word.specs.declared.depth.Depth.{Depth}
use Rattle.word.specs.declared.module.Module.{Module}
use Rattle.word.specs.Words.{depth}
use Rattle.word.specs.Records.{symbol_of}
use Rattle.books.specs.Few.{modules_in}
use Rattle.generation.proofs.Telling.{left_of, next_of, leads_some, leads_to, pending_parted, may_stand, later_spans, long, fewer, none_later, at_window}
use Rattle.generation.proofs.rewriter.Rewriter.tell.Goals.{then-count-left, else-count-left}
use Rattle.generation.proofs.rewriter.Rewriter.tell.Goals as goal

pub unwrap-opened-requires : goal.unwrap-opened-requires
unwrap-opened-requires c =
    let r = c.args.self.now in
    let fs = c.as_slice.result.now in
    leads_some r.opened.brackets _ _ (may_stand r fs c.as_slice.ensures (omega (arith, c.len.ensures, ap length c.as_slice.ensures)) c.min-count.result (omega (arith, c.min-count.ensures))) c.after_all.result c.after_all.ensures

pub invariant_of-self : goal.invariant_of-self
invariant_of-self c =
    let r = c.args.self.now in
    let fs = c.as_slice.result.now in
    let n = c.min-count.result in
    let some : r.told < length fs = omega (arith, c.len.ensures, ap length c.as_slice.ensures) in
    let few : n ≤ length (left_of fs r.told) = omega (arith, c.min-count.ensures) in
    let opened : c.if-count-left.opened.brackets ≡ depth r.opened.brackets (map symbol_of (next_of fs r.told n)) (length (map symbol_of (next_of fs r.told n))) =
    elim c.if-count-left.branch [
      | then-count-left w ↦ ap (λ (d : Depth). d.brackets) (w.opened-is ∙ w.first-opened.ensures) ∙ at_window r fs c.as_slice.ensures some n few w.if-count-left.true
      | else-count-left w ↦ ap (λ (d : Depth). d.brackets) w.opened-is ∙ leads_to r.opened.brackets (map symbol_of (next_of fs r.told n)) w.after_all.result w.after_all.ensures w.unwrap-opened.result w.unwrap-opened.ensures
    ] in
    record {
      few = r.few;
      inside = r.inside;
      counted = fewer r fs c.as_slice.ensures some n few;
      joined = later_spans r fs c.as_slice.ensures some n few c.if-count-left.opened.brackets opened;
      bounds = r.bounds;
    }

pub returns : goal.returns
returns c =
    let r = c.args.self.now in
    let fs = c.as_slice.result.now in
    let n = c.min-count.result in
    let some : r.told < length fs = omega (arith, c.len.ensures, ap length c.as_slice.ensures) in
    let few : n ≤ length (left_of fs r.told) = omega (arith, c.min-count.ensures) in
    let opened : c.if-count-left.opened.brackets ≡ depth r.opened.brackets (map symbol_of (next_of fs r.told n)) (length (map symbol_of (next_of fs r.told n))) =
    elim c.if-count-left.branch [
      | then-count-left w ↦ ap (λ (d : Depth). d.brackets) (w.opened-is ∙ w.first-opened.ensures) ∙ at_window r fs c.as_slice.ensures some n few w.if-count-left.true
      | else-count-left w ↦ ap (λ (d : Depth). d.brackets) w.opened-is ∙ leads_to r.opened.brackets (map symbol_of (next_of fs r.told n)) w.after_all.result w.after_all.ensures w.unwrap-opened.result w.unwrap-opened.ensures
    ] in
    let copied = c.copy_from_slice.new.self in
    let rest = drop n c.args.places.now in
    let is : copied ≡ next_of fs r.told n = c.copy_from_slice.ensures.after in
    let count : length copied ≡ n = ap length is ∙ long r fs c.as_slice.ensures some n few in
    let told : take n (copied ++ rest) ≡ next_of fs r.told n = ap (λ k. take k (copied ++ rest)) (sym count) ∙ take-append_seam copied rest ∙ is in
    record {
      stays = record { generation_stays = refl; window_stays = refl; lefts_stay = refl; made_stays = refl; place_stays = refl };
      fault_stays = refl;
      told = pending_parted r fs c.as_slice.ensures some n few ∙ ap (λ (l : List Module). map symbol_of l ++ map symbol_of (drop (r.told + n) (modules_in r.growth))) (sym told);
      opened = opened ∙ ap (λ (l : List Module). depth r.opened.brackets (map symbol_of l) (length (map symbol_of l))) (sym told);
      fits = omega (arith, c.min-count.ensures);
      behind = ap (λ k. drop k (copied ++ rest)) (sym count) ∙ drop-append_seam copied rest;
      all = λ more. ap (map symbol_of) (none_later r fs c.as_slice.ensures some n few (omega (arith, more, c.min-count.ensures)));
    }
