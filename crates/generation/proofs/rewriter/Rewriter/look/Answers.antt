use Rattle.std.proofs.Common.{◌-◌, ◌<◌, ◌≤◌, length, inl, inr, ap, ◌∙◌, subst, arith}
use Rattle.word.specs.Records.{symbol_of}
use Rattle.books.specs.Kinds.{closed_book}
use Rattle.generation.specs.Stream.{scan}
use Rattle.generation.specs.Windows.{Fits, Sure}
use Rattle.generation.specs.Looking.{Sifts}
use Rattle.generation.proofs.Looks.{behind_of, flowed, few_behind, looked_at, looked_on, looked_far, looked_out}
use Rattle.generation.proofs.rewriter.Rewriter.look.Goals as goal

pub returns-in-Closed : goal.returns-in-Closed
returns-in-Closed c =
    let r = c.args.self.now in
    let fs = c.as_slice-held.result.now in
    let l = c.loop-module in
    let ign = (closed_book c.args.book.now).ignored in
    let low : l.module-index < 64 = omega (arith, few_behind r.window fs c.as_slice-held.ensures) in
    let said = subst (Sifts ign l.depth (symbol_of c.module-item.result)) c.in-Closed.is c.sift.ensures in
    (tt, λ m fits. inl (ap (scan ign 64 0) (flowed r.window fs c.as_slice-held.ensures c.requires.some m) ∙ looked_at ign (behind_of fs) l.module-index l.depth l.invariant.1 c.module-item.result c.loop-module-test.true c.module-item.is low m.told.modules ∙ said (63 - l.module-index) _))

pub returns-in-Neighbour : goal.returns-in-Neighbour
returns-in-Neighbour c =
    let r = c.args.self.now in
    let fs = c.as_slice-held.result.now in
    let l = c.loop-module in
    let ign = (closed_book c.args.book.now).ignored in
    let low : l.module-index < 64 = omega (arith, few_behind r.window fs c.as_slice-held.ensures) in
    let said = subst (Sifts ign l.depth (symbol_of c.module-item.result)) c.in-Neighbour.is c.sift.ensures in
    (tt, λ m fits. ap (scan ign 64 0) (flowed r.window fs c.as_slice-held.ensures c.requires.some m) ∙ looked_at ign (behind_of fs) l.module-index l.depth l.invariant.1 c.module-item.result c.loop-module-test.true c.module-item.is low m.told.modules ∙ said (63 - l.module-index) _)

pub loop-module-preserved : goal.loop-module-preserved
loop-module-preserved c =
    let r = c.args.self.now in
    let fs = c.as_slice-held.result.now in
    let l = c.loop-module in
    let ign = (closed_book c.args.book.now).ignored in
    let low : l.module-index < 64 = omega (arith, few_behind r.window fs c.as_slice-held.ensures) in
    let said = subst (Sifts ign l.depth (symbol_of c.module-item.result)) c.in-On.is c.sift.ensures in
    (omega (arith, said.0, l.invariant.0), looked_on ign (behind_of fs) l.module-index l.depth l.invariant.1 c.module-item.result c.loop-module-test.true c.module-item.is low c.in-On.next said.1)

pub returns-then-held-gt64 : goal.returns-then-held-gt64
returns-then-held-gt64 c =
    let r = c.args.self.now in
    let fs = c.as_slice-held.result.now in
    let l = c.loop-module in
    let ign = (closed_book c.args.book.now).ignored in
    let over : length (behind_of fs) ≤ l.module-index = omega arith in
    let far : 64 ≤ l.module-index = omega (arith, few_behind r.window fs c.as_slice-held.ensures) in
    (c.found.ensures.bounds, λ m fits. inl (ap (scan ign 64 0) (flowed r.window fs c.as_slice-held.ensures c.requires.some m) ∙ looked_far ign (behind_of fs) l.module-index l.depth l.invariant.1 over far m.told.modules, c.found.ensures.is))

pub returns-in-End : goal.returns-in-End
returns-in-End c =
    let r = c.args.self.now in
    let fs = c.as_slice-held.result.now in
    let l = c.loop-module in
    let ign = (closed_book c.args.book.now).ignored in
    let over : length (behind_of fs) ≤ l.module-index = omega arith in
    let low : l.module-index < 64 = omega (arith, few_behind r.window fs c.as_slice-held.ensures) in
    (tt, λ m fits. let ends = subst (λ x. Fits x m) c.in-End.is fits in inr (ap (scan ign 64 0) (flowed r.window fs c.as_slice-held.ensures c.requires.some m) ∙ looked_out ign (behind_of fs) l.module-index l.depth l.invariant.1 over low m.told.modules ends.0, ends.1))

pub returns-in-Broken : goal.returns-in-Broken
returns-in-Broken c =
    let r = c.args.self.now in
    let fs = c.as_slice-held.result.now in
    let l = c.loop-module in
    let ign = (closed_book c.args.book.now).ignored in
    let over : length (behind_of fs) ≤ l.module-index = omega arith in
    let low : l.module-index < 64 = omega (arith, few_behind r.window fs c.as_slice-held.ensures) in
    (subst Sure c.in-Broken.is c.requires.sure, λ m fits. let ends = subst (λ x. Fits x m) c.in-Broken.is fits in inr (ap (scan ign 64 0) (flowed r.window fs c.as_slice-held.ensures c.requires.some m) ∙ looked_out ign (behind_of fs) l.module-index l.depth l.invariant.1 over low m.told.modules ends.0, ends.1))
