use Rattle.std.proofs.Common.{◌≡◌, List, map, take, sym, ap, ◌∙◌, subst, arith}
use Rattle.std.proofs.lemmas.List.{take_all}
use Rattle.word.specs.declared.module.Module.{Module}
use Rattle.word.specs.Records.{symbol_of, Leads}
use Rattle.word.specs.Spans.{spans}
use Rattle.word.proofs.Spanning.{no_span}
use Rattle.word.proofs.Leading.{one_on, none_on}
use Rattle.word.proofs.depth.Depth.after_all.Goals as goal

pub loop-module-init : goal.loop-module-init
loop-module-init c = no_span c.args.self.brackets c.args.self.shallow

pub returns-in_err-depth : goal.returns-in_err-depth
returns-in_err-depth c =
    let ms = c.args.modules.now in
    let x = c.module-item.result in
    let l = c.loop-module in
    subst (Leads c.args.self.brackets (map symbol_of ms)) (sym c.from_residual.ensures)
    (none_on c.args.self.brackets ms l.module-index x c.loop-module-test.true c.module-item.is l.depth.brackets l.invariant (c.in_err-depth.ensures))

pub loop-module-preserved : goal.loop-module-preserved
loop-module-preserved c =
    let ms = c.args.modules.now in
    let x = c.module-item.result in
    let l = c.loop-module in
    let next = c.in_ok-depth.ensures in
    one_on c.args.self.brackets ms l.module-index x c.loop-module-test.true c.module-item.is l.depth.brackets l.invariant c.in_ok-depth.depth.brackets next.0 next.1

pub returns : goal.returns
returns c =
    let l = c.loop-module in
    let ms = c.args.modules.now in
    let all : take l.module-index ms ≡ ms = take_all l.module-index ms (omega arith) in
    ap (λ (v : List Module). spans c.args.self.brackets (map symbol_of v) l.depth.brackets) (sym all) ∙ l.invariant
