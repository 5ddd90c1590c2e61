use Rattle.std.proofs.Common.{rules, ◌≡◌, length, Ok, Err, Some, None, subst, arith}
use Rattle.word.specs.Records.{Draws, Drew}
use Rattle.word.proofs.Drawn.{drawing_none, drawing_more, drew_to_end, drew_to_fault, none_drew, drew_all}
use Rattle.word.proofs.source.Source.draw_some.Goals as goal

pub loop-count-init : goal.loop-count-init
loop-count-init g c = drawing_none _ c.args.places.now

pub returns-in-Ok-None : goal.returns-in-Ok-None
returns-in-Ok-None g c =
    let drawn : Draws (g.Self.Source.means c.loop-count.self) (Ok None) (g.Self.Source.means c.draw.new.self) = search rules in
    drew_to_end _ _ _ _ _ _ c.loop-count.invariant (omega arith) drawn

pub returns-then-count-eq0 : goal.returns-then-count-eq0
returns-then-count-eq0 g c =
    let drawn : Draws (g.Self.Source.means c.loop-count.self) (Err c.in-Err.fault) (g.Self.Source.means c.draw.new.self) = search rules in
    none_drew _ _ _ _ _ _ c.loop-count.invariant c.in-Err.fault (omega arith) c.if-count-eq0.true drawn

pub returns-else-count-eq0 : goal.returns-else-count-eq0
returns-else-count-eq0 g c =
    let drawn : Draws (g.Self.Source.means c.loop-count.self) (Err c.in-Err.fault) (g.Self.Source.means c.draw.new.self) = search rules in
    drew_to_fault _ _ _ _ _ _ c.loop-count.invariant c.in-Err.fault (omega arith) c.if-count-eq0.false drawn

pub loop-count-preserved : goal.loop-count-preserved
loop-count-preserved g c =
    let drawn : Draws (g.Self.Source.means c.loop-count.self) (Ok (Some c.in-Ok-Some.module)) (g.Self.Source.means c.draw.new.self) = search rules in
    drawing_more _ _ _ _ _ _ c.loop-count.invariant c.in-Ok-Some.module (omega arith) drawn

pub returns : goal.returns
returns g c =
    let drawn = drew_all _ _ (g.Self.Source.means c.loop-count.self) _ _ _ c.loop-count.invariant (omega arith) in
    let all : c.loop-count.count ≡ length c.loop-count.places = omega arith in
    subst (λ n. Drew (g.Self.Source.means c.args.self.now) c.args.places.now n c.loop-count.places (g.Self.Source.means c.loop-count.self)) all drawn
