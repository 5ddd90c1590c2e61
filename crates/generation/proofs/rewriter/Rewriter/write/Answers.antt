use Rattle.std.proofs.Common.{◌≡◌, sym, subst, rules}
use Rattle.generation.specs.declared.rewriter.Rewriter.{Rewriter}
use Rattle.generation.specs.Writing.{Advances}
use Rattle.generation.proofs.Wrote.{Wrote, wrote_on, wrote_copy}
use Rattle.generation.proofs.rewriter.Rewriter.write.Goals as goal

pub loop-count-preserved : goal.loop-count-preserved
loop-count-preserved c =
    let l = c.loop-count in
    let b = c.args.book.now in
    let r = c.args.self.now in
    let same : c.copied.new.self ≡ l.self = c.in_default.ensures in
    wrote_on b r c.args.places.now c.args.beyond l.count l.places c.copied.new.self c.advance.new.self c.tell-count-in-Taken.new.self c.tell-count-in-Taken.result c.tell-count-in-Taken.new.places
    (subst (λ (z : Rewriter). Wrote b r c.args.places.now c.args.beyond l.count l.places z) (sym same) l.invariant)
    (subst (λ s. Advances b c.copied.new.self c.args.beyond s c.advance.new.self) c.in-Taken.is c.advance.ensures) c.tell-count-in-Taken.ensures (search rules)

pub loop-count-preserved-in-Some : goal.loop-count-preserved-in-Some
loop-count-preserved-in-Some c =
    let l = c.loop-count in
    wrote_copy c.args.book.now c.args.self.now c.args.places.now c.args.beyond l.count l.places l.self c.copied.new.self c.in-Some.module l.invariant c.in-Some.ensures c.loop-count-test.true
