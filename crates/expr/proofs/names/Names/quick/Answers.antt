use Rattle.std.proofs.Common.{◌≡◌, ◌+◌, drop, length, sym, ap, ◌∙◌, w32, to_z, of_z, arith, rules}
use Rattle.std.proofs.lemmas.List.{length-take}
use Rattle.expr.specs.declared.code.Code.TheVariants.{Blank}
use Rattle.expr.specs.Records.{env_of, numbers}
use Rattle.expr.specs.Quick.{quick, on}
use Rattle.expr.proofs.Quick.{turned}
use Rattle.expr.proofs.names.Names.quick.Goals as goal

pub go-requires : goal.go-requires
go-requires c = omega (arith, c.loop-place.invariant.few, ap length c.loop-place.invariant.places, length-take 200 c.args.code.now)

pub loop-place-preserved : goal.loop-place-preserved
loop-place-preserved c =
    let g = env_of c.args.self.now in
    let cs = c.first_places-places.result.now in
    let n = c.loop-place.place-index in
    let same : to_z w32 (of_z w32 c.in-On.number) ≡ c.in-On.number = search rules in
    record {
      empty = c.loop-place.invariant.empty;
      few = omega (arith, c.in-On.ensures.few, c.loop-place.invariant.few);
      places = c.loop-place.invariant.places;
      left =
          ap (λ t. quick g (numbers t c.go.new.below c.in-On.count) (drop (n + 1) cs)) same
          ∙ sym (turned g _ cs n Blank (on (numbers c.in-On.number c.go.new.below c.in-On.count)) c.loop-place-test.true c.in-On.ensures.answer)
          ∙ c.loop-place.invariant.left;
    }

pub invariant_of-stack-2 : goal.invariant_of-stack-2
invariant_of-stack-2 c = record { wide = c.loop-place.stack.wide; short = omega (arith, c.loop-place.invariant.few, c.loop-place.auto.place-index-end, ap length c.loop-place.invariant.places, length-take 200 c.args.code.now) }
