use Rattle.std.proofs.Common.{◌≡◌, slice_set, w32, to_z, of_z, ap, ◌∙◌, to_z-of_z, arith, rules}
use Rattle.expr.specs.Records.{env_of, value_of, numbers}
use Rattle.expr.specs.Quick.{found, quick_step, reached}
use Rattle.expr.proofs.Numbers.{put_on}
use Rattle.expr.proofs.names.Names.go.Goals as goal

pub returns-in-Number-clause-answer : goal.returns-in-Number-clause-answer
returns-in-Number-clause-answer c =
    let xs = numbers c.args.last c.args.below.now c.args.len in
    let e : found (value_of c.ranged.result) xs ≡ quick_step (env_of c.args.self.now) xs c.args.place = search rules in
    ap (λ p. reached p (slice_set c.args.below.now c.args.len (to_z w32 (of_z w32 c.args.last)))) c.counted.ensures
    ∙ put_on c.ranged.result c.args.last (to_z w32 (of_z w32 c.args.last)) c.args.below.now c.args.len (to_z-of_z c.ranges.last) (omega arith)
    ∙ e

pub returns-in-Name-clause-answer : goal.returns-in-Name-clause-answer
returns-in-Name-clause-answer c =
    let xs = numbers c.args.last c.args.below.now c.args.len in
    let e : found (value_of c.ranged-in-Name.result) xs ≡ quick_step (env_of c.args.self.now) xs c.args.place = search rules in
    ap (λ p. reached p (slice_set c.args.below.now c.args.len (to_z w32 (of_z w32 c.args.last)))) c.counted-in-Name.ensures
    ∙ put_on c.ranged-in-Name.result c.args.last (to_z w32 (of_z w32 c.args.last)) c.args.below.now c.args.len (to_z-of_z c.ranges.last) (omega arith)
    ∙ e
