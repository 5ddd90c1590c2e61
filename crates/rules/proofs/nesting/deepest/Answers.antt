use Rattle.std.proofs.Common.{◌+◌, max, ◌∷◌, map, drop, ap, ◌∙◌, arith}
use Rattle.rules.specs.declared.piece.Piece.{Piece as StoredPiece}
use Rattle.rules.specs.Records.{bare}
use Rattle.rules.specs.Wrong.{after, deepest}
use Rattle.rules.proofs.Depths.{after_few, deep_enough}
use Rattle.rules.proofs.Searching.{opened}
use Rattle.rules.proofs.nesting.deepest.Goals as goal

pub loop-p-preserved : goal.loop-p-preserved
loop-p-preserved c =
    let ps = c.args.pieces.now in
    let i = c.loop-p.p-index in
    let p = c.p-item.result in
    let d = c.loop-p.depth in
    let most = c.loop-p.most in
    let rest = map bare (drop (i + 1) ps) in
    let inv =
    ap (λ (q : StoredPiece). max most (deepest d (map bare (q ∷ drop (i + 1) ps)))) c.p-item.is
    ∙ opened (λ l. max most (deepest d (map bare l))) ps i c.loop-p.invariant.0 p c.loop-p-test.true in
    let enough = deep_enough (after d (bare p)) rest in
    let same = ap (λ k. deepest k rest) c.after-depth.ensures in
    (omega (arith, inv, enough, same), omega arith, omega (arith, after_few d (bare p)))
