-- The tests of vectors, facings and turns tell what they say.
use Rattle.std.proofs.Common.{◌≡◌, ℕ, Bool, true, ap₂, arith}
use Rattle.std.proofs.lemmas.Int.{ints}
use Rattle.std.proofs.lemmas.Bool.{and_parts}
use Rattle.std.proofs.lemmas.Bool.Decides.{nat_tests}
use Rattle.turtle.specs.Vectors.{Vector, same}
use Rattle.turtle.specs.Turns.{Facing, facing, faces, faces_so}
use Rattle.turtle.specs.Table.{every_turn}
use Rattle.turtle.specs.declared.turn.Turn.{Turn}

same_true : (v w : Vector) → same v w ≡ true → v ≡ w
same_true v w h = grind (arith, ints, nat_tests)

pub faces_so_true : (f : Facing) (n : ℕ) → faces_so f n ≡ true → faces n ≡ f
faces_so_true f n h =
    let p = and_parts (same (faces n).ahead f.ahead) _ h in
    ap₂ facing (same_true (faces n).ahead f.ahead p.0) (same_true (faces n).left f.left p.1)

pub at_turn : (p : Turn → Bool) → every_turn p ≡ true → (t : Turn) → p t ≡ true
at_turn p h t = grind arith
