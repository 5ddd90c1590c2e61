use Rattle.std.proofs.Common.{◌≡◌, ◌≤◌, [], map, length, drop}
use Rattle.word.specs.Records.{symbol_of}
use Rattle.expr.specs.Records.{env_of, on_stack}
use Rattle.rules.specs.Records.{pieces_from, places_in}
use Rattle.books.specs.Outcomes.{successor}
use Rattle.books.specs.Few.{modules_in}
use Rattle.books.specs.Trying.{behind}
use Rattle.books.proofs.rule.grow.grow_pieces.Given as goal

abbrev pub invariant-loop-piece : goal.invariant-loop-piece
invariant-loop-piece l =
    (length (modules_in l.grown) ≡ l.piece-index)
    × (on_stack l.stack ≡ [])
    × (places_in (drop l.piece-index l.pieces) ≤ length l.rest)
    × (behind (map symbol_of (modules_in l.grown)) (successor (env_of l.names) (pieces_from (drop l.piece-index l.pieces) l.rest)) ≡ successor (env_of l.names) (pieces_from l.pieces l.code))
