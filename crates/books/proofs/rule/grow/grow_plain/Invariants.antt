use Rattle.std.proofs.Common.{◌≡◌, List, map, length, drop}
use Rattle.word.specs.Records.{symbol_of}
use Rattle.expr.specs.declared.code.Code.{Code}
use Rattle.expr.specs.Values.{Env}
use Rattle.rules.specs.Records.{pieces_from, places_in}
use Rattle.books.specs.Outcomes.{successor}
use Rattle.books.specs.Few.{modules_in}
use Rattle.books.specs.Trying.{behind}
use Rattle.books.proofs.rule.grow.grow_plain.Given as goal

abbrev pub invariant-loop-piece : goal.invariant-loop-piece
invariant-loop-piece l = record {
  many : length (modules_in l.grown) ≡ l.piece-index;
  none : places_in (drop l.piece-index l.pieces) ≡ 0;
  rest : (g : Env) (cs : List Code) → behind (map symbol_of (modules_in l.grown)) (successor g (pieces_from (drop l.piece-index l.pieces) cs)) ≡ successor g (pieces_from l.pieces cs);
}
