use Rattle.std.proofs.Common.{◌≡◌, ◌≤◌, [], take, drop}
use Rattle.expr.specs.Records.{env_of, numbers}
use Rattle.expr.specs.Quick.{quick}
use Rattle.expr.proofs.names.Names.quick.Given as goal

abbrev pub invariant-loop-place : goal.invariant-loop-place
invariant-loop-place l = record {
  empty : l.stack.len ≡ 0;
  few : l.len ≤ l.place-index;
  places : l.places ≡ take 200 l.code;
  left : quick (env_of l.self) (numbers l.last l.stack.below l.len) (drop l.place-index l.places) ≡ quick (env_of l.self) [] l.places;
}
