use Rattle.std.proofs.Common.{◌≡◌, ◌≤◌, ◌+◌, take}
use Rattle.pruner.specs.Streaming.{Sifts}
use Rattle.pruner.proofs.Sifting.{behind}
use Rattle.pruner.proofs.state.State.sift_each.Given as goal

-- the modules so far are sifted, and so many brackets are open behind them
abbrev pub invariant-loop-module : goal.invariant-loop-module
invariant-loop-module l = record {
  sifted : Sifts l.initial.state l.fn.before.brackets (take l.module-index l.modules) l.initial.places l.kept l.places l.state;
  depth : l.before ≡ behind l.fn.before.brackets l.module-index l.modules;
  low : l.before ≤ l.fn.before.brackets + l.module-index;
}
