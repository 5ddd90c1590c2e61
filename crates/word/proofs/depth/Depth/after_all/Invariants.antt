use Rattle.std.proofs.Common.{◌≡◌, true, map, take}
use Rattle.word.specs.Records.{symbol_of}
use Rattle.word.specs.Spans.{spans}
use Rattle.word.proofs.depth.Depth.after_all.Given as goal

-- the modules so far lead to the depth
abbrev pub invariant-loop-module : goal.invariant-loop-module
invariant-loop-module l = spans l.fn.self.brackets (map symbol_of (take l.module-index l.modules)) l.depth.brackets ≡ true
