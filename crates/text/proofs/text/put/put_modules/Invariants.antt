use Rattle.std.proofs.Common.{◌+◌, ◌*◌, ◌≤◌, map, take}
use Rattle.word.specs.Records.{symbol_of}
use Rattle.word.specs.Text.{spelled}
use Rattle.text.specs.Texts.{Puts}
use Rattle.text.proofs.text.put.put_modules.Given as goal

-- the modules so far are put
abbrev pub invariant-loop-symbol : goal.invariant-loop-symbol
invariant-loop-symbol l =
    Puts l.at (spelled (map symbol_of (take l.symbol-index l.modules))) l.initial.bytes l.end l.bytes × (l.end ≤ l.at + 29 * l.symbol-index)
