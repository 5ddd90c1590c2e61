use Rattle.std.proofs.Common.{arith}
use Rattle.tokens.specs.Readers.{unread}
use Rattle.rules.specs.Records.{code_in, pieces_in}
use Rattle.lines.specs.Parsing.{left, laid}
use Rattle.lines.proofs.Laying.{rule_read, rule_laid, rule_within}
use Rattle.lines.proofs.read.rule.Goals as goal

pub invariant_of-result : goal.invariant_of-result
invariant_of-result c =
    let n = c.in_ok-guard.ensures.size in
    record {
      whole = rule_laid c.in_ok-head.head c.in_ok-guard.guard (pieces_in c.in_ok-pieces.pieces) (unread c.args.reader.now) (unread c.head.new.reader) (left c.guarded.new.self) (code_in c.new.result) (laid c.guarded.new.self) (laid c.successor.new.self) c.in_ok-head.ensures c.in_ok-guard.ensures c.in_ok-pieces.ensures c.new.ensures;
      few = omega arith;
      within = rule_within c.in_ok-head.head c.in_ok-guard.guard (pieces_in c.in_ok-pieces.pieces) (unread c.args.reader.now) (unread c.head.new.reader) (left c.guarded.new.self) (code_in c.new.result) (laid c.guarded.new.self) (laid c.successor.new.self) c.in_ok-head.ensures c.in_ok-guard.ensures c.in_ok-pieces.ensures c.new.ensures;
    }

pub returns : goal.returns
returns c =
    rule_read c.in_ok-head.head c.in_ok-guard.guard (pieces_in c.in_ok-pieces.pieces) (unread c.args.reader.now) (unread c.head.new.reader) (left c.guarded.new.self) (code_in c.new.result) (laid c.guarded.new.self) (laid c.successor.new.self) c.in_ok-head.ensures c.in_ok-guard.ensures c.in_ok-pieces.ensures c.new.ensures
