use Rattle.std.proofs.Common.{◌∙◌, arith}
use Rattle.rules.specs.Records.{pieces_in}
use Rattle.lines.specs.Parsing.{left, laid}
use Rattle.lines.proofs.Room.{one_pushed}
use Rattle.lines.proofs.Growing.{room_piece, room_pieces, one_piece}
use Rattle.lines.proofs.parser.Parser.successor.Goals as goal

pub loop-self-preserved : goal.loop-self-preserved
loop-self-preserved c =
    let ps = pieces_in c.loop-self.pieces in
    let t = c.in_ok-piece.ensures in
    let r = room_piece _ _ _ _ _ t in
    let k = room_pieces (left c.args.self.now) (left c.loop-self.self) (laid c.args.self.now) (laid c.loop-self.self) ps c.loop-self.invariant in
    one_piece (left c.args.self.now) (left c.loop-self.self) (left c.piece.new.self) (laid c.args.self.now) (laid c.loop-self.self) (laid c.piece.new.self) ps (pieces_in c.push.new.self) c.in_ok-piece.piece c.loop-self.invariant t (c.push.ensures ∙ one_pushed _ ps (omega arith))
