use Rattle.std.proofs.Common.{[]}
use Rattle.expr.specs.Codes.{decoded, latest}
use Rattle.expr.specs.Records.{env_of}
use Rattle.books.proofs.Growing.{worked_record}
use Rattle.books.proofs.rule.grow.grow_piece.Goals as goal

pub invariant_of-result : goal.invariant_of-result
invariant_of-result c =
    let p = c.args.piece.now in
    let t = c.in_ok-a in
    record {
      ok = worked_record p.letter p.count t.a t.b t.c p.ok (env_of c.args.names.now) (latest p.count (decoded [] c.args.code.now)) t.ensures.values t.ensures.spare;
    }
