use Rattle.expr.specs.Records.{env_of}
use Rattle.books.proofs.Growing.{few, all_worked}
use Rattle.books.proofs.rule.grow.worked.Goals as goal

pub returns : goal.returns
returns c =
    let p = c.args.piece.now in
    record {
      values = all_worked (env_of c.args.names.now) p.count c.args.code.now c.arguments.result (few p.letter p.count p.ok) c.requires.few c.arguments.ensures.values;
      spare = c.arguments.ensures.spare;
      emptied = c.arguments.ensures.emptied;
    }
