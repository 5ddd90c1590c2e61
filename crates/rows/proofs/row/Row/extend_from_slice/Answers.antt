use Rattle.rows.proofs.Fills.{fills}
use Rattle.rows.proofs.row.Row.extend_from_slice.Goals as goal

pub returns : goal.returns
returns g c = let s = c.args.self.now in fills s.places c.args.values.now _ g.row.N s.len _ s.wide s.short c.min-fitting.ensures c.copy_from_slice.ensures.after
