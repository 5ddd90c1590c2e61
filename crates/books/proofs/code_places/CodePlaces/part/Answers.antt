use Rattle.books.proofs.Rows.{part_of}
use Rattle.books.proofs.code_places.CodePlaces.part.Goals as goal

pub returns : goal.returns
returns c = let s = c.args.self.now in part_of s.row s.used c.args.start c.args.size s.wide s.short c.requires
