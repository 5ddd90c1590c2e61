use Rattle.std.proofs.lemmas.Str.{IsUtf8-from_ascii}
use Rattle.text.proofs.Printing.{is_ok_where}
use Rattle.text.proofs.text.Text.flush.Goals as goal

pub unwrap-text-requires : goal.unwrap-text-requires
unwrap-text-requires g c = is_ok_where c.from_utf8.result _ _ _ c.from_utf8.ensures.cases (IsUtf8-from_ascii _ c.args.self.now.ascii)
