-- A draft as a rule of a book. Internal.
use Rattle.std.specs.Prelude.{◌≡◌, ℕ, length}
use Rattle.rows.specs.Rows.{held}
use Rattle.rules.specs.declared.draft.Draft.{Draft}
use Rattle.rules.specs.Records.{code_in, pieces_in}
use Rattle.books.specs.declared.rule.Rule.{Rule}

pub record Made (d : Draft) (start : ℕ) (r : Rule) : Type 0 where
  pub head : r.head ≡ d.head
  pub place : r.start ≡ start
  pub size : r.size ≡ length (code_in d.codes)
  pub guard : r.guard ≡ d.guard
  pub pieces : held r.pieces ≡ pieces_in d.pieces
