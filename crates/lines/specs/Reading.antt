-- What reading a line comes to.
use Rattle.std.specs.Prelude.{◌≡◌, ℕ, zero, suc, ◌<◌, ◌≤◌, List, length, Ok, Err, Result, ◌≢◌}
use Rattle.tokens.specs.Tokens.{tokens}
use Rattle.rules.specs.declared.refusal.Refusal.{Refusal}
use Rattle.rules.specs.Refusals.{refusal_number}
use Rattle.book.specs.Books.{Entry}
use Rattle.lines.specs.declared.line.Line.{Line}
use Rattle.book.specs.Grammar.{LineTree, spells_line}
use Rattle.book.specs.Meanings.{line_sense}
use Rattle.lines.specs.Records.{entry_of}

-- these bytes say e: a tree spells just their tokens, and means e
pub record Says (bytes : List ℕ) (e : Entry) : Type 0 where
  pub tree : LineTree
  pub spelt : spells_line tree ≡ tokens bytes
  pub meant : line_sense tree ≡ e

-- these bytes are not by the grammar: no tree spells their tokens
abbrev pub Unspelt : List ℕ → Type 0
Unspelt bytes = (t : LineTree) → spells_line t ≢ tokens bytes

-- why bytes cannot be read: 1 is over 200 bytes, 2 is not by the grammar, and there is no other reason
abbrev pub Unread : List ℕ → ℕ → Type 0
Unread bytes zero = ⊥
Unread bytes (suc zero) = 200 < length bytes
Unread bytes (suc (suc zero)) = (length bytes ≤ 200) × Unspelt bytes
Unread bytes (suc (suc (suc n))) = ⊥

abbrev pub Reads : List ℕ → Result Line Refusal → Type 0
Reads bytes (Ok l) = (length bytes ≤ 200) × Says bytes (entry_of l)
Reads bytes (Err e) = Unread bytes (refusal_number e)
