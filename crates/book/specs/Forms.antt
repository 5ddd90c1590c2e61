-- What a form is made of.
use Rattle.std.specs.Prelude.{ℕ, Bool, ◌&&◌, List, length, nat_le}
use Rattle.std.specs.List.{list_all}
use Rattle.word.specs.Symbols.{is_letter}
use Rattle.expr.specs.Records.{is_name}
use Rattle.book.specs.Rules.{Form}

-- a letter has at most 3 names, each one of a–z
abbrev pub sound : ℕ → List ℕ → Bool
sound letter names = is_letter letter && (nat_le (length names) 3 && list_all is_name names)

abbrev pub form_with : ℕ → List ℕ → Form
form_with letter names = record { letter = letter; names = names }
