-- Which letters a book has rules for.
use Rattle.std.specs.Prelude.{ℕ, Bool, List, ◌==◌}
use Rattle.std.specs.List.{list_any}
use Rattle.book.specs.Rules.{Rule}

-- one of the rules is for the letter c
abbrev pub has_rule : ℕ → List Rule → Bool
has_rule c us = list_any (λ u. u.predecessor.letter == c) us
