-- The order of rules by their heads. Internal.
use Rattle.std.specs.Prelude.{ℕ, Bool, ◌&&◌, ◌||◌, List, ◌==◌, nat_lt}
use Rattle.std.specs.List.{list_any, position_or_len}
use Rattle.std.specs.Option.{option_map}
use Rattle.rules.specs.declared.head.Head.{Head}
use Rattle.book.specs.Records.{form_of}
use Rattle.books.specs.declared.rule.Rule.{Rule}
use Rattle.book.specs.Books.{rank}

abbrev pub head_rank : Head → ℕ
head_rank h = rank (option_map form_of h.before) (option_map form_of h.behind)

abbrev pub head_precedes : Head → Head → Bool
head_precedes h k = nat_lt (head_rank h) (head_rank k) || (head_rank h == head_rank k && nat_lt h.printed k.printed)

-- where a rule of this head belongs
abbrev pub spot : Head → List Rule → ℕ
spot h rs = position_or_len (λ r. head_precedes h r.head) rs

-- whether one of some rules has a printed number
abbrev pub numbered : ℕ → List Rule → Bool
numbered n rs = list_any (λ r. n == r.head.printed) rs
