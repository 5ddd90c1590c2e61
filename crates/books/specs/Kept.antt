-- What the records of a book keep. Internal.
use Rattle.std.specs.Prelude.{ℕ, ◌+◌, Bool, true, ◌&&◌, List, [], ◌∷◌, nat_le}
use Rattle.book.specs.Rules.{Rule}
use Rattle.books.specs.declared.rule.Rule.{Rule as StoredRule}
use Rattle.book.specs.Books.{precedes}

-- the code of each rule lies within the first n places
abbrev pub within : ℕ → List StoredRule → Bool
within n [] = true
within n (r ∷ rs) = nat_le (r.start + r.size) n && within n rs

-- each rule goes before all behind it
abbrev pub leads : Rule → List Rule → Bool
leads u [] = true
leads u (v ∷ vs) = precedes u v && leads u vs

abbrev pub ascending : List Rule → Bool
ascending [] = true
ascending (v ∷ vs) = leads v vs && ascending vs
