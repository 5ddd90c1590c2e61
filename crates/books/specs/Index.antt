-- The rules of a book by letter. Internal.
use Rattle.std.specs.Prelude.{◌≡◌, ℕ, ◌+◌, ◌*◌, ◌<◌, Bool, false, ◌&&◌, List, map, length, drop, is_some, slice_index, slice_index_or, ◌==◌}
use Rattle.std.specs.List.{filter, list_any, position_or_len}
use Rattle.std.specs.Option.{option_map}
use Rattle.rows.specs.Rows.{held}
use Rattle.book.specs.Records.{form_of}
use Rattle.books.specs.declared.rule.Rule.{Rule}
use Rattle.books.specs.declared.letter_index.LetterIndex.{LetterIndex}

-- the letter that a rule is for
abbrev pub letter_of : Rule → ℕ
letter_of r = r.head.predecessor.letter

-- the rules for the letter c
abbrev pub with_letter : ℕ → List Rule → List Rule
with_letter c rs = filter (λ r. letter_of r == c) rs

abbrev pub letters : List Rule → List ℕ
letters rs = map letter_of rs

-- the least position from i on at which the letter c stands, or past the end
abbrev pub next_with : ℕ → ℕ → List ℕ → ℕ
next_with c i cs = i + position_or_len (λ d. d == c) (drop i cs)

-- an index leads to where each letter stands first
abbrev pub Firsts : List ℕ → LetterIndex → Type 0
Firsts cs x = (c : ℕ) → c < 256 → slice_index x.first c ≡ next_with c 0 cs

-- and from each position to where its letter stands next
abbrev pub Nexts : List ℕ → LetterIndex → Type 0
Nexts cs x = (i : ℕ) → i < length cs → slice_index x.next i ≡ next_with (slice_index cs i) (i + 1) cs

-- whether a rule is for the letter c and n parameters, and names a neighbour on the right
abbrev pub looks_for : ℕ → ℕ → Rule → Bool
looks_for c n r = (letter_of r == c && length (held r.head.predecessor.names) == n) && is_some (option_map form_of r.head.behind)

-- a table with four places for each letter tells of each letter and number of parameters whether there is such a rule
abbrev pub Tells : List Rule → List Bool → Type 0
Tells rs t = (c n : ℕ) → c < 256 → n < 4 → slice_index_or t (c * 4 + n) false ≡ list_any (looks_for c n) rs

abbrev pub Aheads : List Rule → LetterIndex → Type 0
Aheads rs x = Tells rs x.ahead
