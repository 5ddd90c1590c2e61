-- What the bytes of a job ask for: a line with one digit 0 to 8, a line with the seed text, then the lines of the book.
use Rattle.std.specs.Prelude.{ℕ, suc, Bool, false, not, ◌&&◌, ◌||◌, List, [], ◌∷◌, length, drop, nat_le, nat_lt, slice_index_or}
use Rattle.word.specs.Symbols.{among}
use Rattle.word.specs.Text.{split, worth}

-- a part alone, or nothing where it is empty
abbrev pub unless_empty : List ℕ → List (List ℕ)
unless_empty [] = []
unless_empty (b ∷ bs) = (b ∷ bs) ∷ []

-- the parts, without an empty one at the end
abbrev pub but_empty_end : List (List ℕ) → List (List ℕ)
but_empty_end [] = []
but_empty_end (p ∷ []) = unless_empty p
but_empty_end (p ∷ q ∷ ps) = p ∷ but_empty_end (q ∷ ps)

-- LF ends a line, and the last line may lack it
abbrev pub lines_of : List ℕ → List (List ℕ)
lines_of text = but_empty_end (split 10 text)

-- the line after so many others, or an empty one where there is none
abbrev pub line_after : ℕ → List ℕ → List ℕ
line_after n text = slice_index_or (lines_of text) n []

-- exactly one digit 0 to 8
abbrev pub is_digit_to_8 : List ℕ → Bool
is_digit_to_8 [] = false
is_digit_to_8 (d ∷ []) = nat_le 48 d && nat_le d 56
is_digit_to_8 (d ∷ e ∷ ds) = false

-- over 65,536 bytes, without LF, or with another first line
abbrev pub is_refused : List ℕ → Bool
is_refused job = nat_lt 65_536 (length job) || (not (among 10 job) || not (is_digit_to_8 (line_after 0 job)))

-- the first line as a number
abbrev pub generations_of : List ℕ → ℕ
generations_of job = worth (line_after 0 job)

-- the second line
abbrev pub seed_text : List ℕ → List ℕ
seed_text job = line_after 1 job

-- the lines that are not empty, each with its number, where the first line has the number n
abbrev pub numbered : ℕ → List (List ℕ) → List (ℕ × List ℕ)
numbered n [] = []
numbered n ([] ∷ ls) = numbered (suc n) ls
numbered n ((b ∷ bs) ∷ ls) = (n, b ∷ bs) ∷ numbered (suc n) ls

-- the lines from the third on
abbrev pub book_lines : List ℕ → List (ℕ × List ℕ)
book_lines job = numbered 3 (drop 2 (lines_of job))
