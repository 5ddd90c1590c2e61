-- Words, numbers and lines of a text.
use Rattle.std.specs.Prelude.{◌≡◌, ℕ, List, [], ◌∷◌, ◌++◌, take, decimal}

-- a word behind a space
abbrev pub spaced : List ℕ → List ℕ
spaced word = 32 ∷ word

abbrev pub on_a_line : List ℕ → List ℕ
on_a_line text = text ++ (10 ∷ [])

-- a line of a name and a number
abbrev pub counted : List ℕ → ℕ → List ℕ
counted name n = on_a_line (name ++ spaced (decimal n))

-- a text grows by a part put behind it, as far as 160 bytes reach
pub record Grows (old part new : List ℕ) : Type 0 where
  pub text : new ≡ take 160 (old ++ part)
