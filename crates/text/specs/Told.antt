-- What is printed of a word: its modules, and how it ends.
use Rattle.std.specs.Prelude.{ℕ, List, ◌∷◌, [], ◌++◌, codes, decimal}
use Rattle.word.specs.Words.{Ending, clean, broken, Told}
use Rattle.word.specs.Text.{spelled}

abbrev pub on_a_line : List ℕ → List ℕ
on_a_line text = text ++ (10 ∷ [])

abbrev pub ending_text : Ending → List ℕ
ending_text clean = codes "end clean"
ending_text (broken f) = codes "end fault " ++ (decimal f.cause ++ (32 ∷ (decimal f.generation ++ (32 ∷ decimal f.place))))

-- the modules in their written form, and how they end
abbrev pub told_text : Told → List ℕ
told_text t = on_a_line (spelled t.modules) ++ on_a_line (ending_text t.ending)
