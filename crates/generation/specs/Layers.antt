-- Internal. Layers one upon the other, the topmost first, all by one book.
use Rattle.std.specs.Prelude.{List, [], ◌∷◌, ⊤}
use Rattle.std.specs.Coded.{×_prop, Unit-prop, Coded-set, coded_ℕ}
use Rattle.word.specs.Words.{Meaning, Lawful}
use Rattle.books.specs.declared.closed_book.ClosedBook.{ClosedBook}
use Rattle.books.specs.Kinds.{closed_book}
use Rattle.generation.specs.declared.rewriter.Rewriter.{Rewriter}
use Rattle.generation.specs.Goes.{GoesOnBy}
use Rattle.generation.specs.Rewriting.{left_in}
use Rattle.generation.specs.Writing.{Meets}
use Rattle.generation.specs.Lawful.{lawful_in}

-- what the topmost has still to tell over a source that means m
abbrev pub stacked : ClosedBook → List Rewriter → Meaning → Meaning
stacked b [] m = m
stacked b (r ∷ rs) m = left_in b r (stacked b rs m)

-- each layer meets what is below it
abbrev pub Chained : ClosedBook → List Rewriter → Meaning → Type 0
Chained b [] m = ⊤
Chained b (r ∷ rs) m = Meets r (stacked b rs m) × Chained b rs m

meets_prop : (r : Rewriter) (m : Meaning) → IsProp (Meets r m)
meets_prop r m p q = λ i. record {
  joined = Coded-set coded_ℕ r.window.last.brackets m.opened p.joined q.joined i;
  numbered = Coded-set coded_ℕ r.generation m.generation p.numbered q.numbered i;
}

pub chained_prop : (b : ClosedBook) (rs : List Rewriter) (m : Meaning) → IsProp (Chained b rs m)
chained_prop b [] m = Unit-prop
chained_prop b (r ∷ rs) m = ×_prop (meets_prop r (stacked b rs m)) (chained_prop b rs m)

pub lawful_stacked : (b : ClosedBook) → GoesOnBy (closed_book b) → (rs : List Rewriter) (m : Meaning) → Chained b rs m → Lawful m → Lawful (stacked b rs m)
lawful_stacked b goes [] m c l = l
lawful_stacked b goes (r ∷ rs) m c l = lawful_in b goes r (stacked b rs m) c.0.joined (lawful_stacked b goes rs m c.1 l)
