-- Piles of layers, and when two are alike.
use Rattle.std.specs.Prelude.{◌≡◌, ℕ, List, [], ◌∷◌}
use Rattle.word.specs.Words.{Meaning}
use Rattle.book.specs.Books.{Book, empty}
use Rattle.books.specs.Loading.{Offer, Run, taken, Reordered}
use Rattle.generation.specs.Generations.{generated}
use Rattle.pruner.specs.Pruned.{pruned_meaning}

-- a generation by a book that took these lines, or a pruner
pub data Layer : Type 0 where
  grows : List (List ℕ) → Book → Layer
  prunes : Layer

-- the book took just these lines, whatever was refused between them
pub record Took (lines : List (List ℕ)) (b : Book) : Type 0 where
  pub offers : List Offer
  pub run : Run empty offers b
  pub lines_are : taken offers ≡ lines

-- each book took its lines
abbrev pub Loaded : List Layer → Type 0
Loaded [] = Unit {0}
Loaded (grows lines b ∷ ls) = Took lines b × Loaded ls
Loaded (prunes ∷ ls) = Loaded ls

-- one layer over what a source means
abbrev pub layered : Layer → Meaning → Meaning
layered (grows lines b) m = generated b m
layered prunes m = pruned_meaning m

-- THE PILE: the layers one upon the other, lowest first
abbrev pub piled : Meaning → List Layer → Meaning
piled m [] = m
piled m (l ∷ ls) = piled (layered l m) ls

-- the same kinds of layers, each book with the same lines in any order
abbrev pub Alike : List Layer → List Layer → Type 0
Alike [] [] = Unit {0}
Alike [] (k ∷ ks) = ⊥
Alike (l ∷ ls) [] = ⊥
Alike (prunes ∷ ls) (prunes ∷ ks) = Alike ls ks
Alike (grows x b ∷ ls) (grows y c ∷ ks) = Reordered x y × Alike ls ks
Alike (prunes ∷ ls) (grows y c ∷ ks) = ⊥
Alike (grows x b ∷ ls) (prunes ∷ ks) = ⊥
