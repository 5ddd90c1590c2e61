-- The module that comes next.
use Rattle.std.proofs.Common.{◌≡◌, ◌∷◌, Some, None, Option, sym, ap}
use Rattle.word.specs.Symbols.{Symbol}
use Rattle.word.specs.Words.{Meaning}
use Rattle.plot.specs.Views.{Comes}
use Rattle.plot.specs.Positions.{seen}

-- is the first of what is to come
pub comes_first : (h : Option Symbol) (s : Meaning) (m : Symbol) (s' : Meaning) → Comes h s m s' → seen h s.told.modules ≡ m ∷ s'.told.modules
comes_first None s m s' c = c.0
comes_first (Some h) s m s' c = λ i. sym c.0 i ∷ (sym c.1 i).told.modules

-- leaves the ending and the generation number as they are
pub comes_ending : (h : Option Symbol) (s : Meaning) (m : Symbol) (s' : Meaning) → Comes h s m s' → s'.told.ending ≡ s.told.ending
comes_ending None s m s' c = c.1
comes_ending (Some h) s m s' c = ap (λ (x : Meaning). x.told.ending) c.1

pub comes_number : (h : Option Symbol) (s : Meaning) (m : Symbol) (s' : Meaning) → Comes h s m s' → s'.generation ≡ s.generation
comes_number None s m s' c = c.3
comes_number (Some h) s m s' c = ap (λ (x : Meaning). x.generation) c.1
