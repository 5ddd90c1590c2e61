-- One generation of a bracketed parametric 2L-system. The outcome of a module is found in this order:
-- 1. A bracket stays as it is, and 6 follows.
-- 2. A module that looks ahead needs its right neighbour settled, by one of the next 64 modules or by a clean end. If at least 64
--    follow and none settles it, that is fault 30. If fewer follow, none settles it and the word below ends in a fault, that
--    fault is passed up as it is.
-- 3. The rules of the book are tried between the neighbours. Where none wins the module stays as it is, and 6 follows. Where the
--    guard faults, that is the fault.
-- 4. The arguments of the successor are worked out; the first that faults is the fault.
-- 5. Where the successor's brackets are open more than 32 deep, those around it counted, that is fault 33.
-- 6. Where the result would pass 16,000,000 modules, that is fault 34.
-- The told word joins the outcomes, up to the first that faults; that fault ends it. Without one it ends as the word below does.
-- A fault names the number of the generation that finds it, and the position, from 1.
use Rattle.std.specs.Prelude.{ℕ, suc, ◌+◌, min, Bool, cond, List, [], ◌∷◌, ◌++◌, length, is_some, Some, None, Option, nat_le, nat_lt}
use Rattle.std.specs.List.{slice_get}
use Rattle.word.specs.declared.fault.Fault.{Fault}
use Rattle.word.specs.Symbols.{Symbol, is_bracket}
use Rattle.word.specs.Words.{Ending, clean, broken, Told, Meaning, depth}
use Rattle.book.specs.Books.{Book}
use Rattle.books.specs.Ahead.{looks_ahead}
use Rattle.books.specs.Outcomes.{Outcome, itself, grown, fault, becomes}
use Rattle.books.specs.Nesting.{deepest}
use Rattle.generation.specs.Neighbours.{least, left, right, settles}

-- the number of the generation above generation g; it stays at 255
abbrev pub next : ℕ → ℕ
next g = min 255 (suc g)

-- a fault that the generation above g finds at position i
abbrev pub found : ℕ → ℕ → ℕ → Fault
found g i cause = record { cause = cause; generation = next g; place = suc i }

-- the outcome of one module: it adds modules to the result, or the result ends there in a fault
pub data Part : Type 0 where
  adds : List Symbol → Part
  stops : Fault → Part

-- modules are added to the n that the result has, up to 16,000,000 in all
abbrev pub added : ℕ → ℕ → ℕ → List Symbol → Part
added g n i w = cond (nat_le (n + length w) 16_000_000) (adds w) (stops (found g i 34))

-- what the rules make of the module s at depth d; brackets may nest up to 32 deep
abbrev pub worked : ℕ → ℕ → ℕ → ℕ → Symbol → Outcome → Part
worked g n i d s itself = added g n i (s ∷ [])
worked g n i d s (grown w) = cond (nat_le (d + deepest 0 w) 32) (added g n i w) (stops (found g i 33))
worked g n i d s (fault cause) = stops (found g i cause)

-- a fault, or else a part
abbrev pub unless : Option Fault → Part → Part
unless (Some f) p = stops f
unless None p = p

-- a part, then the rest: what is told behind as many more modules as the part adds
abbrev pub followed : Part → (ℕ → Told) → Told
followed (stops f) rest = record { modules = []; ending = broken f }
followed (adds w) rest = let t = rest (length w) in record { modules = w ++ t.modules; ending = t.ending }

-- the fault that a word ends in
abbrev pub fault_of : Ending → Option Fault
fault_of clean = None
fault_of (broken f) = Some f

-- the module at a position, if there is one
abbrev pub there : List Symbol → Option ℕ → Option Symbol
there w None = None
there w (Some j) = slice_get w j

-- by the book b, over a told word of generation g before which k brackets are open
module _ (b : Book) (g k : ℕ) (below : Told) where
  abbrev pub left_of : ℕ → Option Symbol
  left_of i = there below.modules (left b.ignored k below.modules i)

  abbrev pub right_of : ℕ → Option Symbol
  right_of i = there below.modules (right b.ignored k below.modules i)

  -- one of the next 64 modules settles the right neighbour of i
  abbrev pub settled : ℕ → Bool
  settled i = is_some (least (suc i) 64 (settles b.ignored k below.modules i))

  -- the fault of a look ahead: where nothing settles the right neighbour, 30 if at least 64 modules follow, and else the fault
  -- that the word below ends in, as it is
  abbrev pub unsettled : ℕ → Option Fault
  unsettled i =
      cond (settled i) None
      (cond (nat_lt (i + 64) (length below.modules)) (Some (found g i 30)) (fault_of below.ending))

  -- THE OUTCOME of the module s at position i, where n modules are in the result
  abbrev pub outcome : ℕ → ℕ → Symbol → Part
  outcome n i s =
      cond (is_bracket s.letter) (added g n i (s ∷ []))
      (unless (cond (looks_ahead s b.rules) (unsettled i) None)
      (worked g n i (depth k below.modules i) s (becomes (left_of i) s (right_of i) b.rules)))

  -- the outcomes of the modules from position i on, up to the first that stops
  abbrev pub outcomes : ℕ → ℕ → List Symbol → Told
  outcomes n i [] = record { modules = []; ending = below.ending }
  outcomes n i (s ∷ w) = followed (outcome n i s) (λ more. outcomes (n + more) (suc i) w)

  -- THE TOLD WORD of the generation
  abbrev pub grown_word : Told
  grown_word = outcomes 0 0 below.modules

-- one generation, of what a source means
abbrev pub generated : Book → Meaning → Meaning
generated b m = record {
  told = grown_word b m.generation m.opened m.told;
  opened = m.opened;
  generation = next m.generation;
}
