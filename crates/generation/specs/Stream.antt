-- Internal. A generation module by module: one left neighbour kept for each depth, and a look ahead at up to 64 modules.
use Rattle.std.specs.Prelude.{ℕ, zero, suc, pred, ◌+◌, min, Bool, cond, not, ◌&&◌, List, [], ◌∷◌, Some, None, Option, ◌==◌, slice_index_or}
use Rattle.std.specs.Option.{option_map}
use Rattle.word.specs.Symbols.{Symbol, is_open, is_close, is_bracket}
use Rattle.word.specs.Words.{Ending, Told, after}
use Rattle.book.specs.Books.{Book}
use Rattle.books.specs.Ahead.{looks_ahead}
use Rattle.books.specs.Outcomes.{becomes}
use Rattle.generation.specs.Neighbours.{counts}
use Rattle.generation.specs.Generations.{Part, stops, found, added, worked, unless, followed, fault_of}

-- what is kept for each depth
abbrev pub Table : Type 0 → Type 0
Table A = ℕ → Option A

abbrev pub put : {A : Type 0} → Table A → ℕ → Option A → Table A
put t e o x = cond (x == e) o (t x)

-- the table that a row of places shows, one place for each depth
abbrev pub shown : {A B : Type 0} → (A → B) → List (Option A) → Table B
shown f row e = option_map f (slice_index_or row e None)

-- the table behind the module s at depth d, of which x is kept: `[` hands the neighbour on to the branch, a letter that counts
-- is the neighbour at its depth, and nothing else alters the table
abbrev pub passed : {A : Type 0} → (ℕ → Bool) → ℕ → Symbol → A → Table A → Table A
passed ignored d s x t =
    cond (is_open s.letter) (put t (suc d) (t d)) (cond (counts ignored s) (put t d (Some x)) t)

-- the position behind position i; it stays at 16,000,000, where no word has a module
abbrev pub onward : ℕ → ℕ
onward i = min 16_000_000 (suc i)

-- what a look ahead comes to: the right neighbour, the `]` that closes the branch, the end of the word, or the end of what it
-- may look at
pub data Look : Type 0 where
  neighbour : Symbol → Look
  closed ended spent : Look

-- a look at up to n of the modules w, with r brackets open since the look began
abbrev pub scan : (ℕ → Bool) → ℕ → ℕ → List Symbol → Look
scan ignored zero r w = spent
scan ignored (suc n) r [] = ended
scan ignored (suc n) r (s ∷ w) =
    cond (is_open s.letter) (scan ignored n (suc r) w)
    (cond (is_close s.letter) (cond (r == 0) closed (scan ignored n (pred r) w))
    (cond (r == 0 && not (ignored s.letter)) (neighbour s) (scan ignored n r w)))

-- by the book b, over a word of generation g with this ending
module _ (b : Book) (g : ℕ) (ending : Ending) where
  -- the module s at position i and depth d, behind n modules of the result, with the left neighbour l
  module _ (n i d : ℕ) (l : Option Symbol) (s : Symbol) where
    -- with the right neighbour r
    abbrev pub turn_with : Option Symbol → Part
    turn_with r = worked g n i d s (becomes l s r b.rules)

    abbrev pub turn_by : Look → Part
    turn_by (neighbour x) = turn_with (Some x)
    turn_by closed = turn_with None
    turn_by ended = unless (fault_of ending) (turn_with None)
    turn_by spent = stops (found g i 30)

    -- its outcome, where the modules w are to come
    abbrev pub turn : List Symbol → Part
    turn w =
        cond (is_bracket s.letter) (added g n i (s ∷ []))
        (cond (looks_ahead s b.rules) (turn_by (scan b.ignored 64 0 w)) (turn_with None))

  -- what is told of the modules from position i on, where n modules are in the result and the table is t
  abbrev pub streamed : ℕ → ℕ → ℕ → Table Symbol → List Symbol → Told
  streamed n i d t [] = record { modules = []; ending = ending }
  streamed n i d t (s ∷ w) =
      followed (turn n i d (t d) s w) (λ more. streamed (n + more) (onward i) (after d s) (passed b.ignored d s s t) w)
