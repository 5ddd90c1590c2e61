-- THE LAW of a plot on a pile.
use Rattle.std.specs.Prelude.{◌≡◌, ℕ, true, List, [], ◌∷◌, ◌++◌, map, length, drop, ◌≢◌}
use Rattle.word.specs.Symbols.{Symbol, is_close}
use Rattle.word.specs.Words.{Meaning, clean}
use Rattle.turtle.specs.Poses.{Stance, Stroke}
use Rattle.turtle.specs.Deeds.{draws, deed}
use Rattle.sheet.specs.Sheets.{Content, with_stroke}
use Rattle.report.specs.declared.ending.Ending.TheVariants.{Open}
use Rattle.walk.specs.Walks.{start, strokes}
use Rattle.plot.specs.Views.{View, New, Answer, took, ended, no_space}
use Rattle.plot.specs.Runs.{Event, stepped, Does, Run}
use Rattle.plot.specs.Piles.{Layer, Loaded, piled, Alike}
use Rattle.plot.specs.Positions.{walk_at, call, answered, all_taken, heard, all_put, to_come, asked, given}

-- what the deed of the module m draws, behind n modules of the word that w means
abbrev pub Draws : Meaning → ℕ → Symbol → Stroke → Type 0
Draws w n m k = (s : Stance) × (deed m (walk_at w n).turtle.stance ≡ draws k s)

-- the events es took the plot to v; the pile below means w
pub record After (w : Meaning) (es : List Event) (v : View) : Type 0 where
  -- (taken) the modules taken, then any held or still to come, are the modules of the pile's word
  pub modules : all_taken es ++ to_come v ≡ w.told.modules
  -- (answers) the next call's answer, and what it gives back, are those of the walk
  pub answers : (e : Event) (v' : View) → Does v e v' → e ≡ answered w (length (all_taken es)) (heard Open es) (call e)
  -- (ended) a step says ended exactly when all modules are taken and the ending is clean
  pub ends : (c c' : Content) (a : Answer) (v' : View) → Does v (stepped c a c') v' → a ≡ ended → (all_taken es ≡ w.told.modules) × (w.told.ending ≡ clean)
  pub ends_so : (c c' : Content) (a : Answer) (v' : View) → Does v (stepped c a c') v' → all_taken es ≡ w.told.modules → w.told.ending ≡ clean → a ≡ ended
  -- (segments) what came upon sheets are the strokes of the drawing modules taken, each once and in word order; and the next that
  -- is taken puts its stroke on the sheet of its step
  pub puts : all_put es ≡ strokes (start w.opened) (all_taken es)
  pub on_sheet : (c c' : Content) (m : Symbol) (v' : View) → Does v (stepped c (took m) c') v' → (k : Stroke) → Draws w (length (all_taken es)) m k → c' ≡ with_stroke c k
  -- (space) the sheet is refused exactly when a stroke within the limits meets one without space
  pub full : (c c' : Content) (a : Answer) (v' : View) → Does v (stepped c a c') v' → a ≡ no_space → (m : Symbol) × (ms : List Symbol) × (k : Stroke) × (drop (length (all_taken es)) w.told.modules ≡ m ∷ ms) × Draws w (length (all_taken es)) m k × (c.space ≡ 0)
  pub full_so : (c c' : Content) (a : Answer) (v' : View) → Does v (stepped c a c') v' → (m : Symbol) (ms : List Symbol) (k : Stroke) → drop (length (all_taken es)) w.told.modules ≡ m ∷ ms → Draws w (length (all_taken es)) m k → c.space ≡ 0 → a ≡ no_space
  -- (store) no closing bracket finds the store empty
  pub store : (m : Symbol) (ms : List Symbol) → to_come v ≡ m ∷ ms → is_close m.letter ≡ true → v.walk.turtle.stored ≢ []

-- THE LAW: of the plot `new` that stands on a source, whatever pile the source is, after every list of calls
pub record Law (source : Meaning) (new : View) : Type 0 where
  pub after :
      (base : Meaning) (layers : List Layer) → Loaded layers → source ≡ piled base layers →
      (es : List Event) (v : View) → Run new es v → After (piled base layers) es v
  -- (alike) two runs of the same calls on piles alike have the same answers, report bytes and sheets
  pub alike :
      (base : Meaning) (layers others : List Layer) → Loaded layers → Loaded others → Alike layers others → source ≡ piled base layers →
      (new' : View) → New (piled base others) new' →
      (es es' : List Event) (v v' : View) → Run new es v → Run new' es' v' → map asked es ≡ map asked es' → map given es ≡ map given es'
