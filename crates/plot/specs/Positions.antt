-- The walk of a plot, by position: how things stand after n modules of the word, and what the next call is answered there.
use Rattle.std.specs.Prelude.{ℕ, ◌+◌, cond, List, [], ◌∷◌, ◌++◌, length, take, drop, Some, None, Option, ◌==◌, nat_lt}
use Rattle.word.specs.Symbols.{Symbol}
use Rattle.word.specs.Words.{Ending, clean, broken, Meaning}
use Rattle.turtle.specs.Poses.{Stance, Stroke}
use Rattle.turtle.specs.Deeds.{Deed, goes, draws, breaks, deed}
use Rattle.sheet.specs.Sheets.{Content, with_stroke}
use Rattle.report.specs.declared.ending.Ending.{Ending as Latest}
use Rattle.report.specs.declared.ending.Ending.TheVariants.{Clean, Broken}
use Rattle.walk.specs.Walks.{Walk, walk_over}
use Rattle.walk.specs.Walkers.{walk_report}
use Rattle.plot.specs.Views.{View, Answer, took, ended, faulted, no_space}
use Rattle.plot.specs.Runs.{Reply, wrote, refused, Event, stepped, stood, reported}

-- the walk over the first n modules of the word that a source means
abbrev pub walk_at : Meaning → ℕ → Walk
walk_at w n = walk_over w.opened (take n w.told.modules)

-- a call, with what it is lent
pub data Call : Type 0 where
  to_step : Content → Call
  to_stand : Call
  to_report : List ℕ → Call

abbrev pub call : Event → Call
call (stepped c a c') = to_step c
call (stood s) = to_stand
call (reported b r b') = to_report b

-- how a word ends, as a step answers it
abbrev pub ended_by : Ending → Answer
ended_by clean = ended
ended_by (broken f) = faulted f

-- a step that is lent a sheet that means c, at the module m behind n others, by what m has the turtle do
abbrev pub met_by : Meaning → ℕ → Content → Symbol → Deed → Event
met_by w n c m (goes s) = stepped c (took m) c
met_by w n c m (draws k s) = cond (c.space == 0) (stepped c no_space c) (stepped c (took m) (with_stroke c k))
met_by w n c m (breaks x) = stepped c (faulted (record { cause = x; generation = w.generation; place = n + 1 })) c

-- a step behind n modules, where the walk is k and the modules ms are to come
abbrev pub met : Meaning → ℕ → Walk → Content → List Symbol → Event
met w n k c [] = stepped c (ended_by w.told.ending) c
met w n k c (m ∷ ms) = met_by w n c m (deed m k.turtle.stance)

-- a text asked for in a buffer
abbrev pub written : List ℕ → List ℕ → Event
written text b = cond (nat_lt (length b) 160) (reported b (refused 9) b) (reported b (wrote (length text)) (text ++ drop (length text) b))

-- THE CALL AFTER n MODULES of the word, where l is the latest ending, with its answer and what it gives back
abbrev pub answered : Meaning → ℕ → Latest → Call → Event
answered w n l (to_step c) = met w n (walk_at w n) c (drop n w.told.modules)
answered w n l to_stand = stood (walk_at w n).turtle.stance
answered w n l (to_report b) = written (walk_report n (walk_at w n) l) b

-- of a list of events: the modules taken, the latest ending that a step answered, and the strokes that came upon sheets
abbrev pub taken_by : Answer → List Symbol
taken_by (took m) = m ∷ []
taken_by ended = []
taken_by (faulted f) = []
taken_by no_space = []

abbrev pub taken_in : Event → List Symbol
taken_in (stepped c a c') = taken_by a
taken_in (stood s) = []
taken_in (reported b r b') = []

abbrev pub all_taken : List Event → List Symbol
all_taken [] = []
all_taken (e ∷ es) = taken_in e ++ all_taken es

abbrev pub heard_by : Latest → Answer → Latest
heard_by l (took m) = l
heard_by l ended = Clean
heard_by l (faulted f) = Broken f
heard_by l no_space = l

abbrev pub heard_in : Latest → Event → Latest
heard_in l (stepped c a c') = heard_by l a
heard_in l (stood s) = l
heard_in l (reported b r b') = l

abbrev pub heard : Latest → List Event → Latest
heard l [] = l
heard l (e ∷ es) = heard (heard_in l e) es

abbrev pub listed : Option Stroke → List Stroke
listed None = []
listed (Some k) = k ∷ []

abbrev pub put_in : Event → List Stroke
put_in (stepped c a c') = cond (c'.count == c.count) [] (listed c'.latest)
put_in (stood s) = []
put_in (reported b r b') = []

abbrev pub all_put : List Event → List Stroke
all_put [] = []
all_put (e ∷ es) = put_in e ++ all_put es

-- any module held, then those that the source has still to tell
abbrev pub seen : Option Symbol → List Symbol → List Symbol
seen None ms = ms
seen (Some m) ms = m ∷ ms

abbrev pub to_come : View → List Symbol
to_come v = seen v.held v.source.told.modules

-- calls as far as runs are compared by them: of a buffer that is lent, only its length
pub data Asked : Type 0 where
  for_step : Content → Asked
  for_place : Asked
  for_report : ℕ → Asked

abbrev pub asked_by : Call → Asked
asked_by (to_step c) = for_step c
asked_by to_stand = for_place
asked_by (to_report b) = for_report (length b)

abbrev pub asked : Event → Asked
asked e = asked_by (call e)

-- what a call answers, with the meaning of the sheet that it gives back, or the bytes that it wrote
pub data Given : Type 0 where
  a_step : Answer → Content → Given
  a_place : Stance → Given
  a_report : Reply → List ℕ → Given

abbrev pub bytes_of : Reply → List ℕ → List ℕ
bytes_of (wrote n) b = take n b
bytes_of (refused k) b = []

abbrev pub given : Event → Given
given (stepped c a c') = a_step a c'
given (stood s) = a_place s
given (reported b r b') = a_report r (bytes_of r b')
