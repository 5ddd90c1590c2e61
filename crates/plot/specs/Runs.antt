-- Calls of a plot, one after the other.
use Rattle.std.specs.Prelude.{◌≡◌, ℕ, ◌<◌, ◌≤◌, List, [], ◌∷◌, ◌++◌, length, drop, Ok, Err, Result}
use Rattle.turtle.specs.Poses.{Stance}
use Rattle.sheet.specs.Sheets.{Content}
use Rattle.report.specs.declared.short_buffer.ShortBuffer.{ShortBuffer}
use Rattle.report.specs.Refusals.{refusal_of}
use Rattle.plot.specs.Views.{View, Answer, Steps, report_in}

-- what a report answers: its length, or the number of a refusal
pub data Reply : Type 0 where
  wrote : ℕ → Reply
  refused : ℕ → Reply

abbrev pub reply_of : Result ℕ ShortBuffer → Reply
reply_of (Ok n) = wrote n
reply_of (Err e) = refused (refusal_of e)

-- a call carried out or turned down: what it was lent, what it answered, and what it gave back
pub data Event : Type 0 where
  stepped : Content → Answer → Content → Event
  stood : Stance → Event
  reported : List ℕ → Reply → List ℕ → Event

-- a text is written to the start of a buffer of 160 bytes or more, and a shorter buffer stays as it is
abbrev pub Replies : List ℕ → List ℕ → Reply → List ℕ → Type 0
Replies text b (wrote n) b' = (160 ≤ length b) × (n ≡ length text) × (b' ≡ text ++ drop n b)
Replies text b (refused k) b' = (length b < 160) × (k ≡ 9) × (b' ≡ b)

-- the event takes the plot from v to v': THE CONTRACT of step, whereabouts and report
abbrev pub Does : View → Event → View → Type 0
Does v (stepped c a c') v' = Steps v c a c' v'
Does v (stood s) v' = (s ≡ v.walk.turtle.stance) × (v' ≡ v)
Does v (reported b r b') v' = Replies (report_in v) b r b' × (v' ≡ v)

-- events in a row take the plot from v to v'
abbrev pub Run : View → List Event → View → Type 0
Run v [] v' = v' ≡ v
Run v (e ∷ es) v' = (u : View) × (Does v e u × Run u es v')
