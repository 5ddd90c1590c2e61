-- What the calls of a plot do, in every state: relations between the view before, what was lent, the answer, what is given back and
-- the view after.
use Rattle.std.specs.Prelude.{◌≡◌, ℕ, ◌+◌, min, ◌⊎◌, List, [], ◌∷◌, Some, None, Ok, Err, Option, Result}
use Rattle.std.specs.Option.{option_map}
use Rattle.word.specs.declared.fault.Fault.{Fault}
use Rattle.word.specs.declared.module.Module.{Module}
use Rattle.word.specs.Symbols.{Symbol}
use Rattle.word.specs.Words.{Ending, clean, broken, Meaning, after}
use Rattle.word.specs.Records.{symbol_of}
use Rattle.turtle.specs.Deeds.{Deed, breaks, deed}
use Rattle.sheet.specs.Sheets.{Content}
use Rattle.report.specs.declared.ending.Ending.{Ending as Latest}
use Rattle.report.specs.declared.ending.Ending.TheVariants.{Open, Clean, Broken}
use Rattle.walk.specs.Walks.{Walk, started}
use Rattle.walk.specs.Walkers.{walker, gone_on, sheet_after, Fits, Drawing, walk_report}
use Rattle.plot.specs.declared.state.State.{State}
use Rattle.plot.specs.declared.stop.Stop.{Stop}
use Rattle.plot.specs.declared.stop.Stop.TheVariants as stop

-- a plot as its caller may see it: what its source means, the module held, how many were taken, the walk so far, and the latest
-- ending
pub record View : Type 0 where
  pub source : Meaning
  pub held : Option Symbol
  pub taken : ℕ
  pub walk : Walk
  pub latest : Latest

abbrev pub view : Meaning → State → View
view s p = record { source = s; held = option_map symbol_of p.held; taken = p.taken; walk = walker p.walker; latest = p.ending }

-- the parts of a view
pub record Has (v : View) (s : Meaning) (h : Option Symbol) (n : ℕ) (k : Walk) (l : Latest) : Type 0 where
  pub source : v.source ≡ s
  pub held : v.held ≡ h
  pub taken : v.taken ≡ n
  pub walk : v.walk ≡ k
  pub latest : v.latest ≡ l

-- a plot just made on a source
abbrev pub New : Meaning → View → Type 0
New s v = Has v s None 0 (started s.opened) Open

-- what a step answers: the module that it took, that the word ended clean, a fault, or that the sheet has no space, which is 50
pub data Answer : Type 0 where
  took : Symbol → Answer
  ended : Answer
  faulted : Fault → Answer
  no_space : Answer

abbrev pub answer_of : Result (Option Module) Stop → Answer
answer_of (Ok (Some x)) = took (symbol_of x)
answer_of (Ok None) = ended
answer_of (Err (stop.Fault f)) = faulted f
answer_of (Err stop.NoSpace) = no_space

-- the module m comes next: it is held, or the source tells it and means s' then
abbrev pub Comes : Option Symbol → Meaning → Symbol → Meaning → Type 0
Comes (Some h) s m s' = (m ≡ h) × (s' ≡ s)
Comes None s m s' = (s.told.modules ≡ m ∷ s'.told.modules) × (s'.told.ending ≡ s.told.ending) × (s'.opened ≡ after s.opened m) × (s'.generation ≡ s.generation)

-- no module comes any more
abbrev pub Over : View → Ending → Type 0
Over v e = (v.held ≡ None) × (v.source.told.modules ≡ []) × (v.source.told.ending ≡ e)

-- the fault of a limit, which the source's generation and the place of the module in the word name
abbrev pub fault_at : View → ℕ → Fault
fault_at v n = record { cause = n; generation = v.source.generation; place = v.taken + 1 }

-- the module m comes next, and is held; nothing else changes but the latest ending
abbrev pub Holds : View → Symbol → Latest → View → Type 0
Holds v m l v' = Comes v.held v.source m v'.source × Has v' v'.source (Some m) v.taken v.walk l

-- nothing changes but the latest ending
abbrev pub Hears : View → Latest → View → Type 0
Hears v l v' = Has v' v.source v.held v.taken v.walk l

-- what the module m has the turtle do there
abbrev pub deed_in : View → Symbol → Deed
deed_in v m = deed m v.walk.turtle.stance

-- STEP, lent a sheet that means c, which means c' then
abbrev pub Steps : View → Content → Answer → Content → View → Type 0
Steps v c (took m) c' v' =
    Comes v.held v.source m v'.source
    × Has v' v'.source None (min (v.taken + 1) 16_000_000) (gone_on v.walk m) v.latest
    × Fits c (deed_in v m)
    × (c' ≡ sheet_after c (deed_in v m))
Steps v c ended c' v' = Over v clean × Hears v Clean v' × (c' ≡ c)
Steps v c (faulted f) c' v' =
    ((Over v (broken f) × Hears v (Broken f) v')
    ⊎ ((m : Symbol) × (n : ℕ) × (deed_in v m ≡ breaks n) × (f ≡ fault_at v n) × Holds v m (Broken f) v'))
    × (c' ≡ c)
Steps v c no_space c' v' = ((m : Symbol) × Drawing (deed_in v m) × Holds v m v.latest v') × (c.space ≡ 0) × (c' ≡ c)

-- the report of a plot
abbrev pub report_in : View → List ℕ
report_in v = walk_report v.taken v.walk v.latest

-- Internal, by the parts of the code: the next module is looked at, and held
abbrev pub Looks : View → Result (Option Module) Fault → View → Type 0
Looks v (Ok (Some x)) v' = Holds v (symbol_of x) v.latest v'
Looks v (Ok None) v' = Over v clean × Hears v v.latest v'
Looks v (Err f) v' = Over v (broken f) × Hears v v.latest v'
