-- A plot that is stepped until a step takes no module, in every state.
use Rattle.std.specs.Prelude.{◌≡◌, ℕ, ◌+◌, min, List, [], ◌∷◌, ◌++◌, fold, Some, Ok, Err, Result}
use Rattle.word.specs.declared.fault.Fault.{Fault}
use Rattle.word.specs.Symbols.{Symbol}
use Rattle.turtle.specs.Deeds.{deed}
use Rattle.sheet.specs.Sheets.{Content}
use Rattle.report.specs.declared.ending.Ending.TheVariants.{Broken}
use Rattle.turtle.specs.Acts.{cause_of}
use Rattle.walk.specs.declared.refusal.Refusal.{Refusal}
use Rattle.walk.specs.declared.refusal.Refusal.TheVariants.{Limit, NoSpace}
use Rattle.walk.specs.Walks.{Walk}
use Rattle.walk.specs.Walkers.{gone_on, sheet_after, Fits}
use Rattle.plot.specs.Views.{View, Answer, ended, faulted, no_space, Has, Steps}
use Rattle.plot.specs.Positions.{to_come}
use Rattle.plot.specs.declared.stop.Stop.{Stop}
use Rattle.plot.specs.declared.stop.Stop.TheVariants as stop

-- the walk k, gone on over some modules
abbrev pub gone_over : Walk → List Symbol → Walk
gone_over k w = fold gone_on k w

-- n modules were taken, and then those of w
abbrev pub counted_on : ℕ → List Symbol → ℕ
counted_on n w = fold (λ k m. min (k + 1) 16_000_000) n w

-- what a sheet that means c means behind what some modules draw
abbrev pub laid : Content → Walk → List Symbol → Content
laid c k [] = c
laid c k (m ∷ w) = laid (sheet_after c (deed m k.turtle.stance)) (gone_on k m) w

-- no module breaks a limit, and there is space for all that they draw
abbrev pub AllFit : Content → Walk → List Symbol → Type 0
AllFit c k [] = Unit {0}
AllFit c k (m ∷ w) = Fits c (deed m k.turtle.stance) × AllFit (sheet_after c (deed m k.turtle.stance)) (gone_on k m) w

-- the plot v, lent a sheet that means c, takes the modules w, and is v' then, and the sheet means c'
pub record TakesAll (v : View) (c : Content) (w : List Symbol) (c' : Content) (v' : View) : Type 0 where
  pub modules : to_come v ≡ w ++ to_come v'
  pub ending : v'.source.told.ending ≡ v.source.told.ending
  pub generation : v'.source.generation ≡ v.source.generation
  pub taken : v'.taken ≡ counted_on v.taken w
  pub walk : v'.walk ≡ gone_over v.walk w
  pub latest : v'.latest ≡ v.latest
  pub fit : AllFit c v.walk w
  pub sheet : c' ≡ laid c v.walk w

-- what the last step answers
abbrev pub last_answer : Result (Unit {0}) Stop → Answer
last_answer (Ok u) = ended
last_answer (Err (stop.Fault f)) = faulted f
last_answer (Err stop.NoSpace) = no_space

-- RUN TO THE END, lent a sheet that means c, which means c' then: some modules are taken, and the step behind them takes none
abbrev pub Runs : View → Content → Result (Unit {0}) Stop → Content → View → Type 0
Runs v c r c' v' = (w : List Symbol) × (u : View) × (b : Content) × TakesAll v c w b u × Steps u b (last_answer r) c' v'

-- Internal, by the parts of the code: behind n modules the module m is refused, and held; what stops the plot
abbrev pub Refuses : View → Symbol → ℕ → Refusal → Stop → View → Type 0
Refuses v m n (Limit l) s v' =
    let f : Fault = record { cause = cause_of l; generation = v.source.generation; place = n + 1 } in
    (s ≡ stop.Fault f) × Has v' v.source (Some m) n v.walk (Broken f)
Refuses v m n NoSpace s v' = (s ≡ stop.NoSpace) × Has v' v.source (Some m) n v.walk v.latest
