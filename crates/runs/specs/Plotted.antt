-- What a plot comes to that follows a whole word, from home on.
use Rattle.std.specs.Prelude.{◌≡◌, ℕ, ◌+◌, List, [], ◌∷◌, length}
use Rattle.word.specs.Symbols.{Symbol}
use Rattle.word.specs.Words.{Ending, clean, broken, Meaning}
use Rattle.turtle.specs.Deeds.{Deed, goes, draws, breaks, deed}
use Rattle.report.specs.declared.ending.Ending.{Ending as Latest}
use Rattle.report.specs.declared.ending.Ending.TheVariants.{Clean, Broken}
use Rattle.walk.specs.Walks.{Turtle, moved, start, walk_over}
use Rattle.walk.specs.Walkers.{walk_report}
use Rattle.plot.specs.Views.{View}

-- the modules w, or none where a deed breaks a limit
abbrev pub unless_breaks : Deed → List Symbol → List Symbol
unless_breaks (goes s) w = w
unless_breaks (draws k s) w = w
unless_breaks (breaks n) w = []

-- the modules that the turtle takes: those before the first that breaks a limit
abbrev pub passed : Turtle → List Symbol → List Symbol
passed t [] = []
passed t (m ∷ w) = unless_breaks (deed m t.stance) (m ∷ passed (moved t m) w)

-- how a word ends that ends so, or the fault of a limit that a deed breaks, at the place behind n modules of generation g
abbrev pub latest_of : Ending → Latest
latest_of clean = Clean
latest_of (broken f) = Broken f

abbrev pub unless_broken : ℕ → ℕ → Deed → Latest → Latest
unless_broken g n (goes s) l = l
unless_broken g n (draws k s) l = l
unless_broken g n (breaks c) l = Broken (record { cause = c; generation = g; place = n + 1 })

-- how the turtle's way along some modules ends, behind n modules of generation g
abbrev pub way_ends : ℕ → ℕ → Turtle → List Symbol → Ending → Latest
way_ends g n t [] e = latest_of e
way_ends g n t (m ∷ w) e = unless_broken g n (deed m t.stance) (way_ends g (n + 1) (moved t m) w e)

-- of what a source means: the modules that the turtle takes, and how its way ends
abbrev pub way : Meaning → List Symbol
way m = passed (start m.opened) m.told.modules

abbrev pub way_end : Meaning → Latest
way_end m = way_ends m.generation 0 (start m.opened) m.told.modules m.told.ending

-- THE PLOT OF A WORD: the walk over the modules that the turtle takes, their number, and how its way ends
pub record Plotted (m : Meaning) (v : View) : Type 0 where
  pub taken : v.taken ≡ length (way m)
  pub walk : v.walk ≡ walk_over m.opened (way m)
  pub latest : v.latest ≡ way_end m

-- its report
abbrev pub plot_text : Meaning → List ℕ
plot_text m = walk_report (length (way m)) (walk_over m.opened (way m)) (way_end m)
