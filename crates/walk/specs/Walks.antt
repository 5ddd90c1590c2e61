-- A walk: what the modules of a word have the turtle do, and what is drawn on the way.
use Rattle.std.specs.Prelude.{ℕ, ◌+◌, max, cond, List, [], ◌∷◌, ◌++◌, replicate, fold, pos, Some, None, Option}
use Rattle.word.specs.Symbols.{Symbol, is_open, is_close}
use Rattle.word.specs.Words.{after}
use Rattle.turtle.specs.Vectors.{Vector, vector, plus, times}
use Rattle.turtle.specs.Poses.{Stance, Stroke, home}
use Rattle.turtle.specs.Deeds.{Deed, goes, draws, breaks, deed}
use Rattle.report.specs.Boxes.{Box}
use Rattle.walk.specs.Boxes.{around}

-- where the turtle stands, and the stances stored, the latest first
pub record Turtle : Type 0 where
  pub stance : Stance
  pub stored : List Stance

-- where a deed leads, and what it draws; a limit that is broken leads nowhere
abbrev pub there : Deed → Stance → Stance
there (goes s) from = s
there (draws k s) from = s
there (breaks n) from = from

abbrev pub drawn_by : Deed → List Stroke
drawn_by (goes s) = []
drawn_by (draws k s) = k ∷ []
drawn_by (breaks n) = []

-- back at the latest stance stored
abbrev pub back : Stance → List Stance → Turtle
back s [] = record { stance = s; stored = [] }
back s (p ∷ ps) = record { stance = p; stored = ps }

-- the turtle after a module: `[` stores the stance, `]` takes back the latest, and any other does what its deed is
abbrev pub moved : Turtle → Symbol → Turtle
moved t m =
    cond (is_open m.letter) (record { stance = t.stance; stored = t.stance ∷ t.stored })
    (cond (is_close m.letter) (back t.stance t.stored) (record { stance = there (deed m t.stance) t.stance; stored = t.stored }))

-- the turtle after some modules, and the strokes drawn on the way, in word order
abbrev pub walked : Turtle → List Symbol → Turtle
walked t [] = t
walked t (m ∷ w) = walked (moved t m) w

abbrev pub strokes : Turtle → List Symbol → List Stroke
strokes t [] = []
strokes t (m ∷ w) = drawn_by (deed m t.stance) ++ strokes (moved t m) w

-- where a stroke ends
abbrev pub end_of : Stroke → Vector
end_of k = plus k.start (times (pos k.length) (vector k.heading))

-- the box around both ends of a stroke, and around all that another box is around
abbrev pub boxed : Option Box → Stroke → Option Box
boxed b k = Some (around (Some (around b k.start)) (end_of k))

-- of some strokes: how many, how long in all, and the box around them
pub record Drawn : Type 0 where
  pub count : ℕ
  pub length : ℕ
  pub box : Option Box

abbrev pub none_drawn : Drawn
none_drawn = record { count = 0; length = 0; box = None }

abbrev pub one_drawn : Drawn → Stroke → Drawn
one_drawn d k = record { count = d.count + 1; length = d.length + k.length; box = boxed d.box k }

abbrev pub all_drawn : List Stroke → Drawn
all_drawn ks = fold one_drawn none_drawn ks

-- a walk so far: the turtle, what was drawn, and the most stances that were ever stored
pub record Walk : Type 0 where
  pub turtle : Turtle
  pub drawn : Drawn
  pub deepest : ℕ

-- at home, with one home stored for each of d open brackets
abbrev pub started : ℕ → Walk
started d = record { turtle = record { stance = home; stored = replicate d home }; drawn = none_drawn; deepest = d }

-- the most brackets that are ever open in some modules, before which d are open
abbrev pub most_open : ℕ → List Symbol → ℕ
most_open d [] = d
most_open d (m ∷ w) = max d (most_open (after d m) w)

-- THE WALK over some modules, before which d brackets are open
abbrev pub start : ℕ → Turtle
start d = (started d).turtle

abbrev pub walk_over : ℕ → List Symbol → Walk
walk_over d w = record { turtle = walked (start d) w; drawn = all_drawn (strokes (start d) w); deepest = most_open d w }
