-- What a walker means, and what one module does to it, in every state.
use Rattle.std.specs.Prelude.{◌≡◌, ℕ, ◌<◌, ◌+◌, max, cond, List, ◌∷◌, map, length, reverse, Some, Ok, Err, Result, nat_lt}
use Rattle.std.specs.Option.{option_map}
use Rattle.rows.specs.Rows.{held}
use Rattle.word.specs.Symbols.{Symbol, is_open, is_close}
use Rattle.turtle.specs.Poses.{Stance, Stroke}
use Rattle.turtle.specs.Stances.{stance_of}
use Rattle.turtle.specs.Deeds.{Deed, goes, draws, breaks, deed}
use Rattle.turtle.specs.Acts.{cause_of}
use Rattle.sheet.specs.Sheets.{Content, with_stroke}
use Rattle.walk.specs.declared.walker.Walker.{Walker}
use Rattle.walk.specs.declared.refusal.Refusal.{Refusal}
use Rattle.walk.specs.declared.refusal.Refusal.TheVariants.{Limit, NoSpace}
use Rattle.report.specs.declared.ending.Ending.{Ending}
use Rattle.report.specs.Boxes.{box_of}
use Rattle.report.specs.Report.{report_lines}
use Rattle.walk.specs.Boxes.{around}
use Rattle.walk.specs.Walks.{Turtle, there, back, moved, Drawn, one_drawn, boxed, Walk}

abbrev pub turtle_of : Walker → Turtle
turtle_of w = record { stance = stance_of w.pose; stored = reverse (map stance_of (held w.stored)) }

abbrev pub drawn_of : Walker → Drawn
drawn_of w = record { count = w.segments; length = w.distance; box = option_map box_of w.bounds }

abbrev pub walker : Walker → Walk
walker w = record { turtle = turtle_of w; drawn = drawn_of w; deepest = w.deepest }

-- there is room for 32 stances; one more is not stored
abbrev pub roomy : Turtle → Symbol → Turtle
roomy t m = cond (is_open m.letter) (cond (nat_lt (length t.stored) 32) (moved t m) t) (moved t m)

-- strokes are counted up to 16,000,000
abbrev pub counted : Drawn → Stroke → Drawn
counted d k = cond (nat_lt d.count 16_000_000) (one_drawn d k) (record { count = d.count; length = d.length; box = boxed d.box k })

abbrev pub with_drawn : Drawn → Deed → Drawn
with_drawn d (goes s) = d
with_drawn d (draws k s) = counted d k
with_drawn d (breaks n) = d

-- the walk goes on over the module m
abbrev pub gone_on : Walk → Symbol → Walk
gone_on k m =
    let t = roomy k.turtle m in
    record { turtle = t; drawn = with_drawn k.drawn (deed m k.turtle.stance); deepest = max k.deepest (length t.stored) }

-- Internal, by the parts of the code: a stroke is counted that leads to a stance
abbrev pub drew : Walk → Stroke → Stance → Walk
drew k s p =
    let d = k.drawn in
    let b = Some (around (Some (around d.box s.start)) p.place) in
    record {
      turtle = k.turtle;
      drawn = cond (nat_lt d.count 16_000_000) (record { count = d.count + 1; length = d.length + s.length; box = b }) (record { count = d.count; length = d.length; box = b });
      deepest = k.deepest;
    }

-- Internal: the turtle goes to a stance, and a bracket stores it or takes back the latest
abbrev pub at : List Stance → Stance → ℕ → Turtle
at ps p letter =
    cond (is_open letter) (cond (nat_lt (length ps) 32) (record { stance = p; stored = p ∷ ps }) (record { stance = p; stored = ps }))
    (cond (is_close letter) (back p ps) (record { stance = p; stored = ps }))

abbrev pub branched : Walk → Stance → ℕ → Walk
branched k p letter = let t = at k.turtle.stored p letter in record { turtle = t; drawn = k.drawn; deepest = max k.deepest (length t.stored) }

-- Internal, by the parts of the code: a deed is done, and no stance is stored or taken back
abbrev pub went : Walk → Deed → Walk
went k d = record {
  turtle = record { stance = there d k.turtle.stance; stored = k.turtle.stored };
  drawn = with_drawn k.drawn d;
  deepest = k.deepest;
}

-- what a sheet means behind a deed
abbrev pub sheet_after : Content → Deed → Content
sheet_after c (goes s) = c
sheet_after c (draws k s) = with_stroke c k
sheet_after c (breaks n) = c

-- a deed breaks no limit, and finds space on a sheet for what it draws
abbrev pub Fits : Content → Deed → Type 0
Fits c (goes s) = Unit {0}
Fits c (draws k s) = 0 < c.space
Fits c (breaks n) = ⊥

-- a deed draws
abbrev pub Drawing : Deed → Type 0
Drawing (goes s) = ⊥
Drawing (draws k s) = Unit {0}
Drawing (breaks n) = ⊥

-- the walk k over the module m, lent a sheet that means c: the answer, the walk and what the sheet means then
abbrev pub Takes : Walk → Content → Symbol → Result (Unit {0}) Refusal → Walk → Content → Type 0
Takes k c m (Ok u) k' c' = Fits c (deed m k.turtle.stance) × (k' ≡ gone_on k m) × (c' ≡ sheet_after c (deed m k.turtle.stance))
Takes k c m (Err (Limit l)) k' c' = (deed m k.turtle.stance ≡ breaks (cause_of l)) × (k' ≡ k) × (c' ≡ c)
Takes k c m (Err NoSpace) k' c' = Drawing (deed m k.turtle.stance) × (c.space ≡ 0) × (k' ≡ k) × (c' ≡ c)

-- Internal, by the parts of the code: the same, of the deed d of no bracket
abbrev pub TakesBy : Walk → Content → Deed → Result (Unit {0}) Refusal → Walk → Content → Type 0
TakesBy k c d (Ok u) k' c' = Fits c d × (k' ≡ went k d) × (c' ≡ sheet_after c d)
TakesBy k c d (Err (Limit l)) k' c' = (d ≡ breaks (cause_of l)) × (k' ≡ k) × (c' ≡ c)
TakesBy k c d (Err NoSpace) k' c' = Drawing d × (c.space ≡ 0) × (k' ≡ k) × (c' ≡ c)

-- the report of a walk that took n modules and ends so
abbrev pub walk_report : ℕ → Walk → Ending → List ℕ
walk_report n k e = report_lines n k.drawn.count k.drawn.length k.drawn.box k.deepest e
