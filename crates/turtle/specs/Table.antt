-- The test of a table of turns against the vector rule.
use Rattle.std.specs.Prelude.{ℕ, suc, Bool, true, ◌&&◌, List, [], ◌∷◌, nat_lt, slice_index}
use Rattle.turtle.specs.Turns.{faces, faces_so, rotated}
use Rattle.turtle.specs.declared.turn.Turn.{Turn}
use Rattle.turtle.specs.declared.turn.Turn.TheVariants.{Left, Right, Down, Up, RollLeft, RollRight, About}

abbrev pub every_turn : (Turn → Bool) → Bool
every_turn p = p Left && (p Right && (p Down && (p Up && (p RollLeft && (p RollRight && p About)))))

-- a row has an entry for each turn, in this order
abbrev pub entry : List ℕ → Turn → ℕ
entry row Left = slice_index row 0
entry row Right = slice_index row 1
entry row Down = slice_index row 2
entry row Up = slice_index row 3
entry row RollLeft = slice_index row 4
entry row RollRight = slice_index row 5
entry row About = slice_index row 6

-- e is the orientation after the turn t from the orientation n
abbrev pub agrees : ℕ → Turn → ℕ → Bool
agrees n t e = nat_lt e 24 && faces_so (rotated t (faces n)) e

abbrev pub row_agrees : ℕ → List ℕ → Bool
row_agrees n row = every_turn (λ t. agrees n t (entry row t))

-- a table has a row for each orientation, from n on
abbrev pub table_agrees : ℕ → List (List ℕ) → Bool
table_agrees n [] = true
table_agrees n (row ∷ rows) = row_agrees n row && table_agrees (suc n) rows
