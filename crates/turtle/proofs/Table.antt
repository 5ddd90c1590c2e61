-- A table of turns that passes the test has the vector rule at each of its entries.
use Rattle.std.proofs.Common.{◌≡◌, ℕ, zero, suc, ◌+◌, ◌<◌, true, ltb, List, [], ◌∷◌, length, get_or, add-zero, add-suc, suc-add, zero-add, arith}
use denote.Enum.Declared.{tag_of}
use Rattle.std.proofs.lemmas.Bool.{and_parts, ltb-true}
use Rattle.turtle.specs.Turns.{faces, rotated}
use Rattle.turtle.specs.Table.{entry, agrees, row_agrees, table_agrees}
use Rattle.turtle.specs.contracts.turn.Turn.{the_type}
use Rattle.turtle.specs.declared.turn.Turn.{Turn}
use Rattle.turtle.proofs.Tests.{faces_so_true, at_turn}

row_at : (rows : List (List ℕ)) (n k : ℕ) → table_agrees n rows ≡ true → k < length rows → row_agrees (n + k) (get_or rows k []) ≡ true
row_at [] n k h l = absurd (omega arith)
row_at (row ∷ rows) n zero h l = rw (add-zero n) (and_parts (row_agrees n row) _ h).0
row_at (row ∷ rows) n (suc k) h l =
    rw (add-suc n k, ← suc-add n k) (row_at rows (suc n) k (and_parts (row_agrees n row) _ h).1 (omega arith))

-- the code finds an entry by its turn's number
abbrev found : List (List ℕ) → ℕ → Turn → ℕ
found rows n t = get_or (get_or rows n []) (tag_of the_type t) 0

by_number : (row : List ℕ) (t : Turn) → entry row t ≡ get_or row (tag_of the_type t) 0
by_number row t = grind arith

pub ruled : (rows : List (List ℕ)) (n : ℕ) (t : Turn) → table_agrees 0 rows ≡ true → n < length rows
    → (found rows n t < 24) × (faces (found rows n t) ≡ rotated t (faces n))
ruled rows n t h l =
    let row = get_or rows n [] in
    let in_row = rw (zero-add n) at (row_at rows 0 n h l) in
    let p = and_parts (ltb (found rows n t) 24) _ (rw (← by_number row t) (at_turn (λ t. agrees n t (entry row t)) in_row t)) in
    (ltb-true (found rows n t) 24 p.0, faces_so_true (rotated t (faces n)) (found rows n t) p.1)
