-- The brackets of a successor, one letter or bracket after the other.
use Rattle.std.proofs.Common.{◌≡◌, ℕ, suc, pred, ◌+◌, ◌≤◌, max, Bool, cond, not, ◌&&◌, eqb, List, [], ◌∷◌, map, length, drop, refl, ap, arith}
use Rattle.std.proofs.lemmas.Bool.{cond_both}
use Rattle.word.specs.Symbols.{is_open, is_close}
use Rattle.expr.specs.declared.code.Code.{Code}
use Rattle.rules.specs.declared.piece.Piece.{Piece as StoredPiece}
use Rattle.book.specs.Rules.{Piece}
use Rattle.rules.specs.Records.{pieces_from, bare}
use Rattle.rules.specs.Wrong.{after, nests, deepest}

-- letters and brackets nest, and go as deep, whatever their arguments are
pub nests_bare : (ps : List StoredPiece) (cs : List Code) (d : ℕ) → nests d (pieces_from ps cs) ≡ nests d (map bare ps)
nests_bare [] cs d = refl
nests_bare (p ∷ ps) cs d = ap (λ (t : Bool). not (is_close p.letter && eqb d 0) && t) (nests_bare ps (drop p.places cs) _)

pub deepest_bare : (ps : List StoredPiece) (cs : List Code) (d : ℕ) → deepest d (pieces_from ps cs) ≡ deepest d (map bare ps)
deepest_bare [] cs d = refl
deepest_bare (p ∷ ps) cs d = ap (max d) (deepest_bare ps (drop p.places cs) _)

pub length_pieces : (ps : List StoredPiece) (cs : List Code) → length (pieces_from ps cs) ≡ length ps
length_pieces [] cs = refl
length_pieces (p ∷ ps) cs = ap suc (length_pieces ps (drop p.places cs))

pub after_few : (d : ℕ) (p : Piece) → after d p ≤ suc d
after_few d p =
    cond_both (is_open p.letter) (suc d) (cond (is_close p.letter) (pred d) d) (λ k. k ≤ suc d) (λ e. omega arith)
    (λ e. cond_both (is_close p.letter) (pred d) d (λ k. k ≤ suc d) (λ f. omega arith) (λ f. omega arith))

pub deep_enough : (d : ℕ) (ps : List Piece) → d ≤ deepest d ps
deep_enough d [] = omega arith
deep_enough d (p ∷ ps) = omega arith

-- each letter or bracket opens at most one
pub not_deeper : (d : ℕ) (ps : List Piece) → deepest d ps ≤ d + length ps
not_deeper d [] = omega arith
not_deeper d (p ∷ ps) = omega (arith, not_deeper (after d p) ps, after_few d p)
