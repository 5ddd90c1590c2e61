-- What may be wrong with a rule by itself.
use Rattle.std.specs.Prelude.{ℕ, suc, pred, max, Bool, false, cond, not, ◌&&◌, ◌||◌, List, [], ◌∷◌, length, ◌==◌, nat_le, nat_lt}
use Rattle.word.specs.Symbols.{among, is_open, is_close}
use Rattle.book.specs.Rules.{Piece, Rule}
use Rattle.rules.specs.Places.{numbers, names, expressions, each, given_names}

-- one of some numbers is over 1,000,000
abbrev pub some_over : List ℕ → Bool
some_over [] = false
some_over (n ∷ ns) = nat_lt 1_000_000 n || some_over ns

-- one of some names stands among them twice
abbrev pub some_twice : List ℕ → Bool
some_twice [] = false
some_twice (x ∷ xs) = among x xs || some_twice xs

-- one of some names is not among those given
abbrev pub some_missing : List ℕ → List ℕ → Bool
some_missing given [] = false
some_missing given (x ∷ xs) = not (among x given) || some_missing given xs

-- the brackets open behind a letter or bracket, where d are open before it
abbrev pub after : ℕ → Piece → ℕ
after d p = cond (is_open p.letter) (suc d) (cond (is_close p.letter) (pred d) d)

-- where d brackets are open, none closes that is not open, and none stays open
abbrev pub nests : ℕ → List Piece → Bool
nests d [] = d == 0
nests d (p ∷ ps) = not (is_close p.letter && d == 0) && nests (after d p) ps

-- the most brackets that are ever open, where d are open before
abbrev pub deepest : ℕ → List Piece → ℕ
deepest d [] = d
deepest d (p ∷ ps) = max d (deepest (after d p) ps)

-- the number of the first thing that is wrong with a rule, or else n
abbrev pub wrong : Rule → ℕ → ℕ
wrong u n =
    cond (not (nat_le 1 u.number && nat_le u.number 999)) 3
    (cond (some_over (each numbers (expressions u))) 4
    (cond (some_twice (given_names u) || some_missing (given_names u) (each names (expressions u))) 5
    (cond (not (nests 0 u.successor)) 6
    (cond (nat_lt 24 (length u.successor)) 7 n))))
