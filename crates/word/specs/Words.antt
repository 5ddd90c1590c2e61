-- Told words, depth by position, what a source of modules means, and the law of every source.
use Rattle.std.specs.Prelude.{◌≡◌, ℕ, zero, suc, pred, ◌≤◌, Bool, true, cond, not, ◌&&◌, List, [], ◌∷◌, length, ◌==◌, nat_le}
use Rattle.word.specs.declared.fault.Fault.{Fault}
use Rattle.word.specs.Symbols.{Symbol, is_open, is_close, valid}

-- how a word ends: clean, or in a fault
pub data Ending : Type 0 where
  clean : Ending
  broken : Fault → Ending

-- a told word: modules, and how they end
pub record Told : Type 0 where
  pub modules : List Symbol
  pub ending : Ending

-- the brackets open after a module, where d are open before it
abbrev pub after : ℕ → Symbol → ℕ
after d s = cond (is_open s.letter) (suc d) (cond (is_close s.letter) (pred d) d)

-- a module may stand where d brackets are open: no `]` where none is open, and no `[` where 32 are
abbrev pub may_stand : ℕ → Symbol → Bool
may_stand d s = not (is_close s.letter && d == 0) && not (is_open s.letter && nat_le 32 d)

-- the depth of position t: the brackets open before it, where d are open before the word
abbrev pub depth : ℕ → List Symbol → ℕ → ℕ
depth d w zero = d
depth d [] (suc t) = d
depth d (s ∷ w) (suc t) = depth (after d s) w t

-- what a source means: the word still to come, the brackets open now, the generation number
pub record Meaning : Type 0 where
  pub told : Told
  pub opened : ℕ
  pub generation : ℕ

abbrev pub all_valid : List Symbol → Bool
all_valid [] = true
all_valid (s ∷ w) = valid s && all_valid w

-- with d brackets open: never more than 32, no `]` where none is open, and none open at a clean end
abbrev pub nested : ℕ → List Symbol → Ending → Bool
nested d [] clean = d == 0
nested d [] (broken f) = nat_le d 32
nested d (s ∷ w) e = nat_le d 32 && (not (is_close s.letter && d == 0) && nested (after d s) w e)

-- a fault's cause and generation number lie in 0 to 255, its place in 1 to 16,000,001
abbrev pub in_bounds : Ending → Bool
in_bounds clean = true
in_bounds (broken f) = nat_le f.cause 255 && (nat_le f.generation 255 && (nat_le 1 f.place && nat_le f.place 16_000_001))

-- the law of every source, in every state
pub record Lawful (m : Meaning) : Type 0 where
  pub modules : all_valid m.told.modules ≡ true
  pub brackets : nested m.opened m.told.modules m.told.ending ≡ true
  pub ending : in_bounds m.told.ending ≡ true
  pub few : length m.told.modules ≤ 16_000_000
  pub shallow : m.opened ≤ 32
  pub generation : m.generation ≤ 255
