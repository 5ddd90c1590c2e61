-- Internal: what a pruner in each of its states has still to tell, module by module. `Pruned` says what this comes to.
use Rattle.std.specs.Prelude.{◌≡◌, ℕ, ◌≤◌, min, Bool, true, false, cond, List, [], ◌∷◌, length, map, take, drop, Some, None, Option, nat_le}
use Rattle.word.specs.declared.module.Module.{Module}
use Rattle.word.specs.Symbols.{Symbol}
use Rattle.word.specs.Words.{Meaning, after}
use Rattle.word.specs.Records.{symbol_of}
use Rattle.pruner.specs.declared.state.State.{State}
use Rattle.pruner.specs.declared.state.State.TheVariants.{Passing, Dropping}
use Rattle.pruner.specs.Pruned.{is_cut}

-- the module s, before which d brackets are open, is dropped
abbrev pub drops : State → ℕ → Symbol → Bool
drops Passing d s = is_cut s.letter
drops (Dropping c) d s = nat_le c (min d (after d s))

-- the state after a module that is dropped
abbrev pub falls : State → ℕ → State
falls Passing d = Dropping d
falls (Dropping c) d = Dropping c

-- a module that is dropped has a state behind it; one that is passed on has none
abbrev pub BehindDropped : State → ℕ → Symbol → Option State → Type 0
BehindDropped q d s (Some q') = (drops q d s ≡ true) × (q' ≡ falls q d)
BehindDropped q d s None = drops q d s ≡ false

-- the state after a module, dropped or not
abbrev pub steps : State → ℕ → Symbol → State
steps q d s = cond (drops q d s) (falls q d) Passing

-- the state after some modules
abbrev pub goes : State → ℕ → List Symbol → State
goes q d [] = q
goes q d (s ∷ w) = goes (steps q d s) (after d s) w

abbrev pub streamed : State → ℕ → List Symbol → List Symbol
streamed q d [] = []
streamed q d (s ∷ w) = cond (drops q d s) (streamed (falls q d) (after d s) w) (s ∷ streamed Passing (after d s) w)

-- the brackets open in what was passed on
abbrev pub open_in : State → ℕ → ℕ
open_in Passing d = d
open_in (Dropping c) d = min c d

abbrev pub left_in : State → Meaning → Meaning
left_in q m = record {
  told = record { modules = streamed q m.opened m.told.modules; ending = m.told.ending };
  opened = open_in q m.opened;
  generation = m.generation;
}

-- Modules are sifted into the first of some places: those that are passed on, so many, and the state behind all of them. The
-- places behind hold what they held.
pub record Sifts (q : State) (d : ℕ) (w : List Module) (places : List Module) (n : ℕ) (places' : List Module) (q' : State) : Type 0 where
  pub kept : map symbol_of (take n places') ≡ streamed q d (map symbol_of w)
  pub fits : n ≤ length w
  pub behind : drop n places' ≡ drop n places
  pub state : q' ≡ goes q d (map symbol_of w)
