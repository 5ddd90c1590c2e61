-- What some modules have the turtle do.
use Rattle.std.specs.Prelude.{◌≡◌, List, [], ◌∷◌, ℤ, pos, negsuc, codes, slice_index}
use Prim.Native.String.{String}
use Rattle.word.specs.Symbols.{Symbol}
use Rattle.turtle.specs.Poses.{Stance, stance, home, stroke}
use Rattle.turtle.specs.Deeds.{goes, draws, breaks, deed}

abbrev pub letter : String → List ℤ → Symbol
letter t ns = record { letter = slice_index (codes t) 0; params = ns }

-- at the greatest y, +y ahead
abbrev pub edge : Stance
edge = stance (pos 0) (pos 30_000) (pos 0) 9

pub record Deeds : Type 0 where
  pub three : deed (letter "F" (pos 3 ∷ [])) home ≡ draws (stroke (pos 0) (pos 0) (pos 0) 2 3) (stance (pos 0) (pos 3) (pos 0) 9)
  pub one : deed (letter "F" []) home ≡ draws (stroke (pos 0) (pos 0) (pos 0) 2 1) (stance (pos 0) (pos 1) (pos 0) 9)
  pub blank : deed (letter "f" (pos 3 ∷ [])) home ≡ goes (stance (pos 0) (pos 3) (pos 0) 9)
  pub none : deed (letter "F" (pos 0 ∷ [])) edge ≡ goes edge
  pub longest : deed (letter "f" (pos 4_095 ∷ [])) home ≡ goes (stance (pos 0) (pos 4_095) (pos 0) 9)
  pub too_long : deed (letter "F" (pos 4_096 ∷ [])) home ≡ breaks 41
  pub backward : deed (letter "f" (negsuc 0 ∷ [])) home ≡ breaks 41
  pub too_far : deed (letter "F" (pos 1 ∷ [])) edge ≡ breaks 42
  pub long_first : deed (letter "F" (pos 4_096 ∷ [])) edge ≡ breaks 41
  pub left : deed (letter "+" (pos 7 ∷ [])) home ≡ goes (stance (pos 0) (pos 0) (pos 0) 5)
  pub down : deed (letter "&" []) home ≡ goes (stance (pos 0) (pos 0) (pos 0) 21)
  pub other : deed (letter "A" (pos 7 ∷ [])) home ≡ goes home
