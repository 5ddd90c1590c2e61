-- THE WORKED GROWTHS, from the rewriting of a word to the record and the report of what it draws.
use Rattle.std.specs.Prelude.{◌≡◌, ℕ, List, [], ◌∷◌, replicate, ℤ, pos, codes, slice_index}
use Prim.Native.String.{String}
use Rattle.word.specs.Symbols.{Symbol}
use Rattle.expr.specs.Examples.{Examples}
use Rattle.generation.specs.Growths.{Growths}
use Rattle.pruner.specs.Pruned.{CutBranch}
use Rattle.turtle.specs.Poses.{stroke}
use Rattle.turtle.specs.Deeds.{breaks, deed}
use Rattle.turtle.specs.Turns.{reoriented}
use Rattle.turtle.specs.declared.turn.Turn.TheVariants.{Left, Down}
use Rattle.sheet.specs.Records.{record_of}
use Rattle.report.specs.declared.ending.Ending.TheVariants.{Clean}
use Rattle.walk.specs.Walks.{walk_over}
use Rattle.walk.specs.Walkers.{walk_report}

-- a letter or a bracket with its parameters
abbrev pub one : String → List ℤ → Symbol
one text params = record { letter = slice_index (codes text) 0; params = params }

-- F(2)[+F]
abbrev pub twig : List Symbol
twig = one "F" (pos 2 ∷ []) ∷ one "[" [] ∷ one "+" [] ∷ one "F" [] ∷ one "]" [] ∷ []

-- F(4095), so many times
abbrev pub straight : ℕ → List Symbol
straight n = replicate n (one "F" (pos 4_095 ∷ []))

pub record WorkedGrowths : Type 0 where
  -- the signal past a branch and its second generation; the right neighbour past a branch, and none out of it; the winner in all six
  -- load orders; 63 and 64 ignored letters; 32 and 31 brackets; and what these leave untouched
  pub generations : Growths
  -- −7/2 is −3, 1001*1000 is fault 32, and others
  pub values : Examples
  -- A[B%C[D]E]F pruned is A[B]F
  pub pruned : CutBranch
  -- orientation 9 becomes 5 by `+`, and 21 by `&`
  pub turned : (reoriented Left 9 ≡ 5) × (reoriented Down 9 ≡ 21)
  -- the record of F(3) from home
  pub recorded : record_of (stroke (pos 0) (pos 0) (pos 0) 2 3) ≡ 0 ∷ 0 ∷ 0 ∷ 0 ∷ 0 ∷ 0 ∷ 0x40 ∷ 0x06 ∷ []
  -- the report of F(2)[+F]
  pub reported : walk_report 5 (walk_over 0 twig) Clean ≡ codes "modules 5\nsegments 2\nlength 3\nbox -1 0 0 2 0 0\ndeepest 1\nend clean\n"
  -- F(4096) is too long; F(4095) straight on is too far at the eighth
  pub too_long : deed (one "F" (pos 4_096 ∷ [])) (walk_over 0 []).turtle.stance ≡ breaks 41
  pub too_far : deed (one "F" (pos 4_095 ∷ [])) (walk_over 0 (straight 7)).turtle.stance ≡ breaks 42
