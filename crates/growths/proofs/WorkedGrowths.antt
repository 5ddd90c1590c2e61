-- The worked growths, by computation and by the crates' own lists.
use Rattle.std.proofs.Common.{◌≡◌, codes, refl}
use Rattle.std.specs.Fmt.{digits}
use Rattle.generation.proofs.Growths.{growths}
use Rattle.expr.proofs.Examples.{examples}
use Rattle.turtle.proofs.Turning.{turning}
use Rattle.sheet.proofs.Recording.{recording}
use Rattle.turtle.specs.Turns.{oriented, reoriented}
use Rattle.report.specs.declared.ending.Ending.TheVariants.{Clean}
use Rattle.walk.specs.Walks.{walk_over}
use Rattle.walk.specs.Walkers.{walk_report}
use Rattle.growths.specs.WorkedGrowths.{twig, WorkedGrowths}

reported : walk_report 5 (walk_over 0 twig) Clean ≡ codes "modules 5\nsegments 2\nlength 3\nbox -1 0 0 2 0 0\ndeepest 1\nend clean\n"
unfolding digits oriented reoriented
reported = refl

pub worked_growths : WorkedGrowths
worked_growths = record {
  generations = growths;
  values = examples;
  pruned = refl;
  turned = (turning.home_left, turning.home_down);
  recorded = recording.three;
  reported = reported;
  too_long = refl;
  too_far = refl;
}
