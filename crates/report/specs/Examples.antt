-- Some reports.
use Rattle.std.specs.Prelude.{◌≡◌, ℤ, pos, negsuc, true, refl, Some, None, codes}
use Rattle.turtle.specs.Poses.{all_in_bounds}
use Rattle.turtle.specs.Vectors.{vec}
use Rattle.turtle.specs.declared.place.Place.{Place}
use Rattle.word.specs.declared.fault.Fault.{Fault}
use Rattle.report.specs.Report.{report_text}
use Rattle.report.specs.declared.bounds.Bounds.{Bounds}
use Rattle.report.specs.declared.ending.Ending.TheVariants.{Open, Clean, Broken}
use Rattle.report.specs.declared.figures.Figures.{Figures}

abbrev pub place : (x y z : ℤ) → all_in_bounds (vec x y z) ≡ true → Place
place x y z near = record { x = x; y = y; z = z; near = near }

-- x from -1 to 0, y from 0 to 2
abbrev pub corner : Bounds
corner = record { least = place (negsuc 0) (pos 0) (pos 0) refl; greatest = place (pos 0) (pos 2) (pos 0) refl }

-- from corner to corner
abbrev pub everywhere : Bounds
everywhere =
    record {
      least = place (negsuc 29_999) (negsuc 29_998) (negsuc 29_997) refl;
      greatest = place (pos 30_000) (pos 29_999) (pos 29_998) refl;
    }

abbrev pub fault : Fault
fault = record { cause = 42; generation = 3; place = 17 }

abbrev pub walked : Figures
walked = record { modules = 5; segments = 2; length = 3; bounds = Some corner; deepest = 1; ending = Clean }

abbrev pub begun : Figures
begun = record { modules = 0; segments = 0; length = 0; bounds = None; deepest = 0; ending = Open }

abbrev pub stopped : Figures
stopped =
    record { modules = 16; segments = 3; length = 12_285; bounds = Some everywhere; deepest = 32; ending = Broken fault }

pub record Examples : Type 0 where
  pub at_clean_end : report_text walked ≡ codes "modules 5\nsegments 2\nlength 3\nbox -1 0 0 2 0 0\ndeepest 1\nend clean\n"
  pub still_open : report_text begun ≡ codes "modules 0\nsegments 0\nlength 0\nbox none\ndeepest 0\nend open\n"
  pub at_fault :
      report_text stopped
      ≡ codes "modules 16\nsegments 3\nlength 12285\nbox -30000 30000 -29999 29999 -29998 29998\ndeepest 32\nend fault 42 3 17\n"
