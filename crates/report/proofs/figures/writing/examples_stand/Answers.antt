use Rattle.std.proofs.Common.{refl}
use Rattle.std.specs.Fmt.{digits}
use Rattle.report.proofs.figures.writing.examples_stand.Goals as goal

pub returns : goal.returns
unfolding digits
returns c = record { at_clean_end = refl; still_open = refl; at_fault = refl }
