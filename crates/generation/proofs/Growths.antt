-- The worked growths, by computation.
use Rattle.std.proofs.Common.{refl}
use Rattle.generation.specs.Growths.{Growths}

pub growths : Growths
growths = record {
  signal_runs = (refl, refl);
  branches = (refl, refl, refl);
  any_order = (refl, refl, refl, refl, refl, refl);
  left_first = (refl, refl);
  near = refl;
  too_far = refl;
  clean_end = (refl, refl);
  just_deep = refl;
  too_deep = refl;
  by_guard = refl;
  guard_faults = (refl, refl, refl);
  by_names = refl;
  argument_faults = refl;
  passed_up = (refl, refl);
  passed_later = (refl, refl);
  closes_branch = refl;
  from_within = (refl, refl, refl, refl);
  last_number = (refl, refl);
  room = (refl, refl, refl);
}
