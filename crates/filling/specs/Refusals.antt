-- The number of each refusal of a job, and the line that it is written with.
use Rattle.std.specs.Prelude.{ℕ}
use Rattle.job.specs.Reading as job
use Rattle.rules.specs.Refusals.{refusal_number}
use Rattle.filling.specs.declared.refusal.JobRefusal.{JobRefusal}
use Rattle.filling.specs.declared.refusal.JobRefusal.TheVariants.{Job, Line}

abbrev pub job_refusal_number : JobRefusal → ℕ
job_refusal_number (Job why) = job.refusal_number why
job_refusal_number (Line why line) = refusal_number why

abbrev pub job_refusal_line : JobRefusal → ℕ
job_refusal_line (Job why) = job.refusal_line why
job_refusal_line (Line why line) = line
