-- What the answers of the code say of a job.
use Rattle.std.specs.Prelude.{◌≡◌, ℕ, ◌≤◌, true, false, List, Ok, Err, Result}
use Rattle.job.specs.declared.refusal.Refusal.{Refusal}
use Rattle.job.specs.declared.refusal.Refusal.TheVariants.{NoJob}
use Rattle.job.specs.declared.lines.Lines.{Lines}
use Rattle.job.specs.declared.lines.Line.{Line}
use Rattle.job.specs.declared.job.Job.{Job}
use Rattle.job.specs.Jobs.{lines_of, numbered, is_refused, generations_of, seed_text, book_lines}

-- the number of a refusal, and the line that it is written with
abbrev pub refusal_number : Refusal → ℕ
refusal_number NoJob = 58

abbrev pub refusal_line : Refusal → ℕ
refusal_line NoJob = 1

-- the lines still to come, each with its number
abbrev pub to_come : Lines → List (ℕ × List ℕ)
to_come ls = numbered ls.number (lines_of ls.rest.now)

-- a line and its number
abbrev pub line_is : Line → ℕ × List ℕ
line_is line = (line.number, line.text.now)

-- the parts of a job are what its bytes ask for
pub record Asks (bytes : List ℕ) (job : Job) : Type 0 where
  pub generations_are : job.generations ≡ generations_of bytes
  pub few : job.generations ≤ 8
  pub seed_is : job.seed.now ≡ seed_text bytes
  pub book_has : numbered 3 (lines_of job.book.now) ≡ book_lines bytes

-- the bytes are refused by number 58, as line 1
abbrev pub Refuses : List ℕ → Refusal → Type 0
Refuses bytes refusal = (is_refused bytes ≡ true) × (refusal_number refusal ≡ 58) × (refusal_line refusal ≡ 1)

-- the bytes are refused exactly by an `Err`, and else a job is read
abbrev pub Reads : List ℕ → Result Job Refusal → Type 0
Reads bytes (Ok job) = (is_refused bytes ≡ false) × Asks bytes job
Reads bytes (Err refusal) = Refuses bytes refusal
