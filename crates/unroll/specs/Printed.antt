-- What is printed for a job, by what it asks for.
use Rattle.std.specs.Prelude.{ℕ, List, ◌++◌, Ok, Err, Result, codes, decimal}
use Rattle.text.specs.Told.{on_a_line, told_text}
use Rattle.seed.specs.Seeds.{seeded}
use Rattle.pile.specs.Piles.{piled}
use Rattle.books.specs.Kinds.{closed_book}
use Rattle.filling.specs.declared.order.Order.{Order}
use Rattle.filling.specs.declared.refusal.JobRefusal.{JobRefusal}
use Rattle.filling.specs.Refusals.{job_refusal_number, job_refusal_line}

-- a refusal by its number and line, or the word that the generations of the seed come to, pruned
abbrev pub answer_text : Result Order JobRefusal → List ℕ
answer_text (Err why) = on_a_line (codes "refused " ++ (decimal (job_refusal_number why) ++ (codes " line " ++ decimal (job_refusal_line why))))
answer_text (Ok order) = told_text (piled order.generations (closed_book order.book) (seeded order.seed.now)).told
