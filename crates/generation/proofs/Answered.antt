-- An answer to a part that is another part too.
use Rattle.std.proofs.Common.{◌≡◌, ℕ, List, Ok, Err, Result, ◌∙◌}
use Rattle.word.specs.declared.fault.Fault.{Fault}
use Rattle.word.specs.Symbols.{Symbol}
use Rattle.generation.specs.Generations.{Part}
use Rattle.generation.specs.Rewriting.{Answers}

pub answers_as : (n d e : ℕ) (p q : Part) (r : Result (Unit {0}) Fault) (w : List Symbol) → p ≡ q → Answers n d e q r w → Answers n d e p r w
answers_as n d e p q (Ok u) w s a = (s ∙ a.0, a.1, a.2)
answers_as n d e p q (Err f) w s a = (s ∙ a.0, a.1)
