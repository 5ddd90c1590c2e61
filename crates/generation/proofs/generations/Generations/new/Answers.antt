use Rattle.books.specs.Kinds.{closed_book}
use Rattle.books.proofs.Tidy.{tidy}
use Rattle.generation.proofs.Lawful.{goes_on}
use Rattle.generation.proofs.generations.Generations.new.Goals as goal

pub invariant_of-generations-clause-goes_on : goal.invariant_of-generations-clause-goes_on
invariant_of-generations-clause-goes_on g c = goes_on (closed_book c.args.book) (tidy c.args.book)
