use Rattle.word.specs.Records.{symbol_of}
use Rattle.generation.proofs.Turning.{shown_none}
use Rattle.generation.proofs.lefts.Lefts.new.Goals as goal

pub returns : goal.returns
returns c = shown_none symbol_of 33
