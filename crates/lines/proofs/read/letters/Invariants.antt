use Rattle.std.proofs.Common.{length}
use Rattle.tokens.specs.Readers.{unread}
use Rattle.lines.specs.Records.{letters_in}
use Rattle.lines.proofs.Ignoring.{OnwardLetters}
use Rattle.lines.proofs.read.letters.Given as goal

abbrev pub invariant-loop-reader : goal.invariant-loop-reader
invariant-loop-reader l = OnwardLetters (unread l.initial.reader) (unread l.reader) (letters_in l.initial.letters) (letters_in l.letters)

abbrev pub decreases-loop-reader : goal.decreases-loop-reader
decreases-loop-reader l = length (unread l.reader)
