use Rattle.std.proofs.Common.{length, refl, ap, ◌∙◌, arith}
use Rattle.std.proofs.lemmas.Bool.Decides.{not_from_Decides}
use Rattle.tokens.specs.Readers.{unread}
use Rattle.rules.specs.Records.{pushed}
use Rattle.lines.specs.Records.{letters_in}
use Rattle.lines.proofs.Room.{one_pushed}
use Rattle.lines.proofs.Steps.{refused}
use Rattle.lines.proofs.Ignoring.{no_letter, first_letter, one_letter, room_letters, lost_letter}
use Rattle.lines.proofs.read.letters.Goals as goal

pub returns-in_err-first : goal.returns-in_err-first
returns-in_err-first c =
    rw (refused c.from_residual.result c.from_residual.ensures.1 c.in_err-first.ensures.read.0) (refl, no_letter (unread c.args.reader.now) c.in_err-first.ensures.read.1)

pub returns-in_err-next : goal.returns-in_err-next
returns-in_err-next c =
    let ts = unread c.args.reader.now in
    let t = first_letter c.in_ok-first.first ts (unread c.letter.new.reader) (letters_in c.push.new.self) c.in_ok-first.ensures.read (c.push.ensures ∙ ap (pushed c.in_ok-first.first) c.new-letters.ensures) in
    rw (refused c.from_residual-in_err-next.result c.from_residual-in_err-next.ensures.1 c.in_err-next.ensures.read.0)
    (refl, lost_letter ts (unread c.loop-reader.reader) (letters_in c.loop-reader.letters) (c.loop-reader.invariant ts t) (not_from_Decides c.ended.result c.ended.ensures c.loop-reader-test.true) c.in_err-next.ensures.read.1)

pub loop-reader-preserved : goal.loop-reader-preserved
loop-reader-preserved c ws u =
    let ts = unread c.args.reader.now in
    let us = unread c.loop-reader.reader in
    let bs = letters_in c.loop-reader.letters in
    let t = first_letter c.in_ok-first.first ts (unread c.letter.new.reader) (letters_in c.push.new.self) c.in_ok-first.ensures.read (c.push.ensures ∙ ap (pushed c.in_ok-first.first) c.new-letters.ensures) in
    let r = room_letters ts us bs (c.loop-reader.invariant ts t) in
    let l = c.in_ok-next.ensures.read in
    let h = ap length l.spelt in
    one_letter c.in_ok-next.next ws us (unread c.letter-in-loop-reader.new.reader) bs (letters_in c.push-in-loop-reader.new.self) (c.loop-reader.invariant ws u) l (c.push-in-loop-reader.ensures ∙ one_pushed _ bs (omega arith))
