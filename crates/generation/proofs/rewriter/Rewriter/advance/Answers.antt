use Rattle.std.proofs.Common.{◌≡◌, ◌<◌, length, get_or, None, rules}
use Rattle.word.specs.Records.{symbol_of}
use Rattle.generation.specs.Windows.{in_window}
use Rattle.generation.specs.Rewriting.{part_of}
use Rattle.generation.proofs.Drawing.{turned_keeps, same_left, fewer}
use Rattle.generation.proofs.rewriter.Rewriter.advance.Goals as goal

pub returns : goal.returns
returns c =
    let b = c.args.book.now in
    let r = c.args.self.now in
    let v = c.turn.new.self in
    let x = c.in-Some-copied.module in
    let y = c.in-Some-seek.right in
    let is : x ≡ get_or (in_window r.window) 0 x = search rules in
    let some : 0 < length (in_window r.window) = search rules in
    let no_fault : r.fault ≡ None = search rules in
    let keeps = turned_keeps b r x (part_of b r (symbol_of x) y) v c.turn.ensures in
    let part = c.in-Some-seek.ensures in (
      keeps,
      fewer b r v c.requires.none no_fault x is some y c.turn.ensures,
      λ m fits number. same_left b r v c.requires.none no_fault x is some y c.turn.ensures m (λ w e. part.1 m fits number w e),
    )
