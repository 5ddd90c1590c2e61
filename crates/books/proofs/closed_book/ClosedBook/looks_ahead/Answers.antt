use Rattle.std.proofs.Common.{◌≡◌, ◌≤◌, [], ◌∷◌, length, ◌∙◌, ap, arith, length-take}
use Rattle.std.specs.List.{list_any}
use Rattle.std.proofs.lemmas.Bool.{and_parts}
use Rattle.word.specs.Symbols.{may_have}
use Rattle.word.specs.Records.{symbol_of}
use Rattle.books.specs.Index.{looks_for}
use Rattle.books.specs.Stored.{code_held, listed}
use Rattle.books.proofs.Ahead.{all_ahead}
use Rattle.books.proofs.Growing.{few}
use Rattle.books.proofs.closed_book.ClosedBook.looks_ahead.Goals as goal

pub returns : goal.returns
returns c =
    let s = c.args.self.now in
    let m = c.args.symbol in
    let rs = listed s.contents.rules in
    let low : m.count ≤ 3 = few m.letter m.count (and_parts (may_have m.letter m.count) _ m.ok).0 in
    let many : m.count ≡ length (symbol_of m).params = omega (arith, length-take m.count (m.a ∷ m.b ∷ m.c ∷ [])) in
    c.looks_ahead.ensures
    ∙ s.aheads m.letter m.count (omega arith) (omega arith)
    ∙ ap (λ n. list_any (looks_for m.letter n) rs) many
    ∙ all_ahead (code_held s.contents.code) (symbol_of m) rs
