use Rattle.std.proofs.Common.{◌≡◌, ◌<◌, ◌≤◌, [], ◌∷◌, length, get_or, None, refl, sym, ap, ◌∙◌, subst, arith, rules}
use Rattle.word.specs.declared.depth.Depth.{Depth}
use Rattle.word.specs.Words.{after}
use Rattle.word.specs.Records.{symbol_of}
use Rattle.word.proofs.Spanning.{span_last}
use Rattle.books.specs.Kinds.{closed_book}
use Rattle.generation.specs.Stream.{passed}
use Rattle.generation.specs.Tables.{table}
use Rattle.generation.specs.Windows.{in_window}
use Rattle.generation.proofs.Copying.{copied}
use Rattle.generation.proofs.Passing.{pops, onwards, may_pass}
use Rattle.generation.proofs.rewriter.Rewriter.copied.Goals as goal

pub note-requires : goal.note-requires
note-requires c =
    let r = c.args.self.now in
    let x = c.in_ok-module.module in
    let is : x ≡ get_or (in_window r.window) 0 x = search rules in
    let some : 0 < length (in_window r.window) = search rules in
    subst (λ (d : Depth). after d.brackets (symbol_of x) ≤ 32) (sym c.first-depth.ensures)
    (span_last r.window.first.brackets (symbol_of x ∷ []) (after r.window.first.brackets (symbol_of x)) (may_pass r.window x is some))

pub returns : goal.returns
returns c =
    let b = c.args.book.now in
    let r = c.args.self.now in
    let x = c.in_ok-module.module in
    let s = symbol_of x in
    let is : x ≡ get_or (in_window r.window) 0 x = search rules in
    let some : 0 < length (in_window r.window) = search rules in
    let no_fault : r.fault ≡ None = search rules in
    let low : r.produced < 16_000_000 = omega (arith, r.few) in
    let popped = pops r.window c.pop.new.self x is some c.pop.result c.pop.ensures.held c.pop.ensures.first in
    copied b r _ x c.requires no_fault low (sym c.stays.ensures ∙ c.if-not-stays.false) refl popped.0 c.pop.ensures.last popped.1
    (c.note.ensures (closed_book b).ignored (sym c.ignores-ignored.ensures) ∙ ap (λ (d : Depth). passed (closed_book b).ignored d.brackets s s (table r.lefts)) c.first-depth.ensures)
    refl (onwards r.place c.min-self.result c.min-self.ensures) refl (ap (λ (d : Depth). d.brackets) c.first-self.ensures) refl
