use Rattle.std.proofs.Common.{◌+◌, ◌≤◌, sym, refl, ap, ◌∙◌, subst}
use lib.ListN.{length-map}
use Rattle.word.specs.declared.depth.Depth.{Depth}
use Rattle.word.specs.Words.{after}
use Rattle.word.specs.Records.{symbol_of}
use Rattle.books.specs.Few.{modules_in, symbols_in}
use Rattle.books.specs.Kinds.{closed_book}
use Rattle.generation.specs.Stream.{passed}
use Rattle.generation.specs.Tables.{table}
use Rattle.word.proofs.Spanning.{span_last}
use Rattle.generation.proofs.Passing.{pops, onwards}
use Rattle.generation.proofs.rewriter.Rewriter.pass.Goals as goal

pub note-requires : goal.note-requires
note-requires c =
    let r = c.args.self.now in
    let s = symbol_of c.args.symbol in
    let behind = span_last r.opened.brackets (symbols_in c.args.self.now.growth) (after r.window.first.brackets s) c.requires.leads in
    subst (λ (d : Depth). after d.brackets s ≤ 32) (sym c.first-depth.ensures) behind

pub returns : goal.returns
returns c =
    let r = c.args.self.now in
    let x = c.args.symbol in
    let b = c.args.book.now in
    let popped = pops r.window c.pop.new.self x c.requires.first c.requires.some c.pop.result c.pop.ensures.held c.pop.ensures.first in
    record {
      generation_stays = refl;
      popped = popped.0;
      deeper = popped.1;
      last_stays = c.pop.ensures.last;
      noted =
          c.note.ensures (closed_book b).ignored (sym c.ignores-ignored.ensures)
          ∙ ap (λ (d : Depth). passed (closed_book b).ignored d.brackets (symbol_of x) (symbol_of x) (table r.lefts)) c.first-depth.ensures;
      made = ap (λ n. r.produced + n) (c.len.ensures ∙ sym (length-map (modules_in c.args.self.now.growth) symbol_of));
      onwards = onwards r.place c.min-self.result c.min-self.ensures;
      now_pending = refl;
      opened_stays = refl;
      fault_stays = refl;
    }
