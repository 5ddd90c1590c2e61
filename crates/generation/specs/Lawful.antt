-- Internal. What a generation has still to tell is lawful in every state, where what the source below means is.
use Rattle.std.specs.Prelude.{◌≡◌, true, drop, Some, None, Option, refl}
use lib.ListN.{length-append, length-map}
use Rattle.std.proofs.Common.{arith, sym, subst}
use Rattle.std.proofs.lemmas.Bool.{le-leb}
use Rattle.word.specs.declared.fault.Fault.{Fault}
use Rattle.word.specs.Words.{Meaning, nested, Lawful}
use Rattle.word.specs.Records.{symbol_of}
use Rattle.word.proofs.Joined.{span_nested, valid_append, all_are}
use Rattle.books.specs.declared.closed_book.ClosedBook.{ClosedBook}
use Rattle.books.specs.Few.{modules_in}
use Rattle.books.specs.Kinds.{closed_book}
use Rattle.generation.specs.declared.rewriter.Rewriter.{Rewriter}
use Rattle.generation.specs.Bounds.{bounded}
use Rattle.generation.specs.Goes.{GoesOn, GoesOnBy}
use Rattle.generation.specs.Tables.{table}
use Rattle.generation.specs.Windows.{in_window, held, flow}
use Rattle.generation.specs.Rewriting.{pending, telling, left_in}

module _ (b : ClosedBook) (goes : GoesOnBy (closed_book b)) (r : Rewriter) (m : Meaning) (joined : r.window.last.brackets ≡ m.opened) (l : Lawful m) where
  -- what flows on nests
  flows_nested : nested r.window.first.brackets (flow r.window m).modules m.told.ending ≡ true
  flows_nested =
      span_nested r.window.first.brackets (held r.window) r.window.last.brackets m.told.modules m.told.ending r.window.joined
      (subst (λ d. nested d m.told.modules m.told.ending ≡ true) (sym joined) l.brackets)

  tells_on : (f : Option Fault) → bounded f ≡ true → GoesOn r.produced r.window.first.brackets (telling f b m.generation (flow r.window m) r.produced r.place r.window.first.brackets (table r.lefts))
  tells_on (Some f) h = record {
    modules = refl;
    brackets = le-leb r.window.first.brackets 32 r.window.first.shallow;
    ending = h;
    few = omega (arith, r.few);
  }
  tells_on None h =
      goes m.generation m.told.ending l.ending r.produced r.place r.window.first.brackets (table r.lefts) (flow r.window m).modules r.few r.inside
      (valid_append (held r.window) m.told.modules (all_are (in_window r.window)) l.modules) flows_nested

pub lawful_in : (b : ClosedBook) → GoesOnBy (closed_book b) → (r : Rewriter) (m : Meaning) → r.window.last.brackets ≡ m.opened → Lawful m → Lawful (left_in b r m)
lawful_in b goes r m joined l =
    let left = drop r.told (modules_in r.growth) in
    let t = telling r.fault b m.generation (flow r.window m) r.produced r.place r.window.first.brackets (table r.lefts) in
    let on : GoesOn r.produced r.window.first.brackets t = tells_on b goes r m joined l r.fault r.bounds in
    record {
      modules = valid_append (pending r) t.modules (all_are left) on.modules;
      brackets = span_nested r.opened.brackets (pending r) r.window.first.brackets t.modules t.ending r.joined on.brackets;
      ending = on.ending;
      few = omega (arith, length-append (pending r) t.modules, length-map left symbol_of, r.counted, on.few);
      shallow = r.opened.shallow;
      generation = omega arith;
    }
