-- One turn: what is still to tell stays the same.
use Rattle.std.proofs.Common.{◌≡◌, ℕ, List, [], ◌∷◌, ◌++◌, map, drop, None, sym, ap, ◌∙◌}
use Rattle.word.specs.declared.module.Module.{Module}
use Rattle.word.specs.Symbols.{Symbol}
use Rattle.word.specs.Words.{Ending, Meaning}
use Rattle.word.specs.Records.{symbol_of}
use Rattle.books.specs.declared.closed_book.ClosedBook.{ClosedBook}
use Rattle.books.specs.Kinds.{closed_book}
use Rattle.generation.specs.declared.rewriter.Rewriter.{Rewriter}
use Rattle.generation.specs.Generations.{Part, adds, stops}
use Rattle.generation.specs.Stream.{turn, streamed}
use Rattle.generation.specs.Tables.{table}
use Rattle.generation.specs.Windows.{in_window, flow}
use Rattle.generation.specs.Rewriting.{pending, telling, in_all, left_in, Turned}
use Rattle.generation.proofs.Turning.{turn_adds, turn_stops}

module _ (b : ClosedBook) (r r' : Rewriter) (m : Meaning) (x : Module) (rest : List Module) (none : pending r ≡ []) (no_fault : r.fault ≡ None) (hand : in_window r.window ≡ x ∷ rest) where
  abbrev pub come : List Symbol
  come = map symbol_of rest ++ m.told.modules

  abbrev end : Ending
  end = m.told.ending

  abbrev d : ℕ
  d = r.window.first.brackets

  -- the part of the module in hand
  abbrev pub its_part : Part
  its_part = turn (closed_book b) m.generation end r.produced r.place d (table r.lefts d) (symbol_of x) come

  before : left_in b r m ≡ in_all m.generation r.opened.brackets [] (streamed (closed_book b) m.generation end r.produced r.place d (table r.lefts) (symbol_of x ∷ come))
  before = λ k.
      in_all m.generation r.opened.brackets (none k)
      (telling (no_fault k) b m.generation (record { modules = map symbol_of (hand k) ++ m.told.modules; ending = end }) r.produced r.place d (table r.lefts))

  pub turned_on : (p : Part) → its_part ≡ p → Turned b r x p r' → left_in b r' m ≡ left_in b r m
  turned_on (stops f) e (fault-is, pends, opens, windows, numbers) =
      (λ k.
      in_all m.generation (opens k).brackets ((pends ∙ none) k)
      (telling (fault-is k) b m.generation (flow r'.window m) r'.produced r'.place r'.window.first.brackets (table r'.lefts)))
      ∙ ap (in_all m.generation r.opened.brackets []) (sym (turn_stops (closed_book b) m.generation end r.produced r.place d (table r.lefts) (symbol_of x) come f e))
      ∙ sym before
  turned_on (adds v) e p =
      (λ k.
      in_all m.generation (p.opened_stays k).brackets (p.now_pending k)
      (telling ((p.fault_stays ∙ no_fault) k) b m.generation (flows k) (p.made k) (p.onwards k) (p.deeper k) (p.noted k)))
      ∙ ap (in_all m.generation r.opened.brackets []) (sym (turn_adds (closed_book b) m.generation end r.produced r.place d (table r.lefts) (symbol_of x) come v e))
      ∙ sym before
    where
      tail : (a b : List Module) → x ∷ a ≡ x ∷ b → a ≡ b
      tail a b q = ap (λ (l : List Module). drop 1 l) q

      flows : flow r'.window m ≡ record { modules = come; ending = end }
      flows = λ k. record {
        modules = map symbol_of (tail (in_window r'.window) rest (sym p.popped ∙ hand) k) ++ m.told.modules;
        ending = m.told.ending;
      }
