-- A module that stays as it is.
use Rattle.std.proofs.Common.{◌≡◌, ℕ, ◌+◌, ◌<◌, Bool, true, false, cond, not, ◌||◌, leb, List, [], ◌∷◌, ◌++◌, map, length, None, Option, sym, refl, ap, ◌∙◌, subst, arith, le-leb}
use Rattle.std.proofs.lemmas.Bool.{and_parts, eqb-true, true≢false}
use Rattle.word.specs.declared.module.Module.{Module}
use Rattle.word.specs.Symbols.{Symbol, is_bracket}
use Rattle.word.specs.Words.{Ending, Told, Meaning, after}
use Rattle.word.specs.Records.{symbol_of, Tells}
use Rattle.word.specs.Spans.{spans}
use Rattle.book.specs.Books.{Book}
use Rattle.books.specs.declared.closed_book.ClosedBook.{ClosedBook}
use Rattle.books.specs.Ahead.{looks_ahead}
use Rattle.books.specs.Kinds.{closed_book}
use Rattle.books.specs.Ruled.{has_rule}
use Rattle.books.proofs.Ruled.{none_ahead, stays_itself}
use Rattle.generation.specs.declared.rewriter.Rewriter.{Rewriter}
use Rattle.generation.specs.Generations.{adds, stops, found, added, worked}
use Rattle.generation.specs.Stream.{scan, passed, onward, turn_with, turn_by, turn, streamed}
use Rattle.generation.specs.Tables.{table}
use Rattle.generation.specs.Windows.{in_window, flow}
use Rattle.generation.specs.Rewriting.{pending, telling, left_in}
use Rattle.generation.specs.Writing.{to_come, Copied}
use Rattle.generation.proofs.Turning.{turn_adds}

-- there is room for one module more
one_added : (g n i : ℕ) (s : Symbol) → n < 16_000_000 → added g n i (s ∷ []) ≡ adds (s ∷ [])
one_added g n i s h = ap (λ (b : Bool). cond b (adds (s ∷ [])) (stops (found g i 34))) (le-leb (n + 1) 16_000_000 (omega arith))

-- the outcome of a module that stays as it is
module _ (b : Book) (g : ℕ) (e : Ending) (n i d : ℕ) (l : Option Symbol) (s : Symbol) (w : List Symbol) (low : n < 16_000_000) where
  pub stays_part : (is_bracket s.letter || not (has_rule s.letter b.rules)) ≡ true → turn b g e n i d l s w ≡ adds (s ∷ [])
  stays_part h = go (is_bracket s.letter) (has_rule s.letter b.rules) refl h
    where
      go : (t u : Bool) → has_rule s.letter b.rules ≡ u → (t || not u) ≡ true → cond t (added g n i (s ∷ [])) (cond (looks_ahead s b.rules) (turn_by b g e n i d l s (scan b.ignored 64 0 w)) (turn_with b g e n i d l s None)) ≡ adds (s ∷ [])
      go true u r h = one_added g n i s low
      go false true r h = absurd (true≢false (sym h))
      go false false r h =
          (λ k. cond (none_ahead s b.rules r k) (turn_by b g e n i d l s (scan b.ignored 64 0 w)) (worked g n i d s (stays_itself s l None b.rules r k)))
          ∙ one_added g n i s low

-- The module x in hand of r is passed over, and r' is what is left.
module _ (b : ClosedBook) (r r' : Rewriter) (x : Module) (none : pending r ≡ []) (no_fault : r.fault ≡ None) (low : r.produced < 16_000_000) (stays : (is_bracket x.letter || not (has_rule x.letter (closed_book b).rules)) ≡ true)
    (number : r'.generation ≡ r.generation) (popped : in_window r.window ≡ x ∷ in_window r'.window) (last : r'.window.last ≡ r.window.last)
    (deeper : r'.window.first.brackets ≡ after r.window.first.brackets (symbol_of x))
    (noted : table r'.lefts ≡ passed (closed_book b).ignored r.window.first.brackets (symbol_of x) (symbol_of x) (table r.lefts))
    (made : r'.produced ≡ r.produced + 1) (on : r'.place ≡ onward r.place) (left : pending r' ≡ pending r) (opened : r'.opened.brackets ≡ r'.window.first.brackets) (faultless : r'.fault ≡ r.fault) where
  -- where nothing is pending, as many brackets are open as before the window
  level : r.opened.brackets ≡ r.window.first.brackets
  level = eqb-true r.opened.brackets r.window.first.brackets (and_parts (leb r.opened.brackets 32) _ (subst (λ (l : List Symbol). spans r.opened.brackets l r.window.first.brackets ≡ true) none r.joined)).1

  module _ (m : Meaning) where
    abbrev rest : Told
    rest = streamed (closed_book b) m.generation m.told.ending (r.produced + 1) (onward r.place) (after r.window.first.brackets (symbol_of x)) (passed (closed_book b).ignored r.window.first.brackets (symbol_of x) (symbol_of x) (table r.lefts)) (map symbol_of (in_window r'.window) ++ m.told.modules)

    before : telling r.fault b m.generation (flow r.window m) r.produced r.place r.window.first.brackets (table r.lefts) ≡ record { modules = symbol_of x ∷ rest.modules; ending = rest.ending }
    before =
        (λ k. telling (no_fault k) b m.generation (record { modules = map symbol_of (popped k) ++ m.told.modules; ending = m.told.ending }) r.produced r.place r.window.first.brackets (table r.lefts))
        ∙ turn_adds (closed_book b) m.generation m.told.ending r.produced r.place r.window.first.brackets (table r.lefts) (symbol_of x) (map symbol_of (in_window r'.window) ++ m.told.modules) (symbol_of x ∷ [])
        (stays_part (closed_book b) m.generation m.told.ending r.produced r.place r.window.first.brackets (table r.lefts r.window.first.brackets) (symbol_of x) (map symbol_of (in_window r'.window) ++ m.told.modules) low stays)

    behind : telling r'.fault b m.generation (flow r'.window m) r'.produced r'.place r'.window.first.brackets (table r'.lefts) ≡ rest
    behind = λ k. telling ((faultless ∙ no_fault) k) b m.generation (flow r'.window m) (made k) (on k) (deeper k) (noted k)

    copy_told : Tells (left_in b r m) (symbol_of x ∷ []) (left_in b r' m)
    copy_told = record {
      modules = (λ k. none k ++ (before k).modules) ∙ sym (λ k. symbol_of x ∷ ((left ∙ none) k ++ (behind k).modules));
      ending = ap (λ (t : Told). t.ending) behind ∙ sym (ap (λ (t : Told). t.ending) before);
      opened = opened ∙ deeper ∙ ap (λ d. after d (symbol_of x)) (sym level);
      generation = refl;
    }

  pub copied : Copied b r x r'
  copied = record {
    steady = (last, number);
    fewer = omega (arith, ap length popped, ap to_come faultless);
    none_pending = left ∙ none;
    told = λ m h. copy_told m;
  }
