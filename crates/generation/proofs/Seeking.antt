-- What is found on the right of the module in hand decides its part.
use Rattle.std.proofs.Common.{◌≡◌, Bool, true, false, cond, not, ◌||◌, List, [], ◌∷◌, drop, Some, None, Ok, Err, Option, Result, inl, inr, sym, refl, ap, ◌∙◌, subst}
use Rattle.std.proofs.lemmas.Bool.{cond-true, cond-false, true≢false}
use Rattle.word.specs.declared.fault.Fault.{Fault}
use Rattle.word.specs.declared.module.Module.{Module}
use Rattle.word.specs.Symbols.{Symbol, is_bracket}
use Rattle.word.specs.Words.{Ending, Meaning}
use Rattle.books.specs.declared.closed_book.ClosedBook.{ClosedBook}
use Rattle.books.specs.Ahead.{looks_ahead}
use Rattle.books.specs.Kinds.{closed_book}
use Rattle.generation.specs.declared.rewriter.Rewriter.{Rewriter}
use Rattle.generation.specs.Generations.{Part, stops, found, added}
use Rattle.generation.specs.Stream.{Look, ended, scan, turn_with, turn_by, turn}
use Rattle.generation.specs.Tables.{table}
use Rattle.generation.specs.Windows.{flow}
use Rattle.generation.specs.Looking.{Looks}
use Rattle.generation.specs.declared.beyond.Beyond.{Beyond}
use Rattle.generation.specs.Writing.{Sees, Seeks}
use Rattle.generation.specs.Rewriting.{with_right, by_right, part_of, part_in}

module _ (b : ClosedBook) (r : Rewriter) (s : Symbol) where
  abbrev by : Ending → Look → Part
  by e l = turn_by (closed_book b) r.generation e r.produced r.place r.window.first.brackets (table r.lefts r.window.first.brackets) s l

  -- a look ahead comes to what its answer says
  pub looked_to : (l : Look) (e : Ending) (x : Result (Option Module) Fault) → Looks (found r.generation r.place 30) l e x → by_right b r s x ≡ by e l
  looked_to l e (Ok (Some x)) h = sym (ap (by e) h)
  looked_to l e (Ok None) (inl h) = sym (ap (by e) h)
  looked_to l e (Ok None) (inr h) = sym (ap (by e) h.0 ∙ ap (λ (k : Ending). by k ended) h.1)
  looked_to l e (Err f) (inl h) = ap stops h.1 ∙ sym (ap (by e) h.0)
  looked_to l e (Err f) (inr h) = sym (ap (by e) h.0 ∙ ap (λ (k : Ending). by k ended) h.1)

-- the part of a module that looks ahead
pub sought
    : (b : ClosedBook) (r : Rewriter) (m : Meaning) (s : Symbol) (w : List Symbol) (x : Result (Option Module) Fault)
    → is_bracket s.letter ≡ false
    → looks_ahead s (closed_book b).rules ≡ true
    → Looks (found r.generation r.place 30) (scan (closed_book b).ignored 64 0 w) (flow r.window m).ending x
    → r.generation ≡ m.generation
    → part_of b r s x ≡ part_in b r m s w
sought b r m s w x plain ahead h same =
    let e = (flow r.window m).ending in
    let l = scan (closed_book b).ignored 64 0 w in
    let g = r.generation in
    let left = table r.lefts r.window.first.brackets in
    let with_none = turn_with (closed_book b) g e r.produced r.place r.window.first.brackets left s None in
    cond-false (is_bracket s.letter) (added g r.produced r.place (s ∷ [])) (by_right b r s x) plain
    ∙ looked_to b r s l e x h
    ∙ sym (cond-true (looks_ahead s (closed_book b).rules) (by b r s e l) with_none ahead)
    ∙ sym (cond-false (is_bracket s.letter) (added g r.produced r.place (s ∷ [])) (cond (looks_ahead s (closed_book b).rules) (by b r s e l) with_none) plain)
    ∙ ap (λ k. turn (closed_book b) k e r.produced r.place r.window.first.brackets left s w) same

-- what stands behind the module in hand was looked at
pub sought_in
    : (b : ClosedBook) (r : Rewriter) (m : Meaning) (s : Symbol) (w : List Symbol) (y : Result (Option Module) Fault)
    → is_bracket s.letter ≡ false
    → looks_ahead s (closed_book b).rules ≡ true
    → Looks (found r.generation r.place 30) (scan (closed_book b).ignored 64 0 (drop 1 (flow r.window m).modules)) m.told.ending y
    → r.generation ≡ m.generation
    → (flow r.window m).modules ≡ s ∷ w
    → part_of b r s y ≡ part_in b r m s w
sought_in b r m s w y plain ahead looks number e =
    sought b r m s w y plain ahead
    (subst (λ (l : List Symbol). Looks (found r.generation r.place 30) (scan (closed_book b).ignored 64 0 l) m.told.ending y) (ap (drop 1) e) looks)
    number

-- a module that does not look ahead: what stands behind it plays no part
pub unsought
    : (b : ClosedBook) (r : Rewriter) (m : Meaning) (s : Symbol) (w : List Symbol)
    → (is_bracket s.letter || not (looks_ahead s (closed_book b).rules)) ≡ true
    → r.generation ≡ m.generation
    → part_of b r s (Ok None) ≡ part_in b r m s w
unsought b r m s w blind number =
    go (is_bracket s.letter) (looks_ahead s (closed_book b).rules) blind
    ∙ ap (λ k. turn (closed_book b) k m.told.ending r.produced r.place r.window.first.brackets (table r.lefts r.window.first.brackets) s w) number
  where
    go : (t a : Bool) → (t || not a) ≡ true → cond t (added r.generation r.produced r.place (s ∷ [])) (with_right b r s None) ≡ cond t (added r.generation r.produced r.place (s ∷ [])) (cond a (by b r s m.told.ending (scan (closed_book b).ignored 64 0 w)) (with_right b r s None))
    go true a h = refl
    go false true h = absurd (true≢false (sym h))
    go false false h = refl

-- what a look sees is what is sought
pub seen_sought
    : (b : ClosedBook) (r : Rewriter) (s : Symbol) (x : Beyond)
    → is_bracket s.letter ≡ false
    → looks_ahead s (closed_book b).rules ≡ true
    → (o : Option (Result (Option Module) Fault))
    → Sees b r x o
    → Seeks b r s x o
seen_sought b r s x plain ahead None h = h
seen_sought b r s x plain ahead (Some a) h = (h.0, λ m fits number w e. sought_in b r m s w a plain ahead (h.1 m fits) number e)
