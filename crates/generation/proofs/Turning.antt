-- What code needs that tells a generation module by module: a turn reads no more than 64 of the modules to come, one turn goes on
-- to the next, and a row of places serves as the table.
use Rattle.std.proofs.Common.{◌≡◌, ℕ, zero, suc, pred, ◌+◌, ◌<◌, ◌≤◌, Bool, cond, not, ◌&&◌, eqb, ◌≢◌, ◌⊎◌, List, [], ◌∷◌, ◌++◌, length, set, replicate, None, Option, sym, refl, ap, ◌∙◌, inl, inr, arith, get_or-set_other, get_or-set_same}
use mathlib.Core.Path.{fun_ext}
use Rattle.std.specs.Option.{option_map}
use Rattle.std.proofs.lemmas.Bool.{eq-eqb, ne_eqb, cases_eq, cond-true, cond-false}
use Rattle.word.specs.declared.fault.Fault.{Fault}
use Rattle.word.specs.Symbols.{Symbol, is_open, is_close, is_bracket}
use Rattle.word.specs.Words.{Ending, broken, Told, after}
use Rattle.book.specs.Books.{Book}
use Rattle.books.specs.Ahead.{looks_ahead}
use Rattle.generation.specs.Generations.{Part, adds, stops, added, followed}
use Rattle.generation.specs.Stream.{Table, put, shown, passed, Look, neighbour, closed, scan, turn_with, turn_by, turn, streamed, onward}

-- the modules in front are enough
pub scan_front : (ign : ℕ → Bool) (n r : ℕ) (v w : List Symbol) → n ≤ length v → scan ign n r (v ++ w) ≡ scan ign n r v
scan_front ign zero r v w h = refl
scan_front ign (suc n) r [] w h = absurd (omega arith)
scan_front ign (suc n) r (s ∷ v) w h = λ t.
    cond (is_open s.letter) (scan_front ign n (suc r) v w (omega arith) t)
    (cond (is_close s.letter) (cond (eqb r 0) closed (scan_front ign n (pred r) v w (omega arith) t))
    (cond (eqb r 0 && not (ign s.letter)) (neighbour s) (scan_front ign n r v w (omega arith) t)))

module _ (b : Book) (g : ℕ) (ending : Ending) (n i d : ℕ) where
  pub turn_front : (l : Option Symbol) (s : Symbol) (v w : List Symbol) → 64 ≤ length v → turn b g ending n i d l s (v ++ w) ≡ turn b g ending n i d l s v
  turn_front l s v w h =
      ap (λ (x : Look). cond (is_bracket s.letter) (added g n i (s ∷ [])) (cond (looks_ahead s b.rules) (turn_by b g ending n i d l s x) (turn_with b g ending n i d l s None)))
      (scan_front b.ignored 64 0 v w h)

  -- one turn
  module _ (t : Table Symbol) (s : Symbol) (w : List Symbol) where
    abbrev pub later : ℕ → Told
    later more = streamed b g ending (n + more) (onward i) (after d s) (passed b.ignored d s s t) w

    pub turn_adds : (v : List Symbol) → turn b g ending n i d (t d) s w ≡ adds v → streamed b g ending n i d t (s ∷ w) ≡ record { modules = v ++ (later (length v)).modules; ending = (later (length v)).ending }
    turn_adds v e = ap (λ (p : Part). followed p later) e

    pub turn_stops : (f : Fault) → turn b g ending n i d (t d) s w ≡ stops f → streamed b g ending n i d t (s ∷ w) ≡ record { modules = []; ending = broken f }
    turn_stops f e = ap (λ (p : Part). followed p later) e

-- a write to the row
module _ {A B : Type 0} (f : A → B) where
  pub shown_put : (row : List (Option A)) (x : ℕ) (o : Option A) → x < length row → shown f (set row x o) ≡ put (shown f row) x (option_map f o)
  shown_put row x o h = fun_ext (λ e. go e (cases_eq e x))
    where
      go : (e : ℕ) → (e ≡ x) ⊎ (e ≡ x → ⊥) → shown f (set row x o) e ≡ put (shown f row) x (option_map f o) e
      go e (inl p) =
          ap (shown f (set row x o)) p
          ∙ rw get_or-set_same (sym (cond-true (eqb e x) (option_map f o) (shown f row e) (eq-eqb e x p)))
      go e (inr p) =
          let ne : e ≢ x = p in
          rw get_or-set_other (sym (cond-false (eqb e x) (option_map f o) (shown f row e) (ne_eqb e x p)))

  -- a row that holds nothing
  pub shown_none : (n : ℕ) → shown f (replicate n None) ≡ (λ e. None)
  shown_none n = fun_ext (go n)
    where
      go : (n e : ℕ) → shown f (replicate n None) e ≡ None
      go zero e = refl
      go (suc n) zero = refl
      go (suc n) (suc e) = go n e
