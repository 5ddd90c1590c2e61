-- The outcome of one module, as the code finds it.
use Rattle.std.proofs.Common.{◌≡◌, ℕ, ◌+◌, ◌<◌, ◌≤◌, Bool, true, false, cond, not, ◌&&◌, ◌||◌, eqb, leb, List, [], ◌∷◌, length, sym, refl, ap, ◌∙◌, subst, arith, le-leb}
use lib.ListN.{length-map}
use borrow.Author.Tests.{lt-leb}
use Rattle.std.proofs.lemmas.Bool.{and_parts, and_from, eqb-true}
use Rattle.std.proofs.lemmas.Bool.Decides.{nat_tests}
use Rattle.word.specs.Symbols.{Symbol, is_open, is_close, is_bracket}
use Rattle.word.specs.Words.{after}
use Rattle.word.specs.Records.{symbol_of}
use Rattle.books.specs.Outcomes.{Outcome, itself, grown, fault}
use Rattle.books.specs.Became.{settled, nesting}
use Rattle.books.specs.Nesting.{balanced, deepest}
use Rattle.books.specs.Few.{Modules, modules_in, symbols_in}
use Rattle.generation.specs.Generations.{found, adds, stops, added, worked}
use Rattle.word.specs.Spans.{spans}
use Rattle.generation.proofs.Agreement.{after_plain}
use Rattle.generation.proofs.Lawful.{after_inside}
use Rattle.generation.specs.declared.rewriter.Rewriter.{Rewriter}
use Rattle.generation.specs.Windows.{held}
use Rattle.word.proofs.Spanning.{no_span, span_first}

same_length : (ms : Modules) → length (symbols_in ms) ≡ length (modules_in ms)
same_length ms = length-map (modules_in ms) symbol_of

module _ (g n i : ℕ) (ms : Modules) where
  pub full : 16_000_000 < n + length (modules_in ms) → added g n i (symbols_in ms) ≡ stops (found g i 34)
  full h = ap (λ (b : Bool). cond b (adds (symbols_in ms)) (stops (found g i 34))) (lt-leb (n + length (symbols_in ms)) 16_000_000 (omega (arith, same_length ms)))

  pub room : n + length (modules_in ms) ≤ 16_000_000 → added g n i (symbols_in ms) ≡ adds (symbols_in ms)
  room h = ap (λ (b : Bool). cond b (adds (symbols_in ms)) (stops (found g i 34))) (le-leb (n + length (symbols_in ms)) 16_000_000 (omega (arith, same_length ms)))

-- a letter leads to its own depth
pub letter_spans : (d : ℕ) (s : Symbol) → d ≤ 32 → is_bracket s.letter ≡ false → spans d (s ∷ []) d ≡ true
letter_spans d s h plain =
    let same = after_plain d s plain in
    let not-close : is_close s.letter ≡ false = or_second (is_open s.letter) (is_close s.letter) plain in
    and_from (leb d 32) _ (le-leb d 32 h)
    (and_from (not (is_close s.letter && eqb d 0)) _ (ap (λ (b : Bool). not (b && eqb d 0)) not-close) (subst (λ x. spans x [] d ≡ true) (sym same) (no_span d h)))
  where
    or_second : (a b : Bool) → (a || b) ≡ false → b ≡ false
    or_second true true e = e
    or_second true false e = refl
    or_second false b e = e

-- what is balanced leads back
balanced_spans : (d x : ℕ) (v : List Symbol) → balanced x v ≡ true → d + deepest x v ≤ 32 → spans (d + x) v d ≡ true
balanced_spans d x [] b h = let same : d + x ≡ d = omega (arith, eqb-true x 0 b) in subst (λ y. spans y [] d ≡ true) (sym same) (no_span d (omega arith))
balanced_spans d x (s ∷ v) b h =
    let parts = and_parts (not (is_close s.letter && eqb x 0)) (balanced (after x s) v) b in
    let deeper : not (is_close s.letter && eqb (d + x) 0) ≡ true = grind (arith, nat_tests) in
    and_from (leb (d + x) 32) _ (le-leb (d + x) 32 (omega arith))
    (and_from _ _ deeper (subst (λ y. spans y v d ≡ true) (sym (after_inside d x s parts.0)) (balanced_spans d (after x s) v parts.1 (omega arith))))

pub growth_spans : (d : ℕ) (v : List Symbol) → balanced 0 v ≡ true → d + deepest 0 v ≤ 32 → spans d v d ≡ true
growth_spans d v b h = let same : d + 0 ≡ d = omega arith in subst (λ y. spans y v d ≡ true) same (balanced_spans d 0 v b h)

-- the modules w are written of an outcome of the letter s
module _ (d : ℕ) (s : Symbol) (w : List Symbol) (plain : is_bracket s.letter ≡ false) (low : d ≤ 32) where
  pub added_of : (g n i : ℕ) (o : Outcome) → settled s o ≡ grown w → d + nesting o ≤ 32 → worked g n i d s o ≡ added g n i w
  added_of g n i itself e h = let same : s ∷ [] ≡ w = cc in ap (added g n i) same
  added_of g n i (grown v) e h =
      let same : v ≡ w = cc in
      ap (λ (b : Bool). cond b (added g n i v) (stops (found g i 33))) (le-leb (d + deepest 0 v) 32 h) ∙ ap (added g n i) same
  added_of g n i (fault c) e h = let z : ◌≡◌ {A = ℕ} 0 1 = cc in absurd (omega arith)

  pub spans_of : (o : Outcome) → ((v : List Symbol) → o ≡ grown v → balanced 0 v ≡ true) → settled s o ≡ grown w → d + nesting o ≤ 32 → spans d w d ≡ true
  spans_of itself tidy e h = let same : s ∷ [] ≡ w = cc in subst (λ v. spans d v d ≡ true) same (letter_spans d s low plain)
  spans_of (grown v) tidy e h = let same : v ≡ w = cc in subst (λ u. spans d u d ≡ true) same (growth_spans d v (tidy v refl) h)
  spans_of (fault c) tidy e h = let z : ◌≡◌ {A = ℕ} 0 1 = cc in absurd (omega arith)

-- no window begins deeper than 32
pub low : (r : Rewriter) → r.window.first.brackets ≤ 32
low r = span_first r.window.first.brackets (held r.window) r.window.last.brackets r.window.joined
