-- One module is passed over.
use Rattle.std.proofs.Common.{◌≡◌, ℕ, ◌+◌, ◌<◌, min, true, not, ◌&&◌, eqb, leb, List, [], ◌∷◌, map, length, get_or, drop, IfSome, Some, None, Option, sym, ap, ◌∙◌, subst, arith, MatchOption}
use Rattle.std.proofs.lemmas.Bool.{and_parts, and_from}
use Rattle.word.specs.declared.module.Module.{Module}
use Rattle.word.specs.Symbols.{Symbol, is_close}
use Rattle.word.specs.Words.{after}
use Rattle.word.specs.Records.{symbol_of}
use Rattle.generation.specs.declared.window.Window.{Window}
use Rattle.word.specs.Spans.{spans}
use Rattle.generation.specs.Windows.{in_window}
use Rattle.generation.specs.Stream.{onward}
use Rattle.word.proofs.Spanning.{no_span, span_first}

-- what is taken off a window is its first module
module _ (w w' : Window) (x : Module) (is : x ≡ get_or (in_window w) 0 x) (some : 0 < length (in_window w)) where
  pub pops
      : (p : Option Module)
      → MatchOption p ((in_window w ≡ []) × (w' ≡ w)) (λ m. in_window w ≡ m ∷ in_window w')
      → IfSome p (λ m. w'.first.brackets ≡ after w.first.brackets (symbol_of m))
      → (in_window w ≡ x ∷ in_window w') × (w'.first.brackets ≡ after w.first.brackets (symbol_of x))
  pops None h f = absurd (omega (arith, ap length h.0, some))
  pops (Some m) h f =
      let same : x ≡ m = is ∙ ap (λ (l : List Module). get_or l 0 x) h in
      (h ∙ ap (λ (y : Module). y ∷ in_window w') (sym same), f ∙ ap (λ (y : Module). after w.first.brackets (symbol_of y)) (sym same))

pub onwards : (p q : ℕ) → q ≡ min (p + 1) 16_000_000 → q ≡ onward p
onwards p q h = omega (arith, h)

-- the module in hand, and what is held behind it
pub in_hand : (l : List Module) (x : Module) → x ≡ get_or l 0 x → 0 < length l → l ≡ x ∷ drop 1 l
in_hand [] x is some = absurd (omega (arith, some))
in_hand (y ∷ l) x is some = ap (λ (z : Module). z ∷ l) (sym is)

one_spans : (d : ℕ) (s : Symbol) (w : List Symbol) (e : ℕ) → spans d (s ∷ w) e ≡ true → spans d (s ∷ []) (after d s) ≡ true
one_spans d s w e h =
    let p = and_parts (leb d 32) _ h in
    let q = and_parts (not (is_close s.letter && eqb d 0)) (spans (after d s) w e) p.1 in
    and_from (leb d 32) _ p.0 (and_from _ _ q.0 (no_span (after d s) (span_first (after d s) w e q.1)))

-- it leads to the depth behind it
pub may_pass : (w : Window) (x : Module) → x ≡ get_or (in_window w) 0 x → 0 < length (in_window w) → spans w.first.brackets (symbol_of x ∷ []) (after w.first.brackets (symbol_of x)) ≡ true
may_pass w x is some =
    one_spans w.first.brackets (symbol_of x) (map symbol_of (drop 1 (in_window w))) w.last.brackets
    (subst (λ (l : List Module). spans w.first.brackets (map symbol_of l) w.last.brackets ≡ true) (in_hand (in_window w) x is some) w.joined)
