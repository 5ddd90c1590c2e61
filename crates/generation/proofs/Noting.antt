-- A module noted as the left neighbour.
use Rattle.std.proofs.Common.{◌≡◌, ℕ, suc, pred, ◌+◌, ◌<◌, ◌≤◌, Bool, false, cond, not, List, length, get_or, set, Some, None, Option, sym, ap, ◌∙◌, arith, eq-eqb}
use Rattle.std.specs.Option.{option_map}
use Rattle.std.proofs.lemmas.List.{get_or_default}
use Rattle.std.proofs.lemmas.Bool.{cond-true, cond-false, ne_eqb, and_from}
use Rattle.word.specs.declared.module.Module.{Module}
use Rattle.word.specs.Symbols.{Symbol, is_open, is_close, is_bracket}
use Rattle.word.specs.Words.{after}
use Rattle.word.specs.Records.{symbol_of}
use Rattle.generation.specs.Neighbours.{counts}
use Rattle.generation.specs.Stream.{Table, put, shown, passed}
use Rattle.generation.proofs.Turning.{shown_put}

pub after_open : (d : ℕ) (s : Symbol) → s.letter ≡ 91 → after d s ≡ suc d
after_open d s e = cond-true (is_open s.letter) (suc d) (cond (is_close s.letter) (pred d) d) (eq-eqb s.letter 91 e)

module _ (row : List (Option Module)) (wide : length row ≡ 33) (ign : ℕ → Bool) (d : ℕ) (s : Module) where
  abbrev t : Table Symbol
  t = shown symbol_of row

  abbrev x : Symbol
  x = symbol_of s

  pub handed_on : d < 32 → (s.letter ≡ 91) → (r : Option Module) → shown symbol_of (set row (d + 1) (get_or row d r)) ≡ passed ign d x x t
  handed_on h e r =
      let one : d + 1 ≡ suc d = omega arith in
      shown_put symbol_of row (d + 1) (get_or row d r) (omega arith)
      ∙ (λ i. put t (one i) (option_map symbol_of (get_or_default row d r None (omega arith) i)))
      ∙ sym (cond-true (is_open s.letter) (put t (suc d) (t d)) (cond (counts ign x) (put t d (Some x)) t) (eq-eqb s.letter 91 e))

  pub noted : d ≤ 32 → (s.letter ≡ 91 → ⊥) → false ≡ is_bracket s.letter → false ≡ ign s.letter → shown symbol_of (set row d (Some s)) ≡ passed ign d x x t
  noted h n b i =
      shown_put symbol_of row d (Some s) (omega arith)
      ∙ sym
      (cond-false (is_open s.letter) (put t (suc d) (t d)) (cond (counts ign x) (put t d (Some x)) t) (ne_eqb s.letter 91 n)
      ∙ cond-true (counts ign x) (put t d (Some x)) t (and_from (not (is_bracket s.letter)) (not (ign s.letter)) (ap not (sym b)) (ap not (sym i))))
