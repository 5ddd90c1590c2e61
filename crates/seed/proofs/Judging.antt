-- A module that is read by its form is judged by its range, and then by the brackets open.
use Rattle.std.proofs.Common.{◌≡◌, ℕ, Bool, true, false, cond, not, ◌&&◌, eqb, leb, List, ℤ, Some, sym, refl, ap, ◌∙◌, arith}
use Rattle.std.proofs.lemmas.Bool.{cond-true, cond-false}
use Rattle.std.proofs.lemmas.Bool.Decides.{nat_tests}
use Rattle.word.specs.declared.module.Module.{Module}
use Rattle.word.specs.Symbols.{is_open, is_close, all_in_range, symbol_with, valid}
use Rattle.word.specs.Words.{may_stand}
use Rattle.word.specs.Records.{symbol_of}
use Rattle.word.proofs.Made.{valid_is}
use Rattle.word.proofs.Sound.{is_valid}
use Rattle.seed.specs.Seeds.{form, tells, wrong, bracketed, judged, outcome}
use Rattle.seed.specs.Forming.{formed}

module _ (d : ℕ) (own : List ℕ) (l : ℕ) (ps : List ℤ) (is : form own ≡ Some (symbol_with l ps)) where
  by_range : (t : Bool) → valid (symbol_with l ps) ≡ t → outcome d own ≡ cond t (bracketed d (symbol_with l ps)) (wrong 22)
  by_range t e =
      let ranged : all_in_range ps ≡ t = ap (λ x. x && all_in_range ps) (sym (formed own _ is)) ∙ sym (valid_is l ps) ∙ e in
      ap (judged d) is ∙ ap (λ x. cond x (bracketed d (symbol_with l ps)) (wrong 22)) ranged

  pub out_of_range : valid (symbol_with l ps) ≡ false → wrong 22 ≡ outcome d own
  out_of_range e = sym (by_range false e)

  module _ (m : Module) (same : symbol_of m ≡ symbol_with l ps) where
    in_range : outcome d own ≡ bracketed d (symbol_of m)
    in_range = by_range true (ap valid (sym same) ∙ is_valid m) ∙ ap (bracketed d) (sym same)

    pub stands : may_stand d (symbol_of m) ≡ true → tells (symbol_of m) ≡ outcome d own
    stands e = sym (in_range ∙ go (is_close m.letter && eqb d 0) (is_open m.letter && leb 32 d) e)
      where
        go : (x y : Bool) → (not x && not y) ≡ true → cond x (wrong 23) (cond y (wrong 24) (tells (symbol_of m))) ≡ tells (symbol_of m)
        go true y e = let no : ◌≡◌ {A = ℕ} 0 1 = cc in absurd (omega arith)
        go false true e = let no : ◌≡◌ {A = ℕ} 0 1 = cc in absurd (omega arith)
        go false false e = refl

    pub closes_none : may_stand d (symbol_of m) ≡ false → m.letter ≡ 93 → wrong 23 ≡ outcome d own
    closes_none e b = sym (in_range ∙ cond-true (is_close m.letter && eqb d 0) _ _ (grind (arith, nat_tests)))

    pub opens_too_deep : may_stand d (symbol_of m) ≡ false → (m.letter ≡ 93 → ⊥) → wrong 24 ≡ outcome d own
    opens_too_deep e b = sym (in_range ∙ cond-false (is_close m.letter && eqb d 0) _ _ (grind (arith, nat_tests)) ∙ cond-true (is_open m.letter && leb 32 d) _ _ (grind (arith, nat_tests)))
