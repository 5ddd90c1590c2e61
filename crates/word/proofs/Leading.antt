-- Where modules lead, one module on.
use Rattle.std.proofs.Common.{◌≡◌, ℕ, ◌+◌, ◌<◌, Bool, true, false, not, ◌&&◌, eqb, List, [], ◌∷◌, ◌++◌, map, length, get_or, take, drop, sym, refl, ap, ◌∙◌, subst}
use Rattle.std.proofs.lemmas.Bool.{and_parts, both_ways}
use Rattle.std.proofs.lemmas.List.{map_more, drop_more, take-append-drop, map-append}
use Rattle.word.specs.declared.module.Module.{Module}
use Rattle.word.specs.Symbols.{Symbol, is_close}
use Rattle.word.specs.Words.{after, may_stand}
use Rattle.word.specs.Records.{symbol_of}
use Rattle.word.specs.Spans.{spans}
use Rattle.word.proofs.Spanning.{one_more, stands_low, span_last, span_stands}
use Rattle.word.proofs.Joined.{span_depth, span_split}

module _ (d : ℕ) (ms : List Module) (i : ℕ) (x : Module) (here : i < length ms) (is : x ≡ get_or ms i x) (e : ℕ) (so_far : spans d (map symbol_of (take i ms)) e ≡ true) where
  -- the module at i may stand
  pub one_on : (e' : ℕ) → may_stand e (symbol_of x) ≡ true → e' ≡ after e (symbol_of x) → spans d (map symbol_of (take (i + 1) ms)) e' ≡ true
  one_on e' may same =
      let closes = (and_parts (not (is_close x.letter && eqb e 0)) _ may).0 in
      let low = stands_low e (symbol_of x) (span_last d (map symbol_of (take i ms)) e so_far) may in
      (λ k. spans d ((map_more symbol_of ms i x here ∙ ap (λ (y : Module). map symbol_of (take i ms) ++ (symbol_of y ∷ [])) (sym is)) k) (same k))
      ∙ one_more d (map symbol_of (take i ms)) e (symbol_of x) so_far closes low

  rest : List Symbol
  rest = map symbol_of (drop (i + 1) ms)

  parted : map symbol_of ms ≡ map symbol_of (take i ms) ++ (symbol_of x ∷ map symbol_of (drop (i + 1) ms))
  parted =
      ap (map symbol_of) (sym (take-append-drop i ms) ∙ ap (λ (l : List Module). take i ms ++ l) (drop_more ms i x here ∙ ap (λ (y : Module). y ∷ drop (i + 1) ms) (sym is)))
      ∙ map-append symbol_of (take i ms) (x ∷ drop (i + 1) ms)

  -- the module at i may not stand, so the modules lead nowhere
  pub none_on : may_stand e (symbol_of x) ≡ false → (f : ℕ) → spans d (map symbol_of ms) f ≡ false
  none_on may f = go (spans d (map symbol_of ms) f) refl
    where
      go : (b : Bool) → spans d (map symbol_of ms) f ≡ b → b ≡ false
      go false h = refl
      go true h =
          let v = map symbol_of (take i ms) in
          let w = map symbol_of (drop (i + 1) ms) in
          let parts = span_split d v (symbol_of x ∷ w) f (sym (ap (λ (l : List Symbol). spans d l f) parted) ∙ h) in
          let there = subst (λ y. spans y (symbol_of x ∷ w) f ≡ true) (span_depth d v e so_far) parts.1 in
          absurd (both_ways _ may (span_stands e (symbol_of x) w f there))
