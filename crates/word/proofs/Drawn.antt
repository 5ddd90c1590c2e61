-- Draws in a row into the first of some places.
use Rattle.std.proofs.Common.{◌≡◌, ℕ, ◌+◌, ◌<◌, ◌≤◌, ◌∷◌, [], List, length, take, drop, map, Ok, Err, Some, None, refl, sym, ap, ◌∙◌, subst, inl, inr, arith, set}
use Rattle.std.proofs.lemmas.List.{take_more_set, drop-set-lt, drop-drop, map-append, nil_from_length}
use Rattle.word.specs.declared.module.Module.{Module}
use Rattle.word.specs.declared.fault.Fault.{Fault}
use Rattle.word.specs.Words.{Meaning, broken}
use Rattle.word.specs.Records.{symbol_of, Draws, DrawsSome, Tells, Drew}
use Rattle.word.proofs.Joined.{tells_on}

-- where no module is told, nothing changes
pub tells_none : (s s' : Meaning) → Tells s [] s' → s' ≡ s
tells_none s s' h = λ k. record {
  told = record { modules = sym h.modules k; ending = h.ending k };
  opened = h.opened k;
  generation = h.generation k;
}

-- From s to t, n draws in a row have answered modules: the first places of q hold them, the others what those of p hold.
pub record Drawing (s : Meaning) (p : List Module) (n : ℕ) (q : List Module) (t : Meaning) : Type 0 where
  pub told : Tells s (map symbol_of (take n q)) t
  pub behind : drop n q ≡ drop n p

pub drawing_none : (s : Meaning) (p : List Module) → Drawing s p 0 p s
drawing_none s p = record {
  told = record { modules = refl; ending = refl; opened = refl; generation = refl };
  behind = refl;
}

module _ (s t t' : Meaning) (p q : List Module) (n : ℕ) (so_far : Drawing s p n q t) where
  pub drawing_more : (m : Module) → n < length q → Draws t (Ok (Some m)) t' → Drawing s p (n + 1) (set q n m) t'
  drawing_more m h d =
      let one : Tells t (symbol_of m ∷ []) t' = record { modules = d.0; ending = d.1; opened = d.2; generation = d.3 } in
      let held = ap (map symbol_of) (take_more_set q n m h) ∙ map-append symbol_of (take n q) (m ∷ []) in
      let lower : n < n + 1 = omega arith in
      record {
        told = subst (λ v. Tells s v t') (sym held) (tells_on s t t' _ _ so_far.told one);
        behind = drop-set-lt (n + 1) q n m lower ∙ sym (drop-drop 1 n q) ∙ ap (drop 1) so_far.behind ∙ drop-drop 1 n p;
      }

  -- before the first draw nothing has changed
  unchanged : n ≡ 0 → t ≡ s
  unchanged e = tells_none s t (subst (λ k. Tells s (map symbol_of (take k q)) t) e so_far.told)

  pub drew_to_end : n ≤ length p → Draws t (Ok None) t' → Drew s p n q t'
  drew_to_end h d = record {
    told = subst (λ x. Tells s (map symbol_of (take n q)) x) (sym d.2) so_far.told;
    fits = h;
    behind = so_far.behind;
    some = λ e. inr (ap (λ (x : Meaning). x.told.modules) (sym (unchanged e)) ∙ d.0, ap (λ (x : Meaning). x.told.ending) (sym (unchanged e)) ∙ d.1);
  }

  pub drew_to_fault : (f : Fault) → n ≤ length p → (n ≡ 0 → ⊥) → Draws t (Err f) t' → Drew s p n q t'
  drew_to_fault f h some d = record {
    told = subst (λ x. Tells s (map symbol_of (take n q)) x) (sym d.2) so_far.told;
    fits = h;
    behind = so_far.behind;
    some = λ e. absurd (some e);
  }

  pub none_drew : (f : Fault) → n < length p → n ≡ 0 → Draws t (Err f) t' → DrawsSome s p (Err f) q t'
  none_drew f h e d = (
    ap (λ (x : Meaning). x.told.modules) (sym (unchanged e)) ∙ d.0,
    ap (λ (x : Meaning). x.told.ending) (sym (unchanged e)) ∙ d.1,
    d.2 ∙ unchanged e,
    subst (λ k. drop k q ≡ drop k p) e so_far.behind,
    λ l. absurd (omega (arith, ap length l)),
  )

  pub drew_all : n ≡ length p → Drew s p n q t
  drew_all h = record {
    told = so_far.told;
    fits = omega arith;
    behind = so_far.behind;
    some = λ e. inl (nil_from_length p (sym h ∙ e));
  }

-- some draws into one place are one draw
pub one_draw : (s s' : Meaning) (x y : Module) → Drew s (x ∷ []) 1 (y ∷ []) s' → Draws s (Ok (Some y)) s'
one_draw s s' x y h = (h.told.modules, h.told.ending, h.told.opened, h.told.generation)

pub no_draw : (s s' : Meaning) (x : Module) (places' : List Module) → Drew s (x ∷ []) 0 places' s' → Draws s (Ok None) s'
no_draw s s' x places' h = elim (h.some refl) [
  | inl e ↦ absurd (omega (arith, ap length e))
  | inr e ↦ (e.0, e.1, tells_none s s' h.told)
]
