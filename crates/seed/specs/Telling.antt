-- What a seed still tells, step by step. Lemmas of the law of sources: internal.
use Rattle.std.proofs.Common.{◌≡◌, ℕ, suc, ◌+◌, ◌≤◌, Bool, true, false, cond, ◌&&◌, eqb, ltb, leb, List, ◌∷◌, length, take, drop, Some, None, Ok, Option, sym, refl, ap, ◌∙◌, add-one, arith}
use Rattle.std.proofs.lemmas.List.{drop-drop}
use Rattle.std.proofs.lemmas.Bool.{le-ltb}
use Rattle.std.proofs.lemmas.Bool.Decides.{nat_tests as told}
use Rattle.word.specs.declared.module.Module.{Module}
use Rattle.word.specs.Symbols.{Symbol, is_open, is_close, all_in_range}
use Rattle.word.specs.Words.{Told, after}
use Rattle.word.specs.Records.{symbol_of, Draws}
use Rattle.word.proofs.When.{when_false}
use Rattle.seed.specs.Seeds.{cut, form, Outcome, tells, wrong, judged, outcome, stopped, onto, reads}
use Rattle.seed.specs.Left.{left}

pub reads_tells : (d place : ℕ) (own : List ℕ) (rest : List (List ℕ)) (s : Symbol) → outcome d own ≡ tells s → reads d place (own ∷ rest) ≡ onto s (reads (after d s) (suc place) rest)
reads_tells d place own rest s e =
    ap (λ (o : Outcome). let t : Told = elim o [ wrong x ↦ stopped x place | tells y ↦ onto y (reads (after d y) (suc place) rest) ] in t) e

module _ (text : List ℕ) (short : length text ≤ 65_536) where
  still : (at n d : ℕ) → (left text at n d).told ≡ reads d (suc n) (cut false (drop at text))
  still at n d = when_false (ltb 65_536 (length text)) (stopped 20 1) (reads d (suc n) (cut false (drop at text))) (le-ltb 65_536 (length text) short)

  -- the first module from `at` on has these bytes, of which there are `size`
  module _ (at n d size : ℕ) (first : cut false (drop at text) ≡ take size (drop at text) ∷ cut false (drop size (drop at text))) where
    here : (left text at n d).told ≡ reads d (suc n) (take size (drop at text) ∷ cut false (drop size (drop at text)))
    here = still at n d ∙ ap (reads d (suc n)) first

    pub goes_on : (m : Module) (d' : ℕ) → outcome d (take size (drop at text)) ≡ tells (symbol_of m) → d' ≡ after d (symbol_of m) → Draws (left text at n d) (Ok (Some m)) (left text (at + size) (n + 1) d')
    goes_on m d' e is =
        let s = symbol_of m in
        let rest : (left text (at + size) (n + 1) d').told ≡ reads (after d s) (suc (suc n)) (cut false (drop size (drop at text))) =
        still (at + size) (n + 1) d'
        ∙ (λ i. reads (is i) (suc (add-one n i)) (cut false (sym (drop-drop size at text) i))) in
        let t : (left text at n d).told ≡ onto s (reads (after d s) (suc (suc n)) (cut false (drop size (drop at text)))) = here ∙ reads_tells d (suc n) (take size (drop at text)) (cut false (drop size (drop at text))) s e in
        (ap (λ (w : Told). w.modules) t ∙ ap (λ (w : Told). s ∷ w.modules) (sym rest), ap (λ (w : Told). w.ending) rest ∙ sym (ap (λ (w : Told). w.ending) t), is, refl)

-- what is known of a module that is told
pub record Proper (d : ℕ) (own : List ℕ) (s : Symbol) : Type 0 where
  pub by_form : form own ≡ Some s
  pub in_range : all_in_range s.params ≡ true
  pub opens : (is_close s.letter && eqb d 0) ≡ false
  pub fits : (is_open s.letter && leb 32 d) ≡ false

pub proper : (d : ℕ) (own : List ℕ) (s : Symbol) → outcome d own ≡ tells s → Proper d own s
proper d own s e = from (form own) refl e
  where
    from : (o : Option Symbol) → form own ≡ o → judged d o ≡ tells s → Proper d own s
    from None f q = let z : ◌≡◌ {A = ℕ} 0 1 = cc in absurd (omega arith)
    from (Some y) f q = go (all_in_range y.params) (is_close y.letter && eqb d 0) (is_open y.letter && leb 32 d) refl refl refl q
      where
        go : (r a b : Bool) → all_in_range y.params ≡ r → (is_close y.letter && eqb d 0) ≡ a → (is_open y.letter && leb 32 d) ≡ b → cond r (cond a (wrong 23) (cond b (wrong 24) (tells y))) (wrong 22) ≡ tells s → Proper d own s
        go false a b r p t q = let z : ◌≡◌ {A = ℕ} 0 1 = cc in absurd (omega arith)
        go true true b r p t q = let z : ◌≡◌ {A = ℕ} 0 1 = cc in absurd (omega arith)
        go true false true r p t q = let z : ◌≡◌ {A = ℕ} 0 1 = cc in absurd (omega arith)
        go true false false r p t q =
            let same : y ≡ s = cc in
            record {
              by_form = f ∙ ap (λ (x : Symbol). Some x) same;
              in_range = rw (← same) r;
              opens = rw (← same) p;
              fits = rw (← same) t;
            }

-- a module told leaves no more than 32 brackets open
pub stays_shallow : (d : ℕ) (own : List ℕ) (s : Symbol) → d ≤ 32 → outcome d own ≡ tells s → after d s ≤ 32
stays_shallow d own s few e = let f = (proper d own s e).fits in grind (arith, told)
