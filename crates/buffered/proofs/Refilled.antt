-- A row where nothing is held, and one that was just filled.
use Rattle.std.proofs.Common.{◌≡◌, ℕ, zero, suc, ◌+◌, ◌<◌, ◌≤◌, true, not, ◌&&◌, ltb, eqb, leb, List, [], ◌∷◌, ◌++◌, map, length, get_or, take, drop, Some, None, Ok, Option, ⊎_elim, sym, refl, ap, ◌∙◌, subst, arith, rules}
use Rattle.std.specs.Option.{IsSome}
use Rattle.std.proofs.lemmas.Bool.{and_parts, and_from, eqb-true, leb-true, lt-ltb, both_ways}
use Rattle.std.proofs.lemmas.List.{map_more, drop_more, drop_all, length-take, length-map, length-append, get_or-take}
use Rattle.word.specs.declared.depth.Depth.{Depth}
use Rattle.word.specs.declared.fault.Fault.{Fault}
use Rattle.word.specs.declared.module.Module.{Module}
use Rattle.word.specs.Symbols.{Symbol, is_close}
use Rattle.word.specs.Words.{Ending, clean, broken, Meaning, Lawful, after, depth, nested}
use Rattle.word.specs.Records.{symbol_of, Leads, Draws, Drew}
use Rattle.word.specs.Spans.{spans}
use Rattle.word.proofs.Spanning.{no_span}
use Rattle.word.proofs.Joined.{span_depth, depth_append}
use Rattle.buffered.specs.Held.{held, depth_at, left_in, ending_by, Refills}

-- no more than 32 brackets are open before what is nested
nested_low : (d : ℕ) (w : List Symbol) (x : Ending) → nested d w x ≡ true → d ≤ 32
nested_low d [] clean h = omega (arith, eqb-true d 0 h)
nested_low d [] (broken f) h = leb-true d 32 h
nested_low d (s ∷ w) x h = leb-true d 32 (and_parts (leb d 32) _ h).0

-- the first modules of what is nested lead on
pub nested_spans : (d : ℕ) (v w : List Symbol) (x : Ending) → nested d (v ++ w) x ≡ true → spans d v (depth d v (length v)) ≡ true
nested_spans d [] w x h = no_span d (nested_low d w x h)
nested_spans d (s ∷ v) w x h =
    let p = and_parts (leb d 32) _ h in
    let q = and_parts (not (is_close s.letter && eqb d 0)) _ p.1 in
    and_from (leb d 32) _ p.0 (and_from _ _ q.0 (nested_spans (after d s) v w x q.1))

-- where nothing is held, the source below is what is meant
pub drained : (row : List Module) (at count first : ℕ) (m : Meaning) → at ≡ count → spans first (map symbol_of (take count row)) m.opened ≡ true → left_in row at count first m ≡ m
drained row at count first m same joined =
    let none : drop at (take count row) ≡ [] = drop_all at (take count row) (omega (arith, length-take count row)) in
    let opened : depth_at first row at ≡ m.opened = ap (λ n. depth_at first row n) same ∙ span_depth first (map symbol_of (take count row)) m.opened joined in
    λ k. record { told = record { modules = map symbol_of (none k) ++ m.told.modules; ending = m.told.ending }; opened = opened k; generation = m.generation }

-- a row that was just filled
module _ (places row : List Module) (count first : ℕ) (m m' : Meaning) (drew : Drew m places count row m') (here : first ≡ m.opened) where
  pub filled_means : left_in row 0 count first m' ≡ m
  filled_means = λ k. record {
    told = record { modules = sym drew.told.modules k; ending = drew.told.ending k };
    opened = here k;
    generation = drew.told.generation k;
  }

  pub filled_joined : Lawful m → spans first (map symbol_of (take count row)) m'.opened ≡ true
  filled_joined l =
      let v = map symbol_of (take count row) in
      let nests : nested m.opened (v ++ m'.told.modules) m.told.ending ≡ true = subst (λ w. nested m.opened w m.told.ending ≡ true) drew.told.modules l.brackets in
      (λ k. spans (here k) v (drew.told.opened k)) ∙ nested_spans m.opened v m'.told.modules m.told.ending nests

  pub filled_few : Lawful m → length row ≡ length places → count + length m'.told.modules ≤ 16_000_000
  filled_few l same =
      omega (arith, l.few, drew.fits, same, ap length drew.told.modules, length-append (map symbol_of (take count row)) m'.told.modules, length-map (take count row) symbol_of, length-take count row)

-- the module held first is drawn
module _ (row : List Module) (at count first : ℕ) (m s : Meaning) (x : Module) (some : at < count) (here : at < length row) (same : left_in row at count first m ≡ s) where
  held_first : held row at count ≡ symbol_of (get_or row at x) ∷ held row (at + 1) count
  held_first =
      let inside : at < length (take count row) = omega (arith, length-take count row) in
      ap (map symbol_of) (drop_more (take count row) at x inside ∙ ap (λ (y : Module). y ∷ drop (at + 1) (take count row)) (get_or-take count row at x some))

  depth_more : depth_at first row (at + 1) ≡ after (depth_at first row at) (symbol_of (get_or row at x))
  depth_more =
      ap (λ v. depth first v (length v)) (map_more symbol_of row at x here)
      ∙ depth_append first (map symbol_of (take at row)) (symbol_of (get_or row at x) ∷ [])

  pub draws_held : Draws s (Ok (Some (get_or row at x))) (left_in row (at + 1) count first m)
  draws_held = (
    ap (λ (y : Meaning). y.told.modules) (sym same) ∙ ap (λ l. l ++ m.told.modules) held_first,
    ap (λ (y : Meaning). y.told.ending) same,
    depth_more ∙ ap (λ (y : Meaning). after y.opened (symbol_of (get_or row at x))) same,
    ap (λ (y : Meaning). y.generation) same,
  )

-- a row that nothing was put in
pub fresh : (row : List Module) (first : ℕ) (m m' : Meaning) → first ≡ m.opened → m' ≡ m → left_in row 0 0 first m' ≡ m
fresh row first m m' here same = λ k. record {
  told = record { modules = (same k).told.modules; ending = (same k).told.ending };
  opened = here k;
  generation = (same k).generation;
}

-- what a refill answers, where m is what is meant before and behind
module _ (s m s' : Meaning) (before : s ≡ m) (behind : s' ≡ m) where
  pub refills : (n : ℕ) (o : Option Fault) → (n ≡ 0 → (m.told.modules ≡ []) × (m.told.ending ≡ ending_by o)) → Refills s (ltb 0 n) s' 0 n o
  refills zero o e = (ap (λ (y : Meaning). y.told.modules) before ∙ (e refl).0, ap (λ (y : Meaning). y.told.ending) before ∙ (e refl).1, behind ∙ sym before)
  refills (suc n) o e = subst (λ b. Refills s b s' 0 (suc n) o) (sym (lt-ltb 0 (suc n) (omega arith))) (omega arith, behind ∙ sym before)

-- a draw of some finds none only at a clean end
pub none_drawn : (places row : List Module) (n : ℕ) (m m' : Meaning) → length places ≡ 64 → Drew m places n row m' → n ≡ 0 → (m.told.modules ≡ []) × (m.told.ending ≡ clean)
none_drawn places row n m m' wide drew none = ⊎_elim (λ empty. absurd (omega (arith, wide, ap length empty))) (λ e. e) (drew.some none)

-- where modules lead
pub leads_some : (d : ℕ) (w : List Symbol) (e : ℕ) (o : Option Depth) → spans d w e ≡ true → Leads d w o → IsSome o
leads_some d w e None h l = absurd (both_ways (spans d w e) (l e) h)
leads_some d w e (Some r) h l = search rules

pub leads_to : (d : ℕ) (w : List Symbol) (o : Option Depth) (r : Depth) → Leads d w o → o ≡ Some r → r.brackets ≡ depth d w (length w)
leads_to d w o r l is = sym (span_depth d w r.brackets (subst (Leads d w) is l))
