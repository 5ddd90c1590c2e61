-- The first modules of what is worked out are told.
use Rattle.std.proofs.Common.{◌≡◌, ℕ, ◌+◌, ◌-◌, ◌<◌, ◌≤◌, true, List, [], ◌++◌, map, length, take, drop, Some, None, Option, IsSome, sym, ap, ◌∙◌, subst, arith, rules}
use Rattle.std.proofs.lemmas.Bool.{both_ways}
use Rattle.std.proofs.lemmas.List.{map-append, length-take, length-drop, take-append-drop, take_all, drop_all, drop-drop}
use Rattle.word.specs.declared.depth.Depth.{Depth}
use Rattle.word.specs.declared.module.Module.{Module}
use Rattle.word.specs.Symbols.{Symbol}
use Rattle.word.specs.Words.{depth}
use Rattle.word.specs.Records.{symbol_of, Leads}
use Rattle.word.specs.Spans.{spans}
use Rattle.word.proofs.Joined.{span_depth, span_split}
use Rattle.books.specs.Few.{modules_in}
use Rattle.generation.specs.declared.rewriter.Rewriter.{Rewriter}
use Rattle.generation.specs.Rewriting.{pending}

-- modules that may stand lead somewhere
pub leads_some : (d : ℕ) (v : List Symbol) (e : ℕ) → spans d v e ≡ true → (o : Option Depth) → Leads d v o → IsSome o
leads_some d v e h None l = absurd (both_ways _ (l e) h)
leads_some d v e h (Some x) l = search rules

pub leads_to : (d : ℕ) (v : List Symbol) (o : Option Depth) → Leads d v o → (x : Depth) → o ≡ Some x → x.brackets ≡ depth d v (length v)
leads_to d v None l x is = let e : ◌≡◌ {A = ℕ} 0 1 = cc in absurd (omega arith)
leads_to d v (Some y) l x is = let same : x ≡ y = cc in ap (λ (z : Depth). z.brackets) same ∙ sym (span_depth d v y.brackets l)

-- what is left of a row, and its first n modules
abbrev pub left_of : List Module → ℕ → List Module
left_of fs told = take (length fs - told) (drop told fs)

abbrev pub next_of : List Module → ℕ → ℕ → List Module
next_of fs told n = take n (left_of fs told)

-- n of the modules fs are told, those from position r.told on
module _ (r : Rewriter) (fs : List Module) (same : fs ≡ modules_in r.growth) (some : r.told < length fs) (n : ℕ) (few : n ≤ length (left_of fs r.told)) where
  abbrev left : List Module
  left = left_of fs r.told

  abbrev next : List Module
  next = next_of fs r.told n

  abbrev later : List Module
  later = drop (r.told + n) (modules_in r.growth)

  left_is : left ≡ drop r.told (modules_in r.growth)
  left_is = take_all (length fs - r.told) (drop r.told fs) (omega (arith, length-drop r.told fs)) ∙ ap (drop r.told) same

  pub parted : drop r.told (modules_in r.growth) ≡ next ++ later
  parted =
      sym (take-append-drop n (drop r.told (modules_in r.growth)))
      ∙ (λ k. take n (sym left_is k) ++ drop-drop n r.told (modules_in r.growth) k)

  pub pending_parted : pending r ≡ map symbol_of next ++ map symbol_of later
  pending_parted = ap (map symbol_of) parted ∙ map-append symbol_of next later

  both : (spans r.opened.brackets (map symbol_of next) (depth r.opened.brackets (map symbol_of next) (length (map symbol_of next))) ≡ true)
      × (spans (depth r.opened.brackets (map symbol_of next) (length (map symbol_of next))) (map symbol_of later) r.window.first.brackets ≡ true)
  both = span_split r.opened.brackets (map symbol_of next) (map symbol_of later) r.window.first.brackets (subst (λ (l : List Symbol). spans r.opened.brackets l r.window.first.brackets ≡ true) pending_parted r.joined)

  pub may_stand : spans r.opened.brackets (map symbol_of next) (depth r.opened.brackets (map symbol_of next) (length (map symbol_of next))) ≡ true
  may_stand = both.0

  pub later_spans : (d : ℕ) → d ≡ depth r.opened.brackets (map symbol_of next) (length (map symbol_of next)) → spans d (map symbol_of later) r.window.first.brackets ≡ true
  later_spans d is = ap (λ x. spans x (map symbol_of later) r.window.first.brackets) is ∙ both.1

  pub long : length next ≡ n
  long = length-take n left ∙ omega (arith, few)

  pub fewer : length later ≤ r.produced
  fewer = omega (arith, r.counted, length-drop (r.told + n) (modules_in r.growth), length-drop r.told (modules_in r.growth))

  -- all of them
  module _ (whole : n ≡ length left) where
    pub none_later : later ≡ []
    none_later = drop_all (r.told + n) (modules_in r.growth) (omega (arith, whole, length-take (length fs - r.told) (drop r.told fs), length-drop r.told fs, ap length same))

    pub at_window : r.window.first.brackets ≡ depth r.opened.brackets (map symbol_of next) (length (map symbol_of next))
    at_window = sym (span_depth r.opened.brackets (map symbol_of next) r.window.first.brackets (subst (λ (l : List Module). spans r.opened.brackets (map symbol_of l) r.window.first.brackets ≡ true) (sym all_next) r.joined))
      where
        all_next : next ≡ drop r.told (modules_in r.growth)
        all_next = take_all n left (omega (arith, whole)) ∙ left_is
