-- The number that digits write.
use Rattle.std.proofs.Common.{◌≡◌, ℕ, ◌+◌, ◌-◌, ◌*◌, ◌^◌, ◌<◌, ◌≤◌, Bool, true, false, ◌&&◌, List, [], ◌∷◌, length, get_or, drop, leb, Some, None, refl, ap, sym, ◌∙◌, add-one, arith, rules}
use native.Mathlib.Nat.{pow-succ', pow-le-pow_right}
use Rattle.std.proofs.lemmas.Bool.{and_parts, cond-true, cond-false, leb-true}
use Rattle.std.specs.Char.{is_ascii_digit}
use Rattle.std.specs.Int.{IsInRange}
use Rattle.std.specs.List.{list_all}
use Rattle.std.specs.Str.{all_ascii_digits}
use Rattle.std.proofs.lemmas.List.{drop_more, drop_all}
use Rattle.std.proofs.lemmas.Str.Parse.{IsNumeralModel, numerals_by_fold, tells_all_ascii_digits, digit_at, digits_value_short}
use Rattle.word.specs.Text.{worth, worth_after, number}

pub own : IsNumeralModel (λ ds. all_ascii_digits ds ≡ true) worth
own = numerals_by_fold _ tells_all_ascii_digits worth_after (search rules)

pub digit : (ds : List ℕ) (i : ℕ) → all_ascii_digits ds ≡ true → i < length ds → IsInRange 48 57 (get_or ds i 0)
digit ds i all h = digit_at ds i (own.to ds all) h

pub small : (n i k : ℕ) → n < 10 ^ i → i < k → k ≤ 7 → n < 1000000
small n i k h below short =
    let six : i ≤ 6 = omega arith in
    let ten : 0 < 10 = omega arith in
    let p : 10 ^ i ≤ 10 ^ 6 = pow-le-pow_right ten six in
    omega arith

pub grows : (n i d : ℕ) → n < 10 ^ i → d ≤ 57 → 10 * n + (d - 48) < 10 ^ (i + 1)
grows n i d h k = rw (add-one, pow-succ') (omega arith)

pub goes_on : (ds : List ℕ) (n i : ℕ) → i < length ds → worth_after n (drop i ds) ≡ worth ds → worth_after (10 * n + (get_or ds i 0 - 48)) (drop (i + 1) ds) ≡ worth ds
goes_on ds n i h e = sym (ap (worth_after n) (drop_more ds i 0 h)) ∙ e

pub at_end : (ds : List ℕ) (n i : ℕ) → length ds ≤ i → worth_after n (drop i ds) ≡ worth ds → n ≡ worth ds
at_end ds n i h e = sym (ap (worth_after n) (drop_all i ds h)) ∙ e

-- seven digits at most
pub below_ten_million : (ds : List ℕ) → all_ascii_digits ds ≡ true → length ds ≤ 7 → worth ds < 10000000
below_ten_million ds all short = omega (arith, digits_value_short own ds 7 all short)

pub each_digit : (ds : List ℕ) → list_all is_ascii_digit ds ≡ all_ascii_digits ds
each_digit [] = refl
each_digit (d ∷ ds) = ap (λ t. is_ascii_digit d && t) (each_digit ds)

abbrev pub is_number : List ℕ → Bool
is_number ds = leb 1 (length ds) && leb (length ds) 7 && list_all is_ascii_digit ds

same_test : (ds : List ℕ) → (all_ascii_digits ds && (leb 1 (length ds) && leb (length ds) 7)) ≡ is_number ds
same_test ds = ap (λ t. t && (leb 1 (length ds) && leb (length ds) 7)) (sym (each_digit ds)) ∙ turned (list_all is_ascii_digit ds) (leb 1 (length ds)) (leb (length ds) 7)
  where
    turned : (x y z : Bool) → (x && (y && z)) ≡ (y && z && x)
    turned true true true = refl
    turned true true false = refl
    turned true false z = refl
    turned false true true = refl
    turned false true false = refl
    turned false false z = refl

pub none : (ds : List ℕ) → is_number ds ≡ false → number ds ≡ None
none ds e = cond-false _ (Some (worth ds)) None (same_test ds ∙ e)

module _ (ds : List ℕ) (is : is_number ds ≡ true) where
  parts : (leb 1 (length ds) && leb (length ds) 7 ≡ true) × (list_all is_ascii_digit ds ≡ true)
  parts = and_parts (leb 1 (length ds) && leb (length ds) 7) _ is

  pub all : all_ascii_digits ds ≡ true
  all = sym (each_digit ds) ∙ parts.1

  pub short : length ds ≤ 7
  short = leb-true (length ds) 7 (and_parts (leb 1 (length ds)) _ parts.0).1

  pub is_some : number ds ≡ Some (worth ds)
  is_some = cond-true _ (Some (worth ds)) None (same_test ds ∙ is)
