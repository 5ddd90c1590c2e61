-- What the form of a module says of its letter and parameters. Lemmas of the law of sources: internal.
use Rattle.std.proofs.Common.{◌≡◌, ℕ, ◌≤◌, Bool, true, false, cond, ◌&&◌, ◌||◌, leb, List, [], ◌∷◌, length, ℤ, Some, None, Option, refl, arith}
use Rattle.std.specs.Option.{option_map}
use Rattle.std.proofs.lemmas.Bool.{leb-true}
use Rattle.std.proofs.lemmas.Bool.Decides.{nat_tests as told}
use Rattle.word.specs.Symbols.{Symbol, is_letter, is_bracket, may_have}
use Rattle.word.specs.Text.{split}
use Rattle.seed.specs.Seeds.{integers, parameters, at_most_3, closed, bare, with_list, form}

letter_counts : (b n : ℕ) → is_letter b ≡ true → n ≤ 3 → may_have b n ≡ true
letter_counts b n l few = grind (arith, told)

bare_counts : (b : ℕ) → (is_bracket b || is_letter b) ≡ true → may_have b 0 ≡ true
bare_counts b h = go (is_bracket b) (is_letter b) h
  where
    go : (x y : Bool) → (x || y) ≡ true → cond x true (y && true) ≡ true
    go true y e = refl
    go false true e = refl
    go false false e = e

few_read : (o : Option (List ℤ)) (zs : List ℤ) → at_most_3 o ≡ Some zs → length zs ≤ 3
few_read None zs e = let z : ◌≡◌ {A = ℕ} 0 1 = cc in absurd (omega arith)
few_read (Some ys) zs e = go (leb (length ys) 3) refl e
  where
    go : (t : Bool) → leb (length ys) 3 ≡ t → cond t (Some ys) None ≡ Some zs → length zs ≤ 3
    go true p q = let same : ys ≡ zs = cc in rw (← same) (leb-true _ 3 p)
    go false p q = let z : ◌≡◌ {A = ℕ} 0 1 = cc in absurd (omega arith)

-- a module by its form may have its parameters
pub formed : (own : List ℕ) (s : Symbol) → form own ≡ Some s → may_have s.letter (length s.params) ≡ true
formed [] s e = let z : ◌≡◌ {A = ℕ} 0 1 = cc in absurd (omega arith)
formed (b ∷ []) s e = go (is_bracket b || is_letter b) refl e
  where
    go : (t : Bool) → (is_bracket b || is_letter b) ≡ t → cond t (Some (bare b)) None ≡ Some s → may_have s.letter (length s.params) ≡ true
    go true p q = let same : bare b ≡ s = cc in rw (← same) (bare_counts b p)
    go false p q = let z : ◌≡◌ {A = ℕ} 0 1 = cc in absurd (omega arith)
formed (b ∷ c ∷ bs) s e = go (is_letter b) refl (closed bs) e
  where
    listed : (r : Option (List ℤ)) → ((zs : List ℤ) → r ≡ Some zs → length zs ≤ 3) → is_letter b ≡ true → option_map (λ zs. record { letter = b; params = zs }) r ≡ Some s → may_have s.letter (length s.params) ≡ true
    listed None few letter q = let z : ◌≡◌ {A = ℕ} 0 1 = cc in absurd (omega arith)
    listed (Some zs) few letter q = let same : record { letter = b; params = zs } ≡ s = cc in rw (← same) (letter_counts b (length zs) letter (few zs refl))

    go : (t : Bool) → is_letter b ≡ t → (o : Option (List ℕ)) → cond t (with_list b o) None ≡ Some s → may_have s.letter (length s.params) ≡ true
    go true p None q = let z : ◌≡◌ {A = ℕ} 0 1 = cc in absurd (omega arith)
    go true p (Some l) q = listed (parameters l) (few_read (integers (split 44 l))) p q
    go false p o q = let z : ◌≡◌ {A = ℕ} 0 1 = cc in absurd (omega arith)
