-- The first line of a text, and those after it.
use Rattle.std.proofs.Common.{◌≡◌, ℕ, zero, suc, ◌<◌, ◌≤◌, Bool, true, false, cond, eqb, ltb, List, [], ◌∷◌, length, get_or, take, drop, sym, refl, ap, ◌∙◌, ⊎_elim, arith}
use Rattle.std.proofs.lemmas.List.{length-take, drop_all}
use Rattle.std.proofs.lemmas.Bool.{lt-ltb, le-ltb, cases_lt}
use Rattle.word.specs.Text.{First, glued, split}
use Rattle.word.proofs.Splits.{split_first}
use Rattle.job.specs.Jobs.{unless_empty, but_empty_end, lines_of, line_after, numbered}

glued_ended : (b : ℕ) (p : List ℕ) (ps : List (List ℕ)) → but_empty_end (p ∷ glued b ps) ≡ p ∷ but_empty_end (glued b ps)
glued_ended b p [] = refl
glued_ended b p (q ∷ qs) = refl

-- a text always has a part
split_ended : (c : ℕ) (p text : List ℕ) → but_empty_end (p ∷ split c text) ≡ p ∷ but_empty_end (split c text)
split_ended c p [] = refl
split_ended c p (b ∷ bs) =
    elim (eqb b c) as (λ t. but_empty_end (p ∷ elim t [ true ↦ [] ∷ split c bs | false ↦ glued b (split c bs) ]) ≡ p ∷ but_empty_end (elim t [ true ↦ [] ∷ split c bs | false ↦ glued b (split c bs) ]))
    [ true ↦ refl | false ↦ glued_ended b p (split c bs) ]

last_line : (text : List ℕ) → 0 < length text → unless_empty text ≡ text ∷ []
last_line [] h = absurd (omega arith)
last_line (b ∷ bs) h = refl

module _ (text : List ℕ) (r : ℕ) (f : First 10 text r) where
  parts : Bool → List (List ℕ)
  parts t = take r text ∷ cond t (split 10 (drop (suc r) text)) []

  cut : (t : Bool) → ltb r (length text) ≡ t → lines_of text ≡ but_empty_end (parts t)
  unfolding parts
  cut t e = ap but_empty_end (split_first 10 text r f ∙ ap parts e)

  goes_on : r < length text → lines_of text ≡ take r text ∷ lines_of (drop (suc r) text)
  unfolding parts
  goes_on h = cut true (lt-ltb r (length text) h) ∙ split_ended 10 (take r text) (drop (suc r) text)

  ends : 0 < length text → length text ≤ r → lines_of text ≡ take r text ∷ lines_of (drop (suc r) text)
  unfolding parts
  ends some h =
      let long : 0 < length (take r text) = simp length-take (omega arith) in
      cut false (le-ltb r (length text) h)
      ∙ last_line (take r text) long
      ∙ ap (λ l. take r text ∷ lines_of l) (sym (drop_all (suc r) text (omega arith)))

  lines_first : 0 < length text → lines_of text ≡ take r text ∷ lines_of (drop (suc r) text)
  lines_first some = ⊎_elim goes_on (ends some) (cases_lt r (length text))

pub first_line : (text : List ℕ) (r : ℕ) → First 10 text r → take r text ≡ line_after 0 text
first_line [] zero f = refl
first_line [] (suc r) f = refl
first_line (b ∷ bs) r f = sym (ap (λ ls. get_or ls 0 []) (lines_first (b ∷ bs) r f (omega arith)))

pub other_lines : (text : List ℕ) (r : ℕ) → First 10 text r → lines_of (drop (suc r) text) ≡ drop 1 (lines_of text)
other_lines [] r f = refl
other_lines (b ∷ bs) r f = sym (ap (drop 1) (lines_first (b ∷ bs) r f (omega arith)))

pub none_left : (n : ℕ) (text : List ℕ) → length text ≡ 0 → numbered n (lines_of text) ≡ []
none_left n [] h = refl
none_left n (b ∷ bs) h = absurd (omega arith)
