-- Rules of one letter, one after the other.
use Rattle.std.proofs.Common.{◌≡◌, ℕ, ◌+◌, ◌<◌, ◌≤◌, Bool, true, false, cond, not, ◌&&◌, eqb, ltb, leb, List, [], ◌∷◌, length, get_or, set, drop, Some, Option, sym, refl, ap, ◌∙◌, subst, arith, one-add, eq-eqb, get_or-set_same, get_or-set_other}
use borrow.Author.Tests.{eqb-true, eqb-false, ne_eqb, ltb-true, ltb-false}
use Rattle.std.proofs.lemmas.Bool.{and_parts, and_from}
use Rattle.std.specs.List.{position_or_len}
use Rattle.std.proofs.lemmas.List.{drop_more, drop_all, drop-drop, drop-map, get_or-drop, get_or-map, length-drop, length-map}
use Rattle.std.proofs.lemmas.List.Sums.{passes_at_first}
use Rattle.word.specs.Symbols.{Symbol}
use Rattle.expr.specs.declared.code.Code.{Code}
use Rattle.book.specs.Rules.{Rule, agrees, beside}
use Rattle.book.specs.Winners.{not_false, says, decides, winner}
use Rattle.books.specs.Outcomes.{by_rule, becomes}
use Rattle.books.specs.Kept.{within}
use Rattle.books.specs.Stored.{rule_in, rules_in}
use Rattle.books.specs.declared.rule.Rule.{Rule as StoredRule}
use Rattle.books.proofs.Rows.{item_at}
use Rattle.books.specs.Index.{letter_of, letters, with_letter, next_with}

pub counted : (rs : List StoredRule) → length (letters rs) ≡ length rs
counted rs = length-map rs letter_of

-- where a letter stands next
module _ (cs : List ℕ) where
  pub none_left : (c i : ℕ) → length cs ≤ i → next_with c i cs ≡ i
  none_left c i h = ap (λ (l : List ℕ). i + position_or_len (λ e. eqb e c) l) (drop_all i cs h) ∙ omega arith

  there : (c i : ℕ) → next_with c i cs < length cs → get_or cs (next_with c i cs) 0 ≡ c
  there c i h =
      let k = position_or_len (λ e. eqb e c) (drop i cs) in
      sym (get_or-drop i cs k 0) ∙ eqb-true (get_or (drop i cs) k 0) c (passes_at_first (λ e. eqb e c) (drop i cs) 0 (omega (arith, length-drop i cs)))

  -- one position more, in front of those from n on, where the letter d stands
  module _ (d i n : ℕ) (up : n ≡ i + 1) (inside : i < length cs) (own : get_or cs i 0 ≡ d) where
    by_test : (c : ℕ) → next_with c i cs ≡ i + cond (not (eqb d c)) (1 + position_or_len (λ e. eqb e c) (drop n cs)) 0
    by_test c = ap (λ (l : List ℕ). i + position_or_len (λ e. eqb e c) l) (drop_more cs i 0 inside) ∙ (λ j. i + cond (not (eqb (own j) c)) (1 + position_or_len (λ e. eqb e c) (drop (sym up j) cs)) 0)

    at_it : next_with d i cs ≡ i
    at_it = by_test d ∙ ap (λ (t : Bool). i + cond (not t) (1 + position_or_len (λ e. eqb e d) (drop n cs)) 0) (eq-eqb d d refl) ∙ omega arith

    behind_it : (c : ℕ) → (d ≡ c → ⊥) → next_with c i cs ≡ next_with c n cs
    behind_it c apart = by_test c ∙ ap (λ (t : Bool). i + cond (not t) (1 + position_or_len (λ e. eqb e c) (drop n cs)) 0) (ne_eqb d c apart) ∙ omega arith

    pub first_put : (first : List ℕ) → d < length first → ((c : ℕ) → c < 256 → get_or first c 0 ≡ next_with c n cs) → (c : ℕ) → c < 256 → get_or (set first d i) c 0 ≡ next_with c i cs
    first_put first w f c h = go (eqb d c) refl
      where
        go : (t : Bool) → eqb d c ≡ t → get_or (set first d i) c 0 ≡ next_with c i cs
        go true e = subst (λ k. get_or (set first d i) k 0 ≡ next_with k i cs) (eqb-true d c e) (get_or-set_same first d i 0 w ∙ sym at_it)
        go false e =
            let apart : d ≡ c → ⊥ = eqb-false d c e in
            get_or-set_other first d c i 0 (λ q. apart (sym q)) ∙ f c h ∙ sym (behind_it c apart)

    pub next_put : (next : List ℕ) (k : ℕ) → i < length next → k ≡ next_with d n cs → ((j : ℕ) → n ≤ j → j < length cs → get_or next j 0 ≡ next_with (get_or cs j 0) (j + 1) cs) → (j : ℕ) → i ≤ j → j < length cs → get_or (set next i k) j 0 ≡ next_with (get_or cs j 0) (j + 1) cs
    next_put next k w e f j l h = go (eqb j i) refl
      where
        go : (t : Bool) → eqb j i ≡ t → get_or (set next i k) j 0 ≡ next_with (get_or cs j 0) (j + 1) cs
        go true q = subst (λ m. get_or (set next i k) m 0 ≡ next_with (get_or cs m 0) (m + 1) cs) (sym (eqb-true j i q)) (get_or-set_same next i k 0 w ∙ e ∙ (λ m. next_with (sym own m) (up m) cs))
        go false q =
            let apart : j ≡ i → ⊥ = eqb-false j i q in
            get_or-set_other next i j k 0 apart ∙ f j (omega arith) h

-- the rules for a letter, from where it stands next
module _ (c : ℕ) where
  skips : (rs : List StoredRule) → with_letter c (drop (position_or_len (λ d. eqb d c) (letters rs)) rs) ≡ with_letter c rs
  skips [] = refl
  skips (r ∷ rs) = go (eqb (letter_of r) c) refl (skips rs)
    where
      p : ℕ
      p = position_or_len (λ d. eqb d c) (letters rs)

      go : (t : Bool) → eqb (letter_of r) c ≡ t → with_letter c (drop p rs) ≡ with_letter c rs → with_letter c (drop (cond (not t) (1 + p) 0) (r ∷ rs)) ≡ cond t (r ∷ with_letter c rs) (with_letter c rs)
      go true e ih = ap (λ (t : Bool). cond t (r ∷ with_letter c rs) (with_letter c rs)) e
      go false e ih = ap (λ k. with_letter c (drop k (r ∷ rs))) (one-add p) ∙ ih

  pub from_next : (rs : List StoredRule) (i at : ℕ) → at ≡ next_with c i (letters rs) → with_letter (get_or (letters rs) at 0) (drop at rs) ≡ with_letter c (drop i rs)
  from_next rs i at e = go (ltb at (length rs)) refl
    where
      skipped : with_letter c (drop at rs) ≡ with_letter c (drop i rs)
      skipped =
          let k = position_or_len (λ d. eqb d c) (letters (drop i rs)) in
          let here : at ≡ i + k = e ∙ ap (λ (l : List ℕ). i + position_or_len (λ d. eqb d c) l) (drop-map letter_of i rs) in
          ap (λ n. with_letter c (drop n rs)) here ∙ ap (with_letter c) (sym (drop-drop k i rs)) ∙ skips (drop i rs)

      go : (t : Bool) → ltb at (length rs) ≡ t → with_letter (get_or (letters rs) at 0) (drop at rs) ≡ with_letter c (drop i rs)
      go true l =
          let inside = ltb-true at (length rs) l in
          ap (λ d. with_letter d (drop at rs)) (ap (λ n. get_or (letters rs) n 0) e ∙ there (letters rs) c i (omega (arith, counted rs))) ∙ skipped
      go false l =
          let none = drop_all at rs (ltb-false at (length rs) l) in
          ap (with_letter (get_or (letters rs) at 0)) none ∙ sym (ap (with_letter c) none) ∙ skipped

-- the rule at a position, then those from the next for its letter on
pub one_taken : (rs : List StoredRule) (i at : ℕ) (q : StoredRule) → i < length rs → q ≡ get_or rs i q → at ≡ next_with (get_or (letters rs) i 0) (i + 1) (letters rs) → with_letter (get_or (letters rs) i 0) (drop i rs) ≡ q ∷ with_letter (get_or (letters rs) at 0) (drop at rs)
one_taken rs i at q l is e =
    let c = get_or (letters rs) i 0 in
    let own : letter_of q ≡ c = ap letter_of is ∙ sym (get_or-map letter_of rs i q 0 l) in
    let more = with_letter c (drop (i + 1) rs) in
    ap (with_letter c) (item_at rs i q l is)
    ∙ ap (λ (t : Bool). cond t (q ∷ more) more) (eq-eqb (letter_of q) c own)
    ∙ ap (λ (qs : List StoredRule). q ∷ qs) (sym (from_next c rs (i + 1) at e))

-- code within its places stays so where some rules are left out
pub some_within : (n c : ℕ) (rs : List StoredRule) → within n rs ≡ true → within n (with_letter c rs) ≡ true
some_within n c [] h = refl
some_within n c (r ∷ rs) h =
    let p = and_parts (leb (r.start + r.size) n) (within n rs) h in
    go (eqb (letter_of r) c) p.0 (some_within n c rs p.1)
  where
    go : (t : Bool) → leb (r.start + r.size) n ≡ true → within n (with_letter c rs) ≡ true → within n (cond t (r ∷ with_letter c rs) (with_letter c rs)) ≡ true
    go true q ih = and_from (leb (r.start + r.size) n) (within n (with_letter c rs)) q ih
    go false q ih = ih

-- rules for other letters than a module's have no say there
module _ (cs : List Code) (s : Symbol) where
  disagrees : (q : StoredRule) → eqb (letter_of q) s.letter ≡ false → agrees (rule_in cs q).predecessor s ≡ false
  disagrees q e = ap (λ (t : Bool). t && eqb (length (rule_in cs q).predecessor.names) (length s.params)) e

  module _ (l r : Option Symbol) where
    only_winner : (rs : List StoredRule) → winner l s r (rules_in cs (with_letter s.letter rs)) ≡ winner l s r (rules_in cs rs)
    only_winner [] = refl
    only_winner (q ∷ qs) = go (eqb (letter_of q) s.letter) refl (only_winner qs)
      where
        go : (t : Bool) → eqb (letter_of q) s.letter ≡ t → winner l s r (rules_in cs (with_letter s.letter qs)) ≡ winner l s r (rules_in cs qs) → winner l s r (rules_in cs (cond t (q ∷ with_letter s.letter qs) (with_letter s.letter qs))) ≡ winner l s r (rules_in cs (q ∷ qs))
        go true e ih = ap (cond (decides l s r (rule_in cs q)) (Some (rule_in cs q))) ih
        go false e ih =
            let u : Rule = rule_in cs q in
            ih ∙ sym (ap (λ (t : Bool). cond ((t && (beside u.before l && beside u.behind r)) && not_false (says l s r u)) (Some u) (winner l s r (rules_in cs qs))) (disagrees q e))

    pub only_becomes : (rs : List StoredRule) → becomes l s r (rules_in cs (with_letter s.letter rs)) ≡ becomes l s r (rules_in cs rs)
    only_becomes rs = ap (by_rule l s r) (only_winner rs)
