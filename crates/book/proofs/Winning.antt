-- The label of a book.
use Rattle.std.proofs.Common.{◌≡◌, ℕ, ◌+◌, ◌<◌, Bool, true, false, cond, ◌&&◌, eqb, ltb, ◌⊎◌, List, [], ◌∷◌, is_some, Some, None, Option, sym, refl, ap, ◌∙◌, subst, inl, inr, arith}
use Rattle.std.proofs.lemmas.Bool.{both_ways, ltb-true, eqb-true, and_parts, or_cases}
use Rattle.book.specs.Rules.{Form, Rule}
use Rattle.book.specs.Books.{Among, Book, empty, Entry, rule, ignores, rank, rank_of, precedes, with_rule, with_entry, loaded, Differs, DiffersAll, Distinct}
use Rattle.book.specs.Winners.{first, decides}
use Rattle.book.specs.Label.{counted, neighbours, GrowsBefore, Holds, Label}
use Rattle.book.proofs.Ordering.{total, through}

-- a rule put among others is there, and so are they, and nothing else
pub in_new : (u : Rule) (vs : List Rule) → Among u (with_rule u vs)
in_new u [] = inl refl
in_new u (v ∷ vs) = go (precedes u v) refl (in_new u vs)
  where
    go : (t : Bool) → precedes u v ≡ t → Among u (with_rule u vs) → Among u (cond t (u ∷ v ∷ vs) (v ∷ with_rule u vs))
    go true e ih = inl refl
    go false e ih = inr ih

pub in_old : (u x : Rule) (vs : List Rule) → Among x vs → Among x (with_rule u vs)
in_old u x [] h = absurd h
in_old u x (v ∷ vs) h = go (precedes u v) h (in_old u x vs)
  where
    go : (t : Bool) → (x ≡ v) ⊎ Among x vs → (Among x vs → Among x (with_rule u vs)) → Among x (cond t (u ∷ v ∷ vs) (v ∷ with_rule u vs))
    go true k ih = inr k
    go false (inl e) ih = inl e
    go false (inr k) ih = inr (ih k)

pub in_only : (u x : Rule) (vs : List Rule) → Among x (with_rule u vs) → (x ≡ u) ⊎ Among x vs
in_only u x [] (inl e) = inl e
in_only u x [] (inr h) = absurd h
in_only u x (v ∷ vs) h = go (precedes u v) h (in_only u x vs)
  where
    go : (t : Bool) → Among x (cond t (u ∷ v ∷ vs) (v ∷ with_rule u vs)) → (Among x (with_rule u vs) → (x ≡ u) ⊎ Among x vs) → (x ≡ u) ⊎ ((x ≡ v) ⊎ Among x vs)
    go true (inl e) ih = inl e
    go true (inr k) ih = inr k
    go false (inl e) ih = inr (inl e)
    go false (inr k) ih = behind (ih k)
      where
        behind : (x ≡ u) ⊎ Among x vs → (x ≡ u) ⊎ ((x ≡ v) ⊎ Among x vs)
        behind (inl e) = inl e
        behind (inr j) = inr (inr j)

-- each rule goes before all behind it
abbrev pub Leads : Rule → List Rule → Type 0
Leads u vs = (x : Rule) → Among x vs → precedes u x ≡ true

abbrev pub Sorted : List Rule → Type 0
Sorted [] = Unit {0}
Sorted (v ∷ vs) = Leads v vs × Sorted vs

abbrev pub Apart : Rule → List Rule → Type 0
Apart u vs = (x : Rule) → Among x vs → u.number ≡ x.number → ⊥

chain : (u v w : Rule) → precedes u v ≡ true → precedes v w ≡ true → precedes u w ≡ true
chain u v w h g = through (rank_of u) u.number (rank_of v) v.number (rank_of w) w.number h g

pub sorted_with : (u : Rule) (vs : List Rule) → Apart u vs → Sorted vs → Sorted (with_rule u vs)
sorted_with u [] a s = (λ x h. absurd h, tt)
sorted_with u (v ∷ vs) a s = go (precedes u v) refl (sorted_with u vs (λ x h. a x (inr h)) s.1)
  where
    go : (t : Bool) → precedes u v ≡ t → Sorted (with_rule u vs) → Sorted (cond t (u ∷ v ∷ vs) (v ∷ with_rule u vs))
    go true e ih = (leads, s)
      where
        leads : (x : Rule) → (x ≡ v) ⊎ Among x vs → precedes u x ≡ true
        leads x (inl q) = subst (λ (y : Rule). precedes u y ≡ true) (sym q) e
        leads x (inr h) = chain u v x e (s.0 x h)
    go false e ih = (λ x h. leads x (in_only u x vs h), ih)
      where
        leads : (x : Rule) → (x ≡ u) ⊎ Among x vs → precedes v x ≡ true
        leads x (inl q) = subst (λ (y : Rule). precedes v y ≡ true) (sym q) (total u v (a v (inl refl)) e)
        leads x (inr h) = s.0 x h

-- the first of some rules that passes a test
pub first_passes : (p : Rule → Bool) (us : List Rule) (u : Rule) → first p us ≡ Some u → (p u ≡ true) × Among u us
first_passes p [] u e = let z : ◌≡◌ {A = ℕ} 0 1 = cc in absurd (omega arith)
first_passes p (v ∷ vs) u e = go (p v) refl e (first_passes p vs u)
  where
    go : (t : Bool) → p v ≡ t → cond t (Some v) (first p vs) ≡ Some u → (first p vs ≡ Some u → (p u ≡ true) × Among u vs) → (p u ≡ true) × ((u ≡ v) ⊎ Among u vs)
    go true h q ih = let same : v ≡ u = cc in (subst (λ (y : Rule). p y ≡ true) same h, inl (sym same))
    go false h q ih = let r = ih q in (r.0, inr r.1)

pub first_none : (p : Rule → Bool) (us : List Rule) → first p us ≡ None → (v : Rule) → Among v us → p v ≡ false
first_none p [] e v h = absurd h
first_none p (u ∷ us) e v h = go (p u) refl e h (first_none p us)
  where
    go : (t : Bool) → p u ≡ t → cond t (Some u) (first p us) ≡ None → (v ≡ u) ⊎ Among v us → (first p us ≡ None → (x : Rule) → Among x us → p x ≡ false) → p v ≡ false
    go true k q i ih = let z : ◌≡◌ {A = ℕ} 0 1 = cc in absurd (omega arith)
    go false k q (inl s) ih = subst (λ (y : Rule). p y ≡ false) (sym s) k
    go false k q (inr i) ih = ih q v i

pub first_leads : (p : Rule → Bool) (us : List Rule) → Sorted us → (u v : Rule) → first p us ≡ Some u → Among v us → p v ≡ true → (u ≡ v) ⊎ (precedes u v ≡ true)
first_leads p [] s u v e h k = absurd h
first_leads p (w ∷ ws) s u v e h k = go (p w) refl e h (first_leads p ws s.1 u v)
  where
    go : (t : Bool) → p w ≡ t → cond t (Some w) (first p ws) ≡ Some u → (v ≡ w) ⊎ Among v ws → (first p ws ≡ Some u → Among v ws → p v ≡ true → (u ≡ v) ⊎ (precedes u v ≡ true)) → (u ≡ v) ⊎ (precedes u v ≡ true)
    go true j q (inl i) ih = let same : w ≡ u = cc in inl (sym same ∙ sym i)
    go true j q (inr i) ih = let same : w ≡ u = cc in inr (subst (λ (y : Rule). precedes y v ≡ true) same (s.0 v i))
    go false j q (inl i) ih = absurd (both_ways (p v) (subst (λ (y : Rule). p y ≡ false) (sym i) j) k)
    go false j q (inr i) ih = ih q i k

-- the rules of a book are those of its entries
pub in_book : (es : List Entry) (b : Book) (v : Rule) → Holds v es ⊎ Among v b.rules → Among v (loaded es b).rules
in_book [] b v (inl h) = absurd h
in_book [] b v (inr h) = h
in_book (rule u ∷ es) b v (inl (inl e)) = let same : u ≡ v = cc in in_book es (with_entry (rule u) b) v (inr (subst (λ (y : Rule). Among y (with_rule u b.rules)) same (in_new u b.rules)))
in_book (ignores cs ∷ es) b v (inl (inl e)) = let z : ◌≡◌ {A = ℕ} 0 1 = cc in absurd (omega arith)
in_book (rule u ∷ es) b v (inl (inr h)) = in_book es (with_entry (rule u) b) v (inl h)
in_book (ignores cs ∷ es) b v (inl (inr h)) = in_book es (with_entry (ignores cs) b) v (inl h)
in_book (rule u ∷ es) b v (inr h) = in_book es (with_entry (rule u) b) v (inr (in_old u v b.rules h))
in_book (ignores cs ∷ es) b v (inr h) = in_book es (with_entry (ignores cs) b) v (inr h)

pub from_book : (es : List Entry) (b : Book) (v : Rule) → Among v (loaded es b).rules → Holds v es ⊎ Among v b.rules
from_book [] b v h = inr h
from_book (rule u ∷ es) b v h = go (from_book es (with_entry (rule u) b) v h)
  where
    old : (v ≡ u) ⊎ Among v b.rules → ((rule u ≡ rule v) ⊎ Holds v es) ⊎ Among v b.rules
    old (inl e) = inl (inl (ap (λ (y : Rule). rule y) (sym e)))
    old (inr k) = inr k

    go : Holds v es ⊎ Among v (with_rule u b.rules) → ((rule u ≡ rule v) ⊎ Holds v es) ⊎ Among v b.rules
    go (inl k) = inl (inr k)
    go (inr k) = old (in_only u v b.rules k)
from_book (ignores cs ∷ es) b v h = go (from_book es (with_entry (ignores cs) b) v h)
  where
    go : Holds v es ⊎ Among v b.rules → ((ignores cs ≡ rule v) ⊎ Holds v es) ⊎ Among v b.rules
    go (inl k) = inl (inr k)
    go (inr k) = inr k

-- what is loaded differs from what the book has
Clear : List Entry → Book → Type 0
Clear es b = (u x : Rule) → Holds u es → Among x b.rules → u.number ≡ x.number → ⊥

held_differs : (u v : Rule) (es : List Entry) → DiffersAll (rule u) es → Holds v es → u.number ≡ v.number → ⊥
held_differs u v [] d h q = h
held_differs u v (e ∷ es) d (inl k) q = subst (λ (x : Entry). Differs (rule u) x) k d.0 q
held_differs u v (e ∷ es) d (inr k) q = held_differs u v es d.1 k q

clear_rule : (u : Rule) (es : List Entry) (b : Book) → DiffersAll (rule u) es → Clear (rule u ∷ es) b → Clear es (with_entry (rule u) b)
unfolding Clear
clear_rule u es b d c v x h i q = go (in_only u x b.rules i)
  where
    go : (x ≡ u) ⊎ Among x b.rules → ⊥
    go (inl e) = held_differs u v es d h (sym (q ∙ ap (λ (y : Rule). y.number) e))
    go (inr k) = c v x (inr h) k q

sorted_book : (es : List Entry) (b : Book) → Distinct es → Clear es b → Sorted b.rules → Sorted (loaded es b).rules
unfolding Clear
sorted_book [] b d c s = s
sorted_book (rule u ∷ es) b d c s =
    sorted_book es (with_entry (rule u) b) d.1 (clear_rule u es b d.0 c) (sorted_with u b.rules (λ x h. c u x (inl refl) h) s)
sorted_book (ignores cs ∷ es) b d c s = sorted_book es (with_entry (ignores cs) b) d.1 (λ u x h i. c u x (inr h) i) s

-- the rank, in the label's words
apart_ranks : (a b c d : Option Form) → rank a b < rank c d → (counted c + counted d < counted a + counted b) ⊎ ((counted a + counted b ≡ counted c + counted d) × (is_some a ≡ true) × (is_some c ≡ false))
apart_ranks (Some a) (Some b) (Some c) (Some d) h = absurd (omega arith)
apart_ranks (Some a) (Some b) (Some c) None h = inl (omega arith)
apart_ranks (Some a) (Some b) None (Some d) h = inl (omega arith)
apart_ranks (Some a) (Some b) None None h = inl (omega arith)
apart_ranks (Some a) None (Some c) (Some d) h = absurd (omega arith)
apart_ranks (Some a) None (Some c) None h = absurd (omega arith)
apart_ranks (Some a) None None (Some d) h = inr (refl, refl, refl)
apart_ranks (Some a) None None None h = inl (omega arith)
apart_ranks None (Some b) (Some c) (Some d) h = absurd (omega arith)
apart_ranks None (Some b) (Some c) None h = absurd (omega arith)
apart_ranks None (Some b) None (Some d) h = absurd (omega arith)
apart_ranks None (Some b) None None h = inl (omega arith)
apart_ranks None None (Some c) (Some d) h = absurd (omega arith)
apart_ranks None None (Some c) None h = absurd (omega arith)
apart_ranks None None None (Some d) h = absurd (omega arith)
apart_ranks None None None None h = absurd (omega arith)

same_ranks : (a b c d : Option Form) → rank a b ≡ rank c d → (counted a + counted b ≡ counted c + counted d) × (is_some a ≡ is_some c)
same_ranks (Some a) (Some b) (Some c) (Some d) h = (refl, refl)
same_ranks (Some a) (Some b) (Some c) None h = absurd (omega arith)
same_ranks (Some a) (Some b) None (Some d) h = absurd (omega arith)
same_ranks (Some a) (Some b) None None h = absurd (omega arith)
same_ranks (Some a) None (Some c) (Some d) h = absurd (omega arith)
same_ranks (Some a) None (Some c) None h = (refl, refl)
same_ranks (Some a) None None (Some d) h = absurd (omega arith)
same_ranks (Some a) None None None h = absurd (omega arith)
same_ranks None (Some b) (Some c) (Some d) h = absurd (omega arith)
same_ranks None (Some b) (Some c) None h = absurd (omega arith)
same_ranks None (Some b) None (Some d) h = (refl, refl)
same_ranks None (Some b) None None h = absurd (omega arith)
same_ranks None None (Some c) (Some d) h = absurd (omega arith)
same_ranks None None (Some c) None h = absurd (omega arith)
same_ranks None None None (Some d) h = absurd (omega arith)
same_ranks None None None None h = (refl, refl)

pub in_words : (u v : Rule) → precedes u v ≡ true → GrowsBefore u v
in_words u v h = go (or_cases (ltb (rank_of u) (rank_of v)) (eqb (rank_of u) (rank_of v) && ltb u.number v.number) h)
  where
    wide : (neighbours v < neighbours u) ⊎ ((neighbours u ≡ neighbours v) × (is_some u.before ≡ true) × (is_some v.before ≡ false)) → GrowsBefore u v
    wide (inl x) = inl x
    wide (inr x) = inr (inl x)

    go : (ltb (rank_of u) (rank_of v) ≡ true) ⊎ ((eqb (rank_of u) (rank_of v) && ltb u.number v.number) ≡ true) → GrowsBefore u v
    go (inl l) = wide (apart_ranks u.before u.behind v.before v.behind (ltb-true (rank_of u) (rank_of v) l))
    go (inr e) =
        let p = and_parts (eqb (rank_of u) (rank_of v)) (ltb u.number v.number) e in
        let s = same_ranks u.before u.behind v.before v.behind (eqb-true (rank_of u) (rank_of v) p.0) in
        inr (inr (s.0, s.1, ltb-true u.number v.number p.1))

pub in_words_or_same : (u v : Rule) → (u ≡ v) ⊎ (precedes u v ≡ true) → (u ≡ v) ⊎ GrowsBefore u v
in_words_or_same u v (inl e) = inl e
in_words_or_same u v (inr e) = inr (in_words u v e)

only_held : (v : Rule) (es : List Entry) → Holds v es ⊎ Among v [] → Holds v es
only_held v es (inl h) = h
only_held v es (inr h) = absurd h

pub label : Label
unfolding Clear
label = record {
  wins = λ es d l s r u v w h k. in_words_or_same u v (first_leads (decides l s r) (loaded es empty).rules (sorted_book es empty d (λ x y p q. absurd q) tt) u v w (in_book es empty v (inl h)) k);
  fits = λ es l s r u w. let p = first_passes (decides l s r) (loaded es empty).rules u w in (p.0, only_held u es (from_book es empty u p.1));
  some = λ es l s r n v h. first_none (decides l s r) (loaded es empty).rules n v (in_book es empty v (inl h));
}
