-- Rules put where they belong, in their order.
use Rattle.std.proofs.Common.{◌≡◌, ℕ, ◌+◌, Bool, true, false, cond, ◌||◌, eqb, ◌⊎◌, List, [], ◌∷◌, sym, refl, ap, ◌∙◌, subst, inl, inr, arith, eq-eqb}
use Rattle.std.proofs.lemmas.Bool.{and_parts, and_from, both_ways}
use Rattle.book.specs.Rules.{Rule}
use Rattle.rules.specs.Places.{places_of}
use Rattle.book.specs.Books.{Among, precedes, with_rule}
use Rattle.books.specs.Refused.{holds_number, code_places}
use Rattle.books.specs.Kept.{leads, ascending}
use Rattle.book.proofs.Winning.{Sorted, sorted_with}

-- each rule goes before all behind it
pub leads_all : (u : Rule) (vs : List Rule) → leads u vs ≡ true → (x : Rule) → Among x vs → precedes u x ≡ true
leads_all u [] h x i = absurd i
leads_all u (v ∷ vs) h x (inl e) = subst (λ (y : Rule). precedes u y ≡ true) (sym e) (and_parts (precedes u v) (leads u vs) h).0
leads_all u (v ∷ vs) h x (inr i) = leads_all u vs (and_parts (precedes u v) (leads u vs) h).1 x i

all_leads : (u : Rule) (vs : List Rule) → ((x : Rule) → Among x vs → precedes u x ≡ true) → leads u vs ≡ true
all_leads u [] f = refl
all_leads u (v ∷ vs) f = and_from (precedes u v) (leads u vs) (f v (inl refl)) (all_leads u vs (λ x i. f x (inr i)))

pub sorted_of : (vs : List Rule) → ascending vs ≡ true → Sorted vs
sorted_of [] h = tt
sorted_of (v ∷ vs) h = let p = and_parts (leads v vs) (ascending vs) h in (leads_all v vs p.0, sorted_of vs p.1)

ascending_of : (vs : List Rule) → Sorted vs → ascending vs ≡ true
ascending_of [] s = refl
ascending_of (v ∷ vs) s = and_from (leads v vs) (ascending vs) (all_leads v vs s.0) (ascending_of vs s.1)

-- no rule has this number
pub apart : (n : ℕ) (vs : List Rule) → holds_number n vs ≡ false → (x : Rule) → Among x vs → n ≡ x.number → ⊥
apart n [] h x i e = i
apart n (v ∷ vs) h x i e = go (or_none (eqb n v.number) (holds_number n vs) h) i (λ k j. apart n vs k x j e)
  where
    or_none : (a b : Bool) → (a || b) ≡ false → (a ≡ false) × (b ≡ false)
    or_none true b q = absurd (both_ways true q refl)
    or_none false b q = (refl, q)

    go : (eqb n v.number ≡ false) × (holds_number n vs ≡ false) → (x ≡ v) ⊎ Among x vs → (holds_number n vs ≡ false → Among x vs → ⊥) → ⊥
    go p (inl q) ih = both_ways (eqb n v.number) p.0 (eq-eqb n v.number (e ∙ ap (λ (y : Rule). y.number) q))
    go p (inr k) ih = ih p.1 k

pub ascending_with : (u : Rule) (vs : List Rule) → holds_number u.number vs ≡ false → ascending vs ≡ true → ascending (with_rule u vs) ≡ true
ascending_with u vs new s = ascending_of (with_rule u vs) (sorted_with u vs (apart u.number vs new) (sorted_of vs s))

-- the code places of one rule more
pub places_with : (u : Rule) (vs : List Rule) → code_places (with_rule u vs) ≡ places_of u + code_places vs
places_with u [] = refl
places_with u (v ∷ vs) = go (precedes u v) (places_with u vs)
  where
    go : (t : Bool) → code_places (with_rule u vs) ≡ places_of u + code_places vs → code_places (cond t (u ∷ v ∷ vs) (v ∷ with_rule u vs)) ≡ places_of u + (places_of v + code_places vs)
    go true ih = refl
    go false ih = omega arith
