-- The answers of a book to a line.
use Rattle.std.proofs.Common.{◌≡◌, ℕ, zero, suc, ◌+◌, ◌≤◌, Bool, true, false, cond, not, ◌&&◌, ◌||◌, ltb, leb, ◌⊎◌, List, length, Ok, Err, Result, sym, refl, ◌∙◌, subst, inl, inr, arith, MatchResult}
use Rattle.rules.specs.declared.refusal.Refusal.{Refusal}
use Rattle.rules.specs.declared.refusal.Refusal.TheVariants.{TooLong, NotByGrammar, PrintedNumber, NumberTooLarge, Names, Nesting, TooManyModules, NumberHeld, TooManyRules, TooMuchCode}
use Rattle.book.specs.Rules.{Rule}
use Rattle.book.specs.Books.{Entry, rule, ignores}
use Rattle.rules.specs.Places.{numbers, names, expressions, each, given_names, places_of}
use Rattle.rules.specs.Wrong.{some_over, some_twice, some_missing, nests}
use Rattle.rules.specs.Refusals.{refusal_number, answer_number}
use Rattle.lines.specs.Reading.{Says}
use Rattle.book.specs.Books.{Book, with_entry}
use Rattle.books.specs.Refused.{holds_number, code_places, no_place, refused}
use Rattle.books.specs.Loading.{Loads}

-- a refusal has a number
pub some_number : (e : Refusal) → refusal_number e ≡ 0 → ⊥
some_number TooLong h = omega arith
some_number NotByGrammar h = omega arith
some_number PrintedNumber h = omega arith
some_number NumberTooLarge h = omega arith
some_number Names h = omega arith
some_number Nesting h = omega arith
some_number TooManyModules h = omega arith
some_number NumberHeld h = omega arith
some_number TooManyRules h = omega arith
some_number TooMuchCode h = omega arith

-- what speaks against a line that is read has a number from 3 on
abbrev Late : ℕ → Type 0
Late n = (n ≡ 0) ⊎ (3 ≤ n)

late : (t : Bool) (k n : ℕ) → 3 ≤ k → Late n → Late (cond t k n)
late true k n h l = inr h
late false k n h l = l

late_place : (b : Book) (u : Rule) → Late (no_place b u)
late_place b u =
    late (holds_number u.number b.rules) 11 _ (omega arith)
    (late (leb 48 (length b.rules)) 12 _ (omega arith) (late (ltb 1_024 (code_places b.rules + places_of u)) 13 0 (omega arith) (inl refl)))

late_refused : (b : Book) (e : Entry) → Late (refused b e)
late_refused b (ignores cs) = inl refl
late_refused b (rule u) =
    late (not (leb 1 u.number && leb u.number 999)) 3 _ (omega arith)
    (late (some_over (each numbers (expressions u))) 4 _ (omega arith)
    (late (some_twice (given_names u) || some_missing (given_names u) (each names (expressions u))) 5 _ (omega arith)
    (late (not (nests 0 u.successor)) 6 _ (omega arith) (late (ltb 24 (length u.successor)) 7 (no_place b u) (omega arith) (late_place b u)))))

module _ (bytes : List ℕ) (b b' : Book) where
  -- a line that is read
  module _ (e : Entry) (short : length bytes ≤ 200) (says : Says bytes e) where
    pub taken_line : refused b e ≡ 0 → b' ≡ with_entry e b → Loads bytes b 0 b'
    taken_line f a = record { short = short; entry = e; says = says; free = f; after = a }

    turned_down : (n : ℕ) → 3 ≤ n → refused b e ≡ n → b' ≡ b → Loads bytes b n b'
    turned_down zero l r s = absurd (omega arith)
    turned_down (suc zero) l r s = absurd (omega arith)
    turned_down (suc (suc zero)) l r s = absurd (omega arith)
    turned_down (suc (suc (suc n))) l r s = (record { short = short; entry = e; says = says; reason = r }, s)

    pub answered : (r : Result (Unit {0}) Refusal) → answer_number r ≡ refused b e → MatchResult r (λ _. b' ≡ with_entry e b) (λ _. b' ≡ b) → Loads bytes b (answer_number r) b'
    answered (Ok u) q a = taken_line (sym q) a
    answered (Err x) q a = turned_down (refusal_number x) (from_3 (late_refused b e)) (sym q) a
      where
        from_3 : Late (refused b e) → 3 ≤ refusal_number x
        from_3 (inl z) = absurd (some_number x (q ∙ z))
        from_3 (inr h) = subst (λ n. 3 ≤ n) (sym q) h
