-- Internal: the laws of the tokens of every line, and the tokens of a few.
use Rattle.std.proofs.Common.{◌≡◌, ℕ, suc, ◌≤◌, Bool, true, false, cond, ◌&&◌, List, [], ◌∷◌, ◌++◌, length, sym, refl, ap, ◌∙◌, append_assoc, arith, length-append}
use Rattle.std.proofs.lemmas.Bool.{and_parts}
use Rattle.std.proofs.lemmas.Bool.Decides.{nat_tests}
use Rattle.tokens.specs.Tokens.{Lexeme, number, name, sign, is_space, is_digit, is_name, pairs, paired, lone, single, joined, tokens}
use Rattle.tokens.specs.Laws.{Laws}
use Rattle.tokens.proofs.Lexing.{by_digits, unjoined, spaced}

joined_before : (b : ℕ) (xs ys ts : List Lexeme) (ds : List ℕ) → xs ≡ number ds ∷ ts → joined b (xs ++ ys) ≡ joined b xs ++ ys
joined_before b xs ys ts ds e = rw e

-- what stands behind goes along, whichever way the first two bytes are read
along : (x y : Bool) (t : Lexeme) (ss js us vs zs js' us' vs' : List Lexeme) → (x ≡ true → js' ≡ js ++ zs) → us' ≡ us ++ zs → vs' ≡ vs ++ zs → cond x js' (cond y (t ∷ us') (ss ++ vs')) ≡ cond x js (cond y (t ∷ us) (ss ++ vs)) ++ zs
along true y t ss js us vs zs js' us' vs' j u v = j refl
along false true t ss js us vs zs js' us' vs' j u v = ap (λ x. t ∷ x) u
along false false t ss js us vs zs js' us' vs' j u v = ap (λ x. ss ++ x) v ∙ sym (append_assoc ss vs zs)

parted : (xs ys : List ℕ) → tokens (xs ++ (32 ∷ ys)) ≡ tokens xs ++ tokens ys
parted [] ys = spaced ys
parted (b ∷ []) ys =
    let d : (is_digit b && is_digit 32) ≡ false = grind (arith, nat_tests) in
    let p : pairs b 32 ≡ false = grind (arith, nat_tests) in
    unjoined b 32 ys d p ∙ ap (λ ts. single b ++ ts) (spaced ys)
parted (b ∷ c ∷ xs) ys =
    let ih = parted (c ∷ xs) ys in
    along (is_digit b && is_digit c) (pairs b c) (sign (paired b c)) (single b) (joined b (tokens (c ∷ xs))) (tokens xs) (tokens (c ∷ xs)) (tokens ys)
    (joined b (tokens (c ∷ (xs ++ (32 ∷ ys))))) (tokens (xs ++ (32 ∷ ys))) (tokens (c ∷ (xs ++ (32 ∷ ys))))
    (λ e. ap (joined b) ih ∙ joined_before b (tokens (c ∷ xs)) (tokens ys) _ _ (by_digits c xs (and_parts (is_digit b) (is_digit c) e).1))
    (parted xs ys) ih

one_at_most : (x y z : Bool) (t u v : Lexeme) → length (cond x [] (cond y (t ∷ []) (cond z (u ∷ []) (v ∷ [])))) ≤ 1
one_at_most true y z t u v = omega arith
one_at_most false true z t u v = omega arith
one_at_most false false true t u v = omega arith
one_at_most false false false t u v = omega arith

at_most_one : (b : ℕ) → length (single b) ≤ 1
at_most_one b = one_at_most (is_space b) (is_digit b) (is_name b) (number (b ∷ [])) (name b) (sign (lone b))

as_many : (b : ℕ) (ts : List Lexeme) → length (joined b ts) ≡ length ts
as_many b [] = refl
as_many b (number ds ∷ ts) = refl
as_many b (name c ∷ ts) = refl
as_many b (sign s ∷ ts) = refl

of_three : (x y : Bool) (js us ss ts : List Lexeme) (s : Lexeme) (n : ℕ) → length js ≤ suc n → length us ≤ n → length ss ≤ 1 → length ts ≤ suc n → length (cond x js (cond y (s ∷ us) (ss ++ ts))) ≤ suc (suc n)
of_three true y js us ss ts s n j u o t = omega arith
of_three false true js us ss ts s n j u o t = omega arith
of_three false false js us ss ts s n j u o t = simp length-append (omega arith)

few : (l : List ℕ) → length (tokens l) ≤ length l
few [] = omega arith
few (b ∷ []) = at_most_one b
few (b ∷ c ∷ bs) =
    let ih = few (c ∷ bs) in
    of_three (is_digit b && is_digit c) (pairs b c) (joined b (tokens (c ∷ bs))) (tokens bs) (single b) (tokens (c ∷ bs)) (sign (paired b c)) (length bs)
    (rw (as_many b (tokens (c ∷ bs))) ih) (few bs) (at_most_one b) ih

pub laws : Laws
laws = record { parted = parted; few = few; longest = refl; ignored = refl; compared = refl; apart = refl; numbers = refl; rule = refl }
