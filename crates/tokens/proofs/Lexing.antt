-- Internal: the first token of a text, by what its first bytes are.
use Rattle.std.proofs.Common.{◌≡◌, ℕ, suc, ◌+◌, ◌<◌, Bool, true, false, cond, ◌&&◌, List, [], ◌∷◌, ◌++◌, length, get_or, take, drop, Bor, sym, refl, ap, ◌∙◌, arith, one-add}
use Rattle.std.specs.List.{prefix_len, take_while}
use Rattle.std.specs.Str.{all_ascii_digits}
use Rattle.std.proofs.lemmas.Bool.{eqb-true}
use Rattle.std.proofs.lemmas.Bool.Decides.{nat_tests}
use Rattle.std.proofs.lemmas.List.Sums.{prefix_len-le-length}
use Rattle.tokens.specs.declared.token.Token.TheVariants.{Number, Sign}
use Rattle.tokens.specs.Readers.{Leads}
use Rattle.tokens.specs.Tokens.{number, sign, is_space, is_digit, is_name, pairs, lone, sign_of, is_sign, single, joined, tokens}

pub digit_alone : (b : ℕ) → is_digit b ≡ true → single b ≡ number (b ∷ []) ∷ []
digit_alone b h = let s : is_space b ≡ false = grind (arith, nat_tests) in rw (s, h)

digit_unpaired : (b c : ℕ) → is_digit b ≡ true → pairs b c ≡ false
digit_unpaired b c h = grind (arith, nat_tests)

space_unpaired : (c : ℕ) → pairs 32 c ≡ false
space_unpaired c = grind (arith, nat_tests)

-- a space in front is no token
pub spaced : (bs : List ℕ) → tokens (32 ∷ bs) ≡ tokens bs
spaced [] = refl
spaced (c ∷ bs) = rw (space_unpaired c)

-- nor are several
pub all_spaced : (l : List ℕ) → tokens l ≡ tokens (drop (prefix_len is_space l) l)
all_spaced [] = refl
all_spaced (b ∷ l) = go (is_space b) refl (all_spaced l)
  where
    go : (x : Bool) → is_space b ≡ x → tokens l ≡ tokens (drop (prefix_len is_space l) l) → tokens (b ∷ l) ≡ tokens (drop (cond x (1 + prefix_len is_space l) 0) (b ∷ l))
    go true e ih = rw one-add (ap (λ (x : ℕ). tokens (x ∷ l)) (eqb-true b 32 e) ∙ spaced l ∙ ih)
    go false e ih = refl

-- behind the spaces in front stands none
pub no_more : (l : List ℕ) → prefix_len is_space (drop (prefix_len is_space l) l) ≡ 0
no_more [] = refl
no_more (b ∷ l) = go (is_space b) refl (no_more l)
  where
    go : (x : Bool) → is_space b ≡ x → prefix_len is_space (drop (prefix_len is_space l) l) ≡ 0 → prefix_len is_space (drop (cond x (1 + prefix_len is_space l) 0) (b ∷ l)) ≡ 0
    go true e ih = rw one-add ih
    go false e ih = rw e refl

pub unjoined : (b c : ℕ) (bs : List ℕ) → (is_digit b && is_digit c) ≡ false → pairs b c ≡ false → tokens (b ∷ c ∷ bs) ≡ single b ++ tokens (c ∷ bs)
unjoined b c bs d p = rw (d, p)

pub both_digits : (b c : ℕ) (bs : List ℕ) → is_digit b ≡ true → is_digit c ≡ true → tokens (b ∷ c ∷ bs) ≡ joined b (tokens (c ∷ bs))
both_digits b c bs d e = rw (d, e)

-- a digit, and then none
pub digit_ends : (b c : ℕ) (bs : List ℕ) → is_digit b ≡ true → is_digit c ≡ false → tokens (b ∷ c ∷ bs) ≡ number (b ∷ []) ∷ tokens (c ∷ bs)
digit_ends b c bs d e =
    let de : (is_digit b && is_digit c) ≡ false = rw (d, e) in
    unjoined b c bs de (digit_unpaired b c d) ∙ ap (λ ts. ts ++ tokens (c ∷ bs)) (digit_alone b d)

-- digits in front are one number, which ends where they do
pub by_digits : (b : ℕ) (bs : List ℕ) → is_digit b ≡ true → tokens (b ∷ bs) ≡ number (b ∷ take_while is_digit bs) ∷ tokens (drop (prefix_len is_digit bs) bs)
by_digits b [] d = digit_alone b d
by_digits b (c ∷ bs) d = go (is_digit c) refl (by_digits c bs)
  where
    go : (x : Bool) → is_digit c ≡ x → (is_digit c ≡ true → tokens (c ∷ bs) ≡ number (c ∷ take_while is_digit bs) ∷ tokens (drop (prefix_len is_digit bs) bs)) → tokens (b ∷ c ∷ bs) ≡ number (b ∷ take (cond x (1 + prefix_len is_digit bs) 0) (c ∷ bs)) ∷ tokens (drop (cond x (1 + prefix_len is_digit bs) 0) (c ∷ bs))
    go true e ih = rw one-add (both_digits b c bs d e ∙ ap (joined b) (ih e))
    go false e ih = digit_ends b c bs d e

pub all_digits : (l : List ℕ) → all_ascii_digits (take_while is_digit l) ≡ true
all_digits [] = refl
all_digits (b ∷ l) = go (is_digit b) refl (all_digits l)
  where
    go : (x : Bool) → is_digit b ≡ x → all_ascii_digits (take_while is_digit l) ≡ true → all_ascii_digits (take (cond x (1 + prefix_len is_digit l) 0) (b ∷ l)) ≡ true
    go true e ih = rw one-add (rw (e, ih))
    go false e ih = refl

-- so a text that begins with a digit has a number first
pub number_leads : (l : List ℕ) (n : ℕ) (p : Bor (List ℕ)) → 0 < length l → is_digit (get_or l 0 0) ≡ true → n ≡ prefix_len is_digit l → p.now ≡ take n l → Leads l (Number p) n
number_leads [] n p some d count part = absurd (omega arith)
number_leads (b ∷ bs) n p some d count part =
    let l = b ∷ bs in
    let m : n ≡ suc (prefix_len is_digit bs) = count ∙ ap (λ x. cond x (1 + prefix_len is_digit bs) 0) d ∙ one-add (prefix_len is_digit bs) in
    let e = part ∙ ap (λ k. take k l) m in
    let all = part ∙ ap (λ k. take k l) count in
    record {
      within = rw count (prefix_len-le-length is_digit l);
      part = part;
      whole = by_digits b bs d ∙ ap (λ x. number x ∷ tokens (drop (prefix_len is_digit bs) bs)) (sym e) ∙ ap (λ k. number p.now ∷ tokens (drop k l)) (sym m);
      formed = (rw e (omega arith), ap all_ascii_digits all ∙ all_digits l);
    }

no_space : (b : ℕ) (n : ℕ) (x : Bool) → is_space b ≡ x → cond x (1 + n) 0 ≡ 0 → is_space b ≡ false
no_space b n true e h = absurd (omega arith)
no_space b n false e h = e

mark_first : (b : ℕ) (bs : List ℕ) → is_space b ≡ false → is_digit b ≡ false → is_name b ≡ false → (1 < length (b ∷ bs) → pairs b (get_or (b ∷ bs) 1 0) ≡ false) → tokens (b ∷ bs) ≡ sign (lone b) ∷ tokens bs
mark_first b [] s d n two = rw (s, d, n)
mark_first b (c ∷ bs) s d n two = let p = two (omega arith) in rw (d, p, s, n)

-- a byte that is no space, no digit and no name, and no pair with the next one, is a sign by itself
pub one_leads : (l : List ℕ) (p : Bor (List ℕ)) → 0 < length l → prefix_len is_space l ≡ 0 → is_digit (get_or l 0 0) ≡ false → is_name (get_or l 0 0) ≡ false → (1 < length l → pairs (get_or l 0 0) (get_or l 1 0) ≡ false) → p.now ≡ take 1 l → Leads l (Sign p) 1
one_leads [] p some s d n two part = absurd (omega arith)
one_leads (b ∷ bs) p some s d n two part =
    let space = no_space b (prefix_len is_space bs) (is_space b) refl s in
    let mark : is_sign (b ∷ []) ≡ true = rw (space, d, n) in
    record { within = omega arith; part = part; whole = mark_first b bs space d n two ∙ ap (λ l. sign (sign_of l) ∷ tokens bs) (sym part); formed = ap is_sign part ∙ mark }
