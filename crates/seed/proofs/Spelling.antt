-- The written form of a word is read as that word.
use Rattle.std.proofs.Common.{◌≡◌, ℕ, zero, suc, ◌-◌, ◌^◌, ◌<◌, ◌≤◌, Bool, true, false, cond, not, ◌&&◌, ◌||◌, eqb, ltb, leb, ◌⊎◌, List, [], ◌∷◌, ◌++◌, map, length, get_or, take, drop, ℤ, pos, negsuc, Some, None, decimal, Option, sym, refl, ap, ◌∙◌, subst, inl, inr, append_assoc, append-nil, arith, length-append}
use Rattle.std.specs.Option.{option_map}
use Rattle.std.specs.Int.{IsInRange}
use Rattle.std.specs.Fmt.{signed_decimal}
use Rattle.std.specs.Str.{all_ascii_digits}
use Rattle.std.proofs.lemmas.Fmt.{digits_decimal, digits_value-decimal, length-decimal-le, decimal_nonempty}
use Rattle.std.proofs.lemmas.List.{get_or_append_left, get_or-append_right, get_or_at, take_at, drop_at}
use Rattle.std.proofs.lemmas.Bool.{and_parts, and_from, cond-true, cond-false, leb-true, le-leb, lt-ltb, le-ltb, eq-eqb, ne_eqb, cases_lt, both_ways, eqb-true, not-true}
use Rattle.std.proofs.lemmas.Bool.Decides.{nat_tests as told}
use Rattle.word.specs.Symbols.{Symbol, is_letter, is_bracket, is_open, is_close, in_range, all_in_range, valid}
use Rattle.word.specs.Words.{clean, after, all_valid, nested}
use Rattle.word.specs.Text.{First, worth, number, split, further, listed, written, spelled}
use Rattle.word.proofs.Digits.{own, digit}
use Rattle.word.proofs.Splits.{split_first}
use Rattle.word.proofs.When.{when_true, when_false}
use Rattle.seed.specs.Seeds.{cut, with_sign, integer, prefixed, integers, at_most_3, closed, bare, with_list, form, tells, wrong, bracketed, judged, outcome, stopped, onto, reads, told_by}
use Rattle.seed.specs.Written.{ReadsBack}
use Rattle.seed.proofs.Cutting.{cut_bare, cut_three}
use Rattle.seed.specs.Telling.{reads_tells}

-- no byte is c
Free : ℕ → List ℕ → Type 0
Free c bs = (k : ℕ) → k < length bs → get_or bs k 0 ≡ c → ⊥

free_append : (c : ℕ) (xs ys : List ℕ) → Free c xs → Free c ys → Free c (xs ++ ys)
unfolding Free
free_append c xs ys f g k h e = go (cases_lt k (length xs))
  where
    go : (k < length xs) ⊎ (length xs ≤ k) → ⊥
    go (inl l) = f k l (sym (get_or_append_left xs ys 0 k l) ∙ e)
    go (inr l) = g (k - length xs) (omega (arith, length-append xs ys)) (sym (get_or-append_right xs ys (length xs) k 0 refl l) ∙ e)

free_cons : (c b : ℕ) (xs : List ℕ) → (b ≡ c → ⊥) → Free c xs → Free c (b ∷ xs)
unfolding Free
free_cons c b xs n f zero h e = n e
free_cons c b xs n f (suc k) h e = f k (omega arith) e

free_none : (c : ℕ) → Free c []
unfolding Free
free_none c k h e = omega arith

first_at : (c : ℕ) (bs r : List ℕ) → Free c bs → First c (bs ++ (c ∷ r)) (length bs)
unfolding Free
first_at c bs r f = record {
  within = omega (arith, length-append bs (c ∷ r));
  before = λ k h e. f k h (sym (get_or_append_left bs (c ∷ r) 0 k h) ∙ e);
  found = λ h. get_or_at bs c r 0 (length bs) refl;
}

first_end : (c : ℕ) (bs : List ℕ) → Free c bs → First c bs (length bs)
unfolding Free
first_end c bs f = record { within = omega arith; before = λ k h e. f k h e; found = λ h. absurd (omega arith) }

-- a number of at most seven digits, as it is written
module _ (n : ℕ) (few : n ≤ 1_000_000) where
  wide : n < 2 ^ 64
  wide = omega arith

  all_digits : all_ascii_digits (decimal n) ≡ true
  all_digits = digits_decimal own n wide

  numbered : number (decimal n) ≡ Some n
  numbered =
      cond-true (all_ascii_digits (decimal n) && (leb 1 (length (decimal n)) && leb (length (decimal n)) 7)) (Some (worth (decimal n))) None
      (and_from _ _ all_digits (and_from _ _ (le-leb 1 _ (decimal_nonempty n wide)) (le-leb _ 7 (length-decimal-le 7 n (omega arith) (omega arith) wide))))
      ∙ ap (λ (k : ℕ). Some k) (digits_value-decimal own n wide)

  digit_free : (c : ℕ) → (IsInRange 48 57 c → ⊥) → Free c (decimal n)
  unfolding Free
  digit_free c other k h e = other (subst (IsInRange 48 57) e (digit (decimal n) k all_digits h))

  no_sign : get_or (decimal n) 0 0 ≡ 45 → ⊥
  no_sign e = let d = subst (IsInRange 48 57) e (digit (decimal n) 0 all_digits (decimal_nonempty n wide)) in omega arith

plain : (bs : List ℕ) → 0 < length bs → (get_or bs 0 0 ≡ 45 → ⊥) → integer bs ≡ option_map (with_sign false) (number bs)
plain [] some n = absurd (omega arith)
plain (b ∷ bs) some n = when_false (eqb b 45) (option_map (with_sign true) (number bs)) (option_map (with_sign false) (number (b ∷ bs))) (ne_eqb b 45 n)

integer_signed : (z : ℤ) → in_range z ≡ true → integer (signed_decimal z) ≡ Some z
integer_signed (pos n) h =
    let few : n ≤ 1_000_000 = leb-true n 1_000_000 h in
    plain (decimal n) (decimal_nonempty n (wide n few)) (no_sign n few) ∙ ap (option_map (with_sign false)) (numbered n few)
integer_signed (negsuc n) h =
    let few : suc n ≤ 1_000_000 = leb-true (suc n) 1_000_000 h in
    ap (option_map (with_sign true)) (numbered (suc n) few)

signed_free : (c : ℕ) → (IsInRange 48 57 c → ⊥) → (45 ≡ c → ⊥) → (z : ℤ) → in_range z ≡ true → Free c (signed_decimal z)
signed_free c other minus (pos n) h = digit_free n (leb-true n 1_000_000 h) c other
signed_free c other minus (negsuc n) h = free_cons c 45 (decimal (suc n)) minus (digit_free (suc n) (leb-true (suc n) 1_000_000 h) c other)

-- the parameters of a list after the first, and the list without its parenthesis
commas : List ℤ → List ℕ
commas [] = []
commas (z ∷ zs) = 44 ∷ (signed_decimal z ++ commas zs)

shut : (zs : List ℤ) → further zs ≡ commas zs ++ (41 ∷ [])
unfolding commas
shut [] = refl
shut (z ∷ zs) = ap (λ (l : List ℕ). 44 ∷ l) (ap (λ (l : List ℕ). signed_decimal z ++ l) (shut zs) ∙ sym (append_assoc (signed_decimal z) (commas zs) (41 ∷ [])))

commas_free : (zs : List ℤ) → all_in_range zs ≡ true → Free 41 (commas zs)
unfolding commas
commas_free [] h = free_none 41
commas_free (z ∷ zs) h =
    let p = and_parts (in_range z) (all_in_range zs) h in
    free_cons 41 44 _ (λ e. omega arith) (free_append 41 (signed_decimal z) (commas zs) (signed_free 41 (λ i. omega arith) (λ e. omega arith) z p.0) (commas_free zs p.1))

-- all the parameters are read
all_read : (z : ℤ) (zs : List ℤ) → in_range z ≡ true → all_in_range zs ≡ true → integers (split 44 (signed_decimal z ++ commas zs)) ≡ Some (z ∷ zs)
unfolding commas
all_read z [] h hs =
    let f = signed_free 44 (λ i. omega arith) (λ e. omega arith) z h in
    ap (λ (l : List ℕ). integers (split 44 l)) (append-nil (signed_decimal z))
    ∙ ap integers (split_first 44 (signed_decimal z) (length (signed_decimal z)) (first_end 44 (signed_decimal z) f))
    ∙ ap (λ (t : Bool). prefixed (integer (take (length (signed_decimal z)) (signed_decimal z))) (integers (cond t (split 44 (drop (suc (length (signed_decimal z))) (signed_decimal z))) []))) (le-ltb (length (signed_decimal z)) (length (signed_decimal z)) (omega arith))
    ∙ ap (λ (l : List ℕ). prefixed (integer l) (Some [])) (take_whole (signed_decimal z))
    ∙ ap (λ (o : Option ℤ). prefixed o (Some [])) (integer_signed z h)
  where
    take_whole : (l : List ℕ) → take (length l) l ≡ l
    take_whole l = ap (take (length l)) (sym (append-nil l)) ∙ take_at l [] (length l) refl
all_read z (y ∷ ys) h hs =
    let p = and_parts (in_range y) (all_in_range ys) hs in
    let f = signed_free 44 (λ i. omega arith) (λ e. omega arith) z h in
    let n = length (signed_decimal z) in
    let rest : List ℕ = signed_decimal y ++ commas ys in
    let l : List ℕ = signed_decimal z ++ (44 ∷ rest) in
    let more : n < length l = simp length-append (omega arith) in
    ap integers (split_first 44 l n (first_at 44 (signed_decimal z) rest f))
    ∙ ap (λ (t : Bool). prefixed (integer (take n l)) (integers (cond t (split 44 (drop (suc n) l)) []))) (lt-ltb n (length l) more)
    ∙ ap (λ (x : List ℕ). prefixed (integer x) (integers (split 44 (drop (suc n) l)))) (take_at (signed_decimal z) (44 ∷ rest) n refl)
    ∙ ap (λ (o : Option ℤ). prefixed o (integers (split 44 (drop (suc n) l)))) (integer_signed z h)
    ∙ ap (λ (x : List ℕ). option_map (λ zs. z ∷ zs) (integers (split 44 x))) (behind (signed_decimal z) rest)
    ∙ ap (option_map (λ zs. z ∷ zs)) (all_read y ys p.0 p.1)
  where
    behind : (a r : List ℕ) → drop (suc (length a)) (a ++ (44 ∷ r)) ≡ r
    behind [] r = refl
    behind (x ∷ a) r = behind a r

closed_shut : (inner : List ℕ) → closed (inner ++ (41 ∷ [])) ≡ Some inner
closed_shut inner =
    let n : length (inner ++ (41 ∷ [])) - 1 ≡ length inner = simp length-append (omega arith) in
    ap (λ k. cond (eqb (get_or (inner ++ (41 ∷ [])) k 0) 41) (Some (take k (inner ++ (41 ∷ [])))) None) n
    ∙ cond-true (eqb (get_or (inner ++ (41 ∷ [])) (length inner) 0) 41) _ _ (eq-eqb _ 41 (get_or_at inner 41 [] 0 (length inner) refl))
    ∙ ap (λ (l : List ℕ). Some l) (take_at inner (41 ∷ []) (length inner) refl)

known : (s : Symbol) → valid s ≡ true → (is_bracket s.letter || is_letter s.letter) ≡ true
known s v = go (is_bracket s.letter) (is_letter s.letter) _ _ v
  where
    go : (x y a b : Bool) → cond x a (y && b) ≡ true → (x || y) ≡ true
    go true y a b e = refl
    go false true a b e = refl
    go false false a b e = e

-- a module with parameters is a letter with at most three, all in range
record Listed (l : ℕ) (z : ℤ) (zs : List ℤ) : Type 0 where
  letter : is_letter l ≡ true
  few : leb (suc (length zs)) 3 ≡ true
  first : in_range z ≡ true
  others : all_in_range zs ≡ true

has_list : (l : ℕ) (z : ℤ) (zs : List ℤ) → valid (record { letter = l; params = z ∷ zs }) ≡ true → Listed l z zs
has_list l z zs v =
    let p = lettered (is_bracket l) (eqb (suc (length zs)) 0) (is_letter l) _ (ne_eqb (suc (length zs)) 0 (λ e. omega arith)) v in
    let few = and_parts (leb (suc (length zs)) 3) _ p.1 in
    let r = and_parts (in_range z) (all_in_range zs) few.1 in
    record { letter = p.0; few = few.0; first = r.0; others = r.1 }
  where
    lettered : (x none y r : Bool) → none ≡ false → cond x none (y && r) ≡ true → (y ≡ true) × (r ≡ true)
    lettered true none y r f e = absurd (both_ways none f e)
    lettered false none y r f e = and_parts y r e

-- a valid module is what the form makes of its written form
form_written : (l : ℕ) (zs : List ℤ) → valid (record { letter = l; params = zs }) ≡ true → form (l ∷ listed zs) ≡ Some (record { letter = l; params = zs })
form_written l [] v = cond-true (is_bracket l || is_letter l) (Some (bare l)) None (known (record { letter = l; params = [] }) v)
form_written l (z ∷ zs) v =
    let p = has_list l z zs v in
    cond-true (is_letter l) (with_list l (closed (signed_decimal z ++ further zs))) None p.letter
    ∙ ap (λ (bs : List ℕ). with_list l (closed bs)) (ap (λ (bs : List ℕ). signed_decimal z ++ bs) (shut zs) ∙ sym (append_assoc (signed_decimal z) (commas zs) (41 ∷ [])))
    ∙ ap (with_list l) (closed_shut (signed_decimal z ++ commas zs))
    ∙ ap (λ (o : Option (List ℤ)). option_map (λ ps. record { letter = l; params = ps }) (at_most_3 o)) (all_read z zs p.first p.others)
    ∙ ap (λ (t : Bool). option_map (λ ps. record { letter = l; params = ps }) (cond t (Some (z ∷ zs)) None)) p.few

-- what stands behind a module's written form is no list
module _ (rest : List ℕ) (next : 0 < length rest → get_or rest 0 0 ≡ 40 → ⊥) where
  cut_written : (l : ℕ) (zs : List ℤ) → valid (record { letter = l; params = zs }) ≡ true → cut false ((l ∷ listed zs) ++ rest) ≡ (l ∷ listed zs) ∷ cut false rest
  cut_written l [] v = cut_bare (l ∷ rest) (omega arith) (λ h. next (omega arith))
  cut_written l (z ∷ zs) v =
      let p = has_list l z zs v in
      let inner : List ℕ = signed_decimal z ++ commas zs in
      let list : List ℕ = inner ++ (41 ∷ []) in
      let free = free_append 41 (signed_decimal z) (commas zs) (signed_free 41 (λ i. omega arith) (λ e. omega arith) z p.first) (commas_free zs p.others) in
      let is : signed_decimal z ++ further zs ≡ list = ap (λ (bs : List ℕ). signed_decimal z ++ bs) (shut zs) ∙ sym (append_assoc (signed_decimal z) (commas zs) (41 ∷ [])) in
      let n : length list ≡ suc (length inner) = simp length-append (omega arith) in
      ap (λ (bs : List ℕ). cut false (l ∷ 40 ∷ bs)) (ap (λ (bs : List ℕ). bs ++ rest) is ∙ append_assoc inner (41 ∷ []) rest)
      ∙ cut_three (l ∷ 40 ∷ (inner ++ (41 ∷ rest))) (length inner) (omega arith) refl (first_at 41 inner rest free)
      ∙ ap (λ (bs : List ℕ). (l ∷ 40 ∷ take (suc (length inner)) bs) ∷ cut false (drop (suc (length inner)) bs)) (sym (append_assoc inner (41 ∷ []) rest))
      ∙ ap (λ (bs : List ℕ). (l ∷ 40 ∷ bs) ∷ cut false (drop (suc (length inner)) (list ++ rest))) (take_at list rest (suc (length inner)) n ∙ sym is)
      ∙ ap (λ (bs : List ℕ). (l ∷ 40 ∷ (signed_decimal z ++ further zs)) ∷ cut false bs) (drop_at list rest (suc (length inner)) n)

no_list : (w : List Symbol) → all_valid w ≡ true → 0 < length (spelled w) → get_or (spelled w) 0 0 ≡ 40 → ⊥
no_list [] v h e = omega arith
no_list (s ∷ w) v h e = go s.letter e (known s (and_parts (valid s) (all_valid w) v).0)
  where
    go : (l : ℕ) → l ≡ 40 → (is_bracket l || is_letter l) ≡ true → ⊥
    go l q k = let b : (is_bracket 40 || is_letter 40) ≡ true = subst (λ x. (is_bracket x || is_letter x) ≡ true) q k in both_ways true (sym b) refl

cut_spelled : (w : List Symbol) → all_valid w ≡ true → cut false (spelled w) ≡ map written w
cut_spelled [] v = refl
cut_spelled (s ∷ w) v =
    let p = and_parts (valid s) (all_valid w) v in
    cut_written (spelled w) (no_list w p.1) s.letter s.params p.0 ∙ ap (λ (ls : List (List ℕ)). written s ∷ ls) (cut_spelled w p.1)

-- each module is told
shallow : (d : ℕ) (w : List Symbol) → nested d w clean ≡ true → d ≤ 32
shallow d [] h = omega (arith, eqb-true d 0 h)
shallow d (s ∷ w) h = leb-true d 32 (and_parts (leb d 32) _ h).0

told_written : (d : ℕ) (s : Symbol) → valid s ≡ true → not (is_close s.letter && eqb d 0) ≡ true → after d s ≤ 32 → outcome d (written s) ≡ tells s
told_written d s v c low =
    let r : all_in_range s.params ≡ true = ranged s.params v in
    let o : (is_open s.letter && leb 32 d) ≡ false = grind (arith, told) in
    ap (judged d) (form_written s.letter s.params v)
    ∙ cond-true (all_in_range s.params) (bracketed d s) (wrong 22) r
    ∙ cond-false (is_close s.letter && eqb d 0) (wrong 23) _ (not-true _ c)
    ∙ cond-false (is_open s.letter && leb 32 d) (wrong 24) (tells s) o
  where
    ranged : (zs : List ℤ) → valid (record { letter = s.letter; params = zs }) ≡ true → all_in_range zs ≡ true
    ranged [] h = refl
    ranged (z ∷ zs) h = let p = has_list s.letter z zs h in and_from _ _ p.first p.others

reads_written : (d place : ℕ) (w : List Symbol) → all_valid w ≡ true → nested d w clean ≡ true → reads d place (map written w) ≡ record { modules = w; ending = clean }
reads_written d place [] v h = when_true (eqb d 0) (record { modules = []; ending = clean }) (stopped 25 place) h
reads_written d place (s ∷ w) v h =
    let p = and_parts (valid s) (all_valid w) v in
    let q = and_parts (leb d 32) _ h in
    let r = and_parts (not (is_close s.letter && eqb d 0)) _ q.1 in
    reads_tells d place (written s) (map written w) s (told_written d s p.0 r.0 (shallow (after d s) w r.1))
    ∙ ap (onto s) (reads_written (after d s) (suc place) w p.1 r.1)

pub reads_back : (text : List ℕ) → ReadsBack text (told_by text)
reads_back text w ok is =
    ap told_by is
    ∙ when_false (ltb 65_536 (length (spelled w))) (stopped 20 1) (reads 0 1 (cut false (spelled w))) (le-ltb 65_536 (length (spelled w)) ok.short)
    ∙ ap (reads 0 1) (cut_spelled w ok.modules)
    ∙ reads_written 0 1 w ok.modules ok.brackets
