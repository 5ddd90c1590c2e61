-- The written form of a module, part by part, and of modules, one after the other.
use Rattle.std.proofs.Common.{◌≡◌, ℕ, zero, suc, ◌+◌, ◌<◌, Bool, true, false, ◌&&◌, ltb, List, [], ◌∷◌, ◌++◌, length, map, take, get_or, ℤ, sym, refl, ap, ◌∙◌, append_assoc, append-nil, arith}
use Rattle.std.specs.Str.{IsAscii}
use Rattle.std.specs.Fmt.{signed_decimal}
use Rattle.std.proofs.lemmas.Str.{IsAscii-append}
use Rattle.std.proofs.lemmas.Bool.{and_parts, and_from}
use Rattle.std.proofs.lemmas.Bool.Decides.{nat_tests}
use Rattle.word.specs.declared.module.Module.{Module}
use Rattle.word.specs.Symbols.{symbol, fits, may_have, in_range, all_in_range}
use Rattle.word.specs.Records.{symbol_of}
use Rattle.word.specs.Text.{further, listed, written, spelled}
use Rattle.word.proofs.Sound.{low}
use Rattle.std.proofs.lemmas.List.{map_more}
use Rattle.text.proofs.Decimals.{ascii}
use Rattle.text.proofs.Printing.{spelled-append}

module _ (l n : ℕ) (a b c : ℤ) where
  pub with_one : n ≡ 1 → ((l ∷ []) ++ (40 ∷ signed_decimal a)) ++ (41 ∷ []) ≡ written (symbol l n a b c)
  with_one is = rw is refl

  pub with_two : n ≡ 2 → (((l ∷ []) ++ (40 ∷ signed_decimal a)) ++ (44 ∷ signed_decimal b)) ++ (41 ∷ []) ≡ written (symbol l n a b c)
  with_two is = rw is (simp append_assoc)

  pub with_three : n ≡ 3 → ((((l ∷ []) ++ (40 ∷ signed_decimal a)) ++ (44 ∷ signed_decimal b)) ++ (44 ∷ signed_decimal c)) ++ (41 ∷ []) ≡ written (symbol l n a b c)
  with_three is = rw is (simp append_assoc)

-- one module more
pub spelled_more : (ms : List Module) (i : ℕ) (m : Module)
    → i < length ms → m ≡ get_or ms i m → spelled (map symbol_of (take i ms)) ++ written (symbol_of m) ≡ spelled (map symbol_of (take (i + 1) ms))
spelled_more ms i m lt is =
    ap (λ l. spelled (map symbol_of (take i ms)) ++ l) (sym (append-nil (written (symbol_of m))))
    ∙ sym (spelled-append (map symbol_of (take i ms)) (symbol_of m ∷ []))
    ∙ ap spelled (ap (λ x. map symbol_of (take i ms) ++ (symbol_of x ∷ [])) is ∙ sym (map_more symbol_of ms i m lt))

-- a number that does not count is 0, so each is in range
ranged : (counts : Bool) (z : ℤ) → fits counts z ≡ true → in_range z ≡ true
ranged true z h = h
ranged false z h = grind (arith, nat_tests)

ascii_cons : (b : ℕ) (bs : List ℕ) → b < 128 → IsAscii bs → IsAscii (b ∷ bs)
ascii_cons b bs h r zero = h
ascii_cons b bs h r (suc i) = r i

ascii_nil : IsAscii []
ascii_nil i = omega arith

all_take : (n : ℕ) (zs : List ℤ) → all_in_range zs ≡ true → all_in_range (take n zs) ≡ true
all_take zero zs h = refl
all_take (suc n) [] h = refl
all_take (suc n) (z ∷ zs) h = let p = and_parts (in_range z) _ h in and_from (in_range z) _ p.0 (all_take n zs p.1)

ascii_further : (zs : List ℤ) → all_in_range zs ≡ true → IsAscii (further zs)
ascii_further [] h = ascii_cons 41 [] (omega arith) ascii_nil
ascii_further (z ∷ zs) h =
    let p = and_parts (in_range z) _ h in
    ascii_cons 44 _ (omega arith) (IsAscii-append (signed_decimal z) (further zs) (ascii z p.0) (ascii_further zs p.1))

ascii_listed : (zs : List ℤ) → all_in_range zs ≡ true → IsAscii (listed zs)
ascii_listed [] h = ascii_nil
ascii_listed (z ∷ zs) h =
    let p = and_parts (in_range z) _ h in
    ascii_cons 40 _ (omega arith) (IsAscii-append (signed_decimal z) (further zs) (ascii z p.0) (ascii_further zs p.1))

module _ (m : Module) where
  numbers : (fits (ltb 0 m.count) m.a && (fits (ltb 1 m.count) m.b && fits (ltb 2 m.count) m.c)) ≡ true
  numbers = (and_parts (may_have m.letter m.count) _ m.ok).1

  later : (fits (ltb 1 m.count) m.b && fits (ltb 2 m.count) m.c) ≡ true
  later = (and_parts (fits (ltb 0 m.count) m.a) _ numbers).1

  pub a_ranged : in_range m.a ≡ true
  a_ranged = ranged (ltb 0 m.count) m.a (and_parts (fits (ltb 0 m.count) m.a) _ numbers).0

  pub b_ranged : in_range m.b ≡ true
  b_ranged = ranged (ltb 1 m.count) m.b (and_parts (fits (ltb 1 m.count) m.b) _ later).0

  pub c_ranged : in_range m.c ≡ true
  c_ranged = ranged (ltb 2 m.count) m.c (and_parts (fits (ltb 1 m.count) m.b) _ later).1

  ascii_written : IsAscii (written (symbol_of m))
  ascii_written =
      let all : all_in_range (m.a ∷ m.b ∷ m.c ∷ []) ≡ true = and_from (in_range m.a) _ a_ranged (and_from (in_range m.b) _ b_ranged (and_from (in_range m.c) true c_ranged refl)) in
      ascii_cons m.letter _ (low m) (ascii_listed (take m.count (m.a ∷ m.b ∷ m.c ∷ [])) (all_take m.count _ all))

pub ascii_spelled : (ms : List Module) → IsAscii (spelled (map symbol_of ms))
ascii_spelled [] = ascii_nil
ascii_spelled (m ∷ ms) = IsAscii-append (written (symbol_of m)) (spelled (map symbol_of ms)) (ascii_written m) (ascii_spelled ms)
