-- What the record of a module promises, part by part.
use Rattle.std.proofs.Common.{◌≡◌, ℕ, zero, suc, ◌<◌, ◌≤◌, Bool, true, false, cond, ◌&&◌, ltb, List, [], ◌∷◌, ◌++◌, length, take, ℤ, pos, negsuc, refl, arith, w32, to_z, of_z}
use Rattle.std.proofs.lemmas.List.{take_all, length-take}
use Rattle.std.proofs.lemmas.Int.{to_z-of_z}
use Rattle.std.proofs.lemmas.Bool.{and_parts}
use Rattle.std.proofs.lemmas.Bool.Decides.{nat_tests}
use Rattle.word.specs.declared.module.Module.{Module}
use Rattle.word.specs.Symbols.{symbol, valid, may_have, fits, sound, is_letter, is_bracket, in_range}
use Rattle.word.specs.Records.{symbol_of}

ascii : (letter count : ℕ) → may_have letter count ≡ true → letter < 128
ascii letter count h = grind (arith, nat_tests)

pub few : (letter count : ℕ) → may_have letter count ≡ true → count ≤ 3
few letter count h = grind (arith, nat_tests)

-- a number of a module keeps its value through 32 bits
pub exact : (counts : Bool) (z : ℤ) → fits counts z ≡ true → to_z w32 (of_z w32 z) ≡ z
exact counts (pos n) h = to_z-of_z w32 (pos n) (record { sfits = grind (arith, nat_tests) })
exact counts (negsuc n) h = to_z-of_z w32 (negsuc n) (record { sfits = grind (arith, nat_tests) })

-- a sound record holds a valid module: whatever its letter is, only the tests count
bare : (bracket letter r : Bool) → (cond bracket true (letter && true) && r) ≡ true → cond bracket true (letter && true) ≡ true
bare true letter r h = refl
bare false true r h = refl
bare false false r h = h

lettered : (bracket letter r v : Bool) → (r ≡ true → v ≡ true) → (cond bracket false (letter && true) && r) ≡ true → cond bracket false (letter && v) ≡ true
lettered true letter r v f h = h
lettered false true r v f h = f h
lettered false false r v f h = h

one : (x r : Bool) → (x && r) ≡ true → (x && true) ≡ true
one true r h = refl
one false r h = h

two : (x y r : Bool) → (x && (y && r)) ≡ true → (x && (y && true)) ≡ true
two true y r h = one y r h
two false y r h = h

three : (x y z : Bool) → (x && (y && z)) ≡ true → (x && (y && (z && true))) ≡ true
three true true true h = refl
three true true false h = h
three true false z h = h
three false y z h = h

pub sound_valid : (letter count : ℕ) (a b c : ℤ) → sound letter count a b c ≡ true → valid (symbol letter count a b c) ≡ true
sound_valid letter zero a b c h = bare (is_bracket letter) (is_letter letter) _ h
sound_valid letter (suc zero) a b c h = lettered (is_bracket letter) (is_letter letter) _ _ (one (in_range a) _) h
sound_valid letter (suc (suc zero)) a b c h = lettered (is_bracket letter) (is_letter letter) _ _ (two (in_range a) (in_range b) _) h
sound_valid letter (suc (suc (suc zero))) a b c h = lettered (is_bracket letter) (is_letter letter) _ _ (three (in_range a) (in_range b) (in_range c)) h
sound_valid letter (suc (suc (suc (suc n)))) a b c h =
    absurd (omega (arith, few letter (suc (suc (suc (suc n)))) (and_parts (may_have letter (suc (suc (suc (suc n))))) _ h).0))

module _ (m : Module) where
  has : may_have m.letter m.count ≡ true
  has = (and_parts (may_have m.letter m.count) _ m.ok).0

  numbers : (fits (ltb 0 m.count) m.a && (fits (ltb 1 m.count) m.b && fits (ltb 2 m.count) m.c)) ≡ true
  numbers = (and_parts (may_have m.letter m.count) _ m.ok).1

  later : (fits (ltb 1 m.count) m.b && fits (ltb 2 m.count) m.c) ≡ true
  later = (and_parts (fits (ltb 0 m.count) m.a) _ numbers).1

  pub low : m.letter < 128
  low = ascii m.letter m.count has

  pub at_most_3 : m.count ≤ 3
  at_most_3 = few m.letter m.count has

  pub a_exact : to_z w32 (of_z w32 m.a) ≡ m.a
  a_exact = exact (ltb 0 m.count) m.a (and_parts (fits (ltb 0 m.count) m.a) _ numbers).0

  pub b_exact : to_z w32 (of_z w32 m.b) ≡ m.b
  b_exact = exact (ltb 1 m.count) m.b (and_parts (fits (ltb 1 m.count) m.b) _ later).0

  pub c_exact : to_z w32 (of_z w32 m.c) ≡ m.c
  c_exact = exact (ltb 2 m.count) m.c (and_parts (fits (ltb 1 m.count) m.b) _ later).1

  pub is_valid : valid (symbol_of m) ≡ true
  is_valid = sound_valid m.letter m.count m.a m.b m.c m.ok

  pub listed : (held : List ℤ) (n : ℕ) → held ≡ [] → n ≡ m.count → take 3 (held ++ take n (to_z w32 (of_z w32 m.a) ∷ to_z w32 (of_z w32 m.b) ∷ to_z w32 (of_z w32 m.c) ∷ [])) ≡ (symbol_of m).params
  listed held n none is =
      let all = m.a ∷ m.b ∷ m.c ∷ [] in
      let few : length (take m.count all) ≤ 3 = simp length-take (omega arith) in
      rw (none, is, a_exact, b_exact, c_exact) (take_all 3 (take m.count all) few)
