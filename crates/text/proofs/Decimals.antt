-- How many digits a number has, and that a number with its sign is ASCII.
use Rattle.std.proofs.Common.{◌≡◌, ℕ, suc, ◌+◌, ◌/◌, ◌%◌, ◌^◌, ◌<◌, ◌≤◌, [], ◌∷◌, length, true, ℤ, decimal, sym, ap, arith}
use Rattle.std.specs.Fmt.{signed_decimal}
use Rattle.std.specs.Str.{IsAscii}
use Rattle.std.proofs.lemmas.List.{length-append}
use Rattle.std.proofs.lemmas.Fmt.{decimal_digit, decimal_step, IsAscii-signed}
use Rattle.std.proofs.lemmas.Bool.Decides.{nat_tests}
use Rattle.word.specs.Symbols.{in_range}

pub one : (n : ℕ) → n < 10 → 1 ≡ length (decimal n)
one n h = sym (ap length (decimal_digit n h))

more : (n k : ℕ) → 10 ≤ n → n < 2 ^ 64 → k ≡ length (decimal (n / 10)) → suc k ≡ length (decimal n)
more n k some small e =
    let last = length-append (decimal (n / 10)) ((48 + n % 10) ∷ []) in
    omega (arith, ap length (decimal_step n some small))

pub two : (n : ℕ) → 10 ≤ n → n < 100 → 2 ≡ length (decimal n)
two n low high = more n 1 low (omega arith) (one (n / 10) (omega arith))

pub three : (n : ℕ) → 100 ≤ n → n < 1000 → 3 ≡ length (decimal n)
three n low high = more n 2 (omega arith) (omega arith) (two (n / 10) (omega arith) (omega arith))

pub four : (n : ℕ) → 1000 ≤ n → n < 10000 → 4 ≡ length (decimal n)
four n low high = more n 3 (omega arith) (omega arith) (three (n / 10) (omega arith) (omega arith))

pub five : (n : ℕ) → 10000 ≤ n → n < 100000 → 5 ≡ length (decimal n)
five n low high = more n 4 (omega arith) (omega arith) (four (n / 10) (omega arith) (omega arith))

pub six : (n : ℕ) → 100000 ≤ n → n < 1000000 → 6 ≡ length (decimal n)
six n low high = more n 5 (omega arith) (omega arith) (five (n / 10) (omega arith) (omega arith))

pub seven : (n : ℕ) → 1000000 ≤ n → n < 10000000 → 7 ≡ length (decimal n)
seven n low high = more n 6 (omega arith) (omega arith) (six (n / 10) (omega arith) (omega arith))

pub ascii : (z : ℤ) → in_range z ≡ true → IsAscii (signed_decimal z)
ascii z h = IsAscii-signed z (grind (arith, nat_tests))
