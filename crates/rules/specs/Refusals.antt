-- The number of each refusal of a line.
use Rattle.std.specs.Prelude.{ℕ, Ok, Err, Result}
use Rattle.rules.specs.declared.refusal.Refusal.{Refusal}
use Rattle.rules.specs.declared.refusal.Refusal.TheVariants.{TooLong, NotByGrammar, PrintedNumber, NumberTooLarge, Names, Nesting, TooManyModules, NumberHeld, TooManyRules, TooMuchCode}

abbrev pub refusal_number : Refusal → ℕ
refusal_number TooLong = 1
refusal_number NotByGrammar = 2
refusal_number PrintedNumber = 3
refusal_number NumberTooLarge = 4
refusal_number Names = 5
refusal_number Nesting = 6
refusal_number TooManyModules = 7
refusal_number NumberHeld = 11
refusal_number TooManyRules = 12
refusal_number TooMuchCode = 13

-- the number of an answer: 0 where there is no refusal
abbrev pub answer_number : {A : Type 0} → Result A Refusal → ℕ
answer_number (Ok x) = 0
answer_number (Err e) = refusal_number e
