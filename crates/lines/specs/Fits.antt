-- Which token may stand next in a line, told without a tree. Internal.
use Rattle.std.specs.Prelude.{ℕ, ◌≤◌, zero, suc, Bool, true, false, cond, ◌||◌, List, [], ◌∷◌, length, ◌==◌, nat_le}
use Rattle.tokens.specs.declared.token.Sign.{Sign}
use Rattle.tokens.specs.declared.token.Sign.TheVariants.{Letter, Plus, Minus, Times, Over, Opens, Closes, Less, AtMost, Equal, Unequal, AtLeast, More, Also, Arrow, Comma, Colon, Asks, Ignores, Branches, Rejoins, Stray}
use Rattle.tokens.specs.Tokens.{Lexeme, number, name, sign}
use Rattle.book.specs.Grammar.{Part, guard, comparison, sum, product, factor, operand}

abbrev pub rank : Sign → ℕ
rank (Letter c) = 0
rank Plus = 1
rank Minus = 2
rank Times = 3
rank Over = 4
rank Opens = 5
rank Closes = 6
rank Less = 7
rank AtMost = 8
rank Equal = 9
rank Unequal = 10
rank AtLeast = 11
rank More = 12
rank Also = 13
rank Arrow = 14
rank Comma = 15
rank Colon = 16
rank Asks = 17
rank Ignores = 18
rank Branches = 19
rank Rejoins = 20
rank Stray = 21

abbrev pub is : Sign → Sign → Bool
is a s = rank s == rank a

-- a sign that is more than a letter, and none that is stray
abbrev pub Known : Sign → Type 0
Known s = (1 ≤ rank s) × (rank s ≤ 20)

-- the signs that join factors, that join products, and that compare sums
abbrev pub multiplies : Sign → Bool
multiplies s = is Times s || is Over s

abbrev pub adds : Sign → Bool
adds s = is Plus s || is Minus s

abbrev pub joins : Sign → Bool
joins s = adds s || multiplies s

abbrev pub compares : Sign → Bool
compares s = is Less s || (is AtMost s || (is Equal s || (is Unequal s || (is AtLeast s || is More s))))

-- letters
abbrev pub is_letter_sign : Sign → Bool
is_letter_sign s = rank s == 0 || (is Plus s || (is Minus s || (is Also s || is Over s)))

abbrev pub is_glyph : Lexeme → Bool
is_glyph (number ds) = false
is_glyph (name c) = true
is_glyph (sign s) = is_letter_sign s

-- whether a letter stands first
abbrev pub starts_glyph : List Lexeme → Bool
starts_glyph [] = false
starts_glyph (t ∷ ts) = is_glyph t

abbrev pub is_bracket_sign : Sign → Bool
is_bracket_sign s = is Branches s || is Rejoins s

-- the sign that a token is, if it is one
abbrev pub as_sign : Lexeme → Sign
as_sign (number ds) = Stray
as_sign (name c) = Stray
as_sign (sign s) = s

-- which form: one that may turn out the left one, the predecessor, the right one
pub data Which : Type 0 where
  first middle last : Which

-- where a sum stands: before or after the sign that compares, or as an argument, which so many more may follow
pub data Side : Type 0 where
  former latter : Side
  argument : ℕ → Side

-- how far a line has come; `due`, `bare` and `read` have the parentheses open in a sum: a factor is due, an operand is due, an
-- operand was read
pub data Place : Type 0 where
  begins numbered : Place
  ignores : Bool → Place
  form_due formed framed : Which → Place
  name_due name_read : Which → ℕ → Place
  due bare read : ℕ → Side → Place
  pieces lettered lost : Place

-- after a form
abbrev pub on : Which → Sign → Place
on first s = cond (is Less s) (form_due middle) (cond (is More s) (form_due last) (cond (is Asks s) (due 0 former) (cond (is Arrow s) pieces lost)))
on middle s = cond (is More s) (form_due last) (cond (is Asks s) (due 0 former) (cond (is Arrow s) pieces lost))
on last s = cond (is Asks s) (due 0 former) (cond (is Arrow s) pieces lost)

-- after a name, which so many more may follow
abbrev pub named_on : Which → ℕ → Sign → Place
named_on w zero s = cond (is Closes s) (framed w) lost
named_on w (suc n) s = cond (is Closes s) (framed w) (cond (is Comma s) (name_due w n) lost)

-- after a sum, outside its parentheses
abbrev pub summed : Side → Sign → Place
summed former s = cond (compares s) (due 0 latter) lost
summed latter s = cond (is Also s) (due 0 former) (cond (is Arrow s) pieces lost)
summed (argument zero) s = cond (is Closes s) pieces lost
summed (argument (suc n)) s = cond (is Closes s) pieces (cond (is Comma s) (due 0 (argument n)) lost)

abbrev pub operated : ℕ → Side → Sign → Place
operated zero r s = cond (joins s) (due 0 r) (summed r s)
operated (suc d) r s = cond (joins s) (due (suc d) r) (cond (is Closes s) (read d r) lost)

abbrev pub piece_on : Lexeme → Place
piece_on t = cond (is_glyph t) lettered (cond (is_bracket_sign (as_sign t)) pieces lost)

abbrev pub counted : List ℕ → Place → Place
counted ds p = cond (nat_le (length ds) 7) p lost

abbrev pub step : Place → Lexeme → Place
step begins (number ds) = counted ds numbered
step begins (name c) = lost
step begins (sign s) = cond (is Ignores s) (ignores false) lost
step numbered t = cond (is Colon (as_sign t)) (form_due first) lost
step (ignores b) t = cond (is_glyph t) (ignores true) lost
step (form_due w) t = cond (is_glyph t) (formed w) lost
step (formed w) t = cond (is Opens (as_sign t)) (name_due w 2) (on w (as_sign t))
step (framed w) t = on w (as_sign t)
step (name_due w n) (number ds) = lost
step (name_due w n) (name c) = name_read w n
step (name_due w n) (sign s) = lost
step (name_read w n) t = named_on w n (as_sign t)
step (due d r) (number ds) = counted ds (read d r)
step (due d r) (name c) = read d r
step (due d r) (sign s) = cond (is Minus s) (bare d r) (cond (is Opens s) (due (suc d) r) lost)
step (bare d r) (number ds) = counted ds (read d r)
step (bare d r) (name c) = read d r
step (bare d r) (sign s) = cond (is Opens s) (due (suc d) r) lost
step (read d r) t = operated d r (as_sign t)
step pieces t = piece_on t
step lettered t = cond (is Opens (as_sign t)) (due 0 (argument 2)) (piece_on t)
step lost t = lost

-- a line may end in its letters to ignore, or in its successor
abbrev pub ends : Place → Bool
ends begins = false
ends numbered = false
ends (ignores b) = b
ends (form_due w) = false
ends (formed w) = false
ends (framed w) = false
ends (name_due w n) = false
ends (name_read w n) = false
ends (due d r) = false
ends (bare d r) = false
ends (read d r) = false
ends pieces = true
ends lettered = true
ends lost = false

abbrev pub fits : Place → List Lexeme → Bool
fits p [] = ends p
fits p (t ∷ ts) = fits (step p t) ts

-- where a part begins and where it ends
abbrev pub start : Part → ℕ → Side → Place
start guard d r = due 0 former
start comparison d r = due 0 former
start sum d r = due d r
start product d r = due d r
start factor d r = due d r
start operand d r = bare d r

abbrev pub finish : Part → ℕ → Side → Place
finish guard d r = read 0 latter
finish comparison d r = read 0 latter
finish sum d r = read d r
finish product d r = read d r
finish factor d r = read d r
finish operand d r = read d r
