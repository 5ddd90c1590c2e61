-- Worked growths.
use Rattle.std.specs.Prelude.{◌≡◌, ℕ, List, [], ◌∷◌, ◌++◌, map, replicate, ℤ, pos, negsuc, Some, None, codes, Option}
use Prim.Native.String.{String}
use Rattle.word.specs.Symbols.{Symbol}
use Rattle.word.specs.Words.{Ending, clean, broken, Told, Meaning}
use Rattle.expr.specs.declared.code.Relation.TheVariants.{Less}
use Rattle.expr.specs.Values.{Expr, number, name, plus, less, times, over, Comparison}
use Rattle.book.specs.Rules.{Form, Piece}
use Rattle.book.specs.Books.{Entry, rule, ignores}
use Rattle.book.specs.Books.{Book, empty, loaded}
use Rattle.generation.specs.Generations.{outcomes, generated}

-- modules from text: letters and brackets without parameters, or one letter with its parameters
abbrev plain : String → List Symbol
plain text = map (λ c. record { letter = c; params = [] }) (codes text)

abbrev first : List ℕ → ℕ
first [] = 0
first (c ∷ cs) = c

abbrev one : String → List ℤ → Symbol
one text params = record { letter = first (codes text); params = params }

-- `Axy` is the form A(x,y); on a side, the empty text is no form
abbrev form : List ℕ → Form
form [] = record { letter = 0; names = [] }
form (c ∷ cs) = record { letter = c; names = cs }

abbrev side : List ℕ → Option Form
side [] = None
side (c ∷ cs) = Some (form (c ∷ cs))

-- the pieces of a successor: letters and brackets without arguments, or one letter with its arguments
abbrev pieces : String → List Piece
pieces text = map (λ c. record { letter = c; arguments = [] }) (codes text)

abbrev piece : String → List Expr → Piece
piece text arguments = record { letter = first (codes text); arguments = arguments }

abbrev named : String → Expr
named text = name (first (codes text))

abbrev is_less : Expr → Expr → Comparison
is_less a b = record { first = a; relation = Less; second = b }

-- `n: left < middle > right ? guard -> successor`
abbrev line : ℕ → String → String → String → List Comparison → List Piece → Entry
line n left middle right guard successor = rule (record { number = n; before = side (codes left); predecessor = form (codes middle); behind = side (codes right); guarded = guard; successor = successor })

-- `~letters`
abbrev skips : String → Entry
skips letters = ignores (codes letters)

abbrev of : List Entry → Book
of entries = loaded entries empty

-- generation g tells a word before which d brackets are open
abbrev tells : ℕ → ℕ → List Symbol → Ending → Meaning
tells g d w e = record { told = record { modules = w; ending = e }; opened = d; generation = g }

abbrev ends : ℕ → ℕ → ℕ → Ending
ends cause g place = broken (record { cause = cause; generation = g; place = place })

-- one generation takes the first word to the next
abbrev Grows : Book → List Symbol → List Symbol → Type 0
Grows b w v = generated b (tells 0 0 w clean) ≡ tells 1 0 v clean

-- it tells the modules v and then ends in a fault
abbrev Stops : Book → List Symbol → List Symbol → Ending → Type 0
Stops b w v e = generated b (tells 0 0 w clean) ≡ tells 1 0 v e

-- what is told of a whole word behind n modules of the result
abbrev behind : Book → ℕ → List Symbol → Told
behind b n w = outcomes b 0 0 (record { modules = w; ending = clean }) n 0 w

-- `~+`, `1: B < A -> B`, `2: B -> A`
abbrev signal : Book
signal = of (skips "+" ∷ line 1 "B" "A" "" [] (pieces "B") ∷ line 2 "" "B" "" [] (pieces "A") ∷ [])

-- `1: A > C -> D`, and the same with `~+`
abbrev meets : Book
meets = of (line 1 "" "A" "C" [] (pieces "D") ∷ [])

abbrev meets_over : Book
meets_over = of (skips "+" ∷ line 1 "" "A" "C" [] (pieces "D") ∷ [])

-- `7: A -> X`, `3: A -> Y`, `9: B < A -> Z`
abbrev seven : Entry
seven = line 7 "" "A" "" [] (pieces "X")

abbrev three : Entry
three = line 3 "" "A" "" [] (pieces "Y")

abbrev nine : Entry
nine = line 9 "B" "A" "" [] (pieces "Z")

abbrev Ranked : Entry → Entry → Entry → Type 0
Ranked a b c = Grows (of (a ∷ b ∷ c ∷ [])) (plain "ABA") (plain "YBZ")

-- A, so many `+`, and what follows
abbrev far : ℕ → String → List Symbol
far n text = one "A" [] ∷ (replicate n (one "+" []) ++ plain text)

-- A in so many brackets
abbrev deep : ℕ → List Symbol
deep n = replicate n (one "[" []) ++ (one "A" [] ∷ replicate n (one "]" []))

-- `1: A -> [A]`
abbrev deepens : Book
deepens = of (line 1 "" "A" "" [] (pieces "[A]") ∷ [])

-- `1: A(x) ? x < 3 -> B(x)`
abbrev guarded : Book
guarded = of (line 1 "" "Ax" "" (is_less (named "x") (number 3) ∷ []) (piece "B" (named "x" ∷ []) ∷ []) ∷ [])

-- `2: A(x) -> D`, `1: B < A(x) ? 1/x < 1 -> C`
abbrev divides : Book
divides = of (line 2 "" "Ax" "" [] (pieces "D") ∷ line 1 "B" "Ax" "" (is_less (over (number 1) (named "x")) (number 1) ∷ []) (pieces "C") ∷ [])

-- `1: A(x) < B(y) > C(z) -> D(x+y*z,x-z)`
abbrev binds : Book
binds = of (line 1 "Ax" "By" "Cz" [] (piece "D" (plus (named "x") (times (named "y") (named "z")) ∷ less (named "x") (named "z") ∷ []) ∷ []) ∷ [])

-- `1: A(x) -> BA(6/x)`
abbrev shares : Book
shares = of (line 1 "" "Ax" "" [] (piece "B" [] ∷ piece "A" (over (number 6) (named "x") ∷ []) ∷ []) ∷ [])

-- `1: A > C -> X`, `2: B < A -> Y`
abbrev sides : Book
sides = of (line 1 "" "A" "C" [] (pieces "X") ∷ line 2 "B" "A" "" [] (pieces "Y") ∷ [])

-- `1: A < A -> B`
abbrev follows : Book
follows = of (line 1 "A" "A" "" [] (pieces "B") ∷ [])

-- `1: A -> AA`
abbrev doubles : Book
doubles = of (line 1 "" "A" "" [] (pieces "AA") ∷ [])

pub record Growths : Type 0 where
  -- a signal runs along the stem and into the branch, past what is ignored
  pub signal_runs :
      Grows signal (plain "BA[+A]AA") (plain "AB[+A]AA")
      × (generated signal (tells 1 0 (plain "AB[+A]AA") clean) ≡ tells 2 0 (plain "AA[+B]BA") clean)
  -- a branch between is passed over on the right, and what stands outside one's own branch is no neighbour
  pub branches :
      Grows meets (plain "A[B]C") (plain "D[B]C")
      × Grows meets (plain "[A]C") (plain "[A]C")
      × Grows meets (plain "[A][C]") (plain "[A][C]")
  -- the order in which rules are loaded makes no difference
  pub any_order :
      Ranked seven three nine × Ranked seven nine three × Ranked three seven nine × Ranked three nine seven × Ranked nine seven three × Ranked nine three seven
  -- a left side alone goes before a right side alone
  pub left_first : Grows sides (plain "BAC") (plain "BYC") × Grows sides (plain "AAC") (plain "AXC")
  -- the 64th module that follows can settle the right neighbour, and the 65th is too far
  pub near : Grows meets_over (far 63 "C") (one "D" [] ∷ (replicate 63 (one "+" []) ++ plain "C"))
  pub too_far : Stops meets_over (far 64 "C") [] (ends 30 1 1)
  -- where the word ends clean, 64 that settle nothing are a fault, and 63 are none
  pub clean_end : Stops meets_over (far 64 "") [] (ends 30 1 1) × Grows meets_over (far 63 "") (far 63 "")
  -- 32 brackets may be open
  pub just_deep : Grows deepens (deep 31) (deep 32)
  pub too_deep : Stops deepens (deep 32) (replicate 32 (one "[" [])) (ends 33 1 33)
  -- a guard that is false leaves the module as it is
  pub by_guard :
      Grows guarded (one "A" (pos 2 ∷ []) ∷ one "A" (pos 3 ∷ []) ∷ []) (one "B" (pos 2 ∷ []) ∷ one "A" (pos 3 ∷ []) ∷ [])
  -- a guard that faults decides, before the rules behind it are tried
  pub guard_faults :
      Stops divides (one "B" [] ∷ one "A" (pos 0 ∷ []) ∷ []) (plain "B") (ends 31 1 2)
      × Grows divides (one "C" [] ∷ one "A" (pos 0 ∷ []) ∷ []) (plain "CD")
      × Grows divides (one "B" [] ∷ one "A" (pos 1 ∷ []) ∷ []) (plain "BD")
  -- both neighbours bind names
  pub by_names :
      Grows binds (one "A" (pos 2 ∷ []) ∷ one "B" (pos 3 ∷ []) ∷ one "C" (pos 5 ∷ []) ∷ [])
      (one "A" (pos 2 ∷ []) ∷ one "D" (pos 17 ∷ negsuc 2 ∷ []) ∷ one "C" (pos 5 ∷ []) ∷ [])
  -- an argument that faults: what grew before is told
  pub argument_faults :
      Stops shares (one "A" (pos 3 ∷ []) ∷ one "A" (pos 0 ∷ []) ∷ []) (one "B" [] ∷ one "A" (pos 2 ∷ []) ∷ []) (ends 31 1 2)
  -- a look ahead that comes to a fault passes it up as it is, even where a rule without a right side would win
  pub passed_up :
      (generated sides (tells 3 0 (plain "BA") (ends 32 2 7)) ≡ tells 4 0 (plain "B") (ends 32 2 7))
      × (generated meets_over (tells 3 0 (far 63 "") (ends 32 2 7)) ≡ tells 4 0 [] (ends 32 2 7))
  -- a fault behind what settles the right neighbour stops nothing before it, and a module that does not look ahead grows
  pub passed_later :
      (generated meets (tells 3 0 (plain "ACABA") (ends 32 2 7)) ≡ tells 4 0 (plain "DCAB") (ends 32 2 7))
      × (generated doubles (tells 3 0 (plain "A") (ends 32 2 7)) ≡ tells 4 0 (plain "AA") (ends 32 2 7))
  -- the `]` that closes the branch settles that there is no right neighbour
  pub closes_branch : generated meets (tells 3 0 (plain "[A[B]]") (ends 32 2 7)) ≡ tells 4 0 (plain "[A[B]]") (ends 32 2 7)
  -- brackets open before the word count, and no left neighbour stands before it
  pub from_within :
      (generated follows (tells 0 1 (plain "AA]A") clean) ≡ tells 1 1 (plain "AB]A") clean)
      × (generated meets (tells 0 1 (plain "A]C") clean) ≡ tells 1 1 (plain "A]C") clean)
      × (generated deepens (tells 0 31 (plain "A") (ends 32 0 5)) ≡ tells 1 31 (plain "[A]") (ends 32 0 5))
      × (generated deepens (tells 0 32 (plain "A") (ends 32 0 5)) ≡ tells 1 32 [] (ends 33 1 1))
  -- the generation number stays at 255
  pub last_number :
      (generated deepens (tells 254 0 (plain "A") clean) ≡ tells 255 0 (plain "[A]") clean)
      × (generated deepens (tells 255 32 (plain "A") (ends 32 0 5)) ≡ tells 255 32 [] (ends 33 255 1))
  -- the result has room for 16,000,000 modules, brackets among them
  pub room :
      (behind doubles 15_999_996 (plain "AA") ≡ record { modules = plain "AAAA"; ending = clean })
      × (behind doubles 15_999_997 (plain "AA") ≡ record { modules = plain "AA"; ending = ends 34 1 2 })
      × (behind doubles 15_999_999 (plain "[]") ≡ record { modules = plain "["; ending = ends 34 1 2 })
