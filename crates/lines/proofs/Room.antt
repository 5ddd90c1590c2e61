-- How many code places and tokens there are.
use Rattle.std.proofs.Common.{◌≡◌, ◌+◌, ◌<◌, ◌≤◌, Bool, true, false, cond, ltb, List, [], ◌∷◌, ◌++◌, length, sym, ap, subst, ◌∙◌, append-nil, arith, length-append}
use Rattle.std.proofs.lemmas.Bool.{cond-true, lt-ltb}
use Rattle.expr.specs.declared.code.Code.{Code}
use Rattle.expr.specs.Codes.{comparisons_code}
use Rattle.rules.specs.Records.{pushed}
use Rattle.tokens.specs.Tokens.{Lexeme}
use Rattle.book.specs.Grammar.{Part, comparison, Tree, digits, named, group, plain, negated, one_factor, times, over, one_product, plus, less, compared, one_comparison, also, spells}
use Rattle.book.specs.Meanings.{sense}
use Rattle.lines.specs.Parts.{part_code, Took}
use Rattle.book.proofs.Unique.{one_more}

-- a row that is not full takes one more
pub one_pushed : {A : Type 0} (x : A) (xs : List A) → length xs < 200 → pushed x xs ≡ xs ++ (x ∷ [])
one_pushed x xs h = cond-true (ltb (length xs) 200) (xs ++ (x ∷ [])) xs (lt-ltb (length xs) 200 h)

-- no push adds more than one place
pub room_pushed : {A : Type 0} (x : A) (xs ys : List A) → ys ≡ pushed x xs → length ys ≤ length xs + 1
room_pushed x xs ys e = subst (λ l. length l ≤ length xs + 1) (sym e) (go (ltb (length xs) 200))
  where
    go : (b : Bool) → length (cond b (xs ++ (x ∷ [])) xs) ≤ length xs + 1
    go true = simp length-append (omega arith)
    go false = omega arith

-- each code place has a token of its own
pub short : {k : Part} (t : Tree k) → length (part_code k (sense t)) ≤ length (spells t)
short (digits ds h) = omega arith
short (named c) = omega arith
short (group s) = let ih = short s in simp length-append (omega arith)
short (plain a) = short a
short (negated a) = let ih = short a in simp length-append (omega arith)
short (one_factor f) = short f
short (times p f) = let ih = short p in let jh = short f in simp length-append (omega arith)
short (over p f) = let ih = short p in let jh = short f in simp length-append (omega arith)
short (one_product p) = short p
short (plus s p) = let ih = short s in let jh = short p in simp length-append (omega arith)
short (less s p) = let ih = short s in let jh = short p in simp length-append (omega arith)
short (compared a r b) = let ih = short a in let jh = short b in simp length-append (omega arith)
short (one_comparison c) = let ih = short c in let e = ap length (append-nil (part_code comparison (sense c))) in omega arith
short (also g c) =
    let ih = short g in
    let jh = short c in
    let e = ap length (one_more (sense g) (sense c)) ∙ length-append (comparisons_code (sense g)) (part_code comparison (sense c)) in
    let f = length-append (spells g) (spells (one_comparison c)) in
    simp length-append (omega arith)

-- a part spells some token
pub some : {k : Part} (t : Tree k) → 1 ≤ length (spells t)
some (digits ds h) = omega arith
some (named c) = omega arith
some (group s) = omega arith
some (plain a) = some a
some (negated a) = omega arith
some (one_factor f) = some f
some (times p f) = simp length-append (omega arith)
some (over p f) = simp length-append (omega arith)
some (one_product p) = some p
some (plus s p) = simp length-append (omega arith)
some (less s p) = simp length-append (omega arith)
some (compared a r b) = simp length-append (omega arith)
some (one_comparison c) = some c
some (also g c) = simp length-append (omega arith)

-- what reading a part leaves room for
pub room : (k : Part) (ts us : List Lexeme) (cs ds : List Code) → Took k ts us cs ds → (length ds + length us ≤ length cs + length ts) × (length us + 1 ≤ length ts)
room k ts us cs ds t =
    let a = ap length t.spelt ∙ length-append (spells t.tree) us in
    let b = ap length t.coded ∙ length-append cs (part_code k (sense t.tree)) in
    let f = short t.tree in
    let s = some t.tree in
    (omega arith, omega arith)
