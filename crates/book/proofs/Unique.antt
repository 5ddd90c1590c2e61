-- The tokens alone give the code: signs wait on a stack until one that binds no tighter comes.
use Rattle.std.proofs.Common.{◌≡◌, ℕ, Bool, true, false, cond, leb, List, [], ◌∷◌, ◌++◌, sym, refl, ap, ◌∙◌, append_assoc, append-nil}
use Rattle.word.specs.Text.{worth}
use Rattle.tokens.specs.declared.token.Sign.{Sign}
use Rattle.tokens.specs.declared.token.Sign.TheVariants.{Letter, Plus, Minus, Times, Over, Opens, Closes, Less, AtMost, Equal, Unequal, AtLeast, More, Also, Arrow, Comma, Colon, Asks, Ignores, Branches, Rejoins, Stray}
use Rattle.tokens.specs.Tokens.{Lexeme, number, name, sign}
use Rattle.expr.specs.declared.code.Relation.{Relation}
use Rattle.expr.specs.declared.code.Relation.TheVariants as relation
use Rattle.expr.specs.declared.code.Code.{Code}
use Rattle.expr.specs.declared.code.Code.TheVariants.{Blank, Number, Name, Negate, Add, Subtract, Multiply, Divide, Compare}
use Rattle.expr.specs.Values.{Expr, Comparison}
use Rattle.expr.specs.Codes.{code_of, comparisons_code, decoded}
use Rattle.expr.proofs.Examples.{reads_back}
use Rattle.book.specs.Grammar.{Part, guard, comparison, sum, product, factor, operand, relation_sign, Tree, digits, named, group, plain, negated, one_factor, times, over, one_product, plus, less, compared, one_comparison, also, spells}
use Rattle.book.specs.Meanings.{sense}

-- the code of a tree: operands first, then what joins them
abbrev postfix : {k : Part} → Tree k → List Code
postfix (digits ds h) = Number (worth ds) ∷ []
postfix (named c) = Name c ∷ []
postfix (group s) = postfix s
postfix (plain a) = postfix a
postfix (negated a) = postfix a ++ (Negate ∷ [])
postfix (one_factor f) = postfix f
postfix (times p f) = (postfix p ++ postfix f) ++ (Multiply ∷ [])
postfix (over p f) = (postfix p ++ postfix f) ++ (Divide ∷ [])
postfix (one_product p) = postfix p
postfix (plus s p) = (postfix s ++ postfix p) ++ (Add ∷ [])
postfix (less s p) = (postfix s ++ postfix p) ++ (Subtract ∷ [])
postfix (compared a r b) = (postfix a ++ postfix b) ++ (Compare r ∷ [])
postfix (one_comparison c) = postfix c
postfix (also g c) = postfix g ++ postfix c

-- a sign that waits, with how tightly it binds
pub data Waits : Type 0 where
  waits : ℕ → Code → Waits

abbrev pub popped : ℕ → List Waits → List Code
popped p [] = []
popped p (waits q c ∷ st) = cond (leb p q) (c ∷ popped p st) []

abbrev pub kept : ℕ → List Waits → List Waits
kept p [] = []
kept p (waits q c ∷ st) = cond (leb p q) (kept p st) (waits q c ∷ st)

abbrev pub behind : List Waits → List Waits
behind [] = []
behind (w ∷ st) = st

-- the code that a sign lets go, after an operand or before one
abbrev pub freed : Sign → Bool → List Waits → List Code
freed (Letter c) m st = []
freed Plus m st = popped 3 st
freed Minus true st = popped 3 st
freed Minus false st = []
freed Times m st = popped 4 st
freed Over m st = popped 4 st
freed Opens m st = []
freed Closes m st = popped 1 st
freed Less m st = popped 2 st
freed AtMost m st = popped 2 st
freed Equal m st = popped 2 st
freed Unequal m st = popped 2 st
freed AtLeast m st = popped 2 st
freed More m st = popped 2 st
freed Also m st = popped 1 st
freed Arrow m st = []
freed Comma m st = []
freed Colon m st = []
freed Asks m st = []
freed Ignores m st = []
freed Branches m st = []
freed Rejoins m st = []
freed Stray m st = []

-- what waits then
abbrev pub stacked : Sign → Bool → List Waits → List Waits
stacked (Letter c) m st = st
stacked Plus m st = waits 3 Add ∷ kept 3 st
stacked Minus true st = waits 3 Subtract ∷ kept 3 st
stacked Minus false st = waits 5 Negate ∷ st
stacked Times m st = waits 4 Multiply ∷ kept 4 st
stacked Over m st = waits 4 Divide ∷ kept 4 st
stacked Opens m st = waits 0 Blank ∷ st
stacked Closes m st = behind (kept 1 st)
stacked Less m st = waits 2 (Compare relation.Less) ∷ kept 2 st
stacked AtMost m st = waits 2 (Compare relation.AtMost) ∷ kept 2 st
stacked Equal m st = waits 2 (Compare relation.Equal) ∷ kept 2 st
stacked Unequal m st = waits 2 (Compare relation.Unequal) ∷ kept 2 st
stacked AtLeast m st = waits 2 (Compare relation.AtLeast) ∷ kept 2 st
stacked More m st = waits 2 (Compare relation.More) ∷ kept 2 st
stacked Also m st = kept 1 st
stacked Arrow m st = st
stacked Comma m st = st
stacked Colon m st = st
stacked Asks m st = st
stacked Ignores m st = st
stacked Branches m st = st
stacked Rejoins m st = st
stacked Stray m st = st

abbrev pub closes : Sign → Bool
closes (Letter c) = false
closes Plus = false
closes Minus = false
closes Times = false
closes Over = false
closes Opens = false
closes Closes = true
closes Less = false
closes AtMost = false
closes Equal = false
closes Unequal = false
closes AtLeast = false
closes More = false
closes Also = false
closes Arrow = false
closes Comma = false
closes Colon = false
closes Asks = false
closes Ignores = false
closes Branches = false
closes Rejoins = false
closes Stray = false

-- the code of tokens, after an operand or before one
abbrev pub yields : Bool → List Waits → List Lexeme → List Code
yields m st [] = popped 1 st
yields m st (number ds ∷ ts) = Number (worth ds) ∷ yields true st ts
yields m st (name c ∷ ts) = Name c ∷ yields true st ts
yields m st (sign s ∷ ts) = freed s m st ++ yields (closes s) (stacked s m st) ts

-- no sign that binds so tightly waits on top
abbrev Low : ℕ → List Waits → Type 0
Low p st = (popped p st ≡ []) × (kept p st ≡ st)

abbrev Lows : Part → List Waits → Type 0
Lows guard st = st ≡ []
Lows comparison st = st ≡ []
Lows sum st = Low 3 st × Low 4 st
Lows product st = Low 4 st
Lows factor st = Unit {0}
Lows operand st = Unit {0}

-- what follows lets a sign that binds so tightly go
abbrev Frees : ℕ → List Lexeme → Type 0
Frees p us = (c : Code) (st : List Waits) → yields true (waits p c ∷ st) us ≡ c ∷ yields true st us

abbrev Ends : Part → List Lexeme → Type 0
Ends guard us = Frees 2 us × (Frees 3 us × (Frees 4 us × Frees 5 us))
Ends comparison us = Frees 2 us × (Frees 3 us × (Frees 4 us × Frees 5 us))
Ends sum us = Frees 3 us × (Frees 4 us × Frees 5 us)
Ends product us = Frees 4 us × Frees 5 us
Ends factor us = Frees 5 us
Ends operand us = Unit {0}

-- a sign after an operand, with nothing so tight waiting
joins : (p : ℕ) (c : Code) (st : List Waits) (us : List Lexeme) → Low p st → popped p st ++ yields false (waits p c ∷ kept p st) us ≡ yields false (waits p c ∷ st) us
joins p c st us low = ap (λ (x : List Code). x ++ yields false (waits p c ∷ kept p st) us) low.0 ∙ ap (λ (x : List Waits). yields false (waits p c ∷ x) us) low.1

compare_code : (r : Relation) (us : List Lexeme) → yields true [] (sign (relation_sign r) ∷ us) ≡ yields false (waits 2 (Compare r) ∷ []) us
compare_code relation.Less us = refl
compare_code relation.AtMost us = refl
compare_code relation.Equal us = refl
compare_code relation.Unequal us = refl
compare_code relation.AtLeast us = refl
compare_code relation.More us = refl

compare_ends : (r : Relation) (us : List Lexeme) → Ends sum (sign (relation_sign r) ∷ us)
compare_ends relation.Less us = (λ c st. refl, (λ c st. refl, λ c st. refl))
compare_ends relation.AtMost us = (λ c st. refl, (λ c st. refl, λ c st. refl))
compare_ends relation.Equal us = (λ c st. refl, (λ c st. refl, λ c st. refl))
compare_ends relation.Unequal us = (λ c st. refl, (λ c st. refl, λ c st. refl))
compare_ends relation.AtLeast us = (λ c st. refl, (λ c st. refl, λ c st. refl))
compare_ends relation.More us = (λ c st. refl, (λ c st. refl, λ c st. refl))

regroup : (a b : List Code) (c : Code) (r : List Code) → a ++ (b ++ (c ∷ r)) ≡ ((a ++ b) ++ (c ∷ [])) ++ r
regroup a b c r = simp append_assoc

told : {k : Part} (t : Tree k) (st : List Waits) (us : List Lexeme) → Lows k st → Ends k us → yields false st (spells t ++ us) ≡ postfix t ++ yields true st us
told (digits ds h) st us low e = refl
told (named c) st us low e = refl
told (group s) st us low e =
    ap (yields false (waits 0 Blank ∷ st)) (append_assoc (spells s) (sign Closes ∷ []) us)
    ∙ told s (waits 0 Blank ∷ st) (sign Closes ∷ us) ((refl, refl), (refl, refl)) (λ c s. refl, (λ c s. refl, λ c s. refl))
told (plain a) st us low e = told a st us tt tt
told (negated a) st us low e =
    told a (waits 5 Negate ∷ st) us tt tt ∙ ap (λ (x : List Code). postfix a ++ x) (e Negate st) ∙ sym (append_assoc (postfix a) (Negate ∷ []) (yields true st us))
told (one_factor f) st us low e = told f st us tt e.1
told (times p f) st us low e =
    ap (yields false st) (append_assoc (spells p) (sign Times ∷ spells f) us)
    ∙ told p st (sign Times ∷ (spells f ++ us)) low (λ c s. refl, λ c s. refl)
    ∙ ap (λ (x : List Code). postfix p ++ x) (joins 4 Multiply st (spells f ++ us) low ∙ told f (waits 4 Multiply ∷ st) us tt e.1 ∙ ap (λ (x : List Code). postfix f ++ x) (e.0 Multiply st))
    ∙ regroup (postfix p) (postfix f) Multiply (yields true st us)
told (over p f) st us low e =
    ap (yields false st) (append_assoc (spells p) (sign Over ∷ spells f) us)
    ∙ told p st (sign Over ∷ (spells f ++ us)) low (λ c s. refl, λ c s. refl)
    ∙ ap (λ (x : List Code). postfix p ++ x) (joins 4 Divide st (spells f ++ us) low ∙ told f (waits 4 Divide ∷ st) us tt e.1 ∙ ap (λ (x : List Code). postfix f ++ x) (e.0 Divide st))
    ∙ regroup (postfix p) (postfix f) Divide (yields true st us)
told (one_product p) st us low e = told p st us low.1 e.1
told (plus s p) st us low e =
    ap (yields false st) (append_assoc (spells s) (sign Plus ∷ spells p) us)
    ∙ told s st (sign Plus ∷ (spells p ++ us)) low (λ c s. refl, (λ c s. refl, λ c s. refl))
    ∙ ap (λ (x : List Code). postfix s ++ x) (joins 3 Add st (spells p ++ us) low.0 ∙ told p (waits 3 Add ∷ st) us (refl, refl) e.1 ∙ ap (λ (x : List Code). postfix p ++ x) (e.0 Add st))
    ∙ regroup (postfix s) (postfix p) Add (yields true st us)
told (less s p) st us low e =
    ap (yields false st) (append_assoc (spells s) (sign Minus ∷ spells p) us)
    ∙ told s st (sign Minus ∷ (spells p ++ us)) low (λ c s. refl, (λ c s. refl, λ c s. refl))
    ∙ ap (λ (x : List Code). postfix s ++ x) (joins 3 Subtract st (spells p ++ us) low.0 ∙ told p (waits 3 Subtract ∷ st) us (refl, refl) e.1 ∙ ap (λ (x : List Code). postfix p ++ x) (e.0 Subtract st))
    ∙ regroup (postfix s) (postfix p) Subtract (yields true st us)
told (compared a r b) st us low e =
    ap (λ (w : List Waits). yields false w ((spells a ++ (sign (relation_sign r) ∷ spells b)) ++ us)) low
    ∙ ap (yields false []) (append_assoc (spells a) (sign (relation_sign r) ∷ spells b) us)
    ∙ told a [] (sign (relation_sign r) ∷ (spells b ++ us)) ((refl, refl), (refl, refl)) (compare_ends r (spells b ++ us))
    ∙ ap (λ (x : List Code). postfix a ++ x) (compare_code r (spells b ++ us) ∙ told b (waits 2 (Compare r) ∷ []) us ((refl, refl), (refl, refl)) e.1 ∙ ap (λ (x : List Code). postfix b ++ x) (e.0 (Compare r) []))
    ∙ regroup (postfix a) (postfix b) (Compare r) (yields true [] us)
    ∙ ap (λ (w : List Waits). postfix (compared a r b) ++ yields true w us) (sym low)
told (one_comparison c) st us low e = told c st us low e
told (also g c) st us low e =
    ap (λ (w : List Waits). yields false w ((spells g ++ (sign Also ∷ spells c)) ++ us)) low
    ∙ ap (yields false []) (append_assoc (spells g) (sign Also ∷ spells c) us)
    ∙ told g [] (sign Also ∷ (spells c ++ us)) refl (λ c s. refl, (λ c s. refl, (λ c s. refl, λ c s. refl)))
    ∙ ap (λ (x : List Code). postfix g ++ x) (told c [] us refl e)
    ∙ sym (append_assoc (postfix g) (postfix c) (yields true [] us))
    ∙ ap (λ (w : List Waits). postfix (also g c) ++ yields true w us) (sym low)

-- the code of a part is that of what it means
abbrev Coded : (k : Part) → Tree k → Type 0
Coded guard t = postfix t ≡ comparisons_code (sense t)
Coded comparison t = postfix t ≡ (code_of (sense t).first ++ code_of (sense t).second) ++ (Compare (sense t).relation ∷ [])
Coded sum t = postfix t ≡ code_of (sense t)
Coded product t = postfix t ≡ code_of (sense t)
Coded factor t = postfix t ≡ code_of (sense t)
Coded operand t = postfix t ≡ code_of (sense t)

pub one_more : (cs : List Comparison) (c : Comparison) → comparisons_code (cs ++ (c ∷ [])) ≡ comparisons_code cs ++ ((code_of c.first ++ code_of c.second) ++ (Compare c.relation ∷ []))
one_more [] c = append-nil ((code_of c.first ++ code_of c.second) ++ (Compare c.relation ∷ []))
one_more (d ∷ ds) c =
    let x = (code_of d.first ++ code_of d.second) ++ (Compare d.relation ∷ []) in
    ap (λ (l : List Code). x ++ l) (one_more ds c) ∙ sym (append_assoc x (comparisons_code ds) ((code_of c.first ++ code_of c.second) ++ (Compare c.relation ∷ [])))

coded : {k : Part} (t : Tree k) → Coded k t
coded (digits ds h) = refl
coded (named c) = refl
coded (group s) = coded s
coded (plain a) = coded a
coded (negated a) = ap (λ (x : List Code). x ++ (Negate ∷ [])) (coded a)
coded (one_factor f) = coded f
coded (times p f) = λ i. (coded p i ++ coded f i) ++ (Multiply ∷ [])
coded (over p f) = λ i. (coded p i ++ coded f i) ++ (Divide ∷ [])
coded (one_product p) = coded p
coded (plus s p) = λ i. (coded s i ++ coded p i) ++ (Add ∷ [])
coded (less s p) = λ i. (coded s i ++ coded p i) ++ (Subtract ∷ [])
coded (compared a r b) = λ i. (coded a i ++ coded b i) ++ (Compare r ∷ [])
coded (one_comparison c) = coded c ∙ sym (append-nil _)
coded (also g c) = (λ i. coded g i ++ coded c i) ∙ sym (one_more (sense g) (sense c))

-- the code of all the tokens
pub whole_guard : (g : Tree guard) → yields false [] (spells g) ≡ comparisons_code (sense g)
whole_guard g =
    ap (yields false []) (sym (append-nil (spells g)))
    ∙ told g [] [] refl (λ c s. refl, (λ c s. refl, (λ c s. refl, λ c s. refl)))
    ∙ append-nil (postfix g)
    ∙ coded g

pub whole_sum : (s : Tree sum) → yields false [] (spells s) ≡ code_of (sense s)
whole_sum s =
    ap (yields false []) (sym (append-nil (spells s)))
    ∙ told s [] [] ((refl, refl), (refl, refl)) (λ c s. refl, (λ c s. refl, λ c s. refl))
    ∙ append-nil (postfix s)
    ∙ coded s

pub same_code : (a b : Expr) → code_of a ≡ code_of b → a ≡ b
same_code a b e = let one : a ∷ [] ≡ b ∷ [] = sym (reads_back.expressions a) ∙ ap (decoded []) e ∙ reads_back.expressions b in cc
