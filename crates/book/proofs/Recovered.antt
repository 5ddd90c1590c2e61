-- What a line means, found from its tokens alone.
use Rattle.std.proofs.Common.{◌≡◌, ℕ, suc, pred, Bool, true, false, cond, not, ◌&&◌, ◌||◌, eqb, List, [], ◌∷◌, ◌++◌, map, Some, None, Option, sym, refl, ap, ◌∙◌, ap₂, append_assoc, arith}
use Rattle.std.specs.Option.{option_map}
use Rattle.std.proofs.lemmas.Bool.{cond-true, cond-false, and_parts, and_from, ne_eqb}
use Rattle.word.specs.Text.{worth}
use Rattle.tokens.specs.declared.token.Sign.{Sign}
use Rattle.tokens.specs.declared.token.Sign.TheVariants.{Letter, Plus, Minus, Times, Over, Opens, Closes, Less, AtMost, Equal, Unequal, AtLeast, More, Also, Arrow, Comma, Colon, Asks, Ignores, Branches, Rejoins, Stray}
use Rattle.tokens.specs.Tokens.{Lexeme, number, name, sign}
use Rattle.tokens.specs.Readers.{first_sign, rest}
use Rattle.expr.specs.declared.code.Relation.{Relation}
use Rattle.expr.specs.declared.code.Relation.TheVariants as relation
use Rattle.expr.specs.Values.{Expr, Comparison}
use Rattle.expr.specs.Values as values
use Rattle.expr.specs.Codes.{top, decoded, comparisons}
use Rattle.expr.proofs.Examples.{reads_back}
use Rattle.book.specs.Grammar.{Part, guard, sum, relation_sign, Tree, digits, named, group, plain, negated, one_factor, times, over, one_product, plus, less, compared, one_comparison, also, spells, Glyph, small, high, cross, dash, ampersand, slash, glyph, closing, within, FormTree, spells_form, PieceTree, branches, rejoins, grown, spells_pieces, RuleTree, spells_before, spells_behind, spells_guarded, LineTree, ignoring, ruling, spells_line}
use Rattle.book.specs.Meanings.{letter_of, sense, form_sense, piece_sense, guard_sense, rule_sense, line_sense}
use Rattle.book.specs.Rules.{Form, Piece, Rule}
use Rattle.book.specs.Books.{Entry, rule, ignores}
use Rattle.book.specs.OneMeaning.{OneMeaning}
use Rattle.book.proofs.Unique.{yields, whole_guard, whole_sum, same_code}

abbrev rank : Sign → ℕ
rank (Letter c) = 0
rank Plus = 1
rank Minus = 2
rank Times = 3
rank Over = 4
rank Opens = 5
rank Closes = 6
rank Less = 7
rank AtMost = 8
rank Equal = 9
rank Unequal = 10
rank AtLeast = 11
rank More = 12
rank Also = 13
rank Arrow = 14
rank Comma = 15
rank Colon = 16
rank Asks = 17
rank Ignores = 18
rank Branches = 19
rank Rejoins = 20
rank Stray = 21

abbrev is : Sign → Sign → Bool
is a s = eqb (rank s) (rank a)

-- the letter that a sign is, and a bracket by its number
abbrev sign_letter : Sign → ℕ
sign_letter (Letter c) = c
sign_letter Plus = 43
sign_letter Minus = 45
sign_letter Times = 0
sign_letter Over = 47
sign_letter Opens = 0
sign_letter Closes = 0
sign_letter Less = 0
sign_letter AtMost = 0
sign_letter Equal = 0
sign_letter Unequal = 0
sign_letter AtLeast = 0
sign_letter More = 0
sign_letter Also = 38
sign_letter Arrow = 0
sign_letter Comma = 0
sign_letter Colon = 0
sign_letter Asks = 0
sign_letter Ignores = 0
sign_letter Branches = 91
sign_letter Rejoins = 93
sign_letter Stray = 0

abbrev letter_at : Lexeme → ℕ
letter_at (number ds) = 0
letter_at (name c) = c
letter_at (sign s) = sign_letter s

letter_found : (l : Glyph) → letter_at (glyph l) ≡ letter_of l
letter_found (small c) = refl
letter_found (high c) = refl
letter_found cross = refl
letter_found dash = refl
letter_found ampersand = refl
letter_found slash = refl

-- forms
abbrev names_in : List Lexeme → List ℕ
names_in [] = []
names_in (number ds ∷ ts) = []
names_in (name c ∷ ts) = c ∷ names_in ts
names_in (sign s ∷ ts) = cond (is Comma s) (names_in ts) []

abbrev after_names : List Lexeme → List Lexeme
after_names [] = []
after_names (number ds ∷ ts) = ts
after_names (name c ∷ ts) = after_names ts
after_names (sign s ∷ ts) = cond (is Comma s) (after_names ts) ts

abbrev form_at : List Lexeme → Form
form_at [] = record { letter = 0; names = [] }
form_at (t ∷ ts) = record { letter = letter_at t; names = cond (is Opens (first_sign ts)) (names_in (rest ts)) [] }

abbrev form_after : List Lexeme → List Lexeme
form_after [] = []
form_after (t ∷ ts) = cond (is Opens (first_sign ts)) (after_names (rest ts)) ts

abbrev words : List ℕ → List (List Lexeme)
words cs = map (λ c. name c ∷ []) cs

names_found : (cs : List ℕ) (us : List Lexeme) → names_in (closing (words cs) ++ us) ≡ cs
names_found [] us = refl
names_found (c ∷ cs) us = ap (λ (l : List ℕ). c ∷ l) (names_found cs us)

names_passed : (cs : List ℕ) (us : List Lexeme) → after_names (closing (words cs) ++ us) ≡ us
names_passed [] us = refl
names_passed (c ∷ cs) us = names_passed cs us

module _ (us : List Lexeme) (other : is Opens (first_sign us) ≡ false) where
  form_found : (f : FormTree) → form_at (spells_form f ++ us) ≡ form_sense f
  form_found f = go f.names
    where
      go : (cs : List ℕ) → form_at ((glyph f.glyph ∷ within (words cs)) ++ us) ≡ record { letter = letter_of f.glyph; names = cs }
      go [] = λ i. record { letter = letter_found f.glyph i; names = cond-false (is Opens (first_sign us)) (names_in (rest us)) [] other i }
      go (c ∷ cs) = λ i. record { letter = letter_found f.glyph i; names = c ∷ names_found cs us i }

  form_passed : (f : FormTree) → form_after (spells_form f ++ us) ≡ us
  form_passed f = go f.names
    where
      go : (cs : List ℕ) → form_after ((glyph f.glyph ∷ within (words cs)) ++ us) ≡ us
      go [] = cond-false (is Opens (first_sign us)) (after_names (rest us)) us other
      go (c ∷ cs) = names_passed cs us

-- no token of a guard or a sum is an arrow or a comma
abbrev inner_sign : Sign → Bool
inner_sign s = not (is Arrow s || is Comma s)

abbrev inner : Lexeme → Bool
inner (number ds) = true
inner (name c) = true
inner (sign s) = inner_sign s

abbrev all_inner : List Lexeme → Bool
all_inner [] = true
all_inner (t ∷ ts) = inner t && all_inner ts

inner_append : (xs ys : List Lexeme) → all_inner xs ≡ true → all_inner ys ≡ true → all_inner (xs ++ ys) ≡ true
inner_append [] ys p q = q
inner_append (x ∷ xs) ys p q = let a = and_parts (inner x) (all_inner xs) p in and_from _ _ a.0 (inner_append xs ys a.1 q)

inner_relation : (r : Relation) → inner_sign (relation_sign r) ≡ true
inner_relation relation.Less = refl
inner_relation relation.AtMost = refl
inner_relation relation.Equal = refl
inner_relation relation.Unequal = refl
inner_relation relation.AtLeast = refl
inner_relation relation.More = refl

inner_tree : {k : Part} (t : Tree k) → all_inner (spells t) ≡ true
inner_tree (digits ds h) = refl
inner_tree (named c) = refl
inner_tree (group s) = inner_append (spells s) (sign Closes ∷ []) (inner_tree s) refl
inner_tree (plain a) = inner_tree a
inner_tree (negated a) = inner_tree a
inner_tree (one_factor f) = inner_tree f
inner_tree (times p f) = inner_append (spells p) (sign Times ∷ spells f) (inner_tree p) (inner_tree f)
inner_tree (over p f) = inner_append (spells p) (sign Over ∷ spells f) (inner_tree p) (inner_tree f)
inner_tree (one_product p) = inner_tree p
inner_tree (plus s p) = inner_append (spells s) (sign Plus ∷ spells p) (inner_tree s) (inner_tree p)
inner_tree (less s p) = inner_append (spells s) (sign Minus ∷ spells p) (inner_tree s) (inner_tree p)
inner_tree (compared a r b) = inner_append (spells a) (sign (relation_sign r) ∷ spells b) (inner_tree a) (and_from _ _ (inner_relation r) (inner_tree b))
inner_tree (one_comparison c) = inner_tree c
inner_tree (also g c) = inner_append (spells g) (sign Also ∷ spells c) (inner_tree g) (inner_tree c)

-- before and behind the first arrow
abbrev is_arrow : Lexeme → Bool
is_arrow (number ds) = false
is_arrow (name c) = false
is_arrow (sign s) = is Arrow s

abbrev before_arrow : List Lexeme → List Lexeme
before_arrow [] = []
before_arrow (t ∷ ts) = cond (is_arrow t) [] (t ∷ before_arrow ts)

abbrev after_arrow : List Lexeme → List Lexeme
after_arrow [] = []
after_arrow (t ∷ ts) = cond (is_arrow t) ts (after_arrow ts)

or_first : (x y : Bool) → not (x || y) ≡ true → x ≡ false
or_first true y h = sym h
or_first false y h = refl

or_second : (x y : Bool) → not (x || y) ≡ true → y ≡ false
or_second true true h = sym h
or_second true false h = refl
or_second false true h = sym h
or_second false false h = refl

no_arrow : (t : Lexeme) → inner t ≡ true → is_arrow t ≡ false
no_arrow (number ds) h = refl
no_arrow (name c) h = refl
no_arrow (sign s) h = or_first (is Arrow s) (is Comma s) h

arrow_found : (xs us : List Lexeme) → all_inner xs ≡ true → before_arrow (xs ++ (sign Arrow ∷ us)) ≡ xs
arrow_found [] us h = refl
arrow_found (x ∷ xs) us h =
    let p = and_parts (inner x) (all_inner xs) h in
    cond-false (is_arrow x) [] (x ∷ before_arrow (xs ++ (sign Arrow ∷ us))) (no_arrow x p.0) ∙ ap (λ (l : List Lexeme). x ∷ l) (arrow_found xs us p.1)

arrow_passed : (xs us : List Lexeme) → all_inner xs ≡ true → after_arrow (xs ++ (sign Arrow ∷ us)) ≡ us
arrow_passed [] us h = refl
arrow_passed (x ∷ xs) us h =
    let p = and_parts (inner x) (all_inner xs) h in
    cond-false (is_arrow x) (xs ++ (sign Arrow ∷ us)) (after_arrow (xs ++ (sign Arrow ∷ us))) (no_arrow x p.0) ∙ arrow_passed xs us p.1

-- A successor: its letters and brackets, each with the tokens of its arguments.
data Item : Type 0 where
  starts : ℕ → Item
  holds : Lexeme → Item

data Mode : Type 0 where
  outside lettered : Mode
  arguing : ℕ → Mode

abbrev is_bracket : Sign → Bool
is_bracket s = is Branches s || is Rejoins s

-- parentheses open inside the arguments
abbrev deeper : ℕ → Sign → ℕ
deeper d s = cond (is Opens s) (suc d) (cond (is Closes s) (pred d) d)

abbrev ends_list : ℕ → Sign → Bool
ends_list d s = is Closes s && eqb d 0

abbrev next : Mode → Lexeme → Mode
next outside (number ds) = outside
next outside (name c) = lettered
next outside (sign s) = cond (is_bracket s) outside lettered
next lettered (number ds) = outside
next lettered (name c) = lettered
next lettered (sign s) = cond (is Opens s) (arguing 0) (cond (is_bracket s) outside lettered)
next (arguing d) (number ds) = arguing d
next (arguing d) (name c) = arguing d
next (arguing d) (sign s) = cond (ends_list d s) outside (arguing (deeper d s))

abbrev out : Mode → Lexeme → List Item
out outside t = starts (letter_at t) ∷ []
out lettered (number ds) = []
out lettered (name c) = starts c ∷ []
out lettered (sign s) = cond (is Opens s) [] (starts (sign_letter s) ∷ [])
out (arguing d) (number ds) = holds (number ds) ∷ []
out (arguing d) (name c) = holds (name c) ∷ []
out (arguing d) (sign s) = cond (ends_list d s) [] (holds (sign s) ∷ [])

abbrev emits : Mode → List Lexeme → List Item
emits m [] = []
emits m (t ∷ ts) = out m t ++ emits (next m t) ts

-- the tokens of a sum stay in its argument
argued_relation : (r : Relation) (d : ℕ) (us : List Lexeme) → emits (arguing d) (sign (relation_sign r) ∷ us) ≡ holds (sign (relation_sign r)) ∷ emits (arguing d) us
argued_relation relation.Less d us = refl
argued_relation relation.AtMost d us = refl
argued_relation relation.Equal d us = refl
argued_relation relation.Unequal d us = refl
argued_relation relation.AtLeast d us = refl
argued_relation relation.More d us = refl

held_append : (xs ys : List Lexeme) → map holds (xs ++ ys) ≡ map holds xs ++ map holds ys
held_append [] ys = refl
held_append (x ∷ xs) ys = ap (λ (l : List Item). holds x ∷ l) (held_append xs ys)

-- two parts and a token between them
between : (xs : List Lexeme) (t : Lexeme) (ys us : List Lexeme) (d : ℕ) → ((vs : List Lexeme) → emits (arguing d) (xs ++ vs) ≡ map holds xs ++ emits (arguing d) vs) → ((vs : List Lexeme) → emits (arguing d) (t ∷ vs) ≡ holds t ∷ emits (arguing d) vs) → ((vs : List Lexeme) → emits (arguing d) (ys ++ vs) ≡ map holds ys ++ emits (arguing d) vs) → emits (arguing d) ((xs ++ (t ∷ ys)) ++ us) ≡ map holds (xs ++ (t ∷ ys)) ++ emits (arguing d) us
between xs t ys us d f g h =
    ap (emits (arguing d)) (append_assoc xs (t ∷ ys) us)
    ∙ f (t ∷ (ys ++ us))
    ∙ ap (λ (l : List Item). map holds xs ++ l) (g (ys ++ us) ∙ ap (λ (l : List Item). holds t ∷ l) (h us))
    ∙ sym (append_assoc (map holds xs) (holds t ∷ map holds ys) (emits (arguing d) us))
    ∙ ap (λ (l : List Item). l ++ emits (arguing d) us) (sym (held_append xs (t ∷ ys)))

deep_close : (d : ℕ) → (is Closes Closes && eqb (suc d) 0) ≡ false
deep_close d = ne_eqb (suc d) 0 (λ e. omega arith)

closes_inner : (d : ℕ) (us : List Lexeme) → emits (arguing (suc d)) (sign Closes ∷ us) ≡ holds (sign Closes) ∷ emits (arguing d) us
closes_inner d us = ap₂ (λ (l : List Item) (m : Mode). l ++ emits m us) (cond-false (ends_list (suc d) Closes) [] (holds (sign Closes) ∷ []) (deep_close d)) (cond-false (ends_list (suc d) Closes) outside (arguing d) (deep_close d))

argued : {k : Part} (t : Tree k) (d : ℕ) (us : List Lexeme) → emits (arguing d) (spells t ++ us) ≡ map holds (spells t) ++ emits (arguing d) us
argued (digits ds h) d us = refl
argued (named c) d us = refl
argued (group s) d us =
    ap (λ (l : List Lexeme). holds (sign Opens) ∷ emits (arguing (suc d)) l) (append_assoc (spells s) (sign Closes ∷ []) us)
    ∙ ap (λ (l : List Item). holds (sign Opens) ∷ l)
    (argued s (suc d) (sign Closes ∷ us)
    ∙ ap (λ (l : List Item). map holds (spells s) ++ l) (closes_inner d us)
    ∙ sym (append_assoc (map holds (spells s)) (holds (sign Closes) ∷ []) (emits (arguing d) us))
    ∙ ap (λ (l : List Item). l ++ emits (arguing d) us) (sym (held_append (spells s) (sign Closes ∷ []))))
argued (plain a) d us = argued a d us
argued (negated a) d us = ap (λ (l : List Item). holds (sign Minus) ∷ l) (argued a d us)
argued (one_factor f) d us = argued f d us
argued (times p f) d us = between (spells p) (sign Times) (spells f) us d (argued p d) (λ vs. refl) (argued f d)
argued (over p f) d us = between (spells p) (sign Over) (spells f) us d (argued p d) (λ vs. refl) (argued f d)
argued (one_product p) d us = argued p d us
argued (plus s p) d us = between (spells s) (sign Plus) (spells p) us d (argued s d) (λ vs. refl) (argued p d)
argued (less s p) d us = between (spells s) (sign Minus) (spells p) us d (argued s d) (λ vs. refl) (argued p d)
argued (compared a r b) d us = between (spells a) (sign (relation_sign r)) (spells b) us d (argued a d) (argued_relation r d) (argued b d)
argued (one_comparison c) d us = argued c d us
argued (also g c) d us = between (spells g) (sign Also) (spells c) us d (argued g d) (λ vs. refl) (argued c d)

-- a list of arguments, between its parentheses
abbrev commas : List (List Lexeme) → List Lexeme
commas [] = []
commas (x ∷ xs) = sign Comma ∷ (x ++ commas xs)

listed : (ss : List (Tree sum)) (us : List Lexeme) → emits (arguing 0) (closing (map spells ss) ++ us) ≡ map holds (commas (map spells ss)) ++ emits outside us
listed [] us = refl
listed (s ∷ ss) us =
    ap (λ (l : List Lexeme). holds (sign Comma) ∷ emits (arguing 0) l) (append_assoc (spells s) (closing (map spells ss)) us)
    ∙ ap (λ (l : List Item). holds (sign Comma) ∷ l)
    (argued s 0 (closing (map spells ss) ++ us)
    ∙ ap (λ (l : List Item). map holds (spells s) ++ l) (listed ss us)
    ∙ sym (append_assoc (map holds (spells s)) (map holds (commas (map spells ss))) (emits outside us))
    ∙ ap (λ (l : List Item). l ++ emits outside us) (sym (held_append (spells s) (commas (map spells ss)))))

-- the tokens of all arguments of a piece
abbrev inside : List (List Lexeme) → List Lexeme
inside [] = []
inside (x ∷ xs) = x ++ commas xs

abbrev piece_letter : PieceTree → ℕ
piece_letter branches = 91
piece_letter rejoins = 93
piece_letter (grown l ss h) = letter_of l

abbrev piece_inside : PieceTree → List Lexeme
piece_inside branches = []
piece_inside rejoins = []
piece_inside (grown l ss h) = inside (map spells ss)

abbrev items : List PieceTree → List Item
items [] = []
items (p ∷ ps) = starts (piece_letter p) ∷ (map holds (piece_inside p) ++ items ps)

-- a letter starts a piece, behind a letter as well as outside
glyph_starts : (l : Glyph) (us : List Lexeme) → (emits outside (glyph l ∷ us) ≡ starts (letter_of l) ∷ emits lettered us) × (emits lettered (glyph l ∷ us) ≡ starts (letter_of l) ∷ emits lettered us)
glyph_starts (small c) us = (refl, refl)
glyph_starts (high c) us = (refl, refl)
glyph_starts cross us = (refl, refl)
glyph_starts dash us = (refl, refl)
glyph_starts ampersand us = (refl, refl)
glyph_starts slash us = (refl, refl)

emitted : (ps : List PieceTree) → (emits outside (spells_pieces ps) ≡ items ps) × (emits lettered (spells_pieces ps) ≡ items ps)
emitted [] = (refl, refl)
emitted (branches ∷ ps) = let ih = emitted ps in (ap (λ (l : List Item). starts 91 ∷ l) ih.0, ap (λ (l : List Item). starts 91 ∷ l) ih.0)
emitted (rejoins ∷ ps) = let ih = emitted ps in (ap (λ (l : List Item). starts 93 ∷ l) ih.0, ap (λ (l : List Item). starts 93 ∷ l) ih.0)
emitted (grown l ss h ∷ ps) =
    let ih = emitted ps in
    let g = glyph_starts l (within (map spells ss) ++ spells_pieces ps) in
    let e = ap (λ (x : List Item). starts (letter_of l) ∷ x) (args ss ih.0 ih.1) in
    (g.0 ∙ e, g.1 ∙ e)
  where
    args : (xs : List (Tree sum)) → emits outside (spells_pieces ps) ≡ items ps → emits lettered (spells_pieces ps) ≡ items ps → emits lettered (within (map spells xs) ++ spells_pieces ps) ≡ map holds (inside (map spells xs)) ++ items ps
    args [] a b = b
    args (x ∷ xs) a b =
        ap (emits (arguing 0)) (append_assoc (spells x) (closing (map spells xs)) (spells_pieces ps))
        ∙ argued x 0 (closing (map spells xs) ++ spells_pieces ps)
        ∙ ap (λ (i : List Item). map holds (spells x) ++ i) (listed xs (spells_pieces ps) ∙ ap (λ (i : List Item). map holds (commas (map spells xs)) ++ i) a)
        ∙ sym (append_assoc (map holds (spells x)) (map holds (commas (map spells xs))) (items ps))
        ∙ ap (λ (i : List Item). i ++ items ps) (sym (held_append (spells x) (commas (map spells xs))))

-- arguments parted at commas
abbrev is_comma : Lexeme → Bool
is_comma (number ds) = false
is_comma (name c) = false
is_comma (sign s) = is Comma s

abbrev put : Lexeme → List (List Lexeme) → List (List Lexeme)
put t [] = (t ∷ []) ∷ []
put t (x ∷ xs) = (t ∷ x) ∷ xs

abbrev parts : List Lexeme → List (List Lexeme)
parts [] = [] ∷ []
parts (t ∷ ts) = cond (is_comma t) ([] ∷ parts ts) (put t (parts ts))

abbrev put_all : List Lexeme → List (List Lexeme) → List (List Lexeme)
put_all [] ps = ps
put_all (t ∷ ts) ps = put t (put_all ts ps)

no_comma : (t : Lexeme) → inner t ≡ true → is_comma t ≡ false
no_comma (number ds) h = refl
no_comma (name c) h = refl
no_comma (sign s) h = or_second (is Arrow s) (is Comma s) h

parted : (xs us : List Lexeme) → all_inner xs ≡ true → parts (xs ++ us) ≡ put_all xs (parts us)
parted [] us h = refl
parted (x ∷ xs) us h =
    let p = and_parts (inner x) (all_inner xs) h in
    cond-false (is_comma x) ([] ∷ parts (xs ++ us)) (put x (parts (xs ++ us))) (no_comma x p.0) ∙ ap (put x) (parted xs us p.1)

put_first : (xs : List Lexeme) (ps : List (List Lexeme)) → put_all xs ([] ∷ ps) ≡ xs ∷ ps
put_first [] ps = refl
put_first (x ∷ xs) ps = ap (put x) (put_first xs ps)

all_parts : (s : Tree sum) (ss : List (Tree sum)) → parts (inside (map spells (s ∷ ss))) ≡ map spells (s ∷ ss)
all_parts s [] = parted (spells s) [] (inner_tree s) ∙ put_first (spells s) []
all_parts s (t ∷ ts) =
    parted (spells s) (commas (map spells (t ∷ ts))) (inner_tree s)
    ∙ ap (λ (l : List (List Lexeme)). put_all (spells s) ([] ∷ l)) (all_parts t ts)
    ∙ put_first (spells s) (map spells (t ∷ ts))

-- the expression of a part, and the arguments of a piece
abbrev expr_at : List Lexeme → Expr
expr_at ts = top (values.number 0) (decoded [] (yields false [] ts))

expr_found : (s : Tree sum) → expr_at (spells s) ≡ sense s
expr_found s = ap (λ cs. top (values.number 0) (decoded [] cs)) (whole_sum s) ∙ ap (top (values.number 0)) (reads_back.expressions (sense s))

abbrev full : List Lexeme → Bool
full [] = false
full (t ∷ ts) = true

full_append : (xs ys : List Lexeme) → full xs ≡ true → full (xs ++ ys) ≡ true
full_append [] ys h = cc
full_append (x ∷ xs) ys h = refl

full_tree : {k : Part} (t : Tree k) → full (spells t) ≡ true
full_tree (digits ds h) = refl
full_tree (named c) = refl
full_tree (group s) = refl
full_tree (plain a) = full_tree a
full_tree (negated a) = refl
full_tree (one_factor f) = full_tree f
full_tree (times p f) = full_append (spells p) _ (full_tree p)
full_tree (over p f) = full_append (spells p) _ (full_tree p)
full_tree (one_product p) = full_tree p
full_tree (plus s p) = full_append (spells s) _ (full_tree s)
full_tree (less s p) = full_append (spells s) _ (full_tree s)
full_tree (compared a r b) = full_append (spells a) _ (full_tree a)
full_tree (one_comparison c) = full_tree c
full_tree (also g c) = full_append (spells g) _ (full_tree g)

abbrev arguments_at : List Lexeme → List Expr
arguments_at ts = cond (full ts) (map expr_at (parts ts)) []

senses : (ss : List (Tree sum)) → map expr_at (map spells ss) ≡ map sense ss
senses [] = refl
senses (s ∷ ss) = ap₂ (λ (e : Expr) (es : List Expr). e ∷ es) (expr_found s) (senses ss)

arguments_found : (ss : List (Tree sum)) → arguments_at (inside (map spells ss)) ≡ map sense ss
arguments_found [] = refl
arguments_found (s ∷ ss) =
    cond-true (full (inside (map spells (s ∷ ss)))) (map expr_at (parts (inside (map spells (s ∷ ss))))) [] (full_append (spells s) (commas (map spells ss)) (full_tree s))
    ∙ ap (map expr_at) (all_parts s ss)
    ∙ senses (s ∷ ss)

-- items gathered to pieces: a piece holds the tokens up to the next start
abbrev pending : List Item → List Lexeme
pending [] = []
pending (starts c ∷ is) = []
pending (holds t ∷ is) = t ∷ pending is

abbrev gathered : List Item → List Piece
gathered [] = []
gathered (starts c ∷ is) = record { letter = c; arguments = arguments_at (pending is) } ∷ gathered is
gathered (holds t ∷ is) = gathered is

pending_held : (xs : List Lexeme) (ps : List PieceTree) → pending (map holds xs ++ items ps) ≡ xs
pending_held [] [] = refl
pending_held [] (p ∷ ps) = refl
pending_held (x ∷ xs) ps = ap (λ (l : List Lexeme). x ∷ l) (pending_held xs ps)

gathered_held : (xs : List Lexeme) (is : List Item) → gathered (map holds xs ++ is) ≡ gathered is
gathered_held [] is = refl
gathered_held (x ∷ xs) is = gathered_held xs is

inside_found : (p : PieceTree) → record { letter = piece_letter p; arguments = arguments_at (piece_inside p) } ≡ piece_sense p
inside_found branches = refl
inside_found rejoins = refl
inside_found (grown l ss h) = λ i. record { letter = letter_of l; arguments = arguments_found ss i }

pieces_found : (ps : List PieceTree) → gathered (items ps) ≡ map piece_sense ps
pieces_found [] = refl
pieces_found (p ∷ ps) =
    ap₂ (λ (l : List Lexeme) (qs : List Piece). record { letter = piece_letter p; arguments = arguments_at l } ∷ qs) (pending_held (piece_inside p) ps) (gathered_held (piece_inside p) (items ps) ∙ pieces_found ps)
    ∙ ap (λ (q : Piece). q ∷ map piece_sense ps) (inside_found p)

abbrev successor_at : List Lexeme → List Piece
successor_at ts = gathered (emits outside ts)

successor_found : (ps : List PieceTree) → successor_at (spells_pieces ps) ≡ map piece_sense ps
successor_found ps = ap gathered (emitted ps).0 ∙ pieces_found ps

-- the guard and the arrow
abbrev guard_at : List Lexeme → List Comparison
guard_at ts = cond (is Asks (first_sign ts)) (comparisons [] (yields false [] (before_arrow (rest ts)))) []

abbrev after_guard : List Lexeme → List Lexeme
after_guard ts = cond (is Asks (first_sign ts)) (after_arrow (rest ts)) (rest ts)

abbrev guarding : Option (Tree guard) → List Lexeme → List Lexeme
guarding o us = spells_guarded o ++ (sign Arrow ∷ us)

guard_found : (o : Option (Tree guard)) (us : List Lexeme) → guard_at (guarding o us) ≡ guard_sense o
guard_found None us = refl
guard_found (Some g) us = ap (λ (l : List Lexeme). comparisons [] (yields false [] l)) (arrow_found (spells g) us (inner_tree g)) ∙ ap (comparisons []) (whole_guard g) ∙ reads_back.guards (sense g)

guard_passed : (o : Option (Tree guard)) (us : List Lexeme) → after_guard (guarding o us) ≡ us
guard_passed None us = refl
guard_passed (Some g) us = arrow_passed (spells g) us (inner_tree g)

-- a guard or an arrow is not the sign of a form's names or of a side
abbrev Ends : List Lexeme → Type 0
Ends us = (is Opens (first_sign us) ≡ false) × (is Less (first_sign us) ≡ false)

guard_ends : (o : Option (Tree guard)) (us : List Lexeme) → Ends (guarding o us) × (is More (first_sign (guarding o us)) ≡ false)
guard_ends None us = ((refl, refl), refl)
guard_ends (Some g) us = ((refl, refl), refl)

-- the form on the right
abbrev behind_at : List Lexeme → Option Form
behind_at ts = cond (is More (first_sign ts)) (Some (form_at (rest ts))) None

abbrev after_behind : List Lexeme → List Lexeme
after_behind ts = cond (is More (first_sign ts)) (form_after (rest ts)) ts

module _ (us : List Lexeme) (ends : Ends us) (other : is More (first_sign us) ≡ false) where
  behind_found : (o : Option FormTree) → behind_at (spells_behind o ++ us) ≡ option_map form_sense o
  behind_found None = cond-false (is More (first_sign us)) (Some (form_at (rest us))) None other
  behind_found (Some f) = ap Some (form_found us ends.0 f)

  behind_passed : (o : Option FormTree) → after_behind (spells_behind o ++ us) ≡ us
  behind_passed None = cond-false (is More (first_sign us)) (form_after (rest us)) us other
  behind_passed (Some f) = form_passed us ends.0 f

  behind_ends : (o : Option FormTree) → Ends (spells_behind o ++ us)
  behind_ends None = ends
  behind_ends (Some f) = (refl, refl)

-- the form on the left
abbrev before_at : List Lexeme → Option Form
before_at ts = cond (is Less (first_sign (form_after ts))) (Some (form_at ts)) None

abbrev after_before : List Lexeme → List Lexeme
after_before ts = cond (is Less (first_sign (form_after ts))) (rest (form_after ts)) ts

module _ (f : FormTree) (us : List Lexeme) (ends : Ends us) where
  no_less : is Less (first_sign (form_after (spells_form f ++ us))) ≡ false
  no_less = ap (λ (l : List Lexeme). is Less (first_sign l)) (form_passed us ends.0 f) ∙ ends.1

  before_found : (o : Option FormTree) → before_at (spells_before o ++ (spells_form f ++ us)) ≡ option_map form_sense o
  before_found None = cond-false (is Less (first_sign (form_after (spells_form f ++ us)))) (Some (form_at (spells_form f ++ us))) None no_less
  before_found (Some g) =
      ap before_at (append_assoc (spells_form g) (sign Less ∷ []) (spells_form f ++ us))
      ∙ ap₂ (λ (l : List Lexeme) (x : Form). cond (is Less (first_sign l)) (Some x) None) (form_passed (sign Less ∷ (spells_form f ++ us)) refl g) (form_found (sign Less ∷ (spells_form f ++ us)) refl g)

  before_passed : (o : Option FormTree) → after_before (spells_before o ++ (spells_form f ++ us)) ≡ spells_form f ++ us
  before_passed None = cond-false (is Less (first_sign (form_after (spells_form f ++ us)))) (rest (form_after (spells_form f ++ us))) (spells_form f ++ us) no_less
  before_passed (Some g) =
      let vs = spells_form f ++ us in
      let gs = spells_form g ++ (sign Less ∷ vs) in
      ap after_before (append_assoc (spells_form g) (sign Less ∷ []) vs)
      ∙ ap (λ (l : List Lexeme). cond (is Less (first_sign l)) (rest l) gs) (form_passed (sign Less ∷ vs) refl g)

-- a rule, by the digits of its number and the tokens behind the colon
abbrev rule_at : List ℕ → List Lexeme → Rule
rule_at ds ts = record {
  number = worth ds;
  before = before_at ts;
  predecessor = form_at (after_before ts);
  behind = behind_at (form_after (after_before ts));
  guarded = guard_at (after_behind (form_after (after_before ts)));
  successor = successor_at (after_guard (after_behind (form_after (after_before ts))));
}

module _ (r : RuleTree) where
  abbrev ending : List Lexeme
  ending = guarding r.guarded (spells_pieces r.successor)

  abbrev middle : List Lexeme
  middle = spells_behind r.behind ++ ending

  abbrev body : List Lexeme
  body = spells_before r.before ++ (spells_form r.predecessor ++ middle)

  middle_ends : Ends middle
  middle_ends = let e = guard_ends r.guarded (spells_pieces r.successor) in behind_ends ending e.0 e.1 r.behind

  to_form : after_before body ≡ spells_form r.predecessor ++ middle
  to_form = before_passed r.predecessor middle middle_ends r.before

  to_middle : form_after (after_before body) ≡ middle
  to_middle = ap form_after to_form ∙ form_passed middle middle_ends.0 r.predecessor

  to_ending : after_behind (form_after (after_before body)) ≡ ending
  to_ending = let e = guard_ends r.guarded (spells_pieces r.successor) in ap after_behind to_middle ∙ behind_passed ending e.0 e.1 r.behind

  rule_found : rule_at r.printed body ≡ rule_sense r
  rule_found =
      let e = guard_ends r.guarded (spells_pieces r.successor) in
      let b = before_found r.predecessor middle middle_ends r.before in
      let p = ap form_at to_form ∙ form_found middle middle_ends.0 r.predecessor in
      let h = ap behind_at to_middle ∙ behind_found ending e.0 e.1 r.behind in
      let g = ap guard_at to_ending ∙ guard_found r.guarded (spells_pieces r.successor) in
      let s = ap (λ (l : List Lexeme). successor_at (after_guard l)) to_ending ∙ ap successor_at (guard_passed r.guarded (spells_pieces r.successor)) ∙ successor_found r.successor in
      λ i. record { number = worth r.printed; before = b i; predecessor = p i; behind = h i; guarded = g i; successor = s i }

abbrev line_at : List Lexeme → Entry
line_at [] = ignores []
line_at (number ds ∷ ts) = rule (rule_at ds (rest ts))
line_at (name c ∷ ts) = ignores []
line_at (sign s ∷ ts) = ignores (map letter_at ts)

letters_found : (ls : List Glyph) → map letter_at (map glyph ls) ≡ map letter_of ls
letters_found [] = refl
letters_found (l ∷ ls) = ap₂ (λ (c : ℕ) (cs : List ℕ). c ∷ cs) (letter_found l) (letters_found ls)

line_found : (l : LineTree) → line_at (spells_line l) ≡ line_sense l
line_found (ignoring l ls) = ap ignores (letters_found (l ∷ ls))
line_found (ruling r) = ap rule (rule_found r)

pub one_meaning : OneMeaning
one_meaning = record {
  guards = λ g h e. sym (reads_back.guards (sense g)) ∙ ap (comparisons []) (sym (whole_guard g) ∙ ap (yields false []) e ∙ whole_guard h) ∙ reads_back.guards (sense h);
  sums = λ s t e. same_code (sense s) (sense t) (sym (whole_sum s) ∙ ap (yields false []) e ∙ whole_sum t);
  lines = λ l k e. sym (line_found l) ∙ ap line_at e ∙ line_found k;
}
