-- What the tree of a line spells fits.
use Rattle.std.proofs.Common.{◌≡◌, ℕ, zero, suc, ◌≤◌, Bool, true, false, cond, List, [], ◌∷◌, ◌++◌, map, length, Some, None, Option, refl, ap, ◌∙◌, append_assoc, arith, le-leb}
use Rattle.tokens.specs.declared.token.Sign.TheVariants.{Plus, Minus, Times, Over, Closes, Less, Also, Arrow, Colon}
use Rattle.tokens.specs.Tokens.{Lexeme, name, sign}
use Rattle.expr.specs.declared.code.Relation.{Relation}
use Rattle.expr.specs.declared.code.Relation.TheVariants as relation
use Rattle.book.specs.Grammar.{Part, guard, sum, operand, relation_sign, Tree, digits, named, group, plain, negated, one_factor, times, over, one_product, plus, less, compared, one_comparison, also, spells, Glyph, small, high, cross, dash, ampersand, slash, glyph, closing, within, FormTree, spells_form, PieceTree, branches, rejoins, grown, spells_pieces, spells_before, spells_behind, spells_guarded, LineTree, ignoring, ruling, spells_line}
use Rattle.lines.specs.Fits.{is_glyph, Which, first, middle, last, Side, former, latter, argument, Place, begins, numbered, ignores, form_due, formed, framed, name_read, due, bare, read, pieces, lettered, lost, counted, fits, start, finish}

pub counts : (ds : List ℕ) (p : Place) → length ds ≤ 7 → counted ds p ≡ p
counts ds p h = ap (λ b. cond b p lost) (le-leb (length ds) 7 h)

-- after an operand, a sign that joins asks for a factor
abbrev Joins : ℕ → Side → List Lexeme → Type 0
Joins d r us = (fits (read d r) (sign Plus ∷ us) ≡ fits (due d r) us) × (fits (read d r) (sign Minus ∷ us) ≡ fits (due d r) us) × (fits (read d r) (sign Times ∷ us) ≡ fits (due d r) us) × (fits (read d r) (sign Over ∷ us) ≡ fits (due d r) us)

pub after_join : (d : ℕ) (r : Side) (us : List Lexeme) → Joins d r us
after_join zero r us = (refl, refl, refl, refl)
after_join (suc d) r us = (refl, refl, refl, refl)

-- an operand may stand where a factor is due
same : (a : Tree operand) (us : List Lexeme) (d : ℕ) (r : Side) → fits (due d r) (spells a ++ us) ≡ fits (bare d r) (spells a ++ us)
same (digits ds h) us d r = refl
same (named c) us d r = refl
same (group s) us d r = refl

pub comparing : (r : Relation) (us : List Lexeme) → fits (read 0 former) (sign (relation_sign r) ∷ us) ≡ fits (due 0 latter) us
comparing relation.Less us = refl
comparing relation.AtMost us = refl
comparing relation.Equal us = refl
comparing relation.Unequal us = refl
comparing relation.AtLeast us = refl
comparing relation.More us = refl

pub follows : {k : Part} (t : Tree k) (us : List Lexeme) (d : ℕ) (r : Side) → fits (start k d r) (spells t ++ us) ≡ fits (finish k d r) us
follows (digits ds h) us d r = ap (λ p. fits p us) (counts ds (read d r) h)
follows (named c) us d r = refl
follows (group s) us d r = ap (fits (due (suc d) r)) (append_assoc (spells s) (sign Closes ∷ []) us) ∙ follows s (sign Closes ∷ us) (suc d) r
follows (plain a) us d r = same a us d r ∙ follows a us d r
follows (negated a) us d r = follows a us d r
follows (one_factor f) us d r = follows f us d r
follows (times p f) us d r = ap (fits (due d r)) (append_assoc (spells p) (sign Times ∷ spells f) us) ∙ follows p (sign Times ∷ (spells f ++ us)) d r ∙ (after_join d r (spells f ++ us)).2 ∙ follows f us d r
follows (over p f) us d r = ap (fits (due d r)) (append_assoc (spells p) (sign Over ∷ spells f) us) ∙ follows p (sign Over ∷ (spells f ++ us)) d r ∙ (after_join d r (spells f ++ us)).3 ∙ follows f us d r
follows (one_product p) us d r = follows p us d r
follows (plus s p) us d r = ap (fits (due d r)) (append_assoc (spells s) (sign Plus ∷ spells p) us) ∙ follows s (sign Plus ∷ (spells p ++ us)) d r ∙ (after_join d r (spells p ++ us)).0 ∙ follows p us d r
follows (less s p) us d r = ap (fits (due d r)) (append_assoc (spells s) (sign Minus ∷ spells p) us) ∙ follows s (sign Minus ∷ (spells p ++ us)) d r ∙ (after_join d r (spells p ++ us)).1 ∙ follows p us d r
follows (compared a s b) us d r = ap (fits (due 0 former)) (append_assoc (spells a) (sign (relation_sign s) ∷ spells b) us) ∙ follows a (sign (relation_sign s) ∷ (spells b ++ us)) 0 former ∙ comparing s (spells b ++ us) ∙ follows b us 0 latter
follows (one_comparison c) us d r = follows c us d r
follows (also g c) us d r = ap (fits (due 0 former)) (append_assoc (spells g) (sign Also ∷ spells c) us) ∙ follows g (sign Also ∷ (spells c ++ us)) d r ∙ follows c us d r

-- letters
pub some_glyph : (l : Glyph) → is_glyph (glyph l) ≡ true
some_glyph (small c) = refl
some_glyph (high c) = refl
some_glyph cross = refl
some_glyph dash = refl
some_glyph ampersand = refl
some_glyph slash = refl

-- no letter opens a parenthesis
pub lettered_on : (l : Glyph) (us : List Lexeme) → (fits pieces (glyph l ∷ us) ≡ fits lettered us) × (fits lettered (glyph l ∷ us) ≡ fits lettered us)
lettered_on (small c) us = (refl, refl)
lettered_on (high c) us = (refl, refl)
lettered_on cross us = (refl, refl)
lettered_on dash us = (refl, refl)
lettered_on ampersand us = (refl, refl)
lettered_on slash us = (refl, refl)

pub at_form : (l : Glyph) (w : Which) (us : List Lexeme) → fits (form_due w) (glyph l ∷ us) ≡ fits (formed w) us
at_form l w us = ap (λ b. fits (cond b (formed w) lost) us) (some_glyph l)

pub at_ignored : (l : Glyph) (b : Bool) (us : List Lexeme) → fits (ignores b) (glyph l ∷ us) ≡ fits (ignores true) us
at_ignored l b us = ap (λ x. fits (cond x (ignores true) lost) us) (some_glyph l)

all_ignored : (ls : List Glyph) → fits (ignores true) (map glyph ls) ≡ true
all_ignored [] = refl
all_ignored (l ∷ ls) = at_ignored l true (map glyph ls) ∙ all_ignored ls

-- forms: after one, the tokens go on as after its letter or its `)`
abbrev words : List ℕ → List (List Lexeme)
words cs = map (λ c. name c ∷ []) cs

more_names : (cs : List ℕ) (w : Which) (n : ℕ) (us : List Lexeme) → length cs ≤ n → fits (name_read w n) (closing (words cs) ++ us) ≡ fits (framed w) us
more_names [] w zero us h = refl
more_names [] w (suc n) us h = refl
more_names (c ∷ cs) w zero us h = absurd (omega arith)
more_names (c ∷ cs) w (suc n) us h = more_names cs w n us (omega arith)

-- what may follow a form does so with names or without
abbrev Goes : Which → List Lexeme → Type 0
Goes w us = fits (formed w) us ≡ fits (framed w) us

pub form_follows : (f : FormTree) (w : Which) (us : List Lexeme) → Goes w us → fits (form_due w) (spells_form f ++ us) ≡ fits (framed w) us
form_follows f w us g = go f.names f.few
  where
    go : (cs : List ℕ) → length cs ≤ 3 → fits (form_due w) ((glyph f.glyph ∷ within (words cs)) ++ us) ≡ fits (framed w) us
    go [] h = at_form f.glyph w us ∙ g
    go (c ∷ cs) h = at_form f.glyph w (within (words (c ∷ cs)) ++ us) ∙ more_names cs w 2 us (omega arith)

-- successors
more_arguments : (ss : List (Tree sum)) (n : ℕ) (us : List Lexeme) → length ss ≤ n → fits (read 0 (argument n)) (closing (map spells ss) ++ us) ≡ fits pieces us
more_arguments [] zero us h = refl
more_arguments [] (suc n) us h = refl
more_arguments (s ∷ ss) zero us h = absurd (omega arith)
more_arguments (s ∷ ss) (suc n) us h =
    ap (fits (due 0 (argument n))) (append_assoc (spells s) (closing (map spells ss)) us)
    ∙ follows s (closing (map spells ss) ++ us) 0 (argument n)
    ∙ more_arguments ss n us (omega arith)

grown_follows : (ss : List (Tree sum)) → length ss ≤ 3 → (us : List Lexeme) → fits pieces us ≡ true → fits lettered us ≡ true → fits lettered (within (map spells ss) ++ us) ≡ true
grown_follows [] h us a b = b
grown_follows (s ∷ ss) h us a b =
    ap (fits (due 0 (argument 2))) (append_assoc (spells s) (closing (map spells ss)) us)
    ∙ follows s (closing (map spells ss) ++ us) 0 (argument 2)
    ∙ more_arguments ss 2 us (omega arith)
    ∙ a

all_pieces : (ps : List PieceTree) → (fits pieces (spells_pieces ps) ≡ true) × (fits lettered (spells_pieces ps) ≡ true)
all_pieces [] = (refl, refl)
all_pieces (branches ∷ ps) = ((all_pieces ps).0, (all_pieces ps).0)
all_pieces (rejoins ∷ ps) = ((all_pieces ps).0, (all_pieces ps).0)
all_pieces (grown l ss h ∷ ps) =
    let ih = all_pieces ps in
    let e = grown_follows ss h (spells_pieces ps) ih.0 ih.1 in
    let at = lettered_on l (within (map spells ss) ++ spells_pieces ps) in
    (at.0 ∙ e, at.1 ∙ e)

-- rules, from the end
guard_tail : (g : Option (Tree guard)) (us : List Lexeme) → fits pieces us ≡ true → (w : Which) → Goes w (spells_guarded g ++ (sign Arrow ∷ us)) × (fits (framed w) (spells_guarded g ++ (sign Arrow ∷ us)) ≡ true)
guard_tail None us h first = (refl, h)
guard_tail None us h middle = (refl, h)
guard_tail None us h last = (refl, h)
guard_tail (Some g) us h first = (refl, follows g (sign Arrow ∷ us) 0 former ∙ h)
guard_tail (Some g) us h middle = (refl, follows g (sign Arrow ∷ us) 0 former ∙ h)
guard_tail (Some g) us h last = (refl, follows g (sign Arrow ∷ us) 0 former ∙ h)

behind_tail : (f : Option FormTree) (us : List Lexeme) → ((w : Which) → Goes w us × (fits (framed w) us ≡ true)) → (Goes first (spells_behind f ++ us) × (fits (framed first) (spells_behind f ++ us) ≡ true)) × (Goes middle (spells_behind f ++ us) × (fits (framed middle) (spells_behind f ++ us) ≡ true))
behind_tail None us h = (h first, h middle)
behind_tail (Some f) us h =
    let e = form_follows f last us (h last).0 ∙ (h last).1 in
    ((refl, e), (refl, e))

before_tail : (b : Option FormTree) (f : FormTree) (us : List Lexeme) → (Goes first us × (fits (framed first) us ≡ true)) × (Goes middle us × (fits (framed middle) us ≡ true)) → fits (form_due first) (spells_before b ++ (spells_form f ++ us)) ≡ true
before_tail None f us h = form_follows f first us h.0.0 ∙ h.0.1
before_tail (Some b) f us h =
    ap (fits (form_due first)) (append_assoc (spells_form b) (sign Less ∷ []) (spells_form f ++ us))
    ∙ form_follows b first (sign Less ∷ (spells_form f ++ us)) refl
    ∙ form_follows f middle us h.1.0
    ∙ h.1.1

-- completeness
pub complete : (l : LineTree) → fits begins (spells_line l) ≡ true
complete (ignoring l ls) = at_ignored l false (map glyph ls) ∙ all_ignored ls
complete (ruling r) =
    let S = sign Arrow ∷ spells_pieces r.successor in
    let G = spells_guarded r.guarded ++ S in
    let C = spells_behind r.behind ++ G in
    let X = spells_before r.before ++ (spells_form r.predecessor ++ C) in
    ap (λ p. fits p (sign Colon ∷ X)) (counts r.printed numbered r.short)
    ∙ before_tail r.before r.predecessor C (behind_tail r.behind G (guard_tail r.guarded (spells_pieces r.successor) (all_pieces r.successor).0))
