-- What a rule grows to is valid, and nests as its successor does.
use Rattle.std.proofs.Common.{◌≡◌, ℕ, zero, suc, max, Bool, true, false, cond, not, ◌&&◌, eqb, leb, List, [], ◌∷◌, map, length, take, drop, ℤ, Some, None, Option, sym, refl, ap, ◌∙◌, subst, inl, inr, arith}
use Rattle.std.proofs.lemmas.List.{length_push}
use Rattle.std.proofs.lemmas.Bool.{and_parts, and_from}
use Rattle.word.specs.Symbols.{Symbol, is_close, is_bracket, is_letter, all_in_range, valid, may_have}
use Rattle.word.specs.Words.{all_valid}
use Rattle.rows.specs.Rows.{held}
use Rattle.expr.specs.declared.code.Code.{Code}
use Rattle.expr.specs.Values.{Expr, number, Env, Value, is, wrong, Verdict, passes, fails, faults, value, Arguments, made, spoilt, with_first as and_first, arguments}
use Rattle.expr.specs.Codes.{top, below, decoded, latest}
use Rattle.expr.proofs.Ranges.{arguments_in_range}
use Rattle.rules.specs.declared.piece.Piece.{Piece as StoredPiece}
use Rattle.book.specs.Rules.{Piece, Rule, names_at}
use Rattle.rules.specs.Records.{pieces_from, bare}
use Rattle.rules.specs.Wrong.{after, nests}
use Rattle.rules.specs.Wrong as rules
use Rattle.rules.proofs.Depths.{nests_bare, deepest_bare}
use Rattle.books.specs.declared.rule.Rule.{Rule as StoredRule}
use Rattle.books.specs.declared.closed_book.ClosedBook.{ClosedBook}
use Rattle.book.specs.Books.{Among}
use Rattle.book.specs.Winners.{says, decides, winner}
use Rattle.books.specs.Outcomes.{Outcome, itself, grown, fault, with_first, successor, by_verdict, by_rule, becomes}
use Rattle.books.specs.Nesting.{balanced, deepest}
use Rattle.books.specs.Became.{BracketsNest}
use Rattle.books.specs.Stored.{code_held, rule_in, listed, rules_in}
use Rattle.books.specs.Kinds.{closed_book}
use Rattle.book.proofs.Winning.{first_passes}

-- a successor that is worked out: a module with the letter of each piece and its arguments
pub data Made : Env → List Piece → List Symbol → Type 0 where
  none_made : {g : Env} → Made g [] []
  one_made : {g : Env} {p : Piece} {ps : List Piece} {xs : List ℤ} {w : List Symbol} → arguments g p.arguments ≡ made xs → Made g ps w → Made g (p ∷ ps) (record { letter = p.letter; params = xs } ∷ w)

how_made : (g : Env) (ps : List Piece) (w : List Symbol) → successor g ps ≡ grown w → Made g ps w
how_made g [] w e = let same : [] ≡ w = cc in subst (Made g []) same none_made
how_made g (p ∷ ps) w e = go (arguments g p.arguments) refl (successor g ps) (how_made g ps) e
  where
    go : (a : Arguments) → arguments g p.arguments ≡ a → (o : Outcome) → ((v : List Symbol) → o ≡ grown v → Made g ps v) → with_first p.letter a o ≡ grown w → Made g (p ∷ ps) w
    go (spoilt n) q o ih h = let z : ◌≡◌ {A = ℕ} 0 1 = cc in absurd (omega arith)
    go (made xs) q itself ih h = let z : ◌≡◌ {A = ℕ} 0 1 = cc in absurd (omega arith)
    go (made xs) q (fault n) ih h = let z : ◌≡◌ {A = ℕ} 0 1 = cc in absurd (omega arith)
    go (made xs) q (grown v) ih h =
        let same : record { letter = p.letter; params = xs } ∷ v ≡ w = cc in
        subst (Made g (p ∷ ps)) same (one_made q (ih v refl))

pub same_nesting : {g : Env} {ps : List Piece} {w : List Symbol} → Made g ps w → (d : ℕ) → balanced d w ≡ nests d ps
same_nesting none_made d = refl
same_nesting (one_made {p = p} e m) d = ap (λ (t : Bool). not (is_close p.letter && eqb d 0) && t) (same_nesting m (after d p))

same_depth : {g : Env} {ps : List Piece} {w : List Symbol} → Made g ps w → (d : ℕ) → deepest d w ≡ rules.deepest d ps
same_depth none_made d = refl
same_depth (one_made {p = p} e m) d = ap (max d) (same_depth m (after d p))

-- of the pieces of a rule
pub grown_nests : (g : Env) (ps : List StoredPiece) (cs : List Code) (w : List Symbol) → successor g (pieces_from ps cs) ≡ grown w → (balanced 0 w ≡ nests 0 (map bare ps)) × (deepest 0 w ≡ rules.deepest 0 (map bare ps))
grown_nests g ps cs w e =
    let m = how_made g (pieces_from ps cs) w e in
    (same_nesting m 0 ∙ nests_bare ps cs 0, same_depth m 0 ∙ deepest_bare ps cs 0)

-- a module of the letter, with as many parameters as the piece has arguments, is valid
with_params : (letter : ℕ) (xs : List ℤ) → may_have letter (length xs) ≡ true → all_in_range xs ≡ true → valid (record { letter = letter; params = xs }) ≡ true
with_params letter xs m r = go (is_bracket letter) m
  where
    go : (b : Bool) → cond b (eqb (length xs) 0) (is_letter letter && leb (length xs) 3) ≡ true → cond b (eqb (length xs) 0) (is_letter letter && (leb (length xs) 3 && all_in_range xs)) ≡ true
    go true h = h
    go false h = let p = and_parts (is_letter letter) (leb (length xs) 3) h in and_from (is_letter letter) (leb (length xs) 3 && all_in_range xs) p.0 (and_from (leb (length xs) 3) (all_in_range xs) p.1 r)

latest_length : (n : ℕ) (st : List Expr) → length (latest n st) ≡ n
latest_length zero st = refl
latest_length (suc n) st = length_push (latest n (below st)) (top (number 0) st) ∙ omega (arith, latest_length n (below st))

as_many : (g : Env) (es : List Expr) (xs : List ℤ) → arguments g es ≡ made xs → length xs ≡ length es
as_many g [] xs e = let same : [] ≡ xs = cc in ap length (sym same)
as_many g (x ∷ es) xs e = go (value g x) (arguments g es) (as_many g es) e
  where
    go : (v : Value) (a : Arguments) → ((ys : List ℤ) → a ≡ made ys → length ys ≡ length es) → and_first v a ≡ made xs → length xs ≡ suc (length es)
    go (wrong c) a ih h = let z : ◌≡◌ {A = ℕ} 0 1 = cc in absurd (omega arith)
    go (is y) (spoilt c) ih h = let z : ◌≡◌ {A = ℕ} 0 1 = cc in absurd (omega arith)
    go (is y) (made ys) ih h = let same : y ∷ ys ≡ xs = cc in ap length (sym same) ∙ ap suc (ih ys refl)

-- each piece may have as many parameters as it has arguments
abbrev Sound : List Piece → Type 0
Sound [] = Unit {0}
Sound (p ∷ ps) = (may_have p.letter (length p.arguments) ≡ true) × Sound ps

stored_sound : (ps : List StoredPiece) (cs : List Code) → Sound (pieces_from ps cs)
stored_sound [] cs = tt
stored_sound (p ∷ ps) cs =
    (subst (λ n. may_have p.letter n ≡ true) (sym (latest_length p.count (decoded [] (take p.places cs)))) p.ok, stored_sound ps (drop p.places cs))

valid_made : {g : Env} {ps : List Piece} {w : List Symbol} → Made g ps w → Sound ps → all_valid w ≡ true
valid_made none_made s = refl
valid_made (one_made {g = h} {p = p} {xs = xs} {w = w} e m) s =
    and_from (valid (record { letter = p.letter; params = xs })) (all_valid w)
    (with_params p.letter xs (subst (λ n. may_have p.letter n ≡ true) (sym (as_many h p.arguments xs e)) s.0) (arguments_in_range h p.arguments xs e))
    (valid_made m s.1)

-- the successor of a rule of a book nests, and its pieces are sound
abbrev Tidy : Rule → Type 0
Tidy u = (nests 0 u.successor ≡ true) × Sound u.successor

stored_tidy : (cs : List Code) (r : StoredRule) → Tidy (rule_in cs r)
stored_tidy cs r =
    let ps = held r.pieces in
    let own = drop r.guard (take r.size (drop r.start cs)) in
    (nests_bare ps own 0 ∙ r.nested, stored_sound ps own)

all_tidy : (cs : List Code) (rs : List StoredRule) (u : Rule) → Among u (rules_in cs rs) → Tidy u
all_tidy cs [] u h = absurd h
all_tidy cs (r ∷ rs) u (inl e) = subst Tidy (sym e) (stored_tidy cs r)
all_tidy cs (r ∷ rs) u (inr h) = all_tidy cs rs u h

-- what a closed book grows is balanced and valid
pub tidy : (b : ClosedBook) (l : Option Symbol) (s : Symbol) (r : Option Symbol) (w : List Symbol) → becomes l s r (closed_book b).rules ≡ grown w → (balanced 0 w ≡ true) × (all_valid w ≡ true)
tidy b l s r w e = by (winner l s r us) refl e
  where
    us : List Rule
    us = (closed_book b).rules

    made_of : (u : Rule) → Tidy u → Made (names_at l s r u) u.successor w → (balanced 0 w ≡ true) × (all_valid w ≡ true)
    made_of u t m = (same_nesting m 0 ∙ t.0, valid_made m t.1)

    decided : (u : Rule) → Tidy u → (v : Verdict) → by_verdict l s r v u ≡ grown w → (balanced 0 w ≡ true) × (all_valid w ≡ true)
    decided u t passes h = made_of u t (how_made (names_at l s r u) u.successor w h)
    decided u t fails h = let z : ◌≡◌ {A = ℕ} 0 1 = cc in absurd (omega arith)
    decided u t (faults n) h = let z : ◌≡◌ {A = ℕ} 0 1 = cc in absurd (omega arith)

    by : (o : Option Rule) → winner l s r us ≡ o → by_rule l s r o ≡ grown w → (balanced 0 w ≡ true) × (all_valid w ≡ true)
    by None q h = let z : ◌≡◌ {A = ℕ} 0 1 = cc in absurd (omega arith)
    by (Some u) q h = decided u (all_tidy (code_held b.contents.code) (listed b.contents.rules) u (first_passes (decides l s r) us u q).1) (says l s r u) h

-- so what is written of a successor nests
pub brackets_nest : (b : ClosedBook) (l : Option Symbol) (s : Symbol) (r : Option Symbol) (w : List Symbol) → becomes l s r (closed_book b).rules ≡ grown w → BracketsNest (becomes l s r (closed_book b).rules) w
brackets_nest b l s r w e = subst (λ (o : Outcome). BracketsNest o w) (sym e) (tidy b l s r w e).0
