-- What looks ahead, told by a table.
use Rattle.std.proofs.Common.{◌≡◌, ℕ, ◌+◌, ◌*◌, ◌<◌, ◌≤◌, Bool, true, false, ◌&&◌, ◌||◌, eqb, List, [], ◌∷◌, length, get_or, set, take, is_some, sym, refl, ap, ◌∙◌, arith, get_or-set_same, get_or-set_other}
use borrow.Author.Tests.{eqb-true, eqb-false}
use Rattle.std.specs.List.{list_any}
use Rattle.std.specs.Option.{option_map}
use Rattle.std.proofs.lemmas.List.Folds.{list_any_more}
use Rattle.rows.specs.Rows.{held}
use Rattle.word.specs.Symbols.{Symbol}
use Rattle.expr.specs.declared.code.Code.{Code}
use Rattle.book.specs.Records.{form_of}
use Rattle.books.specs.Ahead.{looks_right, looks_ahead}
use Rattle.books.specs.Stored.{rule_in, rules_in}
use Rattle.books.specs.Index.{letter_of, looks_for, Tells}
use Rattle.books.specs.declared.rule.Rule.{Rule as StoredRule}

or_none : (b : Bool) → b ≡ (b || false)
or_none true = refl
or_none false = refl

-- one rule more
pub one_told : (rs : List StoredRule) (i : ℕ) (r : StoredRule) (t : List Bool) (b : Bool) → i < length rs → r ≡ get_or rs i r → length t ≡ 1024 → letter_of r < 256 → length (held r.head.predecessor.names) ≤ 3 → b ≡ is_some (option_map form_of r.head.behind) → Tells (take i rs) t → (spot : ℕ) → spot ≡ letter_of r * 4 + length (held r.head.predecessor.names) → Tells (take (i + 1) rs) (set t spot (get_or t spot false || b))
one_told rs i r t b inside is long low few looks told spot at c n hc hn =
    go (eqb (letter_of r) c) (eqb (length (held r.head.predecessor.names)) n) refl refl
    ∙ ap (λ (q : StoredRule). list_any (looks_for c n) (take i rs) || looks_for c n q) is
    ∙ sym (list_any_more (looks_for c n) rs i r inside)
  where
    l : ℕ
    l = letter_of r

    k : ℕ
    k = length (held r.head.predecessor.names)

    p : ℕ
    p = c * 4 + n

    v : Bool
    v = get_or t spot false || b

    before : Bool
    before = list_any (looks_for c n) (take i rs)

    elsewhere : (p ≡ spot → ⊥) → get_or (set t spot v) p false ≡ (before || false)
    elsewhere apart = get_or-set_other t spot p v false apart ∙ told c n hc hn ∙ or_none before

    go : (x y : Bool) → eqb l c ≡ x → eqb k n ≡ y → get_or (set t spot v) p false ≡ (before || ((x && y) && is_some (option_map form_of r.head.behind)))
    go true true ex ey =
        let el : l ≡ c = eqb-true l c ex in
        let ek : k ≡ n = eqb-true k n ey in
        let here : p ≡ spot = omega (arith, at, el, ek) in
        ap (λ q. get_or (set t spot v) q false) here
        ∙ get_or-set_same t spot v false (omega (arith, at, low, few, long))
        ∙ (λ j. get_or t (sym here j) false || looks j)
        ∙ ap (λ (a : Bool). a || is_some (option_map form_of r.head.behind)) (told c n hc hn)
    go true false ex ey =
        let el : l ≡ c = eqb-true l c ex in
        elsewhere (λ e. eqb-false k n ey (omega (arith, at, e, el)))
    go false y ex ey = elsewhere (λ e. eqb-false l c ex (omega (arith, at, e, hn, few)))

pub all_ahead : (cs : List Code) (s : Symbol) (rs : List StoredRule) → list_any (looks_for s.letter (length s.params)) rs ≡ looks_ahead s (rules_in cs rs)
all_ahead cs s [] = refl
all_ahead cs s (r ∷ rs) = ap (λ (b : Bool). looks_right s (rule_in cs r) || b) (all_ahead cs s rs)
