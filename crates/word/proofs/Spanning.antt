-- Modules between two depths, one more and one less.
use Rattle.std.proofs.Common.{◌≡◌, ℕ, ◌≤◌, true, not, ◌&&◌, eqb, leb, List, [], ◌∷◌, ◌++◌, sym, refl, subst, arith, eq-eqb, le-leb, leb-true}
use Rattle.std.proofs.lemmas.Bool.Decides.{nat_tests}
use Rattle.std.proofs.lemmas.Bool.{and_parts, and_from, eqb-true}
use Rattle.word.specs.Symbols.{Symbol, is_close}
use Rattle.word.specs.Words.{after, may_stand}
use Rattle.word.specs.Spans.{spans}

pub no_span : (d : ℕ) → d ≤ 32 → spans d [] d ≡ true
no_span d h = and_from (leb d 32) (eqb d d) (le-leb d 32 h) (eq-eqb d d refl)

-- neither end is deeper than 32
pub span_first : (d : ℕ) (w : List Symbol) (e : ℕ) → spans d w e ≡ true → d ≤ 32
span_first d [] e h = leb-true d 32 (and_parts (leb d 32) (eqb d e) h).0
span_first d (s ∷ w) e h = leb-true d 32 (and_parts (leb d 32) _ h).0

pub span_last : (d : ℕ) (w : List Symbol) (e : ℕ) → spans d w e ≡ true → e ≤ 32
span_last d [] e h = let p = and_parts (leb d 32) (eqb d e) h in subst (λ x. x ≤ 32) (eqb-true d e p.1) (leb-true d 32 p.0)
span_last d (s ∷ w) e h = span_last (after d s) w e (and_parts (not (is_close s.letter && eqb d 0)) (spans (after d s) w e) (and_parts (leb d 32) _ h).1).1

pub one_less : (d : ℕ) (s : Symbol) (w : List Symbol) (e : ℕ) → spans d (s ∷ w) e ≡ true → spans (after d s) w e ≡ true
one_less d s w e h = (and_parts (not (is_close s.letter && eqb d 0)) (spans (after d s) w e) (and_parts (leb d 32) _ h).1).1

-- where a module may stand, the brackets behind it are no more than 32, and the other way round
pub stands_low : (d : ℕ) (s : Symbol) → d ≤ 32 → may_stand d s ≡ true → after d s ≤ 32
stands_low d s low may =
    let opens = (and_parts (not (is_close s.letter && eqb d 0)) _ may).1 in
    grind (arith, nat_tests)

pub low_stands : (d : ℕ) (s : Symbol) → not (is_close s.letter && eqb d 0) ≡ true → after d s ≤ 32 → may_stand d s ≡ true
low_stands d s closes low = and_from _ _ closes (grind (arith, nat_tests))

pub span_stands : (d : ℕ) (s : Symbol) (w : List Symbol) (e : ℕ) → spans d (s ∷ w) e ≡ true → may_stand d s ≡ true
span_stands d s w e h =
    let p = and_parts (leb d 32) _ h in
    let q = and_parts (not (is_close s.letter && eqb d 0)) (spans (after d s) w e) p.1 in
    low_stands d s q.0 (span_first (after d s) w e q.1)

pub one_more : (d : ℕ) (w : List Symbol) (e : ℕ) (s : Symbol) → spans d w e ≡ true → not (is_close s.letter && eqb e 0) ≡ true → after e s ≤ 32 → spans d (w ++ (s ∷ [])) (after e s) ≡ true
one_more d [] e s h c low =
    let p = and_parts (leb d 32) (eqb d e) h in
    let same : d ≡ e = eqb-true d e p.1 in
    subst (λ x. spans x (s ∷ []) (after e s) ≡ true) (sym same)
    (and_from (leb e 32) _ (subst (λ x. leb x 32 ≡ true) same p.0) (and_from (not (is_close s.letter && eqb e 0)) _ c (no_span (after e s) low)))
one_more d (x ∷ w) e s h c low =
    let p = and_parts (leb d 32) _ h in
    let q = and_parts (not (is_close x.letter && eqb d 0)) _ p.1 in
    and_from (leb d 32) _ p.0 (and_from _ _ q.0 (one_more (after d x) w e s q.1 c low))
