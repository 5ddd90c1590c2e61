-- One word behind another: it is valid and nests where both parts do.
use Rattle.std.proofs.Common.{◌≡◌, ℕ, ◌≤◌, true, not, ◌&&◌, eqb, leb, List, [], ◌∷◌, ◌++◌, map, length, sym, refl, ap, ◌∙◌, subst, append_assoc, arith, leb-true}
use Rattle.std.proofs.lemmas.Bool.{and_parts, and_from, eqb-true}
use Rattle.word.specs.declared.module.Module.{Module}
use Rattle.word.specs.Symbols.{Symbol, is_close, valid}
use Rattle.word.specs.Words.{Ending, clean, broken, Meaning, after, depth, all_valid, nested}
use Rattle.word.specs.Records.{symbol_of, Tells}
use Rattle.word.specs.Spans.{spans}
use Rattle.word.proofs.Sound.{is_valid}
use Rattle.word.proofs.Spanning.{no_span, span_first}

-- what is nested behind modules is nested with them
pub span_nested : (d : ℕ) (w : List Symbol) (e : ℕ) (v : List Symbol) (x : Ending) → spans d w e ≡ true → nested e v x ≡ true → nested d (w ++ v) x ≡ true
span_nested d [] e v x h n = let p = and_parts (leb d 32) (eqb d e) h in subst (λ y. nested y v x ≡ true) (sym (eqb-true d e p.1)) n
span_nested d (s ∷ w) e v x h n =
    let p = and_parts (leb d 32) _ h in
    let q = and_parts (not (is_close s.letter && eqb d 0)) _ p.1 in
    and_from (leb d 32) _ p.0 (and_from _ _ q.0 (span_nested (after d s) w e v x q.1 n))

pub valid_append : (v w : List Symbol) → all_valid v ≡ true → all_valid w ≡ true → all_valid (v ++ w) ≡ true
valid_append [] w a b = b
valid_append (s ∷ v) w a b =
    let parts = and_parts (valid s) (all_valid v) a in
    and_from (valid s) (all_valid (v ++ w)) parts.0 (valid_append v w parts.1 b)

-- modules of the code are valid
pub all_are : (l : List Module) → all_valid (map symbol_of l) ≡ true
all_are [] = refl
all_are (m ∷ l) = and_from (valid (symbol_of m)) (all_valid (map symbol_of l)) (is_valid m) (all_are l)

-- the depth behind modules that lead to e
pub span_depth : (d : ℕ) (v : List Symbol) (e : ℕ) → spans d v e ≡ true → depth d v (length v) ≡ e
span_depth d [] e h = eqb-true d e (and_parts (leb d 32) (eqb d e) h).1
span_depth d (s ∷ v) e h = span_depth (after d s) v e (and_parts (not (is_close s.letter && eqb d 0)) (spans (after d s) v e) (and_parts (leb d 32) _ h).1).1

-- the depth behind two parts of a word
pub depth_append : (d : ℕ) (v w : List Symbol) → depth d (v ++ w) (length (v ++ w)) ≡ depth (depth d v (length v)) w (length w)
depth_append d [] w = refl
depth_append d (s ∷ v) w = depth_append (after d s) v w

-- modules that lead to e, cut in two
pub span_split : (d : ℕ) (v w : List Symbol) (e : ℕ) → spans d (v ++ w) e ≡ true → (spans d v (depth d v (length v)) ≡ true) × (spans (depth d v (length v)) w e ≡ true)
span_split d [] w e h = (no_span d (span_first d w e h), h)
span_split d (s ∷ v) w e h =
    let p = and_parts (leb d 32) _ h in
    let q = and_parts (not (is_close s.letter && eqb d 0)) (spans (after d s) (v ++ w) e) p.1 in
    let r = span_split (after d s) v w e q.1 in
    (and_from (leb d 32) _ p.0 (and_from _ _ q.0 r.0), r.1)

-- two parts that meet
pub span_join : (d : ℕ) (v : List Symbol) (x : ℕ) (w : List Symbol) (e : ℕ) → spans d v x ≡ true → spans x w e ≡ true → spans d (v ++ w) e ≡ true
span_join d [] x w e a b = let p = and_parts (leb d 32) (eqb d x) a in subst (λ y. spans y w e ≡ true) (sym (eqb-true d x p.1)) b
span_join d (s ∷ v) x w e a b =
    let p = and_parts (leb d 32) _ a in
    let q = and_parts (not (is_close s.letter && eqb d 0)) (spans (after d s) v x) p.1 in
    and_from (leb d 32) _ p.0 (and_from _ _ q.0 (span_join (after d s) v x w e q.1 b))

-- some modules told, then others
pub tells_on : (s s' s'' : Meaning) (v w : List Symbol) → Tells s v s' → Tells s' w s'' → Tells s (v ++ w) s''
tells_on s s' s'' v w a b = record {
  modules = a.modules ∙ ap (λ l. v ++ l) b.modules ∙ sym (append_assoc v w s''.told.modules);
  ending = b.ending ∙ a.ending;
  opened = b.opened ∙ ap (λ d. depth d w (length w)) a.opened ∙ sym (depth_append s.opened v w);
  generation = b.generation ∙ a.generation;
}

-- what nests begins no deeper than 32
nested_low : (d : ℕ) (w : List Symbol) (x : Ending) → nested d w x ≡ true → d ≤ 32
nested_low d [] clean h = let same : d ≡ 0 = eqb-true d 0 h in omega arith
nested_low d [] (broken f) h = leb-true d 32 h
nested_low d (s ∷ w) x h = leb-true d 32 (and_parts (leb d 32) _ h).0

-- the first modules of what nests lead to the depth behind them
pub nested_span : (d : ℕ) (v w : List Symbol) (x : Ending) → nested d (v ++ w) x ≡ true → spans d v (depth d v (length v)) ≡ true
nested_span d [] w x h = no_span d (nested_low d w x h)
nested_span d (s ∷ v) w x h =
    let p = and_parts (leb d 32) _ h in
    let q = and_parts (not (is_close s.letter && eqb d 0)) (nested (after d s) (v ++ w) x) p.1 in
    and_from (leb d 32) _ p.0 (and_from _ _ q.0 (nested_span (after d s) v w x q.1))
