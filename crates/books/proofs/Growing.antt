-- A rule tried and grown.
use Rattle.std.proofs.Common.{◌≡◌, ℕ, zero, suc, ◌-◌, ◌<◌, ◌≤◌, min, true, false, ◌&&◌, ltb, List, [], ◌∷◌, ◌++◌, map, length, take, drop, ℤ, pos, Ok, Option, Result, sym, refl, ap, ◌∙◌, arith, length-take, length-drop, append_assoc, w32, to_z, of_z}
use mathlib.Core.Path.{fun_ext}
use native.Mathlib.Nat.{sub-zero}
use Rattle.std.proofs.lemmas.List.{take_all, map-append}
use Rattle.std.proofs.lemmas.Bool.{and_parts, and_from}
use Rattle.std.proofs.lemmas.Bool.Decides.{nat_tests}
use Rattle.word.specs.declared.module.Module.{Module}
use Rattle.word.specs.Records.{symbol_of}
use Rattle.word.specs.Symbols.{Symbol, may_have, in_range, all_in_range, fits, sound}
use Rattle.word.proofs.Sound.{exact}
use Rattle.expr.specs.declared.code.Code.{Code}
use Rattle.expr.specs.declared.computed.Cause.{Cause}
use Rattle.expr.specs.Values.{Expr, Env, made, arguments}
use Rattle.expr.specs.Codes.{decoded, latest}
use Rattle.expr.specs.Records.{arguments_of}
use Rattle.expr.proofs.Ranges.{arguments_in_range}
use Rattle.rules.specs.declared.piece.Piece.{Piece}
use Rattle.rules.specs.Records.{pieces_from}
use Rattle.book.specs.Rules.{Form, given, given_beside}
use Rattle.books.specs.Outcomes.{Outcome, itself, grown, fault, with_first, successor}
use Rattle.books.specs.Trying.{Grows, behind}

pub first_part : (n : ℕ) (code : List Code) → n ≤ 200 → take 200 (take (n - 0) code) ≡ take n code
first_part n code h = take_all 200 (take (n - 0) code) (omega (arith, length-take (n - 0) code, sub-zero n)) ∙ ap (λ k. take k code) (sub-zero n)

pub rest_of : (n : ℕ) (code : List Code) → take (length code - n) (drop n code) ≡ drop n code
rest_of n code = take_all (length code - n) (drop n code) (omega (arith, length-drop n code))

-- names given side by side
pub all_named : (before after : Option Form) (l r : Option Symbol) (ns : List ℕ) (ps : List ℤ) (g₀ g₁ g₂ g₃ : Env) → ((x : ℕ) → g₀ x ≡ pos 0) → ((x : ℕ) → g₁ x ≡ given_beside after r g₀ x) → ((x : ℕ) → g₂ x ≡ given ns ps g₁ x) → ((x : ℕ) → g₃ x ≡ given_beside before l g₂ x) → (x : ℕ) → g₃ x ≡ given_beside before l (given ns ps (given_beside after r (λ x. pos 0))) x
all_named before after l r ns ps g₀ g₁ g₂ g₃ e₀ e₁ e₂ e₃ x =
    let first : g₁ ≡ given_beside after r (λ x. pos 0) = fun_ext (λ y. e₁ y ∙ ap (λ (g : Env). given_beside after r g y) (fun_ext e₀)) in
    let second : g₂ ≡ given ns ps (given_beside after r (λ x. pos 0)) = fun_ext (λ y. e₂ y ∙ ap (λ (g : Env). given ns ps g y) first) in
    e₃ x ∙ ap (λ (g : Env). given_beside before l g x) second

-- a module whose parameters are worked out
pub few : (letter count : ℕ) → may_have letter count ≡ true → count ≤ 3
few letter count h = grind (arith, nat_tests)

is_zero : (z : ℤ) → z ≡ pos 0 → fits false z ≡ true
is_zero z e = ap (fits false) e

pub sound_record : (letter count : ℕ) (a b c : ℤ) → may_have letter count ≡ true → all_in_range (take count (a ∷ b ∷ c ∷ [])) ≡ true → (count < 1 → a ≡ pos 0) × (count < 2 → b ≡ pos 0) × (count < 3 → c ≡ pos 0) → sound letter count a b c ≡ true
sound_record letter zero a b c m r s = and_from (may_have letter 0) _ m (and_from (fits false a) _ (is_zero a (s.0 (omega arith))) (and_from (fits false b) (fits false c) (is_zero b (s.1 (omega arith))) (is_zero c (s.2 (omega arith)))))
sound_record letter (suc zero) a b c m r s = and_from (may_have letter 1) _ m (and_from (in_range a) _ (and_parts (in_range a) true r).0 (and_from (fits false b) (fits false c) (is_zero b (s.1 (omega arith))) (is_zero c (s.2 (omega arith)))))
sound_record letter (suc (suc zero)) a b c m r s =
    let p = and_parts (in_range a) (in_range b && true) r in
    and_from (may_have letter 2) _ m (and_from (in_range a) _ p.0 (and_from (in_range b) (fits false c) (and_parts (in_range b) true p.1).0 (is_zero c (s.2 (omega arith)))))
sound_record letter (suc (suc (suc zero))) a b c m r s =
    let p = and_parts (in_range a) (in_range b && (in_range c && true)) r in
    let q = and_parts (in_range b) (in_range c && true) p.1 in
    and_from (may_have letter 3) _ m (and_from (in_range a) _ p.0 (and_from (in_range b) (in_range c) q.0 (and_parts (in_range c) true q.1).0))
sound_record letter (suc (suc (suc (suc n)))) a b c m r s = absurd (omega (arith, few letter (suc (suc (suc (suc n)))) m))

-- as the code makes it
pub worked_record : (letter count : ℕ) (a b c : ℤ) → may_have letter count ≡ true → (g : Env) (es : List Expr) → made (take count (a ∷ b ∷ c ∷ [])) ≡ arguments g es → (count < 1 → a ≡ pos 0) × (count < 2 → b ≡ pos 0) × (count < 3 → c ≡ pos 0) → sound letter count (to_z w32 (of_z w32 a)) (to_z w32 (of_z w32 b)) (to_z w32 (of_z w32 c)) ≡ true
worked_record letter count a b c m g es e s =
    let whole = sound_record letter count a b c m (arguments_in_range g es (take count (a ∷ b ∷ c ∷ [])) (sym e)) s in
    let rest = (and_parts (may_have letter count) _ whole).1 in
    let later = (and_parts (fits (ltb 0 count) a) _ rest).1 in
    let ea = exact (ltb 0 count) a (and_parts (fits (ltb 0 count) a) _ rest).0 in
    let eb = exact (ltb 1 count) b (and_parts (fits (ltb 1 count) b) _ later).0 in
    let ec = exact (ltb 2 count) c (and_parts (fits (ltb 1 count) b) _ later).1 in
    (λ i. sound letter count (ea i) (eb i) (ec i)) ∙ whole

-- the arguments of at most 3 and 200 places
pub all_worked : (g : Env) (n : ℕ) (code : List Code) (r : Result (ℤ × ℤ × ℤ) Cause) → n ≤ 3 → length code ≤ 200 → arguments_of (min n 3) r ≡ arguments g (latest (min n 3) (decoded [] (take 200 code))) → arguments_of n r ≡ arguments g (latest n (decoded [] code))
all_worked g n code r low short e =
    let m : min n 3 ≡ n = omega arith in
    let t = take_all 200 code short in
    sym (ap (λ k. arguments_of k r) m) ∙ e ∙ (λ i. arguments g (latest (m i) (decoded [] (t i))))

-- a module more behind some that are grown
behind_one : (w : List Symbol) (s : Symbol) (o : Outcome) → behind (w ++ (s ∷ [])) o ≡ behind w (with_first s.letter (made s.params) o)
behind_one w s itself = refl
behind_one w s (grown v) = ap grown (append_assoc w (s ∷ []) v)
behind_one w s (fault n) = refl

-- what a piece without code grows to, behind those before it
pub plain_more : (g : Env) (cs : List Code) (p : Piece) (m : Module) (w : List Module) (ps : List Piece) (o : Outcome) → p.places ≡ 0 → Grows g p [] (Ok m) → behind (map symbol_of w) (successor g (pieces_from (p ∷ ps) cs)) ≡ o → behind (map symbol_of (w ++ (m ∷ []))) (successor g (pieces_from ps cs)) ≡ o
plain_more g cs p m w ps o z grows e =
    let q = successor g (pieces_from ps cs) in
    let first : behind (map symbol_of w) (with_first p.letter (arguments g (latest p.count (decoded [] []))) q) ≡ o = sym (λ i. behind (map symbol_of w) (with_first p.letter (arguments g (latest p.count (decoded [] (take (z i) cs)))) (successor g (pieces_from ps (drop (z i) cs))))) ∙ e in
    ap (λ (l : List Symbol). behind l q) (map-append symbol_of w (m ∷ []))
    ∙ behind_one (map symbol_of w) (symbol_of m) q
    ∙ (λ i. behind (map symbol_of w) (with_first (grows.1 i) (sym grows.0 i) q))
    ∙ first
