-- A rule put into a book.
use Rattle.std.proofs.Common.{◌≡◌, ℕ, zero, suc, ◌+◌, ◌<◌, ◌≤◌, Bool, true, false, cond, not, ◌&&◌, ◌||◌, eqb, ltb, leb, List, [], ◌∷◌, ◌++◌, length, take, drop, sym, refl, ap, ◌∙◌, arith, one-add, length-append, ltb-false, le-ltb, lt-ltb, le-leb, leb-true}
use borrow.Author.Tests.{lt-leb}
use Rattle.std.proofs.lemmas.List.{length-drop, take_all, take-append-le, drop-append-le, drop_at}
use Rattle.std.proofs.lemmas.Bool.{and_parts, and_from}
use Rattle.rows.specs.Rows.{held}
use Rattle.expr.specs.declared.code.Code.{Code}
use Rattle.rules.specs.declared.draft.Draft.{Draft}
use Rattle.book.specs.Rules.{Rule}
use Rattle.rules.specs.Records.{rule_from, code_in}
use Rattle.rules.specs.Drafts.{rule_of}
use Rattle.rules.specs.Places.{numbers, names, expressions, each, given_names, places_of}
use Rattle.rules.specs.Wrong.{some_over, some_twice, some_missing, nests, wrong}
use Rattle.rules.proofs.Counting.{draft_places}
use Rattle.books.specs.declared.rule.Rule.{Rule as StoredRule}
use Rattle.book.specs.Books.{Book, with_rule}
use Rattle.books.specs.Refused.{holds_number, code_places, no_place}
use Rattle.books.specs.Stored.{rule_in, rules_in}
use Rattle.books.specs.Making.{Made}
use Rattle.books.specs.Order.{head_precedes, spot, numbered}
use Rattle.books.specs.Kept.{within, ascending}
use Rattle.books.proofs.Sorting.{ascending_with, places_with}
use Rattle.rules.specs.declared.head.Head.{Head}

pub past : (t : Bool) (k x : ℕ) → cond t (suc k) x ≡ 0 → (t ≡ false) × (x ≡ 0)
past true k x h = absurd (omega arith)
past false k x h = (refl, h)

-- code behind that of the rules changes none of them
same_part : (cs ds : List Code) (start size : ℕ) → start + size ≤ length cs → take size (drop start (cs ++ ds)) ≡ take size (drop start cs)
same_part cs ds start size h =
    ap (take size) (drop-append-le start cs ds (omega arith)) ∙ take-append-le size (drop start cs) ds (simp length-drop (omega arith))

pub same_rules : (cs ds : List Code) (rs : List StoredRule) → within (length cs) rs ≡ true → rules_in (cs ++ ds) rs ≡ rules_in cs rs
same_rules cs ds [] h = refl
same_rules cs ds (r ∷ rs) h =
    let p = and_parts (leb (r.start + r.size) (length cs)) (within (length cs) rs) h in
    let e = same_part cs ds r.start r.size (leb-true (r.start + r.size) (length cs) p.0) in
    λ i. rule_from r.head r.guard (held r.pieces) (e i) ∷ same_rules cs ds rs p.1 i

-- a draft whose code stands behind that of the rules
pub new_rule : (cs : List Code) (d : Draft) (start : ℕ) (r : StoredRule) → start ≡ length cs → Made d start r → rule_in (cs ++ code_in d.codes) r ≡ rule_of d
new_rule cs d start r at m =
    let part : take r.size (drop r.start (cs ++ code_in d.codes)) ≡ code_in d.codes =
    ap (take r.size) (drop_at cs (code_in d.codes) r.start (sym (m.place ∙ at))) ∙ take_all r.size (code_in d.codes) (omega (arith, m.size)) in
    λ i. rule_from (m.head i) (m.guard i) (m.pieces i) (part i)

-- the rules with one more where it belongs
spot_one : (h : Head) (r : StoredRule) (rs : List StoredRule) → spot h (r ∷ rs) ≡ cond (head_precedes h r.head) 0 (suc (spot h rs))
spot_one h r rs = go (head_precedes h r.head)
  where
    go : (t : Bool) → cond (not t) (1 + spot h rs) 0 ≡ cond t 0 (suc (spot h rs))
    go true = refl
    go false = one-add (spot h rs)

pub placed : (cs : List Code) (r : StoredRule) (rs : List StoredRule) → rules_in cs (take (spot r.head rs) rs ++ (r ∷ drop (spot r.head rs) rs)) ≡ with_rule (rule_in cs r) (rules_in cs rs)
placed cs r [] = refl
placed cs r (s ∷ rs) = ap (λ k. rules_in cs (take k (s ∷ rs) ++ (r ∷ drop k (s ∷ rs)))) (spot_one r.head s rs) ∙ go (head_precedes r.head s.head) (placed cs r rs)
  where
    u : Rule
    u = rule_in cs r

    go : (t : Bool) → rules_in cs (take (spot r.head rs) rs ++ (r ∷ drop (spot r.head rs) rs)) ≡ with_rule (rule_in cs r) (rules_in cs rs) → rules_in cs (take (cond t 0 (suc (spot r.head rs))) (s ∷ rs) ++ (r ∷ drop (cond t 0 (suc (spot r.head rs))) (s ∷ rs))) ≡ cond t (rule_in cs r ∷ rule_in cs s ∷ rules_in cs rs) (rule_in cs s ∷ with_rule (rule_in cs r) (rules_in cs rs))
    go true ih = refl
    go false ih = ap (λ (l : List Rule). rule_in cs s ∷ l) ih

pub same_number : (cs : List Code) (n : ℕ) (rs : List StoredRule) → numbered n rs ≡ holds_number n (rules_in cs rs)
same_number cs n [] = refl
same_number cs n (r ∷ rs) = ap (λ (b : Bool). eqb n r.head.printed || b) (same_number cs n rs)

-- all code lies within what there is
more_within : (n m : ℕ) → n ≤ m → (rs : List StoredRule) → within n rs ≡ true → within m rs ≡ true
more_within n m l [] h = refl
more_within n m l (r ∷ rs) h =
    let p = and_parts (leb (r.start + r.size) n) (within n rs) h in
    and_from (leb (r.start + r.size) m) (within m rs) (le-leb (r.start + r.size) m (omega (arith, leb-true (r.start + r.size) n p.0))) (more_within n m l rs p.1)

put_within : (n : ℕ) (r : StoredRule) → r.start + r.size ≤ n → (k : ℕ) (rs : List StoredRule) → within n rs ≡ true → within n (take k rs ++ (r ∷ drop k rs)) ≡ true
put_within n r l zero rs h = and_from (leb (r.start + r.size) n) (within n rs) (le-leb (r.start + r.size) n l) h
put_within n r l (suc k) [] h = and_from (leb (r.start + r.size) n) true (le-leb (r.start + r.size) n l) refl
put_within n r l (suc k) (s ∷ rs) h =
    let p = and_parts (leb (s.start + s.size) n) (within n rs) h in
    and_from (leb (s.start + s.size) n) (within n (take k rs ++ (r ∷ drop k rs))) p.0 (put_within n r l k rs p.1)

pub all_within : (n m : ℕ) (r : StoredRule) (k : ℕ) (rs : List StoredRule) → n ≤ m → r.start + r.size ≤ m → within n rs ≡ true → within m (take k rs ++ (r ∷ drop k rs)) ≡ true
all_within n m r k rs l f h = put_within m r f k rs (more_within n m l rs h)

-- a rule with which nothing is wrong has a short successor, which nests
pub few_pieces : (u : Rule) → wrong u 0 ≡ 0 → (length u.successor ≤ 24) × (nests 0 u.successor ≡ true)
few_pieces u h =
    let a = (past (not (leb 1 u.number && leb u.number 999)) 2 _ h).1 in
    let b = (past (some_over (each numbers (expressions u))) 3 _ a).1 in
    let c = (past (some_twice (given_names u) || some_missing (given_names u) (each names (expressions u))) 4 _ b).1 in
    let d = past (not (nests 0 u.successor)) 5 _ c in
    (ltb-false 24 (length u.successor) (past (ltb 24 (length u.successor)) 6 0 d.1).0, not_not (nests 0 u.successor) d.0)
  where
    not_not : (t : Bool) → not t ≡ false → t ≡ true
    not_not true e = refl
    not_not false e = sym e

-- the answers
module _ (b : Book) (u : Rule) where
  abbrev answer : Bool → Bool → Bool → ℕ
  answer held full spent = cond held 11 (cond full 12 (cond spent 13 0))

  abbrev full : Bool
  full = leb 48 (length b.rules)

  abbrev spent : Bool
  spent = ltb 1_024 (code_places b.rules + places_of u)

  pub is_held : true ≡ holds_number u.number b.rules → 11 ≡ no_place b u
  is_held e = ap (λ (t : Bool). answer t full spent) e

  module _ (e : false ≡ holds_number u.number b.rules) where
    pub is_full : 48 ≤ length b.rules → 12 ≡ no_place b u
    is_full l = λ i. answer (e i) (sym (le-leb 48 (length b.rules) l) i) spent

    pub is_spent : length b.rules < 48 → 1024 < code_places b.rules + places_of u → 13 ≡ no_place b u
    is_spent l m = λ i. answer (e i) (sym (lt-leb 48 (length b.rules) l) i) (sym (lt-ltb 1_024 (code_places b.rules + places_of u) m) i)

    pub is_free : length b.rules < 48 → code_places b.rules + places_of u ≤ 1024 → 0 ≡ no_place b u
    is_free l m = λ i. answer (e i) (sym (lt-leb 48 (length b.rules) l) i) (sym (le-ltb 1_024 (code_places b.rules + places_of u) m) i)

-- a draft put where it belongs, its code behind that of the rules
module _ (cs ds : List Code) (d : Draft) (rs qs : List StoredRule) (r : StoredRule) (at start : ℕ) (code : ds ≡ cs ++ code_in d.codes) (rules : qs ≡ take at rs ++ (r ∷ drop at rs)) (here : at ≡ spot d.head rs) (end : start ≡ length cs) (made : Made d start r) (inside : within (length cs) rs ≡ true) where
  pub put_rules : rules_in ds qs ≡ with_rule (rule_of d) (rules_in cs rs)
  put_rules =
      let k : at ≡ spot r.head rs = here ∙ ap (λ (h : Head). spot h rs) (sym made.head) in
      (λ i. rules_in (code i) ((rules ∙ ap (λ n. take n rs ++ (r ∷ drop n rs)) k) i))
      ∙ placed (cs ++ code_in d.codes) r rs
      ∙ (λ i. with_rule (new_rule cs d start r end made i) (same_rules cs (code_in d.codes) rs inside i))

  pub put_length : length ds ≡ length cs + length (code_in d.codes)
  put_length = ap length code ∙ length-append cs (code_in d.codes)

  pub put_inside : within (length ds) qs ≡ true
  put_inside = ap (within (length ds)) rules ∙ all_within (length cs) (length ds) r at rs (omega (arith, put_length)) (omega (arith, put_length, made.place, made.size)) inside

  pub put_ordered : false ≡ numbered d.head.printed rs → ascending (rules_in cs rs) ≡ true → ascending (rules_in ds qs) ≡ true
  put_ordered new h = ap ascending put_rules ∙ ascending_with (rule_of d) (rules_in cs rs) (sym (new ∙ same_number cs d.head.printed rs)) h

  pub put_spent : length cs ≡ code_places (rules_in cs rs) → length ds ≡ code_places (rules_in ds qs)
  put_spent h = put_length ∙ omega (arith, h, draft_places d, places_with (rule_of d) (rules_in cs rs)) ∙ ap code_places (sym put_rules)
