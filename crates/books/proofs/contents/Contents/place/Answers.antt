use Rattle.std.proofs.Common.{◌<◌, cond, ltb, ◌∷◌, take, ◌≡◌, ℕ, Bool, true, false, List, ◌++◌, length, drop, sym, refl, ap, ◌∙◌, arith}
use Rattle.std.proofs.lemmas.Bool.{cond-true, lt-ltb}
use lib.ListN.{length-map}
use Rattle.expr.specs.declared.code.Code.{Code}
use Rattle.book.specs.Rules.{Rule}
use Rattle.rules.specs.Records.{code_in, pieces_in}
use Rattle.rules.specs.Drafts.{rule_of}
use Rattle.rules.proofs.Counting.{draft_places}
use Rattle.rules.proofs.Depths.{length_pieces, nests_bare}
use Rattle.books.specs.declared.rule.Rule.{Rule as StoredRule}
use Rattle.books.specs.Refused.{holds_number}
use Rattle.books.specs.declared.contents.Contents.{Contents}
use Rattle.books.specs.Contents.{book_in}
use Rattle.books.specs.Stored.{code_held, listed, rule_in, ignored_in}
use Rattle.books.specs.Order.{numbered, spot}
use Rattle.books.proofs.Placing.{few_pieces, is_held, is_full, is_spent, is_free, same_number, put_rules, put_inside, put_ordered, put_spent}
use Rattle.books.proofs.contents.Contents.place.Goals as goal

-- no rule of the book has the draft's number, as the call that asks it tells
unheld : (s : Contents) (n : ℕ) (rs : List StoredRule) → rs ≡ listed s.rules → (b : Bool) → b ≡ numbered n rs → b ≡ holds_number n (book_in s).rules
unheld s n rs e b h = h ∙ ap (numbered n) e ∙ same_number (code_held s.code) n (listed s.rules)

-- how many rules the book has
many : (s : Contents) (rs : List StoredRule) → rs ≡ listed s.rules → length (book_in s).rules ≡ length rs
many s rs e = length-map (listed s.rules) (rule_in (code_held s.code)) ∙ ap length (sym e)

-- a rule put among fewer than 48
in_room : (rs qs : List StoredRule) (at : ℕ) (r : StoredRule) → qs ≡ cond (ltb (length rs) 48) (take at rs ++ (r ∷ drop at rs)) rs → length rs < 48 → qs ≡ take at rs ++ (r ∷ drop at rs)
in_room rs qs at r e h = e ∙ cond-true (ltb (length rs) 48) (take at rs ++ (r ∷ drop at rs)) rs (lt-ltb (length rs) 48 h)

pub returns-then-is_numbered : goal.returns-then-is_numbered
returns-then-is_numbered c =
    let s = c.args.self.now in
    let d = c.args.draft.now in
    record { answer = is_held (book_in s) (rule_of d) (unheld s d.head.printed c.as_slice-rules.result.now c.as_slice-rules.ensures true c.if-is_numbered.ensures); after = refl }

pub returns-then-rules-ge-MOST_RULES : goal.returns-then-rules-ge-MOST_RULES
returns-then-rules-ge-MOST_RULES c =
    let s = c.args.self.now in
    let d = c.args.draft.now in
    let rs = c.as_slice-rules.result.now in
    record { answer = is_full (book_in s) (rule_of d) (unheld s d.head.printed rs c.as_slice-rules.ensures false c.if-is_numbered.ensures) (omega (arith, many s rs c.as_slice-rules.ensures)); after = refl }

pub returns-then-start-len-gt-MOST_PLACES : goal.returns-then-start-len-gt-MOST_PLACES
returns-then-start-len-gt-MOST_PLACES c =
    let s = c.args.self.now in
    let d = c.args.draft.now in
    let rs = c.as_slice-rules.result.now in
    record {
      answer =
          is_spent (book_in s) (rule_of d) (unheld s d.head.printed rs c.as_slice-rules.ensures false c.if-is_numbered.ensures) (omega (arith, many s rs c.as_slice-rules.ensures))
          (omega (arith, s.spent, draft_places d, c.used-start.ensures, c.len.ensures));
      after = refl;
    }

pub new-rule-requires : goal.new-rule-requires
new-rule-requires c =
    let d = c.args.draft.now in
    let ps = pieces_in d.pieces in
    let own = drop d.guard (code_in d.codes) in
    let u = few_pieces (rule_of d) c.requires in
    record { place = omega arith; few = omega (arith, u.0, length_pieces ps own); nested = sym (nests_bare ps own 0) ∙ u.1 }

pub invariant_of-self : goal.invariant_of-self
invariant_of-self c =
    let s = c.args.self.now in
    let d = c.args.draft.now in
    let cs = code_held s.code in
    let rs = listed s.rules in
    let ds = code_held c.append.new.self in
    let qs = listed c.insert.new.self in
    let r = c.new-rule.result in
    let put = in_room rs qs c.spot-at.result c.new-rule.result c.insert.ensures (omega (arith, ap length c.as_slice-rules.ensures)) in
    let code : ds ≡ cs ++ code_in d.codes = c.append.ensures ∙ ap (λ (l : List Code). cs ++ l) c.as_slice.ensures in
    let here : c.spot-at.result ≡ spot d.head rs = c.spot-at.ensures ∙ ap (spot d.head) c.as_slice-rules.ensures in
    let new : false ≡ numbered d.head.printed rs = c.if-is_numbered.ensures ∙ ap (numbered d.head.printed) c.as_slice-rules.ensures in
    record {
      inside = put_inside cs ds d rs qs r c.spot-at.result c.used-start.result code put here c.used-start.ensures c.new-rule.ensures s.inside;
      ordered = put_ordered cs ds d rs qs r c.spot-at.result c.used-start.result code put here c.used-start.ensures c.new-rule.ensures s.inside new s.ordered;
      spent = put_spent cs ds d rs qs r c.spot-at.result c.used-start.result code put here c.used-start.ensures c.new-rule.ensures s.inside s.spent;
    }

pub returns : goal.returns
returns c =
    let s = c.args.self.now in
    let d = c.args.draft.now in
    let cs = code_held s.code in
    let rs = listed s.rules in
    let ds = code_held c.append.new.self in
    let qs = listed c.insert.new.self in
    let put = in_room rs qs c.spot-at.result c.new-rule.result c.insert.ensures (omega (arith, ap length c.as_slice-rules.ensures)) in
    let code : ds ≡ cs ++ code_in d.codes = c.append.ensures ∙ ap (λ (l : List Code). cs ++ l) c.as_slice.ensures in
    let here : c.spot-at.result ≡ spot d.head rs = c.spot-at.ensures ∙ ap (spot d.head) c.as_slice-rules.ensures in
    record {
      answer =
          is_free (book_in s) (rule_of d) (unheld s d.head.printed c.as_slice-rules.result.now c.as_slice-rules.ensures false c.if-is_numbered.ensures) (omega (arith, many s c.as_slice-rules.result.now c.as_slice-rules.ensures))
          (omega (arith, s.spent, draft_places d, c.used-start.ensures, c.len.ensures));
      after = ap (λ (l : List Rule). record { rules = l; ignored = ignored_in s.ignored }) (put_rules cs ds d rs qs c.new-rule.result c.spot-at.result c.used-start.result code put here c.used-start.ensures c.new-rule.ensures s.inside);
    }
