-- How the tests of a draft come to what is wrong with its rule.
use Rattle.std.proofs.Common.{◌≡◌, ℕ, Bool, true, false, cond, not, ◌&&◌, ◌||◌, ltb, leb, List, [], ◌∷◌, map, length, drop, sym, refl, ap, ◌∙◌, arith}
use Rattle.expr.specs.declared.code.Code.{Code}
use Rattle.rules.specs.declared.draft.Draft.{Draft}
use Rattle.rules.specs.declared.piece.Piece.{Piece as StoredPiece}
use Rattle.book.specs.Rules.{Rule}
use Rattle.rules.specs.Places.{numbers, names, expressions, each, given_names}
use Rattle.rules.specs.Records.{code_in, pieces_in, bare}
use Rattle.rules.specs.Drafts.{rule_of}
use Rattle.rules.specs.Picked.{numbers_in, names_in, head_names}
use Rattle.rules.specs.Wrong.{some_over, some_twice, some_missing, nests, wrong}
use Rattle.rules.proofs.Depths.{nests_bare, length_pieces}
use Rattle.rules.proofs.Picking.{picked_rule}

-- the number of the first test that fails, or else n
abbrev pub first_wrong : Bool → Bool → Bool → Bool → Bool → ℕ → ℕ
first_wrong printed large named nested many n = cond (not printed) 3 (cond large 4 (cond named 5 (cond (not nested) 6 (cond many 7 n))))

module _ (d : Draft) {code : List Code} {given : List ℕ} {pieces : List StoredPiece} (same_code : code ≡ code_in d.codes) (same_names : given ≡ head_names d.head) (same-pieces : pieces ≡ pieces_in d.pieces) where
  abbrev u : Rule
  u = rule_of d

  large : some_over (each numbers (expressions u)) ≡ some_over (numbers_in code)
  large =
      sym (ap some_over (picked_rule (λ n. n ∷ []) (λ x. []) u))
      ∙ ap (λ (cs : List Code). some_over (numbers_in cs)) d.whole
      ∙ sym (ap (λ (cs : List Code). some_over (numbers_in cs)) same_code)

  missing : some_missing (given_names u) (each names (expressions u)) ≡ some_missing (given_names u) (names_in code)
  missing =
      sym (ap (some_missing (given_names u)) (picked_rule (λ n. []) (λ x. x ∷ []) u))
      ∙ ap (λ (cs : List Code). some_missing (given_names u) (names_in cs)) d.whole
      ∙ sym (ap (λ (cs : List Code). some_missing (given_names u) (names_in cs)) same_code)

  named : (some_twice (given_names u) || some_missing (given_names u) (each names (expressions u))) ≡ (some_twice given || some_missing given (names_in code))
  named =
      ap (λ (t : Bool). some_twice (given_names u) || t) missing
      ∙ sym (ap (λ (xs : List ℕ). some_twice xs || some_missing xs (names_in code)) same_names)

  nested : nests 0 u.successor ≡ nests 0 (map bare pieces)
  nested = nests_bare (pieces_in d.pieces) (drop d.guard (code_in d.codes)) 0 ∙ sym (ap (λ (ps : List StoredPiece). nests 0 (map bare ps)) same-pieces)

  many : length u.successor ≡ length pieces
  many = length_pieces (pieces_in d.pieces) (drop d.guard (code_in d.codes)) ∙ sym (ap length same-pieces)

  pub judged : {a b c e f : Bool} → a ≡ (leb 1 u.number && leb u.number 999) → b ≡ some_over (numbers_in code) → c ≡ (some_twice given || some_missing given (names_in code)) → e ≡ nests 0 (map bare pieces) → f ≡ ltb 24 (length pieces) → first_wrong a b c e f 0 ≡ wrong u 0
  judged pa pb pc pe pf = λ i. first_wrong (pa i) ((pb ∙ sym large) i) ((pc ∙ sym named) i) ((pe ∙ sym nested) i) ((pf ∙ sym (ap (ltb 24) many)) i) 0

-- tests that end in n where none fails, and where one does in its number, whatever n is
abbrev Ends : (ℕ → ℕ) → Type 0
Ends f = (n : ℕ) → (f 0 ≡ 0 → f n ≡ n) × ((f 0 ≡ 0 → ⊥) → f n ≡ f 0)

tested : (t : Bool) (k : ℕ) (f : ℕ → ℕ) → (k ≡ 0 → ⊥) → Ends f → Ends (λ n. cond t k (f n))
tested true k f h e n = (λ z. absurd (h z), λ z. refl)
tested false k f h e n = e n

ends : (a b c d e : Bool) → Ends (first_wrong a b c d e)
ends a b c d e =
    tested (not a) 3 (λ n. cond b 4 (cond c 5 (cond (not d) 6 (cond e 7 n)))) (λ z. omega arith)
    (tested b 4 (λ n. cond c 5 (cond (not d) 6 (cond e 7 n))) (λ z. omega arith)
    (tested c 5 (λ n. cond (not d) 6 (cond e 7 n)) (λ z. omega arith)
    (tested (not d) 6 (λ n. cond e 7 n) (λ z. omega arith)
    (tested e 7 (λ n. n) (λ z. omega arith)
    (λ n. (λ z. refl, λ z. absurd (z refl)))))))

of_rule : (u : Rule) → Ends (wrong u)
of_rule u = ends (leb 1 u.number && leb u.number 999) (some_over (each numbers (expressions u))) (some_twice (given_names u) || some_missing (given_names u) (each names (expressions u))) (nests 0 u.successor) (ltb 24 (length u.successor))

-- what comes next decides where nothing is wrong
pub wrong_none : (u : Rule) (n : ℕ) → wrong u 0 ≡ 0 → wrong u n ≡ n
wrong_none u n = (of_rule u n).0

pub wrong_some : (u : Rule) (n : ℕ) → (wrong u 0 ≡ 0 → ⊥) → wrong u n ≡ wrong u 0
wrong_some u n = (of_rule u n).1
