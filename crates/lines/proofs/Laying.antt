-- A rule is read back from its code.
use Rattle.std.proofs.Common.{◌≡◌, ℕ, suc, ◌+◌, ◌≤◌, List, [], ◌∷◌, ◌++◌, map, length, take, drop, sym, refl, ap, ◌∙◌, append_assoc, append-nil, arith, length-append}
use lib.Seq.{take-append_seam, drop-append_seam}
use Rattle.tokens.specs.declared.token.Sign.TheVariants.{Arrow, Colon}
use Rattle.tokens.specs.Tokens.{Lexeme, number, sign}
use Rattle.expr.specs.declared.code.Code.{Code}
use Rattle.expr.specs.Values.{Expr}
use Rattle.expr.specs.Codes.{code_of, codes_of, comparisons_code, decoded, comparisons, latest}
use Rattle.expr.proofs.Examples.{on, laid, reads_back}
use Rattle.rules.specs.declared.head.Head.{Head}
use Rattle.rules.specs.declared.piece.Piece.{Piece as StoredPiece}
use Rattle.book.specs.Rules.{Piece}
use Rattle.rules.specs.Layout.{successor_code, rule_code}
use Rattle.rules.specs.Records.{pieces_from, rule_from, places_in}
use Rattle.book.specs.Grammar.{spells_form, spells_pieces, RuleTree, spells_before, spells_behind, spells_guarded, ruling, spells_line}
use Rattle.book.specs.Meanings.{piece_sense, guard_sense, rule_sense}
use Rattle.lines.specs.Parts.{TookHead, TookGuard, outlined, outline, TookPieces}

-- expressions laid out one after the other lie on the stack, the last first
abbrev onto : List Expr → List Expr → List Expr
onto [] st = st
onto (e ∷ es) st = onto es (e ∷ st)

all_laid : (es : List Expr) (st : List Expr) → decoded st (codes_of es) ≡ onto es st
all_laid [] st = refl
all_laid (e ∷ es) st = on st (code_of e) (codes_of es) ∙ ap (λ (s : List Expr). decoded s (codes_of es)) (laid st e) ∙ all_laid es (e ∷ st)

latest_onto : (es : List Expr) (k : ℕ) (st : List Expr) → latest (length es + k) (onto es st) ≡ latest k st ++ es
latest_onto [] k st = let z : 0 + k ≡ k = omega arith in ap (λ (n : ℕ). latest n st) z ∙ sym (append-nil (latest k st))
latest_onto (e ∷ es) k st =
    let z : suc (length es) + k ≡ length es + suc k = omega arith in
    ap (λ (n : ℕ). latest n (onto es (e ∷ st))) z ∙ latest_onto es (suc k) (e ∷ st) ∙ append_assoc (latest k st) (e ∷ []) es

arguments_back : (es : List Expr) → latest (length es) (decoded [] (codes_of es)) ≡ es
arguments_back es =
    let z : length es ≡ length es + 0 = omega arith in
    ap (latest (length es)) (all_laid es []) ∙ ap (λ (n : ℕ). latest n (onto es [])) z ∙ latest_onto es 0 []

pieces_back : (ps : List StoredPiece) (qs : List Piece) → map outlined ps ≡ map outline qs → pieces_from ps (successor_code qs) ≡ qs
pieces_back [] [] e = refl
pieces_back [] (q ∷ qs) e = let z : ◌≡◌ {A = ℕ} 0 1 = cc in absurd (omega arith)
pieces_back (p ∷ ps) [] e = let z : ◌≡◌ {A = ℕ} 0 1 = cc in absurd (omega arith)
pieces_back (p ∷ ps) (q ∷ qs) e =
    let a : outlined p ≡ outline q = cc in
    let b : map outlined ps ≡ map outline qs = cc in
    let code = codes_of q.arguments in
    let more = successor_code qs in
    let args : latest p.count (decoded [] (take p.places (code ++ more))) ≡ q.arguments =
    (λ i. latest (a i).count (decoded [] (take (a i).places (code ++ more)))) ∙ ap (λ (l : List Code). latest (length q.arguments) (decoded [] l)) (take-append_seam code more) ∙ arguments_back q.arguments in
    let rest : pieces_from ps (drop p.places (code ++ more)) ≡ qs =
    ap (λ o. pieces_from ps (drop o.places (code ++ more))) a ∙ ap (pieces_from ps) (drop-append_seam code more) ∙ pieces_back ps qs b in
    λ i. record { letter = (a i).letter; arguments = args i } ∷ rest i

-- pieces take up as many places as their arguments
places_back : (ps : List StoredPiece) (qs : List Piece) → map outlined ps ≡ map outline qs → places_in ps ≡ length (successor_code qs)
places_back [] [] e = refl
places_back [] (q ∷ qs) e = let z : ◌≡◌ {A = ℕ} 0 1 = cc in absurd (omega arith)
places_back (p ∷ ps) [] e = let z : ◌≡◌ {A = ℕ} 0 1 = cc in absurd (omega arith)
places_back (p ∷ ps) (q ∷ qs) e =
    let a : outlined p ≡ outline q = cc in
    let b : map outlined ps ≡ map outline qs = cc in
    omega (arith, ap (λ o. o.places) a, places_back ps qs b, length-append (codes_of q.arguments) (successor_code qs))

-- a whole rule
module _ (h : Head) (n : ℕ) (ps : List StoredPiece) (ts us vs : List Lexeme) (cs ds es : List Code) (t : TookHead ts us h) (g : TookGuard us vs cs ds n) (p : TookPieces vs [] ds es ps) (none : cs ≡ []) where
  abbrev tree : RuleTree
  tree = record {
    printed = t.numbered.printed;
    short = t.numbered.short;
    before = t.sided.before;
    predecessor = t.sided.predecessor;
    behind = t.followed.behind;
    guarded = g.tree;
    successor = p.trees;
  }

  spelt : spells_line (ruling tree) ≡ ts
  spelt =
      let s = t.sided in
      sym
      (t.numbered.spelt
      ∙ ap (λ (l : List Lexeme). number t.numbered.printed ∷ sign Colon ∷ l)
      (s.spelt
      ∙ ap (λ (l : List Lexeme). spells_before s.before ++ (spells_form s.predecessor ++ l))
      (t.followed.spelt
      ∙ ap (λ (l : List Lexeme). spells_behind t.followed.behind ++ l)
      (g.spelt ∙ ap (λ (l : List Lexeme). spells_guarded g.tree ++ (sign Arrow ∷ l)) (p.spelt ∙ append-nil (spells_pieces p.trees))))))

  abbrev asked : List Code
  asked = comparisons_code (guard_sense g.tree)

  abbrev grown : List Code
  grown = successor_code (map piece_sense p.trees)

  guard_code : ds ≡ asked
  guard_code = g.coded ∙ ap (λ (l : List Code). l ++ asked) none

  all_code : es ≡ asked ++ grown
  all_code = p.coded ∙ ap (λ (l : List Code). l ++ grown) guard_code

  size : n ≡ length asked
  size = g.size ∙ ap length guard_code

  guard_back : guard_sense g.tree ≡ comparisons [] (take n es)
  guard_back = sym ((λ i. comparisons [] (take (size i) (all_code i))) ∙ ap (comparisons []) (take-append_seam asked grown) ∙ reads_back.guards (guard_sense g.tree))

  successor_back : map piece_sense p.trees ≡ pieces_from ps (drop n es)
  successor_back = sym ((λ i. pieces_from ps (drop (size i) (all_code i))) ∙ ap (pieces_from ps) (drop-append_seam asked grown) ∙ pieces_back ps (map piece_sense p.trees) p.stored)

  meant : rule_sense tree ≡ rule_from h n ps es
  meant = λ i. record {
    number = t.numbered.meant i;
    before = t.sided.before_meant i;
    predecessor = t.sided.meant i;
    behind = t.followed.meant i;
    guarded = guard_back i;
    successor = successor_back i;
  }

  pub rule_read : (u : RuleTree) × (spells_line (ruling u) ≡ ts) × (rule_sense u ≡ rule_from h n ps es)
  rule_read = (tree, spelt, meant)

  pub rule_laid : rule_code (rule_from h n ps es) ≡ es
  rule_laid = ap rule_code (sym meant) ∙ sym all_code

  pub rule_within : n + places_in ps ≤ length es
  rule_within = omega (arith, size, places_back ps (map piece_sense p.trees) p.stored, ap length all_code, length-append asked grown)
