-- What each step of reading a guard keeps, and what its refusals show.
use Rattle.std.proofs.Common.{◌≡◌, true, false, cond, List, [], ◌∷◌, ◌++◌, Option, Some, None, MatchOption, IfSome, is_some, Ok, Err, Result, sym, refl, ap, subst, ◌∙◌, append_assoc, append-nil, arith}
use Rattle.std.proofs.lemmas.Bool.{both_ways, cond-false}
use Rattle.tokens.specs.declared.token.Sign.{Sign}
use Rattle.tokens.specs.declared.token.Sign.TheVariants.{Also, Arrow, Asks}
use Rattle.tokens.specs.Tokens.{Lexeme, sign}
use Rattle.tokens.specs.Readers.{leading, first_sign, rest}
use Rattle.expr.specs.declared.code.Relation.{Relation}
use Rattle.expr.specs.declared.code.Code.{Code}
use Rattle.expr.specs.declared.code.Code.TheVariants.{Compare}
use Rattle.rules.specs.declared.refusal.Refusal.{Refusal}
use Rattle.book.specs.Grammar.{guard, comparison, sum, relation_sign, compared, one_comparison, also, spells}
use Rattle.book.specs.Meanings.{sense}
use Rattle.lines.specs.Fits.{is, joins, compares, former, latter, due, read, pieces, lost, framed, last, fits}
use Rattle.lines.specs.Parts.{part_code, Took, Stops, Lost, TookAsked}
use Rattle.lines.specs.Parsing.{Read}
use Rattle.book.proofs.Unique.{one_more}
use Rattle.lines.proofs.Complete.{follows, comparing}
use Rattle.lines.proofs.Signs.{never, summed_on, framed_on}
use Rattle.lines.proofs.Steps.{Onward, with_more, lost_after, no_sign}

pub as_compared : (r : Relation) (ts us ws vs : List Lexeme) (cs ds es fs : List Code) → Took sum ts us cs ds → us ≡ sign (relation_sign r) ∷ ws → Took sum ws vs ds es → fs ≡ es ++ (Compare r ∷ []) → Took comparison ts vs cs fs
as_compared r ts us ws vs cs ds es fs a head b pushed =
    let x = part_code sum (sense a.tree) in
    let y = part_code sum (sense b.tree) in
    record {
      tree = compared a.tree r b.tree;
      spelt = a.spelt ∙ ap (λ l. spells a.tree ++ l) (head ∙ ap (λ l. sign (relation_sign r) ∷ l) b.spelt) ∙ sym (append_assoc (spells a.tree) (sign (relation_sign r) ∷ spells b.tree) vs);
      coded = pushed ∙ ap (λ l. l ++ (Compare r ∷ [])) (b.coded ∙ ap (λ l. l ++ y) a.coded ∙ append_assoc cs x y) ∙ append_assoc cs (x ++ y) (Compare r ∷ []);
    }

-- whether the sign that stands first compares
pub compared_by : (N : Type 0) (P : Relation → Sign → Type 0) (o : Option Relation) (r : Relation) (us ws : List Lexeme) → MatchOption o N (λ x. (s : Sign) × P x s × (us ≡ sign s ∷ ws)) → Some r ≡ o → ((s : Sign) → P r s → s ≡ relation_sign r) → us ≡ sign (relation_sign r) ∷ ws
compared_by N P None r us ws t e k = absurd (both_ways true (ap is_some e) refl)
compared_by N P (Some x) r us ws t e k =
    let is : x ≡ r = grind arith in
    t.2 ∙ ap (λ s. sign s ∷ ws) (k t.0 (subst (λ y. P y t.0) is t.1))

pub uncompared : (P : Sign → Type 0) (M : Relation → Type 0) (o : Option Relation) (us ws : List Lexeme) → MatchOption o ((ws ≡ us) × IfSome (leading us) P) M → o ≡ None → ((s : Sign) → P s → compares s ≡ false) → compares (first_sign us) ≡ false
uncompared P M None us ws t e k = no_sign compares refl us t.1 k
uncompared P M (Some x) us ws t e k = absurd (both_ways true (ap is_some e) refl)

-- before the sign that compares, only such a sign may stand
pub lost_uncompared : (ts us : List Lexeme) (cs ds : List Code) → Took sum ts us cs ds → joins (first_sign us) ≡ false → compares (first_sign us) ≡ false → Lost comparison ts
lost_uncompared ts us cs ds t h n d r =
    ap (fits (due 0 former)) t.spelt
    ∙ follows t.tree us 0 former
    ∙ summed_on former us h
    ∙ ap (λ p. fits p (rest us)) (cond-false (compares (first_sign us)) (due 0 latter) lost n)
    ∙ never (rest us)

pub lost_second : (r : Relation) (ts us ws : List Lexeme) (cs ds : List Code) → Took sum ts us cs ds → us ≡ sign (relation_sign r) ∷ ws → Lost sum ws → Lost comparison ts
lost_second s ts us ws cs ds t head l d r =
    ap (fits (due 0 former)) t.spelt ∙ follows t.tree us 0 former ∙ ap (fits (read 0 former)) head ∙ comparing s ws ∙ l 0 latter

pub as_guard : {ts us : List Lexeme} {cs ds : List Code} → Took comparison ts us cs ds → Took guard ts us cs ds
as_guard {ts} {us} {cs} {ds} t = record {
  tree = one_comparison t.tree;
  spelt = t.spelt;
  coded = t.coded ∙ ap (λ l. cs ++ l) (sym (append-nil (part_code comparison (sense t.tree))));
}

pub more_comparisons : (ts us ws vs : List Lexeme) (cs ds es : List Code) → Onward guard ts us cs ds → us ≡ sign Also ∷ ws → Took comparison ws vs ds es → Onward guard ts vs cs es
more_comparisons ts us ws vs cs ds es g head took xs bs t =
    with_more guard comparison Also [] (λ g c. (also g c, refl, one_more (sense g) (sense c) ∙ sym (append-nil (part_code guard (sense g) ++ part_code comparison (sense c)))))
    xs us ws vs bs ds es es (g xs bs t) head took (sym (append-nil es))

pub lost_comparison : (ts us ws : List Lexeme) (cs ds : List Code) → Took guard ts us cs ds → us ≡ sign Also ∷ ws → Lost comparison ws → Lost guard ts
lost_comparison ts us ws cs ds t head l = lost_after guard ts us cs ds t (λ d r. ap (fits (read 0 latter)) head ∙ l d r)

-- behind a question mark
pub read_asked : (x : Result (Unit {0}) Refusal) (ts ws us : List Lexeme) (cs ds : List Code) → ts ≡ sign Asks ∷ ws → Read (λ _. Took guard ws us cs ds × Stops guard (first_sign us)) (Lost guard ws) x → Read (λ _. TookAsked ts us cs ds) (fits (framed last) ts ≡ false) x
read_asked (Ok u) ts ws us cs ds head h =
    let t = h.0 in
    record {
      tree = Some t.tree;
      spelt = head ∙ ap (λ l. sign Asks ∷ l) t.spelt;
      coded = t.coded;
      onward =
          ap (fits (framed last)) head
          ∙ ap (fits (due 0 former)) t.spelt
          ∙ follows t.tree us 0 former
          ∙ summed_on latter us h.1.0
          ∙ ap (λ p. fits p (rest us)) (cond-false (is Also (first_sign us)) (due 0 former) (cond (is Arrow (first_sign us)) pieces lost) h.1.1);
    }
read_asked (Err e) ts ws us cs ds head h = (h.0, ap (fits (framed last)) head ∙ h.1 0 former)

pub unasked : (ts : List Lexeme) (cs : List Code) → is Asks (first_sign ts) ≡ false → TookAsked ts ts cs cs
unasked ts cs n = record {
  tree = None;
  spelt = refl;
  coded = sym (append-nil cs);
  onward = framed_on last ts ∙ ap (λ p. fits p (rest ts)) (cond-false (is Asks (first_sign ts)) (due 0 former) (cond (is Arrow (first_sign ts)) pieces lost) n);
}

-- the arrow
pub no_arrow : (ts us : List Lexeme) (cs ds : List Code) → TookAsked ts us cs ds → is Arrow (first_sign us) ≡ false → fits (framed last) ts ≡ false
no_arrow ts us cs ds t n = t.onward ∙ ap (λ p. fits p (rest us)) (cond-false (is Arrow (first_sign us)) pieces lost n) ∙ never (rest us)
