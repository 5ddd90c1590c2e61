-- What each step of reading a sum keeps, and what its refusals show.
use Rattle.std.proofs.Common.{◌≡◌, ℕ, suc, ◌<◌, ◌≤◌, true, false, cond, leb, List, [], ◌∷◌, ◌++◌, length, IsErrAnd, Option, Some, None, IfSome, Ok, Err, Result, is_ok, Bool, sym, refl, ap, ◌∙◌, append_assoc, arith}
use Rattle.std.specs.Option.{ok_or}
use Rattle.std.specs.Str.{all_ascii_digits}
use Rattle.std.proofs.lemmas.Result.{err_from_is_err_and}
use Rattle.std.proofs.lemmas.Bool.{both_ways, cond-false, lt-leb}
use Rattle.std.proofs.lemmas.Bool.Decides.{nat_tests}
use Rattle.word.specs.Text.{worth}
use Rattle.word.specs.Text as text
use Rattle.tokens.specs.declared.token.Sign.{Sign}
use Rattle.tokens.specs.declared.token.Sign.TheVariants.{Minus, Opens, Closes, Stray}
use Rattle.tokens.specs.Tokens.{Lexeme, number, name, sign}
use Rattle.tokens.specs.Readers.{leading, first_sign, rest}
use Rattle.expr.specs.declared.code.Code.{Code}
use Rattle.expr.specs.declared.code.Code.TheVariants.{Number, Name, Negate}
use Rattle.rules.specs.declared.refusal.Refusal.{Refusal}
use Rattle.rules.specs.declared.refusal.Refusal.TheVariants.{NotByGrammar}
use Rattle.book.specs.Grammar.{Part, sum, product, factor, operand, Tree, digits, named, group, plain, negated, one_factor, times, over, one_product, plus, less, spells}
use Rattle.book.specs.Meanings.{sense}
use Rattle.lines.specs.Fits.{is, joins, Side, Place, due, bare, read, lost, counted, fits, start, finish}
use Rattle.lines.specs.Parts.{Multiplying, by_times, by_over, Adding, by_plus, by_minus, part_code, Took, Lost}
use Rattle.lines.specs.Parsing.{Read}
use Rattle.lines.proofs.Complete.{after_join, follows}
use Rattle.lines.proofs.Signs.{never, read_on}

-- a part that ended at the tokens ts and the code cs goes on to us and ds
abbrev pub Onward : Part → List Lexeme → List Lexeme → List Code → List Code → Type 0
Onward k ts us cs ds = (ws : List Lexeme) (bs : List Code) → Took k ws ts bs cs → Took k ws us bs ds

-- one more part k2, after a sign s, with the code xs behind it
module _ (k k2 : Part) (s : Sign) (xs : List Code) (joined : (t : Tree k) (u : Tree k2) → (q : Tree k) × (spells q ≡ spells t ++ (sign s ∷ spells u)) × (part_code k (sense q) ≡ (part_code k (sense t) ++ part_code k2 (sense u)) ++ xs)) where
  pub with_more : (ts us ws vs : List Lexeme) (cs ds es fs : List Code) → Took k ts us cs ds → us ≡ sign s ∷ ws → Took k2 ws vs ds es → fs ≡ es ++ xs → Took k ts vs cs fs
  with_more ts us ws vs cs ds es fs a head b pushed =
      let q = joined a.tree b.tree in
      let x = part_code k (sense a.tree) in
      let y = part_code k2 (sense b.tree) in
      record {
        tree = q.0;
        spelt = a.spelt ∙ ap (λ l. spells a.tree ++ l) (head ∙ ap (λ l. sign s ∷ l) b.spelt) ∙ sym (append_assoc (spells a.tree) (sign s ∷ spells b.tree) vs) ∙ ap (λ l. l ++ vs) (sym q.1);
        coded = pushed ∙ ap (λ l. l ++ xs) (b.coded ∙ ap (λ l. l ++ y) a.coded) ∙ ap (λ l. l ++ xs) (append_assoc cs x y) ∙ append_assoc cs (x ++ y) xs ∙ ap (λ l. cs ++ l) (sym q.2);
      }

multiplied : {s : Sign} {c : Code} → Multiplying s c → (p : Tree product) (f : Tree factor) → (q : Tree product) × (spells q ≡ spells p ++ (sign s ∷ spells f)) × (part_code product (sense q) ≡ (part_code product (sense p) ++ part_code factor (sense f)) ++ (c ∷ []))
multiplied by_times p f = (times p f, refl, refl)
multiplied by_over p f = (over p f, refl, refl)

added : {s : Sign} {c : Code} → Adding s c → (p : Tree sum) (f : Tree product) → (q : Tree sum) × (spells q ≡ spells p ++ (sign s ∷ spells f)) × (part_code sum (sense q) ≡ (part_code sum (sense p) ++ part_code product (sense f)) ++ (c ∷ []))
added by_plus p f = (plus p f, refl, refl)
added by_minus p f = (less p f, refl, refl)

pub more_factors : {s : Sign} {c : Code} (ts us ws vs : List Lexeme) (cs ds es fs : List Code) → Multiplying s c → Onward product ts us cs ds → us ≡ sign s ∷ ws → Took factor ws vs ds es → fs ≡ es ++ (c ∷ []) → Onward product ts vs cs fs
more_factors {s} {c} ts us ws vs cs ds es fs m g head took pushed xs bs t = with_more product factor s (c ∷ []) (multiplied m) xs us ws vs bs ds es fs (g xs bs t) head took pushed

pub more_products : {s : Sign} {c : Code} (ts us ws vs : List Lexeme) (cs ds es fs : List Code) → Adding s c → Onward sum ts us cs ds → us ≡ sign s ∷ ws → Took product ws vs ds es → fs ≡ es ++ (c ∷ []) → Onward sum ts vs cs fs
more_products {s} {c} ts us ws vs cs ds es fs m g head took pushed xs bs t = with_more sum product s (c ∷ []) (added m) xs us ws vs bs ds es fs (g xs bs t) head took pushed

pub as_product : {ts us : List Lexeme} {cs ds : List Code} → Took factor ts us cs ds → Took product ts us cs ds
as_product t = record { tree = one_factor t.tree; spelt = t.spelt; coded = t.coded }

pub as_sum : {ts us : List Lexeme} {cs ds : List Code} → Took product ts us cs ds → Took sum ts us cs ds
as_sum t = record { tree = one_product t.tree; spelt = t.spelt; coded = t.coded }

pub as_factor : {ts us : List Lexeme} {cs ds : List Code} → Took operand ts us cs ds → Took factor ts us cs ds
as_factor t = record { tree = plain t.tree; spelt = t.spelt; coded = t.coded }

pub as_negated : (ts ws us : List Lexeme) (cs ds es : List Code) → ts ≡ sign Minus ∷ ws → Took operand ws us cs ds → es ≡ ds ++ (Negate ∷ []) → Took factor ts us cs es
as_negated ts ws us cs ds es head t pushed = record {
  tree = negated t.tree;
  spelt = head ∙ ap (λ l. sign Minus ∷ l) t.spelt;
  coded = pushed ∙ ap (λ l. l ++ (Negate ∷ [])) t.coded ∙ append_assoc cs (part_code operand (sense t.tree)) (Negate ∷ []);
}

-- refusals
pub lost_after : (k : Part) (ts us : List Lexeme) (cs ds : List Code) → Took k ts us cs ds → ((d : ℕ) (r : Side) → fits (finish k d r) us ≡ false) → Lost k ts
lost_after k ts us cs ds t h d r = ap (fits (start k d r)) t.spelt ∙ follows t.tree us d r ∙ h d r

multiplies_on : {s : Sign} {c : Code} → Multiplying s c → (us : List Lexeme) (d : ℕ) (r : Side) → fits (read d r) (sign s ∷ us) ≡ fits (due d r) us
multiplies_on by_times us d r = (after_join d r us).2
multiplies_on by_over us d r = (after_join d r us).3

adds_on : {s : Sign} {c : Code} → Adding s c → (us : List Lexeme) (d : ℕ) (r : Side) → fits (read d r) (sign s ∷ us) ≡ fits (due d r) us
adds_on by_plus us d r = (after_join d r us).0
adds_on by_minus us d r = (after_join d r us).1

pub lost_factor : {s : Sign} {c : Code} (ts us ws : List Lexeme) (cs ds : List Code) → Multiplying s c → Took product ts us cs ds → us ≡ sign s ∷ ws → Lost factor ws → Lost product ts
lost_factor ts us ws cs ds m t head l = lost_after product ts us cs ds t (λ d r. ap (fits (read d r)) head ∙ multiplies_on m ws d r ∙ l d r)

pub lost_product : {s : Sign} {c : Code} (ts us ws : List Lexeme) (cs ds : List Code) → Adding s c → Took sum ts us cs ds → us ≡ sign s ∷ ws → Lost product ws → Lost sum ts
lost_product ts us ws cs ds m t head l = lost_after sum ts us cs ds t (λ d r. ap (fits (read d r)) head ∙ adds_on m ws d r ∙ l d r)

-- without a minus a factor is an operand
unsigned : (ts : List Lexeme) (d : ℕ) (r : Side) → is Minus (first_sign ts) ≡ false → fits (due d r) ts ≡ fits (bare d r) ts
unsigned [] d r n = refl
unsigned (number ds ∷ ts) d r n = refl
unsigned (name c ∷ ts) d r n = refl
unsigned (sign s ∷ ts) d r n = ap (λ p. fits p ts) (cond-false (is Minus s) (bare d r) (cond (is Opens s) (due (suc d) r) lost) n)

pub widened : (x : Result (Unit {0}) Refusal) (ts us : List Lexeme) (cs ds : List Code) → is Minus (first_sign ts) ≡ false → Read (λ _. Took operand ts us cs ds × Unit {0}) (Lost operand ts) x → Read (λ _. Took factor ts us cs ds × Unit {0}) (Lost factor ts) x
widened (Ok u) ts us cs ds n h = (as_factor h.0, tt)
widened (Err e) ts us cs ds n h = (h.0, λ d r. unsigned ts d r n ∙ h.1 d r)

-- a number has at most 7 digits
pub numbered : (p : List ℕ) (n : ℕ) → Some n ≡ text.number p → (length p ≤ 7) × (n ≡ worth p)
numbered p n e = (grind (arith, nat_tests), grind (arith, nat_tests))

pub unnumbered : (p : List ℕ) → None ≡ text.number p → 0 < length p → all_ascii_digits p ≡ true → (q : Place) → counted p q ≡ lost
unnumbered p e some all q = let long : 7 < length p = grind (arith, nat_tests) in cond-false (leb (length p) 7) q lost (lt-leb (length p) 7 long)

-- an operand, by its first token
pub read_number : (us : List Lexeme) (cs ds : List Code) (p : List ℕ) (n : ℕ) → Some n ≡ text.number p → ds ≡ cs ++ (Number n ∷ []) → Took operand (number p ∷ us) us cs ds
read_number us cs ds p n e pushed =
    let f = numbered p n e in
    record { tree = digits p f.0; spelt = refl; coded = pushed ∙ ap (λ m. cs ++ (Number m ∷ [])) f.1 }

pub read_name : (us : List Lexeme) (cs ds : List Code) (b : ℕ) → ds ≡ cs ++ (Name b ∷ []) → Took operand (name b ∷ us) us cs ds
read_name us cs ds b e = record { tree = named b; spelt = refl; coded = e }

pub read_group : (ts us vs : List Lexeme) (cs ds : List Code) → Took sum ts us cs ds → us ≡ sign Closes ∷ vs → Took operand (sign Opens ∷ ts) vs cs ds
read_group ts us vs cs ds t head = record {
  tree = group t.tree;
  spelt = ap (λ l. sign Opens ∷ l) (t.spelt ∙ ap (λ l. spells t.tree ++ l) head ∙ sym (append_assoc (spells t.tree) (sign Closes ∷ []) vs));
  coded = t.coded;
}

pub lost_number : (us : List Lexeme) (p : List ℕ) → None ≡ text.number p → 0 < length p → all_ascii_digits p ≡ true → Lost operand (number p ∷ us)
lost_number us p e some all d r = ap (λ q. fits q us) (unnumbered p e some all (read d r)) ∙ never us

-- after a sum inside parentheses only `)` may stand
pub lost_open : (ts us : List Lexeme) (cs ds : List Code) → Took sum ts us cs ds → joins (first_sign us) ≡ false → is Closes (first_sign us) ≡ false → Lost operand (sign Opens ∷ ts)
lost_open ts us cs ds t h n d r =
    let s = first_sign us in
    ap (fits (due (suc d) r)) t.spelt
    ∙ follows t.tree us (suc d) r
    ∙ read_on (suc d) r us
    ∙ ap (λ p. fits p (rest us)) (cond-false (joins s) (due (suc d) r) (cond (is Closes s) (read d r) lost) h ∙ cond-false (is Closes s) (read d r) lost n)
    ∙ never (rest us)

pub lost_sign : (s : Sign) (us : List Lexeme) → is Opens s ≡ false → Lost operand (sign s ∷ us)
lost_sign s us n d r = ap (λ p. fits p us) (cond-false (is Opens s) (due (suc d) r) lost n) ∙ never us

pub read_closed : (x : Result (Unit {0}) Refusal) (ts us vs : List Lexeme) (cs ds : List Code) → Took sum ts us cs ds → joins (first_sign us) ≡ false → Read (λ _. us ≡ sign Closes ∷ vs) (is Closes (first_sign us) ≡ false) x → Read (λ _. Took operand (sign Opens ∷ ts) vs cs ds × Unit {0}) (Lost operand (sign Opens ∷ ts)) x
read_closed (Ok u) ts us vs cs ds t h q = (read_group ts us vs cs ds t q, tt)
read_closed (Err e) ts us vs cs ds t h q = (q.0, lost_open ts us cs ds t h q.1)

-- a refusal by the grammar is passed on
pub refused : {A : Type 0} {e : Refusal} (x : Result A Refusal) → IsErrAnd x (λ y. y ≡ e) → e ≡ NotByGrammar → x ≡ Err NotByGrammar
refused x by h = let p = err_from_is_err_and x by in p.1 ∙ ap Err (p.2 ∙ h)

-- what stands for None and Some behind `ok_or`
pub missing : {A : Type 0} (o : Option A) (e : Refusal) → Err e ≡ ok_or o NotByGrammar → (o ≡ None) × (e ≡ NotByGrammar)
missing None e h = (refl, grind arith)
missing (Some x) e h = absurd (both_ways true (ap is_ok (sym h)) refl)

pub there : {A : Type 0} (o : Option A) (x : A) → Ok x ≡ ok_or o NotByGrammar → Some x ≡ o
there None x h = absurd (both_ways true (ap is_ok h) refl)
there (Some y) x h = grind arith

-- the sign that stands first, if one does, fails a test
pub no_sign : {P : Sign → Type 0} (test : Sign → Bool) → test Stray ≡ false → (ts : List Lexeme) → IfSome (leading ts) P → ((s : Sign) → P s → test s ≡ false) → test (first_sign ts) ≡ false
no_sign test e [] h k = e
no_sign test e (number ds ∷ ts) h k = e
no_sign test e (name c ∷ ts) h k = e
no_sign test e (sign s ∷ ts) h k = k s h
