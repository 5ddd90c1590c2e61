-- What each step of reading the head of a rule keeps, and what its refusals show.
use Rattle.std.proofs.Common.{◌≡◌, ℕ, zero, suc, ◌+◌, ◌-◌, ◌<◌, ◌≤◌, true, false, cond, List, [], ◌∷◌, ◌++◌, map, length, Some, None, Ok, Err, Result, sym, refl, ap, ◌∙◌, append_assoc, arith, length-append, lit≤}
use Rattle.std.specs.Str.{all_ascii_digits}
use Rattle.std.proofs.lemmas.Bool.{cond-false}
use Rattle.word.specs.Text as text
use Rattle.tokens.specs.declared.token.Sign.{Sign}
use Rattle.tokens.specs.declared.token.Sign.TheVariants.{Opens, Closes, Comma, Less, More, Colon, Ignores}
use Rattle.tokens.specs.declared.token.Token.{Token}
use Rattle.tokens.specs.declared.token.Token.TheVariants.{Number, Name, Sign as Mark}
use Rattle.tokens.specs.Tokens.{Lexeme, number, name, sign, sign_of, tokens}
use Rattle.tokens.specs.Readers.{means, first_sign, rest}
use Rattle.book.specs.declared.form.Form.{Form as StoredForm}
use Rattle.rules.specs.declared.refusal.Refusal.{Refusal}
use Rattle.rows.proofs.Held.{within as within_row}
use Rattle.book.specs.Records.{form_of}
use Rattle.book.specs.Grammar.{glyph, within, spells_form}
use Rattle.lines.specs.Fits.{is, starts_glyph, Which, first, middle, last, begins, numbered as numbered-place, ignores, form_due, formed, framed, name_due, name_read, lost, on, named_on, fits}
use Rattle.lines.specs.Parts.{TookLetter, TookNames, TookForm, TookSides, TookBehind}
use Rattle.lines.specs.Parsing.{Read, Unruled}
use Rattle.lines.proofs.Complete.{counts, at_form}
use Rattle.lines.proofs.Commas.{commas, commas_closed, commas_more}
use Rattle.lines.proofs.Signs.{never, name_read_on, formed_on, framed_on, numbered_on}
use Rattle.lines.proofs.Steps.{numbered, unnumbered}

abbrev pub word : ℕ → List Lexeme
word c = name c ∷ []

abbrev pub count : StoredForm → ℕ
count f = length (form_of f).names

pub count_few : (f : StoredForm) → count f ≤ 3
count_few f = within_row f.names

-- from the tokens ts and the form f, more names were read, each behind a comma, which left the tokens us and the form g
pub record Naming (f g : StoredForm) (ts us : List Lexeme) : Type 0 where
  pub more : List ℕ
  pub letter_is : g.letter ≡ f.letter
  pub names_are : (form_of g).names ≡ (form_of f).names ++ more
  pub spelt : ts ≡ commas word more ++ us
  pub onward : (w : Which) → fits (name_read w (3 - count f)) ts ≡ fits (name_read w (3 - count g)) us

-- a comma asks for a name, where one more may stand
pub comma_on : (n : ℕ) (us ws : List Lexeme) → n < 3 → us ≡ sign Comma ∷ ws → (w : Which) → fits (name_read w (3 - n)) us ≡ fits (name_due w (3 - (n + 1))) ws
comma_on n us ws h head w =
    let m : 3 - n ≡ suc (3 - (n + 1)) = omega arith in
    ap (λ k. fits (name_read w k) us) m ∙ ap (fits (name_read w (suc (3 - (n + 1))))) head

-- one name more
one_longer : (xs ys : List ℕ) (b : ℕ) → xs ≡ ys ++ (b ∷ []) → length xs ≡ length ys + 1
one_longer xs ys b e = ap length e ∙ length-append ys (b ∷ [])

pub one_name : (f g h : StoredForm) (b : ℕ) (ts us ws vs : List Lexeme) → Naming f g ts us → count g < 3 → us ≡ sign Comma ∷ ws → ws ≡ name b ∷ vs → h.letter ≡ g.letter → (form_of h).names ≡ (form_of g).names ++ (b ∷ []) → Naming f h ts vs
one_name f g h b ts us ws vs t few head next same more = record {
  more = t.more ++ (b ∷ []);
  letter_is = same ∙ t.letter_is;
  names_are = more ∙ ap (λ (l : List ℕ). l ++ (b ∷ [])) t.names_are ∙ append_assoc (form_of f).names t.more (b ∷ []);
  spelt = t.spelt ∙ ap (λ (l : List Lexeme). commas word t.more ++ l) (head ∙ ap (λ (l : List Lexeme). sign Comma ∷ l) next) ∙ sym (commas_more word t.more b vs);
  onward = λ w. t.onward w ∙ comma_on (count g) us ws few head w ∙ ap (fits (name_due w (3 - (count g + 1)))) next ∙ ap (λ k. fits (name_read w (3 - k)) vs) (sym (one_longer (form_of h).names (form_of g).names b more));
}

closed_on : (w : Which) (n : ℕ) (us : List Lexeme) → fits (name_read w n) (sign Closes ∷ us) ≡ fits (framed w) us
closed_on w zero us = refl
closed_on w (suc n) us = refl

named_lost : (w : Which) (n : ℕ) (s : Sign) → is Closes s ≡ false → is Comma s ≡ false → named_on w n s ≡ lost
named_lost w zero s h k = cond-false (is Closes s) (framed w) lost h
named_lost w (suc n) s h k = cond-false (is Closes s) (framed w) (cond (is Comma s) (name_due w n) lost) h ∙ cond-false (is Comma s) (name_due w n) lost k

-- names from the first one on
module _ (bare f : StoredForm) (b : ℕ) (ts us : List Lexeme) (zeroth : (form_of bare).names ≡ []) (head : ts ≡ name b ∷ us) (same : f.letter ≡ bare.letter) (names : (form_of f).names ≡ (form_of bare).names ++ (b ∷ [])) where
  first_name : (form_of f).names ≡ b ∷ []
  first_name = names ∙ ap (λ (l : List ℕ). l ++ (b ∷ [])) zeroth

  starts : (w : Which) → fits (name_due w 2) ts ≡ fits (name_read w (3 - count f)) us
  starts w = let e : 3 - count f ≡ 2 = omega (arith, ap length first_name) in ap (fits (name_due w 2)) head ∙ ap (λ k. fits (name_read w k) us) (sym e)

  pub took_names : (g : StoredForm) (vs xs : List Lexeme) → Naming f g us vs → vs ≡ sign Closes ∷ xs → TookNames bare.letter ts xs g
  took_names g vs xs t closes =
      let all : (form_of g).names ≡ b ∷ t.more = t.names_are ∙ ap (λ (l : List ℕ). l ++ t.more) first_name in
      let most = count_few g in
      record {
        letter_is = t.letter_is ∙ same;
        few = omega arith;
        spelt =
            ap (λ (l : List Lexeme). sign Opens ∷ l) (head ∙ ap (λ (l : List Lexeme). name b ∷ l) (t.spelt ∙ ap (λ (l : List Lexeme). commas word t.more ++ l) closes ∙ commas_closed word t.more xs))
            ∙ ap (λ (l : List ℕ). within (map word l) ++ xs) (sym all);
        onward = λ w. starts w ∙ t.onward w ∙ ap (fits (name_read w (3 - count g))) closes ∙ closed_on w (3 - count g) xs;
      }

  pub lost_fourth : (g : StoredForm) (vs ws : List Lexeme) → Naming f g us vs → count g ≡ 3 → vs ≡ sign Comma ∷ ws → (w : Which) → fits (name_due w 2) ts ≡ false
  lost_fourth g vs ws t full comma w =
      let e : 3 - count g ≡ 0 = omega arith in
      starts w ∙ t.onward w ∙ ap (λ k. fits (name_read w k) vs) e ∙ ap (fits (name_read w 0)) comma ∙ never ws

  pub lost_name : (g : StoredForm) (vs ws : List Lexeme) → Naming f g us vs → count g < 3 → vs ≡ sign Comma ∷ ws → ((w : Which) (n : ℕ) → fits (name_due w n) ws ≡ false) → (w : Which) → fits (name_due w 2) ts ≡ false
  lost_name g vs ws t few comma l w = starts w ∙ t.onward w ∙ comma_on (count g) vs ws few comma w ∙ l w (3 - (count g + 1))

  pub lost_close : (g : StoredForm) (vs : List Lexeme) → Naming f g us vs → is Comma (first_sign vs) ≡ false → is Closes (first_sign vs) ≡ false → (w : Which) → fits (name_due w 2) ts ≡ false
  lost_close g vs t h k w =
      starts w ∙ t.onward w ∙ name_read_on w (3 - count g) vs ∙ ap (λ p. fits p (rest vs)) (named_lost w (3 - count g) (first_sign vs) k h) ∙ never (rest vs)

-- a form
pub no_form : (ts : List Lexeme) → starts_glyph ts ≡ false → (w : Which) → fits (form_due w) ts ≡ false
no_form [] h w = refl
no_form (t ∷ ts) h w = ap (λ b. fits (cond b (formed w) lost) ts) h ∙ never ts

pub read_named : (x : Result StoredForm Refusal) (b : ℕ) (ts us ws vs : List Lexeme) → TookLetter ts us b → us ≡ sign Opens ∷ ws → Read (λ f. TookNames b ws vs f) ((w : Which) → fits (name_due w 2) ws ≡ false) x → Read (λ f. TookForm ts vs f) ((w : Which) → fits (form_due w) ts ≡ false) x
read_named (Ok f) b ts us ws vs l head t = record {
  tree = record { glyph = l.glyph_is; names = (form_of f).names; few = t.few };
  spelt = l.spelt ∙ ap (λ x. glyph l.glyph_is ∷ x) (head ∙ t.spelt);
  meant = λ i. record { letter = (l.meant ∙ sym t.letter_is) i; names = (form_of f).names };
  onward = λ w. ap (fits (form_due w)) l.spelt ∙ at_form l.glyph_is w us ∙ ap (fits (formed w)) head ∙ t.onward w;
}
read_named (Err e) b ts us ws vs l head h =
    (h.0, λ w. ap (fits (form_due w)) l.spelt ∙ at_form l.glyph_is w us ∙ ap (fits (formed w)) head ∙ h.1 w)

pub read_bare : (f : StoredForm) (ts us : List Lexeme) → TookLetter ts us f.letter → (form_of f).names ≡ [] → is Opens (first_sign us) ≡ false → TookForm ts us f
read_bare f ts us l zeroth n = record {
  tree = record { glyph = l.glyph_is; names = []; few = lit≤ tt };
  spelt = l.spelt;
  meant = λ i. record { letter = l.meant i; names = sym zeroth i };
  onward = λ w.
      ap (fits (form_due w)) l.spelt
      ∙ at_form l.glyph_is w us
      ∙ formed_on w us
      ∙ ap (λ p. fits p (rest us)) (cond-false (is Opens (first_sign us)) (name_due w 2) (on w (first_sign us)) n)
      ∙ sym (framed_on w us);
}

-- the sides
pub two_sides : (f g : StoredForm) (ts us ws vs : List Lexeme) → TookForm ts us f → us ≡ sign Less ∷ ws → TookForm ws vs g → TookSides ts vs (Some f) g
two_sides f g ts us ws vs a head b = record {
  before = Some a.tree;
  predecessor = b.tree;
  spelt = a.spelt ∙ ap (λ l. spells_form a.tree ++ l) (head ∙ ap (λ l. sign Less ∷ l) b.spelt) ∙ sym (append_assoc (spells_form a.tree) (sign Less ∷ []) (spells_form b.tree ++ vs));
  before_meant = ap Some a.meant;
  meant = b.meant;
  onward = a.onward first ∙ ap (fits (framed first)) head ∙ b.onward middle;
}

pub one_side : (f : StoredForm) (ts us : List Lexeme) → TookForm ts us f → is Less (first_sign us) ≡ false → TookSides ts us None f
one_side f ts us a n = record {
  before = None;
  predecessor = a.tree;
  spelt = a.spelt;
  before_meant = refl;
  meant = a.meant;
  onward =
      a.onward first
      ∙ framed_on first us
      ∙ ap (λ p. fits p (rest us)) (cond-false (is Less (first_sign us)) (form_due middle) (on middle (first_sign us)) n)
      ∙ sym (framed_on middle us);
}

pub some_behind : (f : StoredForm) (ts ws us : List Lexeme) → ts ≡ sign More ∷ ws → TookForm ws us f → TookBehind ts us (Some f)
some_behind f ts ws us head a = record {
  behind = Some a.tree;
  spelt = head ∙ ap (λ l. sign More ∷ l) a.spelt;
  meant = ap Some a.meant;
  onward = ap (fits (framed middle)) head ∙ a.onward last;
}

pub none_behind : (ts : List Lexeme) → is More (first_sign ts) ≡ false → TookBehind ts ts None
none_behind ts n = record {
  behind = None;
  spelt = refl;
  meant = refl;
  onward =
      framed_on middle ts
      ∙ ap (λ p. fits p (rest ts)) (cond-false (is More (first_sign ts)) (form_due last) (on last (first_sign ts)) n)
      ∙ sym (framed_on last ts);
}

-- the printed number
pub no_number : (t : Token) (ts : List Lexeme) (bs : List ℕ) → ts ≡ means (Some t) ++ tokens bs → ((p : _) → t ≡ Number p → ⊥) → Unruled ts
no_number (Number p) ts bs e other n = absurd (other p refl)
no_number (Name p) ts bs e other n = ap (fits begins) e ∙ never (tokens bs)
no_number (Mark p) ts bs e other n =
    let s = sign_of p.now in
    ap (fits begins) e ∙ ap (λ q. fits q (tokens bs)) (cond-false (is Ignores s) (ignores false) lost (ap (λ l. is Ignores (first_sign l)) (sym e) ∙ n)) ∙ never (tokens bs)

pub long_number : (p : List ℕ) (ts us : List Lexeme) → ts ≡ number p ∷ us → None ≡ text.number p → 0 < length p → all_ascii_digits p ≡ true → fits begins ts ≡ false
long_number p ts us e none some all = ap (fits begins) e ∙ ap (λ q. fits q us) (unnumbered p none some all numbered-place) ∙ never us

pub no_colon : (p : List ℕ) (n : ℕ) (ts us : List Lexeme) → ts ≡ number p ∷ us → Some n ≡ text.number p → is Colon (first_sign us) ≡ false → fits begins ts ≡ false
no_colon p n ts us e some other =
    ap (fits begins) e
    ∙ ap (λ q. fits q us) (counts p numbered-place (numbered p n some).0)
    ∙ numbered_on us
    ∙ ap (λ q. fits q (rest us)) (cond-false (is Colon (first_sign us)) (form_due first) lost other)
    ∙ never (rest us)
