-- Letters to ignore, and the verdict on a whole line.
use Rattle.std.proofs.Common.{◌≡◌, ℕ, suc, ◌+◌, true, false, cond, List, [], ◌∷◌, ◌++◌, map, length, sym, refl, ap, ◌∙◌, append-nil, arith, length-append}
use Rattle.std.proofs.lemmas.Bool.{both_ways}
use Rattle.tokens.specs.declared.token.Sign.TheVariants.{Ignores}
use Rattle.tokens.specs.Tokens.{Lexeme, sign, tokens}
use Rattle.book.specs.Rules.{Rule}
use Rattle.book.specs.Books.{rule, ignores as ignored}
use Rattle.book.specs.Grammar.{Glyph, glyph, RuleTree, ignoring, ruling, spells_line}
use Rattle.book.specs.Meanings.{letter_of, rule_sense}
use Rattle.lines.specs.Reading.{Says, Unspelt}
use Rattle.lines.specs.Fits.{starts_glyph, begins, ignores, lost, fits}
use Rattle.lines.specs.Parts.{TookLetter, TookLetters}
use Rattle.lines.proofs.Complete.{complete, at_ignored}
use Rattle.lines.proofs.Signs.{never}

-- letters that ended at the tokens us go on to vs
abbrev pub OnwardLetters : List Lexeme → List Lexeme → List ℕ → List ℕ → Type 0
OnwardLetters us vs bs cs = (ts : List Lexeme) → TookLetters ts us bs → TookLetters ts vs cs

pub no_letter : (ts : List Lexeme) → starts_glyph ts ≡ false → fits (ignores false) ts ≡ false
no_letter [] h = refl
no_letter (t ∷ ts) h = ap (λ b. fits (cond b (ignores true) lost) ts) h ∙ never ts

pub first_letter : (b : ℕ) (ts us : List Lexeme) (bs : List ℕ) → TookLetter ts us b → bs ≡ b ∷ [] → TookLetters ts us bs
first_letter b ts us bs l e = record {
  first_is = l.glyph_is;
  more = [];
  spelt = l.spelt;
  meant = ap (λ (n : ℕ). n ∷ []) l.meant ∙ sym e;
  onward = ap (fits (ignores false)) l.spelt ∙ at_ignored l.glyph_is false us;
}

glyphs_more : (ls : List Glyph) (l : Glyph) (us : List Lexeme) → map glyph (ls ++ (l ∷ [])) ++ us ≡ map glyph ls ++ (glyph l ∷ us)
glyphs_more [] l us = refl
glyphs_more (k ∷ ls) l us = ap (λ (x : List Lexeme). glyph k ∷ x) (glyphs_more ls l us)

letters_more : (ls : List Glyph) (l : Glyph) → map letter_of (ls ++ (l ∷ [])) ≡ map letter_of ls ++ (letter_of l ∷ [])
letters_more [] l = refl
letters_more (k ∷ ls) l = ap (λ (x : List ℕ). letter_of k ∷ x) (letters_more ls l)

pub one_letter : (b : ℕ) (ts us vs : List Lexeme) (bs cs : List ℕ) → TookLetters ts us bs → TookLetter us vs b → cs ≡ bs ++ (b ∷ []) → TookLetters ts vs cs
one_letter b ts us vs bs cs a l pushed = record {
  first_is = a.first_is;
  more = a.more ++ (l.glyph_is ∷ []);
  spelt = a.spelt ∙ ap (λ (x : List Lexeme). glyph a.first_is ∷ x) (ap (λ (x : List Lexeme). map glyph a.more ++ x) l.spelt ∙ sym (glyphs_more a.more l.glyph_is vs));
  meant =
      ap (λ (x : List ℕ). letter_of a.first_is ∷ x) (letters_more a.more l.glyph_is)
      ∙ (λ i. a.meant i ++ (l.meant i ∷ []))
      ∙ sym pushed;
  onward = a.onward ∙ ap (fits (ignores true)) l.spelt ∙ at_ignored l.glyph_is true vs;
}

length_glyphs : (ls : List Glyph) → length (map glyph ls) ≡ length (map letter_of ls)
length_glyphs [] = refl
length_glyphs (l ∷ ls) = ap suc (length_glyphs ls)

-- each letter has a token of its own
pub room_letters : (ts us : List Lexeme) (bs : List ℕ) → TookLetters ts us bs → length bs + length us ≡ length ts
room_letters ts us bs t =
    let a = ap length t.spelt in
    let b = length-append (map glyph t.more) us in
    let c = ap length t.meant in
    let d = length_glyphs t.more in
    omega arith

pub lost_letter : (ts us : List Lexeme) (bs : List ℕ) → TookLetters ts us bs → (us ≡ [] → ⊥) → starts_glyph us ≡ false → fits (ignores false) ts ≡ false
lost_letter ts us bs t some h = t.onward ∙ go us some h
  where
    go : (us : List Lexeme) → (us ≡ [] → ⊥) → starts_glyph us ≡ false → fits (ignores true) us ≡ false
    go [] some h = absurd (some refl)
    go (u ∷ us) some h = ap (λ b. fits (cond b (ignores true) lost) us) h ∙ never us

-- tokens that no line goes on with are spelt by no line
pub unspelt : (bs : List ℕ) → fits begins (tokens bs) ≡ false → Unspelt bs
unspelt bs l t e = both_ways (fits begins (tokens bs)) l (ap (fits begins) (sym e) ∙ complete t)

pub says_rule : (bs : List ℕ) (ts : List Lexeme) (t : RuleTree) (u : Rule) → ts ≡ tokens bs → spells_line (ruling t) ≡ ts → rule_sense t ≡ u → Says bs (rule u)
says_rule bs ts t u e s m = record { tree = ruling t; spelt = s ∙ e; meant = ap rule m }

pub says_letters : (bs : List ℕ) (ts us : List Lexeme) (ls : List ℕ) → ts ≡ tokens bs → ts ≡ sign Ignores ∷ us → TookLetters us [] ls → Says bs (ignored ls)
says_letters bs ts us ls e head t = record {
  tree = ignoring t.first_is t.more;
  spelt = sym (head ∙ ap (λ (x : List Lexeme). sign Ignores ∷ x) (t.spelt ∙ ap (λ (x : List Lexeme). glyph t.first_is ∷ x) (append-nil (map glyph t.more)))) ∙ e;
  meant = ap ignored t.meant;
}
