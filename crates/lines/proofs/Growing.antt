-- What each step of reading a successor keeps, and what its refusals show.
use Rattle.std.proofs.Common.{◌≡◌, ℕ, zero, suc, ◌+◌, ◌-◌, ◌<◌, ◌≤◌, true, false, cond, List, [], ◌∷◌, ◌++◌, map, length, sym, refl, ap, ◌∙◌, append_assoc, append-nil, arith, lit≤, length-append}
use Rattle.std.proofs.lemmas.Bool.{cond-false, both_ways}
use Rattle.tokens.specs.declared.token.Sign.{Sign}
use Rattle.tokens.specs.declared.token.Sign.TheVariants.{Opens, Closes, Comma, Rejoins}
use Rattle.tokens.specs.Tokens.{Lexeme, number, name, sign}
use Rattle.tokens.specs.Readers.{first_sign, rest}
use Rattle.expr.specs.declared.code.Code.{Code}
use Rattle.expr.specs.Codes.{code_of, codes_of}
use Rattle.rules.specs.declared.piece.Piece.{Piece as StoredPiece}
use Rattle.rules.specs.Layout.{successor_code}
use Rattle.book.specs.Grammar.{sum, Tree, spells, glyph, closing, within, PieceTree, branches, rejoins, grown, spells_piece, spells_pieces}
use Rattle.book.specs.Meanings.{sense, piece_sense}
use Rattle.lines.specs.Fits.{is, joins, is_glyph, is_bracket_sign, starts_glyph, argument, due, read, pieces, lettered, lost, piece_on, summed, fits}
use Rattle.lines.specs.Parts.{Took, Lost, TookLetter, TookArguments, Outline, outlined, outline, TookPiece, TookPieces}
use Rattle.lines.proofs.Complete.{follows, lettered_on}
use Rattle.lines.proofs.Room.{short}
use Rattle.lines.proofs.Commas.{commas, commas_closed, commas_more}
use Rattle.lines.proofs.Signs.{never, summed_on}

-- from the tokens ts and the code cs, where n arguments were read, more were, each behind a comma: m in all
pub record Arguing (n m : ℕ) (ts us : List Lexeme) (cs ds : List Code) : Type 0 where
  pub more : List (Tree sum)
  pub spelt : ts ≡ commas spells more ++ us
  pub coded : ds ≡ cs ++ codes_of (map sense more)
  pub count_is : m ≡ n + length more
  pub onward : fits (read 0 (argument (3 - n))) ts ≡ fits (read 0 (argument (3 - m))) us

codes_more : (ss : List (Tree sum)) (t : Tree sum) → codes_of (map sense (ss ++ (t ∷ []))) ≡ codes_of (map sense ss) ++ code_of (sense t)
codes_more [] t = append-nil (code_of (sense t))
codes_more (s ∷ ss) t = ap (λ (l : List Code). code_of (sense s) ++ l) (codes_more ss t) ∙ sym (append_assoc (code_of (sense s)) (codes_of (map sense ss)) (code_of (sense t)))

-- a comma asks for a sum, where one more may stand
comma_on : (m : ℕ) (us ws : List Lexeme) → m < 3 → us ≡ sign Comma ∷ ws → fits (read 0 (argument (3 - m))) us ≡ fits (due 0 (argument (3 - (m + 1)))) ws
comma_on m us ws h head =
    let e : 3 - m ≡ suc (3 - (m + 1)) = omega arith in
    ap (λ k. fits (read 0 (argument k)) us) e ∙ ap (fits (read 0 (argument (suc (3 - (m + 1)))))) head

pub one_argument : (n m : ℕ) (ts us ws vs : List Lexeme) (cs ds es : List Code) → Arguing n m ts us cs ds → m < 3 → us ≡ sign Comma ∷ ws → Took sum ws vs ds es → Arguing n (m + 1) ts vs cs es
one_argument n m ts us ws vs cs ds es a few head t =
    let l = length-append a.more (t.tree ∷ []) in
    let k = a.count_is in
    record {
      more = a.more ++ (t.tree ∷ []);
      spelt = a.spelt ∙ ap (λ (l : List Lexeme). commas spells a.more ++ l) (head ∙ ap (λ (l : List Lexeme). sign Comma ∷ l) t.spelt) ∙ sym (commas_more spells a.more t.tree vs);
      coded = t.coded ∙ ap (λ (l : List Code). l ++ code_of (sense t.tree)) a.coded ∙ append_assoc cs (codes_of (map sense a.more)) (code_of (sense t.tree)) ∙ ap (λ (l : List Code). cs ++ l) (sym (codes_more a.more t.tree));
      count_is = omega arith;
      onward = a.onward ∙ comma_on m us ws few head ∙ ap (fits (due 0 (argument (3 - (m + 1))))) t.spelt ∙ follows t.tree vs 0 (argument (3 - (m + 1)));
    }

closed_on : (n : ℕ) (us : List Lexeme) → fits (read 0 (argument n)) (sign Closes ∷ us) ≡ fits pieces us
closed_on zero us = refl
closed_on (suc n) us = refl

summed_lost : (n : ℕ) (s : Sign) → is Closes s ≡ false → is Comma s ≡ false → summed (argument n) s ≡ lost
summed_lost zero s h k = cond-false (is Closes s) pieces lost h
summed_lost (suc n) s h k = cond-false (is Closes s) pieces (cond (is Comma s) (due 0 (argument n)) lost) h ∙ cond-false (is Comma s) (due 0 (argument n)) lost k

-- arguments from the first one on
module _ (ts us xs : List Lexeme) (cs ds : List Code) (head : ts ≡ sign Opens ∷ xs) (t : Took sum xs us cs ds) where
  starts : fits lettered ts ≡ fits (read 0 (argument 2)) us
  starts = ap (fits lettered) head ∙ ap (fits (due 0 (argument 2))) t.spelt ∙ follows t.tree us 0 (argument 2)

  pub took_arguments : (m : ℕ) (vs ws : List Lexeme) (es : List Code) → Arguing 1 m us vs ds es → m ≤ 3 → vs ≡ sign Closes ∷ ws → TookArguments ts ws cs es m
  took_arguments m vs ws es a few closes =
      let k = a.count_is in
      record {
        trees = t.tree ∷ a.more;
        few = omega arith;
        spelt =
            head
            ∙ ap (λ (l : List Lexeme). sign Opens ∷ l)
            (t.spelt
            ∙ ap (λ (l : List Lexeme). spells t.tree ++ l) (a.spelt ∙ ap (λ (l : List Lexeme). commas spells a.more ++ l) closes ∙ commas_closed spells a.more ws)
            ∙ sym (append_assoc (spells t.tree) (closing (map spells a.more)) ws));
        coded = a.coded ∙ ap (λ (l : List Code). l ++ codes_of (map sense a.more)) t.coded ∙ append_assoc cs (code_of (sense t.tree)) (codes_of (map sense a.more));
        count_is = omega arith;
        onward = starts ∙ a.onward ∙ ap (fits (read 0 (argument (3 - m)))) closes ∙ closed_on (3 - m) ws;
      }

  pub lost_fourth : (m : ℕ) (vs ws : List Lexeme) (es : List Code) → Arguing 1 m us vs ds es → m ≡ 3 → vs ≡ sign Comma ∷ ws → fits lettered ts ≡ false
  lost_fourth m vs ws es a full comma =
      let e : 3 - m ≡ 0 = omega arith in
      starts ∙ a.onward ∙ ap (λ k. fits (read 0 (argument k)) vs) e ∙ ap (fits (read 0 (argument 0))) comma ∙ never ws

  pub lost_next : (m : ℕ) (vs ws : List Lexeme) (es : List Code) → Arguing 1 m us vs ds es → m < 3 → vs ≡ sign Comma ∷ ws → Lost sum ws → fits lettered ts ≡ false
  lost_next m vs ws es a few comma l = starts ∙ a.onward ∙ comma_on m vs ws few comma ∙ l 0 (argument (3 - (m + 1)))

  pub lost_close : (m : ℕ) (vs : List Lexeme) (es : List Code) → Arguing 1 m us vs ds es → joins (first_sign vs) ≡ false → is Comma (first_sign vs) ≡ false → is Closes (first_sign vs) ≡ false → fits lettered ts ≡ false
  lost_close m vs es a j h k =
      starts ∙ a.onward ∙ summed_on (argument (3 - m)) vs j ∙ ap (λ p. fits p (rest vs)) (summed_lost (3 - m) (first_sign vs) k h) ∙ never (rest vs)

-- no argument
unopened : (ts : List Lexeme) → is Opens (first_sign ts) ≡ false → fits lettered ts ≡ fits pieces ts
unopened [] n = refl
unopened (number ds ∷ ts) n = refl
unopened (name c ∷ ts) n = refl
unopened (sign s ∷ ts) n = ap (λ p. fits p ts) (cond-false (is Opens s) (due 0 (argument 2)) (piece_on (sign s)) n)

pub none_argued : (ts : List Lexeme) (cs : List Code) → is Opens (first_sign ts) ≡ false → TookArguments ts ts cs cs 0
none_argued ts cs n = record { trees = []; few = lit≤ tt; spelt = refl; coded = sym (append-nil cs); count_is = refl; onward = unopened ts n }

pub no_piece : (ts : List Lexeme) → (ts ≡ [] → ⊥) → is_bracket_sign (first_sign ts) ≡ false → starts_glyph ts ≡ false → fits pieces ts ≡ false
no_piece [] some n h = absurd (some refl)
no_piece (number ds ∷ ts) some n h = never ts
no_piece (name c ∷ ts) some n h = absurd (both_ways true h refl)
no_piece (sign s ∷ ts) some n h = ap (λ p. fits p ts) (cond-false (is_glyph (sign s)) lettered (cond (is_bracket_sign s) pieces lost) h ∙ cond-false (is_bracket_sign s) pieces lost n) ∙ never ts

pub read_grown : (p : StoredPiece) (ts us vs : List Lexeme) (cs ds : List Code) → TookLetter ts us p.letter → TookArguments us vs cs ds p.count → p.places ≡ length ds - length cs → TookPiece ts vs cs ds p
read_grown p ts us vs cs ds l a e =
    let k = ap length a.coded ∙ length-append cs (codes_of (map sense a.trees)) in
    let size : p.places ≡ length (codes_of (map sense a.trees)) = omega arith in
    let count : p.count ≡ length (map sense a.trees) = a.count_is ∙ sym (length-map a.trees) in
    record {
      tree = grown l.glyph_is a.trees a.few;
      spelt = l.spelt ∙ ap (λ (x : List Lexeme). glyph l.glyph_is ∷ x) a.spelt;
      coded = a.coded;
      stored = λ i. record { letter = sym l.meant i; count = count i; places = size i };
      onward = ap (fits pieces) l.spelt ∙ (lettered_on l.glyph_is us).0 ∙ a.onward;
    }
  where
    length-map : (ss : List (Tree sum)) → length (map sense ss) ≡ length ss
    length-map [] = refl
    length-map (s ∷ ss) = ap suc (length-map ss)

-- a closing bracket
pub read_rejoins : (p : StoredPiece) (ts us : List Lexeme) (cs : List Code) → ts ≡ sign Rejoins ∷ us → outlined p ≡ record { letter = 93; count = 0; places = 0 } → TookPiece ts us cs cs p
read_rejoins p ts us cs head e = record { tree = rejoins; spelt = head; coded = sym (append-nil cs); stored = e; onward = ap (fits pieces) head }

-- how much room a piece leaves
closing_long : (ss : List (Tree sum)) → length (codes_of (map sense ss)) ≤ length (closing (map spells ss))
closing_long [] = omega arith
closing_long (s ∷ ss) =
    let ih = closing_long ss in
    let k = short s in
    let a = length-append (code_of (sense s)) (codes_of (map sense ss)) in
    let b = length-append (spells s) (closing (map spells ss)) in
    omega arith

within_long : (ss : List (Tree sum)) → length (codes_of (map sense ss)) ≤ length (within (map spells ss))
within_long [] = omega arith
within_long (s ∷ ss) =
    let ih = closing_long ss in
    let k = short s in
    let a = length-append (code_of (sense s)) (codes_of (map sense ss)) in
    let b = length-append (spells s) (closing (map spells ss)) in
    omega arith

piece_long : (p : PieceTree) → length (codes_of (piece_sense p).arguments) + 1 ≤ length (spells_piece p)
piece_long branches = lit≤ tt
piece_long rejoins = lit≤ tt
piece_long (grown l ss h) = let k = within_long ss in omega arith

pub room_piece : (p : StoredPiece) (ts us : List Lexeme) (cs ds : List Code) → TookPiece ts us cs ds p → (length ds + length us ≤ length cs + length ts) × (length us + 1 ≤ length ts)
room_piece p ts us cs ds t =
    let a = ap length t.spelt ∙ length-append (spells_piece t.tree) us in
    let b = ap length t.coded ∙ length-append cs (codes_of (piece_sense t.tree).arguments) in
    let f = piece_long t.tree in
    (omega arith, omega arith)

pieces_long : (ts : List PieceTree) → length ts ≤ length (spells_pieces ts)
pieces_long [] = lit≤ tt
pieces_long (t ∷ ts) =
    let ih = pieces_long ts in
    let k = piece_long t in
    let a = length-append (spells_piece t) (spells_pieces ts) in
    omega arith

length_outlined : (ps : List StoredPiece) → length (map outlined ps) ≡ length ps
length_outlined [] = refl
length_outlined (p ∷ ps) = ap suc (length_outlined ps)

length_outline : (ts : List PieceTree) → length (map outline (map piece_sense ts)) ≡ length ts
length_outline [] = refl
length_outline (t ∷ ts) = ap suc (length_outline ts)

-- each piece has a token of its own
pub room_pieces : (ts us : List Lexeme) (cs ds : List Code) (ps : List StoredPiece) → TookPieces ts us cs ds ps → length ps + length us ≤ length ts
room_pieces ts us cs ds ps t =
    let a = ap length t.spelt ∙ length-append (spells_pieces t.trees) us in
    let b = sym (length_outlined ps) ∙ ap length t.stored ∙ length_outline t.trees in
    let k = pieces_long t.trees in
    omega arith

spells_more : (ps : List PieceTree) (p : PieceTree) (us : List Lexeme) → spells_pieces (ps ++ (p ∷ [])) ++ us ≡ spells_pieces ps ++ (spells_piece p ++ us)
spells_more [] p us = ap (λ (l : List Lexeme). l ++ us) (append-nil (spells_piece p))
spells_more (q ∷ ps) p us =
    append_assoc (spells_piece q) (spells_pieces (ps ++ (p ∷ []))) us
    ∙ ap (λ (l : List Lexeme). spells_piece q ++ l) (spells_more ps p us)
    ∙ sym (append_assoc (spells_piece q) (spells_pieces ps) (spells_piece p ++ us))

code_more : (ps : List PieceTree) (p : PieceTree) → successor_code (map piece_sense (ps ++ (p ∷ []))) ≡ successor_code (map piece_sense ps) ++ codes_of (piece_sense p).arguments
code_more [] p = append-nil (codes_of (piece_sense p).arguments)
code_more (q ∷ ps) p =
    ap (λ (l : List Code). codes_of (piece_sense q).arguments ++ l) (code_more ps p)
    ∙ sym (append_assoc (codes_of (piece_sense q).arguments) (successor_code (map piece_sense ps)) (codes_of (piece_sense p).arguments))

outlined_more : (ps : List StoredPiece) (p : StoredPiece) → map outlined (ps ++ (p ∷ [])) ≡ map outlined ps ++ (outlined p ∷ [])
outlined_more [] p = refl
outlined_more (q ∷ ps) p = ap (λ (l : List Outline). outlined q ∷ l) (outlined_more ps p)

outline_more : (ps : List PieceTree) (p : PieceTree) → map outline (map piece_sense (ps ++ (p ∷ []))) ≡ map outline (map piece_sense ps) ++ (outline (piece_sense p) ∷ [])
outline_more [] p = refl
outline_more (q ∷ ps) p = ap (λ (l : List Outline). outline (piece_sense q) ∷ l) (outline_more ps p)

pub one_piece : (ts us vs : List Lexeme) (cs ds es : List Code) (ps qs : List StoredPiece) (p : StoredPiece) → TookPieces ts us cs ds ps → TookPiece us vs ds es p → qs ≡ ps ++ (p ∷ []) → TookPieces ts vs cs es qs
one_piece ts us vs cs ds es ps qs p a t pushed = record {
  trees = a.trees ++ (t.tree ∷ []);
  spelt = a.spelt ∙ ap (λ (l : List Lexeme). spells_pieces a.trees ++ l) t.spelt ∙ sym (spells_more a.trees t.tree vs);
  coded =
      t.coded
      ∙ ap (λ (l : List Code). l ++ codes_of (piece_sense t.tree).arguments) a.coded
      ∙ append_assoc cs (successor_code (map piece_sense a.trees)) (codes_of (piece_sense t.tree).arguments)
      ∙ ap (λ (l : List Code). cs ++ l) (sym (code_more a.trees t.tree));
  stored =
      ap (map outlined) pushed
      ∙ outlined_more ps p
      ∙ (λ i. a.stored i ++ (t.stored i ∷ []))
      ∙ sym (outline_more a.trees t.tree);
  onward = a.onward ∙ t.onward;
}
