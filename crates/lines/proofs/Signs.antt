-- The sign that stands first, and where it leads.
use Rattle.std.proofs.Common.{◌≡◌, ℕ, zero, suc, ◌≤◌, true, false, cond, List, [], ◌∷◌, get_or, Option, Some, None, MatchOption, is_some, sym, refl, ap, ◌∙◌, arith}
use Rattle.std.specs.Option.{unwrap_or}
use Rattle.std.proofs.lemmas.Bool.{cond-false, both_ways, ne_eqb}
use Rattle.tokens.specs.declared.token.Sign.{Sign}
use Rattle.tokens.specs.declared.token.Sign.TheVariants.{Letter, Plus, Minus, Times, Over, Opens, Closes, Less, AtMost, Equal, Unequal, AtLeast, More, Also, Arrow, Comma, Colon, Asks, Ignores, Branches, Rejoins, Stray}
use Rattle.tokens.specs.Tokens.{Lexeme, number, name, sign}
use Rattle.tokens.specs.Readers.{leading, first_sign, rest}
use Rattle.lines.specs.Fits.{rank, is, joins, as_sign, Which, first, middle, last, Side, former, latter, argument, Place, numbered, form_due, formed, framed, name_read, name_due, due, read, lost, on, named_on, summed, operated, step, ends, fits}

pub never : (ts : List Lexeme) → fits lost ts ≡ false
never [] = refl
never (t ∷ ts) = never ts

-- the signs by rank, so that signs of one rank are the same, letters aside
abbrev ranked : List Sign
ranked = Stray ∷ Plus ∷ Minus ∷ Times ∷ Over ∷ Opens ∷ Closes ∷ Less ∷ AtMost ∷ Equal ∷ Unequal ∷ AtLeast ∷ More ∷ Also ∷ Arrow ∷ Comma ∷ Colon ∷ Asks ∷ Ignores ∷ Branches ∷ Rejoins ∷ Stray ∷ []

found : (s : Sign) → 1 ≤ rank s → get_or ranked (rank s) Stray ≡ s
found (Letter c) h = absurd (omega arith)
found Plus h = refl
found Minus h = refl
found Times h = refl
found Over h = refl
found Opens h = refl
found Closes h = refl
found Less h = refl
found AtMost h = refl
found Equal h = refl
found Unequal h = refl
found AtLeast h = refl
found More h = refl
found Also h = refl
found Arrow h = refl
found Comma h = refl
found Colon h = refl
found Asks h = refl
found Ignores h = refl
found Branches h = refl
found Rejoins h = refl
found Stray h = refl

-- a sign other than a fails the test for a
pub unlike : (a s : Sign) → 1 ≤ rank a → (s ≡ a → ⊥) → is a s ≡ false
unlike a s h n =
    ne_eqb (rank s) (rank a)
    (λ e. n (sym (found s (let k : 1 ≤ rank s = omega arith in k)) ∙ ap (λ (k : ℕ). get_or ranked k Stray) e ∙ found a h))

-- a sign that stands first was passed over, and so was one that has a meaning
pub passed : (ts us : List Lexeme) (s : Sign) → Some s ≡ leading ts → us ≡ rest ts → ts ≡ sign s ∷ us
passed [] us s e p = absurd (both_ways true (ap is_some e) refl)
passed (number ds ∷ ts) us s e p = absurd (both_ways true (ap is_some e) refl)
passed (name c ∷ ts) us s e p = absurd (both_ways true (ap is_some e) refl)
passed (sign x ∷ ts) us s e p = λ i. sign (unwrap_or (sym e i) Stray) ∷ sym p i

pub taken : {A : Type 0} (ts us : List Lexeme) (o : Option Sign) (x : A) (P : Sign → Type 0) → o ≡ leading ts → MatchOption o (Some x ≡ None) P → us ≡ rest ts → (s : Sign) × P s × (ts ≡ sign s ∷ us)
taken ts us None x P e m p = absurd (both_ways true (ap is_some m) refl)
taken ts us (Some s) x P e m p = (s, m, passed ts us s e p)

-- where only a sign may stand, the first sign says where the line has come
by_sign : (p : Place) (f : Sign → Place) → ends p ≡ false → ends (f Stray) ≡ false → ((t : Lexeme) → step p t ≡ f (as_sign t)) → (ts : List Lexeme) → fits p ts ≡ fits (f (first_sign ts)) (rest ts)
by_sign p f e n q [] = e ∙ sym n
by_sign p f e n q (number ds ∷ ts) = ap (λ x. fits x ts) (q (number ds))
by_sign p f e n q (name c ∷ ts) = ap (λ x. fits x ts) (q (name c))
by_sign p f e n q (sign s ∷ ts) = ap (λ x. fits x ts) (q (sign s))

operated_stray : (d : ℕ) (r : Side) → ends (operated d r Stray) ≡ false
operated_stray zero former = refl
operated_stray zero latter = refl
operated_stray zero (argument zero) = refl
operated_stray zero (argument (suc n)) = refl
operated_stray (suc d) r = refl

on_stray : (w : Which) → ends (on w Stray) ≡ false
on_stray first = refl
on_stray middle = refl
on_stray last = refl

named_stray : (w : Which) (n : ℕ) → ends (named_on w n Stray) ≡ false
named_stray w zero = refl
named_stray w (suc n) = refl

pub read_on : (d : ℕ) (r : Side) (ts : List Lexeme) → fits (read d r) ts ≡ fits (operated d r (first_sign ts)) (rest ts)
read_on d r ts = by_sign (read d r) (operated d r) refl (operated_stray d r) (λ t. refl) ts

pub framed_on : (w : Which) (ts : List Lexeme) → fits (framed w) ts ≡ fits (on w (first_sign ts)) (rest ts)
framed_on w ts = by_sign (framed w) (on w) refl (on_stray w) (λ t. refl) ts

abbrev opened_on : Which → Sign → Place
opened_on w s = cond (is Opens s) (name_due w 2) (on w s)

pub formed_on : (w : Which) (ts : List Lexeme) → fits (formed w) ts ≡ fits (opened_on w (first_sign ts)) (rest ts)
formed_on w ts = by_sign (formed w) (opened_on w) refl (on_stray w) (λ t. refl) ts

pub name_read_on : (w : Which) (n : ℕ) (ts : List Lexeme) → fits (name_read w n) ts ≡ fits (named_on w n (first_sign ts)) (rest ts)
name_read_on w n ts = by_sign (name_read w n) (named_on w n) refl (named_stray w n) (λ t. refl) ts

pub numbered_on : (ts : List Lexeme) → fits numbered ts ≡ fits (cond (is Colon (first_sign ts)) (form_due first) lost) (rest ts)
numbered_on ts = by_sign numbered (λ s. cond (is Colon s) (form_due first) lost) refl refl (λ t. refl) ts

-- after a sum that does not go on
pub summed_on : (r : Side) (ts : List Lexeme) → joins (first_sign ts) ≡ false → fits (read 0 r) ts ≡ fits (summed r (first_sign ts)) (rest ts)
summed_on r ts h = read_on 0 r ts ∙ ap (λ p. fits p (rest ts)) (cond-false (joins (first_sign ts)) (due 0 r) (summed r (first_sign ts)) h)
