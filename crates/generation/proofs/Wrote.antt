-- What was written so far, module by module.
use Rattle.std.proofs.Common.{◌≡◌, ℕ, ◌+◌, ◌-◌, ◌<◌, ◌≤◌, List, [], ◌∷◌, ◌++◌, map, length, take, drop, set, sym, ap, ◌∙◌, subst, arith, length-append, length-set}
use borrow.Rule.Slice.PartMut.{put_mid, mid_of}
use Rattle.std.proofs.Math.Seq.{drop-append_seam}
use Rattle.std.proofs.lemmas.List.{map-append, length-take, length-drop, take_all, drop_all, drop-drop, append-nil, take_more_set, drop-set-lt}
use Rattle.word.specs.declared.module.Module.{Module}
use Rattle.word.specs.Symbols.{Symbol}
use Rattle.word.specs.Records.{symbol_of, Tells}
use Rattle.word.proofs.Joined.{tells_on}
use Rattle.books.specs.declared.closed_book.ClosedBook.{ClosedBook}
use Rattle.generation.specs.declared.window.Window.{Window}
use Rattle.generation.specs.declared.beyond.Beyond.{Beyond}
use Rattle.generation.specs.declared.beyond.Beyond.TheVariants.{Unread, End, Broken}
use Rattle.generation.specs.declared.rewriter.Rewriter.{Rewriter}
use Rattle.generation.specs.declared.rewriter.write.Step.TheVariants.{Taken}
use Rattle.generation.specs.Rewriting.{pending, left_in, TellsSome}
use Rattle.generation.specs.Writing.{Steady, Over, Copied, Advances}
use Rattle.generation.proofs.Refilling.{filled}
use Rattle.generation.proofs.Drawing.{tells_some}

-- the first n places were written, and nothing is pending where there are more
pub record Wrote (b : ClosedBook) (r : Rewriter) (places : List Module) (x : Beyond) (n : ℕ) (places' : List Module) (r' : Rewriter) : Type 0 where
  pub fits : n ≤ length places'
  pub none : n < length places' → pending r' ≡ []
  pub steady : Steady r r'
  pub told : Over r x (λ m. Tells (left_in b r m) (map symbol_of (take n places')) (left_in b r' m))
  pub behind : drop n places' ≡ drop n places

-- whether it is still to learn how the word below ends
abbrev pub to_learn : Beyond → ℕ
to_learn Unread = 1
to_learn End = 0
to_learn (Broken f) = 0

-- told so far, then a turn is taken, and what it comes to is told into the places behind
module _ (b : ClosedBook) (r : Rewriter) (places : List Module) (x : Beyond) (n : ℕ) (places1 : List Module) (r1 r2 r3 : Rewriter) (k : ℕ) (new : List Module) (w : Wrote b r places x n places1 r1) (a : Advances b r1 x Taken r2) (t : TellsSome r2 (mid_of n (length places1 - n) places1) k new r3) (same_length : length new ≡ length places1 - n) where
  abbrev pub all : List Module
  all = put_mid n (length places1 - n) places1 new

  -- the places behind are those behind
  behind_is : mid_of n (length places1 - n) places1 ≡ drop n places1
  behind_is = take_all (length places1 - n) (drop n places1) (omega (arith, length-drop n places1))

  all_is : all ≡ take n places1 ++ new
  all_is = ap (λ l. take n places1 ++ l) (ap (λ l. new ++ l) (drop_all (length places1 - n) (drop n places1) (omega (arith, length-drop n places1))) ∙ append-nil new)

  few : k ≤ length new
  few = omega (arith, t.fits, ap length behind_is, length-drop n places1, same_length)

  first_is : take (n + k) all ≡ take n places1 ++ take k new
  first_is = filled places1 new n (length places1 - n) k w.fits few

  long : length all ≡ length places1
  long = ap length all_is ∙ length-append (take n places1) new ∙ omega (arith, length-take n places1, w.fits, same_length)

  rest_is : drop (n + k) all ≡ drop k new
  rest_is =
      ap (drop (n + k)) all_is
      ∙ sym (drop-drop k n (take n places1 ++ new))
      ∙ ap (drop k) (past n (omega (arith, length-take n places1, w.fits)))
    where
      past : (i : ℕ) → i ≡ length (take n places1) → drop i (take n places1 ++ new) ≡ new
      past i e = ap (λ j. drop j (take n places1 ++ new)) e ∙ drop-append_seam (take n places1) new

  pub wrote_on : Wrote b r places x (n + k) all r3
  wrote_on = record {
    fits = omega (arith, long, few, w.fits, same_length);
    none = λ more. t.all (omega (arith, more, long, ap length behind_is, length-drop n places1));
    steady = (ap (λ (v : Window). v.last) t.stays.window_stays ∙ a.0.0 ∙ w.steady.0, t.stays.generation_stays ∙ a.0.1 ∙ w.steady.1);
    told = λ m fits number.
        let before = w.told m fits number in
        let turned = a.2 m fits (w.steady.1 ∙ number) in
        let now = tells_some b r2 r3 m (mid_of n (length places1 - n) places1) new k t in
        subst (λ (l : List Symbol). Tells (left_in b r m) l (left_in b r3 m)) (sym (ap (map symbol_of) first_is ∙ map-append symbol_of (take n places1) (take k new)))
        (tells_on (left_in b r m) (left_in b r1 m) (left_in b r3 m) (map symbol_of (take n places1)) (map symbol_of (take k new)) before (subst (λ s. Tells s (map symbol_of (take k new)) (left_in b r3 m)) turned now));
    behind = rest_is ∙ t.behind ∙ ap (drop k) (behind_is ∙ w.behind) ∙ drop-drop k n places;
  }

-- a module more, which is told as it is
pub wrote_copy
    : (b : ClosedBook) (r : Rewriter) (places : List Module) (x : Beyond) (n : ℕ) (places1 : List Module) (r1 r2 : Rewriter) (y : Module)
    → Wrote b r places x n places1 r1
    → Copied b r1 y r2
    → n < length places1
    → Wrote b r places x (n + 1) (set places1 n y) r2
wrote_copy b r places x n places1 r1 r2 y w c here = record {
  fits = omega (arith, length-set {A = Module}, here);
  none = λ more. c.none_pending;
  steady = (c.steady.0 ∙ w.steady.0, c.steady.1 ∙ w.steady.1);
  told = λ m fits number.
      subst (λ (l : List Symbol). Tells (left_in b r m) l (left_in b r2 m)) (sym (ap (map symbol_of) (take_more_set places1 n y here) ∙ map-append symbol_of (take n places1) (y ∷ [])))
      (tells_on (left_in b r m) (left_in b r1 m) (left_in b r2 m) (map symbol_of (take n places1)) (symbol_of y ∷ []) (w.told m fits number) (c.told m (w.steady.1 ∙ number)));
  behind = drop-set-lt (n + 1) places1 n y (omega arith) ∙ sym (drop-drop 1 n places1) ∙ ap (drop 1) w.behind ∙ drop-drop 1 n places;
}
