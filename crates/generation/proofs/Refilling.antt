-- Modules read behind those that are held.
use Rattle.std.proofs.Common.{◌≡◌, ℕ, suc, ◌+◌, ◌<◌, ◌≤◌, true, List, [], ◌∷◌, ◌++◌, map, length, take, drop, sym, ap, ◌∙◌, subst, arith, append_assoc, length-append}
use lib.ListN.{length-map}
use borrow.Rule.Slice.PartMut.{put_mid, post_of}
use Rattle.std.proofs.lemmas.List.{map-append, length-take, take-append-le}
use Rattle.word.specs.declared.module.Module.{Module}
use Rattle.word.specs.Words.{Meaning, depth, nested, Lawful}
use Rattle.word.specs.Records.{symbol_of, Drew}
use Rattle.word.specs.Spans.{spans}
use Rattle.word.proofs.Joined.{nested_span, span_join}
use Rattle.generation.specs.declared.window.Window.{Window}
use Rattle.generation.specs.Windows.{in_window, held}

-- as many elements as stand in front, and n more
taken : {A : Type 0} (xs ys : List A) (n : ℕ) → take (length xs + n) (xs ++ ys) ≡ xs ++ take n ys
taken [] ys n = let e : 0 + n ≡ n = omega arith in ap (λ k. take k ys) e
taken (x ∷ xs) ys n = let e : length (x ∷ xs) + n ≡ suc (length xs + n) = omega arith in ap (λ k. take k (x ∷ (xs ++ ys))) e ∙ ap (λ l. x ∷ l) (taken xs ys n)

-- n elements written behind the first a of a row
pub filled : {A : Type 0} (row new : List A) (a k n : ℕ) → a ≤ length row → n ≤ length new → take (a + n) (put_mid a k row new) ≡ take a row ++ take n new
filled row new a k n within few =
    let long : length (take a row) ≡ a = length-take a row ∙ omega arith in
    ap (λ i. take (i + n) (put_mid a k row new)) (sym long)
    ∙ taken (take a row) (new ++ post_of a k row) n
    ∙ ap (λ l. take a row ++ l) (take-append-le n new (post_of a k row) few)

-- A window w whose modules stand in front of its row, and modules drawn from below into the places behind them.
module _ (w : Window) (front : w.start ≡ 0) (m m' : Meaning) (places places' : List Module) (k n : ℕ) (drew : Drew m places n places' m') (same_length : length places' ≡ length places) where
  abbrev pub row : List Module
  row = put_mid w.len k w.row places'

  pub now_held : take (w.len + n) (drop w.start row) ≡ in_window w ++ take n places'
  now_held =
      ap (λ i. take (w.len + n) (drop i row)) front
      ∙ filled w.row places' w.len k n (omega (arith, w.within, w.wide)) (omega (arith, drew.fits, same_length))
      ∙ ap (λ i. take w.len (drop i w.row) ++ take n places') (sym front)

  pub now_flows : map symbol_of (take (w.len + n) (drop w.start row)) ++ m'.told.modules ≡ held w ++ m.told.modules
  now_flows =
      ap (λ l. map symbol_of l ++ m'.told.modules) now_held
      ∙ ap (λ l. l ++ m'.told.modules) (map-append symbol_of (in_window w) (take n places'))
      ∙ append_assoc (held w) (map symbol_of (take n places')) m'.told.modules
      ∙ ap (λ l. held w ++ l) (sym drew.told.modules)

  pub shorter : (n ≡ 0 → ⊥) → length m'.told.modules < length m.told.modules
  shorter some =
      let long : length (map symbol_of (take n places')) ≡ n = length-map (take n places') symbol_of ∙ length-take n places' ∙ omega (arith, drew.fits, same_length) in
      omega (arith, ap length drew.told.modules, length-append (map symbol_of (take n places')) m'.told.modules, long)

  pub now_spans : Lawful m → w.last.brackets ≡ m.opened → (d : ℕ) → d ≡ m'.opened → spans w.first.brackets (map symbol_of (take (w.len + n) (drop w.start row))) d ≡ true
  now_spans l meets d is =
      let v = map symbol_of (take n places') in
      let behind = nested_span m.opened v m'.told.modules m.told.ending (subst (λ x. nested m.opened x m.told.ending ≡ true) drew.told.modules l.brackets) in
      (λ i. spans w.first.brackets ((ap (map symbol_of) now_held ∙ map-append symbol_of (in_window w) (take n places')) i) ((is ∙ drew.told.opened) i))
      ∙ span_join w.first.brackets (held w) w.last.brackets v (depth m.opened v (length v)) w.joined
      (subst (λ x. spans x v (depth m.opened v (length v)) ≡ true) (sym meets) behind)
