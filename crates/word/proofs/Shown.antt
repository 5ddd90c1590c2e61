-- What is printed of a module is its written form.
use Rattle.std.proofs.Common.{◌≡◌, ℕ, ◌<◌, [], ◌∷◌, ◌++◌, ℤ}
use lib.Utf8.{encode}
use Rattle.std.specs.Fmt.{signed_decimal}
use Rattle.std.proofs.lemmas.Str.Ascii.{encode_ascii}
use Rattle.word.specs.Symbols.{symbol}
use Rattle.word.specs.Text.{written}

module _ (l n : ℕ) (a b c : ℤ) (ascii : l < 128) (p : ℕ) (first : p ≡ l) where
  pub shown_1 : n ≡ 1 → (x : ℤ) → x ≡ a → encode p ++ (40 ∷ (signed_decimal x ++ (41 ∷ []))) ≡ written (symbol l n a b c)
  shown_1 is x ex = rw (first, encode_ascii l ascii, ex, is)

  pub shown_2 : n ≡ 2 → (x y : ℤ) → x ≡ a → y ≡ b → encode p ++ (40 ∷ (signed_decimal x ++ (44 ∷ (signed_decimal y ++ (41 ∷ []))))) ≡ written (symbol l n a b c)
  shown_2 is x y ex ey = rw (first, encode_ascii l ascii, ex, ey, is)

  pub shown_3 : n ≡ 3 → (x y z : ℤ) → x ≡ a → y ≡ b → z ≡ c → encode p ++ (40 ∷ (signed_decimal x ++ (44 ∷ (signed_decimal y ++ (44 ∷ (signed_decimal z ++ (41 ∷ []))))))) ≡ written (symbol l n a b c)
  shown_3 is x y z ex ey ez = rw (first, encode_ascii l ascii, ex, ey, ez, is)
