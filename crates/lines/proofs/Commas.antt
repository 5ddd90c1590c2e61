-- Parts each behind a comma.
use Rattle.std.proofs.Common.{◌≡◌, List, [], ◌∷◌, ◌++◌, map, sym, refl, ap, ◌∙◌, append_assoc, append-nil}
use Rattle.tokens.specs.declared.token.Sign.TheVariants.{Comma, Closes}
use Rattle.tokens.specs.Tokens.{Lexeme, sign}
use Rattle.book.specs.Grammar.{closing}

abbrev pub commas : {A : Type 0} → (A → List Lexeme) → List A → List Lexeme
commas f [] = []
commas f (x ∷ xs) = sign Comma ∷ (f x ++ commas f xs)

pub commas_closed : {A : Type 0} (f : A → List Lexeme) (xs : List A) (us : List Lexeme) → commas f xs ++ (sign Closes ∷ us) ≡ closing (map f xs) ++ us
commas_closed f [] us = refl
commas_closed f (x ∷ xs) us =
    ap (λ (l : List Lexeme). sign Comma ∷ l)
    (append_assoc (f x) (commas f xs) (sign Closes ∷ us) ∙ ap (λ (l : List Lexeme). f x ++ l) (commas_closed f xs us) ∙ sym (append_assoc (f x) (closing (map f xs)) us))

pub commas_more : {A : Type 0} (f : A → List Lexeme) (xs : List A) (x : A) (us : List Lexeme) → commas f (xs ++ (x ∷ [])) ++ us ≡ commas f xs ++ (sign Comma ∷ (f x ++ us))
commas_more f [] x us = ap (λ (l : List Lexeme). sign Comma ∷ (l ++ us)) (append-nil (f x))
commas_more f (y ∷ ys) x us =
    ap (λ (l : List Lexeme). sign Comma ∷ l)
    (append_assoc (f y) (commas f (ys ++ (x ∷ []))) us ∙ ap (λ (l : List Lexeme). f y ++ l) (commas_more f ys x us) ∙ sym (append_assoc (f y) (commas f ys) (sign Comma ∷ (f x ++ us))))
