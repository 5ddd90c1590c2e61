-- The names of up to three forms, one form after the other.
use Rattle.std.proofs.Common.{◌≡◌, ℕ, ◌≤◌, List, [], ◌++◌, length, take, Some, None, Option, ap, ◌∙◌, append_assoc, append-nil, arith, length-append}
use Rattle.std.proofs.lemmas.List.{take_all}
use Rattle.std.specs.Option.{option_map}
use Rattle.rows.specs.declared.row.Row.{Row}
use Rattle.rows.specs.Rows.{held}
use Rattle.rows.proofs.Held.{within, all_fit}
use Rattle.book.specs.declared.form.Form.{Form}
use Rattle.rules.specs.Places.{names_of}
use Rattle.book.specs.Records.{form_of}

pub few_of_form : (f : Form) → length (form_of f).names ≤ 3
few_of_form f = within f.names

pub few_of_side : (o : Option Form) → length (names_of (option_map form_of o)) ≤ 3
few_of_side None = omega arith
few_of_side (Some f) = few_of_form f

pub no_more : (g : Row ℕ 9) → take 9 (held g ++ []) ≡ held g
no_more g = all_fit 9 (held g) [] (omega (arith, within g)) ∙ append-nil (held g)

pub all_three : (xs ys zs : List ℕ) → length xs ≤ 3 → length ys ≤ 3 → length zs ≤ 3 → take 9 (take 9 (take 9 xs ++ ys) ++ zs) ≡ xs ++ (ys ++ zs)
all_three xs ys zs h k m =
    ap (λ (l : List ℕ). take 9 (take 9 (l ++ ys) ++ zs)) (take_all 9 xs (omega arith))
    ∙ ap (λ (l : List ℕ). take 9 (l ++ zs)) (all_fit 9 xs ys (omega arith))
    ∙ all_fit 9 (xs ++ ys) zs (omega (arith, length-append xs ys))
    ∙ append_assoc xs ys zs
