use Rattle.std.proofs.Common.{◌≡◌, ◌<◌, true, false, length, slice_index, refl, rules}
use Rattle.tokens.specs.Tokens.{is_digit, is_name, pairs}
use Rattle.tokens.proofs.Lexing.{number_leads, one_leads}
use Rattle.tokens.proofs.reader.lex.first.Goals as goal

pub returns-in-48-to-57 : goal.returns-in-48-to-57
returns-in-48-to-57 c =
    let l = c.args.text.now in
    let some : 0 < length l = search rules in
    let digit : is_digit (slice_index l 0) ≡ true = search rules in
    number_leads l c.digits-n.result _ some digit c.digits-n.ensures refl

pub returns-in_default : goal.returns-in_default
returns-in_default c =
    let l = c.args.text.now in
    let some : 0 < length l = search rules in
    let digit : is_digit (slice_index l 0) ≡ false = search rules in
    let name : is_name (slice_index l 0) ≡ false = search rules in
    let two : 1 < length l → pairs (slice_index l 0) (slice_index l 1) ≡ false = λ long. search rules in
    one_leads l _ some c.requires digit name two refl
