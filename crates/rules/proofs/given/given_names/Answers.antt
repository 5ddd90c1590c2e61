use Rattle.std.proofs.Common.{ℕ, List, ◌++◌, take, ap, ◌∙◌}
use Rattle.std.specs.Option.{option_map}
use Rattle.rules.specs.Places.{names_of}
use Rattle.book.specs.Records.{form_of}
use Rattle.rules.proofs.Collecting.{few_of_form, few_of_side, all_three}
use Rattle.rules.proofs.given.given_names.Goals as goal

pub returns : goal.returns
returns c =
    let h = c.args.head.now in
    let left = names_of (option_map form_of h.before) in
    let own = (form_of h.predecessor).names in
    let right = names_of (option_map form_of h.behind) in
    c.add_side-2.ensures
    ∙ ap (λ (xs : List ℕ). take 9 (xs ++ right)) (c.add.ensures ∙ ap (λ (xs : List ℕ). take 9 (xs ++ own)) (c.add_side.ensures ∙ ap (λ (xs : List ℕ). take 9 (xs ++ left)) c.new-given.ensures))
    ∙ all_three left own right (few_of_side h.before) (few_of_form h.predecessor) (few_of_side h.behind)
