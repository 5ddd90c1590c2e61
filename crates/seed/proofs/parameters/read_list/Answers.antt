use Rattle.std.proofs.Common.{rules, tests, ◌≡◌, [], ◌∷◌, ◌++◌, ◌∙◌, sym, ap, map, length, Some, arith, w32, SFits}
use Rattle.std.proofs.lemmas.Int.{to_z-of_z}
use Rattle.std.proofs.lemmas.List.{length-map, map-append}
use Rattle.rows.specs.Rows.{held}
use Rattle.rows.proofs.Held.{within, one_fits}
use Rattle.seed.specs.Seeds.{integers, at_most_3}
use Rattle.seed.proofs.Commas.{turn, whole}
use Rattle.seed.proofs.Listing.{integers_more, integers_none, integers_length, too_many, few_enough}
use Rattle.seed.proofs.parameters.read_list.Goals as goal

pub returns-in_err-parameter : goal.returns-in_err-parameter
returns-in_err-parameter c =
    let t = turn _ c.loop-part.yielded c.loop-part.part-iterator c.loop-part.yielded_by c.next.result c.next.new.self c.next.ensures.steps c.args.list.now (search rules) (search rules) c.in-Some.part c.in-Some.is (λ x b q k. search (rules, tests)) in
    rw (c.from_residual.ensures) (ap at_most_3 (integers_none _ _ c.in-Some.part.now t.0 t.1 (sym c.integer.ensures ∙ c.in_err-parameter.was)))

pub returns-then-len-eq3 : goal.returns-then-len-eq3
returns-then-len-eq3 c =
    let t = turn _ c.loop-part.yielded c.loop-part.part-iterator c.loop-part.yielded_by c.next.result c.next.new.self c.next.ensures.steps c.args.list.now (search rules) (search rules) c.in-Some.part c.in-Some.is (λ x b q k. search (rules, tests)) in
    let so_far : length (held c.loop-part.found) ≡ length c.loop-part.yielded = integers_length _ _ c.loop-part.invariant ∙ length-map c.loop-part.yielded _ in
    too_many c.args.list.now (omega (arith, t.0, c.len.ensures, c.if-len-eq3.true))

pub loop-part-preserved : goal.loop-part-preserved
loop-part-preserved c =
    let found = held c.loop-part.found in
    let one = c.in_ok-parameter.parameter in
    let within = within c.loop-part.found in
    let fits : SFits w32 one = search rules in
    ap integers (map-append (λ p. p.now) c.loop-part.yielded (c.in-Some.part ∷ []))
    ∙ integers_more (map (λ p. p.now) c.loop-part.yielded) c.in-Some.part.now found one c.loop-part.invariant (sym c.integer.ensures ∙ c.in_ok-parameter.was)
    ∙ ap (λ l. Some l) (sym (c.push.ensures ∙ one_fits 3 found _ (omega arith) ∙ ap (λ x. found ++ (x ∷ [])) (to_z-of_z w32 one fits)))

pub returns : goal.returns
returns c =
    let w = whole _ c.loop-part.yielded c.loop-part.part-iterator c.loop-part.yielded_by c.next.result c.next.new.self c.next.ensures.steps c.args.list.now (search rules) (search rules) c.in-None.is (λ x b q k. search (rules, tests)) in
    few_enough c.args.list.now (held c.loop-part.found) (rw (← w) c.loop-part.invariant) (within c.loop-part.found)
