use Rattle.std.proofs.Common.{not, [], ◌∷◌, ap, sym, ◌∙◌}
use Rattle.std.proofs.Math.Bool.{or-false}
use Rattle.expr.specs.declared.code.Code.{Code}
use Rattle.word.specs.Symbols.{among}
use Rattle.word.proofs.Among.{among_is}
use Rattle.rules.specs.Picked.{names_in}
use Rattle.rules.specs.Wrong.{some_missing}
use Rattle.rules.proofs.judge.is_missing.Goals as goal

pub returns-in-Name : goal.returns-in-Name
returns-in-Name c =
    let xs = c.args.given.now in
    ap not (c.contains.ensures.value ∙ among_is c.in-Name.name xs)
    ∙ sym (or-false (not (among c.in-Name.name xs)))
    ∙ sym (ap (λ (x : Code). some_missing xs (names_in (x ∷ []))) c.in-Name.is)
