use Rattle.std.proofs.Common.{◌≡◌, ◌-◌, Bool, true, false, cond, ℤ, pos, refl, ap, ◌∙◌}
use Rattle.expr.specs.Records.{is_name}
use Rattle.expr.proofs.Tables.{all_same}
use Rattle.expr.proofs.names.Names.new.Goals as goal

pub returns : goal.returns
returns c x = ap (λ (z : ℤ). cond (is_name x) z (pos 0)) (all_same 26 (pos 0) (x - 97)) ∙ either (is_name x)
  where
    either : (b : Bool) → cond b (pos 0) (pos 0) ≡ pos 0
    either true = refl
    either false = refl
