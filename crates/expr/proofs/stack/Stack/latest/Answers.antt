use Rattle.std.proofs.Common.{◌≡◌, ◌-◌, ◌≤◌, get_or, pos, Some, w32, to_z, of_z, sym, ◌∙◌, arith, rules}
use Rattle.expr.proofs.Numbers.{all_of_three, latest_triple}
use Rattle.expr.proofs.stack.Stack.latest.Goals as goal

pub returns-in_default : goal.returns-in_default
returns-in_default c =
    let h : 3 ≤ c.args.count = omega arith in
    let s = c.args.self.now in
    let a : to_z w32 (of_z w32 (get_or s.below (s.len - 2) (pos 0))) ≡ get_or s.below (s.len - 2) (pos 0) = search rules in
    let b : to_z w32 (of_z w32 (get_or s.below (s.len - 1) (pos 0))) ≡ get_or s.below (s.len - 1) (pos 0) = search rules in
    let d : to_z w32 (of_z w32 s.last) ≡ s.last = search rules in
    (λ i. Some (a i, b i, d i)) ∙ sym (all_of_three c.args.count _ h ∙ latest_triple s.last s.below s.len (omega arith))
