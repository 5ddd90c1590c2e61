use Rattle.std.proofs.Common.{◌≡◌, ℕ, List, [], ◌∷◌, take, sym, ap, ◌∙◌, w32, to_z, of_z, arith, rules}
use Rattle.rows.specs.Rows.{held}
use Rattle.word.specs.declared.module.Module.{Module}
use Rattle.expr.specs.Values.{Env}
use Rattle.expr.specs.Records.{env_of}
use Rattle.book.specs.Rules.{given}
use Rattle.book.specs.Binding.{bound}
use Rattle.book.proofs.Binding.{none_given, one_given, in_two, in_three, whole}
use Rattle.book.proofs.form.Form.give.Goals as goal

-- so many of a module's three numbers
so_many : (ns : List ℕ) (g : Env) (m : Module) (x k : ℕ) → m.count ≡ k → given ns (take k (m.a ∷ m.b ∷ m.c ∷ [])) g x ≡ given ns (take m.count (m.a ∷ m.b ∷ m.c ∷ [])) g x
so_many ns g m x k e = ap (λ n. given ns (take n (m.a ∷ m.b ∷ m.c ∷ [])) g x) (sym e)

pub returns-in-0 : goal.returns-in-0
returns-in-0 c x =
    let ns = held c.args.self.now.names in
    let g = env_of c.args.names.now in
    ap (λ (h : Env). h x) (none_given ns g) ∙ so_many ns g c.args.symbol x 0 c.in-0.is

pub returns-in-1 : goal.returns-in-1
returns-in-1 c x =
    let ns = held c.args.self.now.names in
    let g = env_of c.args.names.now in
    let m = c.args.symbol in
    let a : to_z w32 (of_z w32 m.a) ≡ m.a = search rules in
    c.bind_at.ensures x
    ∙ ap (λ v. bound ns 0 v g x) a
    ∙ ap (λ (h : Env). h x) (one_given ns m.a g)
    ∙ so_many ns g m x 1 c.in-1.is

pub returns-in-2 : goal.returns-in-2
returns-in-2 c x =
    let ns = held c.args.self.now.names in
    let g = env_of c.args.names.now in
    let g₁ = env_of c.bind_at-in-2.new.names in
    let m = c.args.symbol in
    let a : to_z w32 (of_z w32 m.a) ≡ m.a = search rules in
    let b : to_z w32 (of_z w32 m.b) ≡ m.b = search rules in
    in_two ns m.a m.b g g₁ (env_of c.bind_at-in-2-2.new.names)
    (λ y. c.bind_at-in-2.ensures y ∙ ap (λ v. bound ns 1 v g y) b)
    (λ y. c.bind_at-in-2-2.ensures y ∙ ap (λ v. bound ns 0 v g₁ y) a) x
    ∙ so_many ns g m x 2 c.in-2.is

pub returns-in_default : goal.returns-in_default
returns-in_default c x =
    let ns = held c.args.self.now.names in
    let g = env_of c.args.names.now in
    let g₁ = env_of c.bind_at-in_default.new.names in
    let g₂ = env_of c.bind_at-in_default-2.new.names in
    let m = c.args.symbol in
    let a : to_z w32 (of_z w32 m.a) ≡ m.a = search rules in
    let b : to_z w32 (of_z w32 m.b) ≡ m.b = search rules in
    let d : to_z w32 (of_z w32 m.c) ≡ m.c = search rules in
    in_three ns m.a m.b m.c g g₁ g₂ (env_of c.bind_at-in_default-3.new.names)
    (λ y. c.bind_at-in_default.ensures y ∙ ap (λ v. bound ns 2 v g y) d)
    (λ y. c.bind_at-in_default-2.ensures y ∙ ap (λ v. bound ns 1 v g₁ y) b)
    (λ y. c.bind_at-in_default-3.ensures y ∙ ap (λ v. bound ns 0 v g₂ y) a) x
    ∙ ap (λ l. given ns l g x) (whole m.count m.a m.b m.c (omega arith))
