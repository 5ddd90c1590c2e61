use Rattle.std.proofs.Common.{◌≡◌, true, cond, ◌&&◌, eqb, leb, length, get_or, sym, ap, ◌∙◌, to_z-of_z, arith}
use Rattle.std.specs.List.{list_all}
use Rattle.std.proofs.lemmas.Bool.{and_parts}
use Rattle.rows.specs.Rows.{held}
use Rattle.word.specs.Symbols.{is_letter}
use Rattle.expr.specs.Values.{Env}
use Rattle.expr.specs.Records.{is_name, env_of}
use Rattle.book.specs.declared.form.Form.{Form}
use Rattle.book.proofs.Binding.{past, here}
use Rattle.book.proofs.form.Form.bind_at.Goals as goal

all_names : (f : Form) → list_all is_name (held f.names) ≡ true
all_names f =
    let ns = held f.names in
    (and_parts (leb (length ns) 3) (list_all is_name ns) (and_parts (is_letter f.letter) (leb (length ns) 3 && list_all is_name ns) f.ok).1).1

pub returns-then-at-own : goal.returns-then-at-own
returns-then-at-own c x =
    let g = env_of c.args.names.now in
    let own = c.as_slice-own.ensures in
    c.bind.ensures x
    ∙ (λ i. cond (is_name (get_or (own i) c.args.at 0) && eqb x (get_or (own i) c.args.at 0)) (to_z-of_z c.ranges.value i) (g x))
    ∙ here (held c.args.self.now.names) c.args.at c.args.value g (all_names c.args.self.now) (omega (arith, ap length own)) x

pub returns-else-at-own : goal.returns-else-at-own
returns-else-at-own c x =
    ap (λ (g : Env). g x) (sym (past (held c.args.self.now.names) c.args.at c.args.value (env_of c.args.names.now) (omega (arith, ap length c.as_slice-own.ensures))))
