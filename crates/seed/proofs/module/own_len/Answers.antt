use Rattle.std.proofs.Common.{◌+◌, ◌-◌, ◌<◌, length, take, drop, arith, subst, rules, length-drop}
use Rattle.std.proofs.lemmas.List.{take_rest}
use Rattle.word.specs.Text.{First}
use Rattle.seed.proofs.Cutting.{cut_listed}
use Rattle.seed.proofs.module.own_len.Goals as goal

pub returns-in-Some : goal.returns-in-Some
returns-in-Some c =
    let t = c.args.text.now in
    let r = c.in-Some.end in
    let list : First 41 (take (length t - 2) (drop 2 t)) r = search rules in
    let stops : r < length (take (length t - 2) (drop 2 t)) = search rules in
    let room = simp length-drop at (subst (λ l. r < length l) (take_rest t 2) stops) in
    record { some = omega arith; within = omega (arith, room); first = cut_listed t r (r + 3) (omega arith) (omega arith) (subst (λ l. First 41 l r) (take_rest t 2) list) (omega (arith, room)) }

pub returns-in-None : goal.returns-in-None
returns-in-None c =
    let t = c.args.text.now in
    let list : First 41 (take (length t - 2) (drop 2 t)) (length (take (length t - 2) (drop 2 t))) = search rules in
    let size = length-drop 2 t in
    record { some = omega arith; within = omega arith; first = cut_listed t (length (drop 2 t)) (length t) (omega arith) (omega arith) (subst (λ l. First 41 l (length l)) (take_rest t 2) list) (omega (arith, size)) }
