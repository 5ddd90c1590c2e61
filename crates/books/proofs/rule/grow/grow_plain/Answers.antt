use Rattle.std.proofs.Common.{◌≡◌, ◌+◌, ltb, List, [], ◌∷◌, ◌++◌, map, length, drop, sym, ap, ◌∙◌, arith, length-append}
use Rattle.std.proofs.lemmas.Bool.{cond-true, lt-ltb}
use Rattle.word.specs.declared.module.Module.{Module}
use Rattle.word.specs.Records.{symbol_of}
use Rattle.rules.specs.Records.{pieces_from, places_in}
use Rattle.books.specs.Outcomes.{successor}
use Rattle.books.specs.Few.{modules_in}
use Rattle.books.specs.Trying.{behind}
use Rattle.books.proofs.Rows.{item_at}
use Rattle.books.proofs.Growing.{plain_more}
use Rattle.books.proofs.rule.grow.grow_plain.Goals as goal

pub loop-piece-preserved : goal.loop-piece-preserved
loop-piece-preserved c =
    let inv = c.loop-piece.invariant in
    let ps = c.args.pieces.now in
    let i = c.loop-piece.piece-index in
    let p = c.piece-item.result in
    let m = c.plain.result in
    let old = modules_in c.loop-piece.grown in
    let more : drop i ps ≡ p ∷ drop (i + 1) ps = item_at ps i p c.loop-piece-test.true c.piece-item.is in
    let spent : p.places + places_in (drop (i + 1) ps) ≡ 0 = sym (ap places_in more) ∙ inv.none in
    let put : modules_in c.push.new.self ≡ old ++ (m ∷ []) = c.push.ensures ∙ cond-true (ltb (length old) 24) (old ++ (m ∷ [])) old (lt-ltb (length old) 24 (omega (arith, inv.many, c.requires.few))) in
    record {
      many = omega (arith, ap length put, length-append old (m ∷ []), inv.many);
      none = omega (arith, spent);
      rest = λ g cs.
          ap (λ (l : List Module). behind (map symbol_of l) (successor g (pieces_from (drop (i + 1) ps) cs))) put
          ∙ plain_more g cs p m old (drop (i + 1) ps) _ (omega (arith, spent)) (c.plain.ensures g)
          (sym (ap (λ l. behind (map symbol_of old) (successor g (pieces_from l cs))) more) ∙ inv.rest g cs);
    }
