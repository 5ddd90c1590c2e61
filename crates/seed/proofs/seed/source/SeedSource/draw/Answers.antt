use Rattle.std.proofs.Common.{◌≡◌, ℕ, ◌-◌, false, List, ◌∷◌, length, take, drop, sym, ap, ◌∙◌, subst, arith, rules}
use native.Mathlib.Nat.{sub-zero}
use Rattle.std.proofs.lemmas.List.{take_rest}
use Rattle.word.specs.Words.{after}
use Rattle.word.specs.Records.{symbol_of}
use Rattle.seed.specs.Seeds.{cut, Outcome, tells, outcome}
use Rattle.seed.specs.Telling.{goes_on}
use Rattle.seed.proofs.seed.source.SeedSource.draw.Goals as goal

-- what is left of the text, as the code cuts it
module _ (text : List ℕ) (at size : ℕ) where
  first_of : cut false (take (length text - at) (drop at text)) ≡ take size (take (length text - at) (drop at text)) ∷ cut false (drop size (take (length text - at) (drop at text))) → cut false (drop at text) ≡ take size (drop at text) ∷ cut false (drop size (drop at text))
  first_of e = subst (λ l. cut false l ≡ take size l ∷ cut false (drop size l)) (take_rest text at) e

  own_of : (d : ℕ) (o : Outcome) → o ≡ outcome d (take (size - 0) (take (length text - at) (drop at text))) → outcome d (take size (drop at text)) ≡ o
  own_of d o e = sym (e ∙ ap (λ k. outcome d (take k (take (length text - at) (drop at text)))) (sub-zero size) ∙ ap (λ l. outcome d (take size l)) (take_rest text at))

pub returns-in-Ok : goal.returns-in-Ok
returns-in-Ok c =
    let s = c.args.self.now in
    let size = c.own_len-size.result in
    let read : tells (symbol_of c.in-Ok.module) ≡ outcome s.depth.brackets (take (size - 0) (take (length s.text.now - s.at) (drop s.at s.text.now))) = search rules in
    let behind : c.in-Ok.depth.brackets ≡ after s.depth.brackets (symbol_of c.in-Ok.module) = search rules in
    goes_on s.text.now (omega arith) s.at s.told s.depth.brackets size
    (first_of s.text.now s.at size c.own_len-size.ensures.first)
    c.in-Ok.module c.in-Ok.depth.brackets
    (own_of s.text.now s.at size s.depth.brackets _ read)
    behind
