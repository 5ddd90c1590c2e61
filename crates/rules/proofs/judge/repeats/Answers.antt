use Rattle.std.proofs.Common.{◌<◌, eqb, length, ◌≡◌, ℕ, ◌+◌, Bool, ◌||◌, List, get_or, drop, ap, ◌∙◌}
use Rattle.std.proofs.lemmas.List.{take_rest}
use Rattle.std.specs.List.{list_any}
use Rattle.word.specs.Symbols.{among}
use Rattle.word.proofs.Among.{among_is}
use Rattle.rules.specs.Wrong.{some_twice}
use Rattle.rules.proofs.Searching.{opened}
use Rattle.rules.proofs.judge.repeats.Goals as goal

-- a name is looked for behind itself
told : (t : Bool) (xs ys : List ℕ) (i : ℕ) → t ≡ list_any (λ y. eqb y (get_or xs i 0)) ys → ys ≡ drop (i + 1) xs → some_twice (drop i xs) ≡ some_twice xs → i < length xs → (t || some_twice (drop (i + 1) xs)) ≡ some_twice xs
told t xs ys i e behind left h =
    ap (λ (b : Bool). b || some_twice (drop (i + 1) xs)) (e ∙ among_is (get_or xs i 0) ys ∙ ap (among (get_or xs i 0)) behind) ∙ opened some_twice xs i left 0 h

pub returns-then-contains : goal.returns-then-contains
returns-then-contains c = told _ _ _ _ c.if-contains.ensures.value (take_rest c.args.names.now (c.loop-i.i + 1)) c.loop-i.invariant c.loop-i-test.true

pub loop-i-preserved : goal.loop-i-preserved
loop-i-preserved c = told _ _ _ _ c.if-contains.ensures.value (take_rest c.args.names.now (c.loop-i.i + 1)) c.loop-i.invariant c.loop-i-test.true
