-- What a pruner tells of two parts of a word, and the state and the open brackets behind the first.
use Rattle.std.proofs.Common.{◌≡◌, ℕ, Bool, true, false, cond, List, [], ◌∷◌, ◌++◌, length, sym, refl, ap, ◌∙◌}
use Rattle.std.proofs.lemmas.Bool.{cond-true}
use Rattle.word.specs.Symbols.{Symbol}
use Rattle.word.specs.Words.{Meaning, after, depth}
use Rattle.pruner.specs.declared.state.State.{State}
use Rattle.pruner.specs.declared.state.State.TheVariants.{Passing}
use Rattle.pruner.specs.Streaming.{drops, falls, steps, goes, streamed, open_in}
use Rattle.pruner.specs.Lawful.{open_drops, open_passes}

pub streamed_append : (q : State) (d : ℕ) (v w : List Symbol) → streamed q d (v ++ w) ≡ streamed q d v ++ streamed (goes q d v) (depth d v (length v)) w
streamed_append q d [] w = refl
streamed_append q d (s ∷ v) w =
    go (drops q d s) (streamed_append (falls q d) (after d s) v w) (streamed_append Passing (after d s) v w)
  where
    go : (b : Bool) → streamed (falls q d) (after d s) (v ++ w) ≡ streamed (falls q d) (after d s) v ++ streamed (goes (falls q d) (after d s) v) (depth (after d s) v (length v)) w → streamed Passing (after d s) (v ++ w) ≡ streamed Passing (after d s) v ++ streamed (goes Passing (after d s) v) (depth (after d s) v (length v)) w → cond b (streamed (falls q d) (after d s) (v ++ w)) (s ∷ streamed Passing (after d s) (v ++ w)) ≡ cond b (streamed (falls q d) (after d s) v) (s ∷ streamed Passing (after d s) v) ++ streamed (goes (cond b (falls q d) Passing) (after d s) v) (depth (after d s) v (length v)) w
    go true x y = x
    go false x y = ap (λ l. s ∷ l) y

pub goes_append : (q : State) (d : ℕ) (v w : List Symbol) → goes q d (v ++ w) ≡ goes (goes q d v) (depth d v (length v)) w
goes_append q d [] w = refl
goes_append q d (s ∷ v) w = goes_append (steps q d s) (after d s) v w

-- the brackets open outside the cuts, behind some modules
pub open_goes : (q : State) (d : ℕ) (w : List Symbol) → open_in (goes q d w) (depth d w (length w)) ≡ depth (open_in q d) (streamed q d w) (length (streamed q d w))
open_goes q d [] = refl
open_goes q d (s ∷ w) = go (drops q d s) refl (open_goes (falls q d) (after d s) w) (open_goes Passing (after d s) w)
  where
    go : (b : Bool) → drops q d s ≡ b → open_in (goes (falls q d) (after d s) w) (depth (after d s) w (length w)) ≡ depth (open_in (falls q d) (after d s)) (streamed (falls q d) (after d s) w) (length (streamed (falls q d) (after d s) w)) → open_in (goes Passing (after d s) w) (depth (after d s) w (length w)) ≡ depth (after d s) (streamed Passing (after d s) w) (length (streamed Passing (after d s) w)) → open_in (goes (cond b (falls q d) Passing) (after d s) w) (depth (after d s) w (length w)) ≡ depth (open_in q d) (cond b (streamed (falls q d) (after d s) w) (s ∷ streamed Passing (after d s) w)) (length (cond b (streamed (falls q d) (after d s) w) (s ∷ streamed Passing (after d s) w)))
    go true e x y = x ∙ ap (λ o. depth o (streamed (falls q d) (after d s) w) (length (streamed (falls q d) (after d s) w))) (open_drops q d s e)
    go false e x y = y ∙ ap (λ o. depth (after o s) (streamed Passing (after d s) w) (length (streamed Passing (after d s) w))) (sym (open_passes q d s e))

-- a module that is dropped leaves what is to come
module _ (q q' : State) (b : ℕ) (m m' : Meaning) (s : Symbol) (here : b ≡ m.opened) (modules : m.told.modules ≡ s ∷ m'.told.modules) (opened : m'.opened ≡ after m.opened s) (is : drops q b s ≡ true) (falls_to : q' ≡ falls q b) where
  pub dropped_streamed : streamed q' m'.opened m'.told.modules ≡ streamed q m.opened m.told.modules
  dropped_streamed =
      (λ k. streamed (falls_to k) ((opened ∙ ap (λ d. after d s) (sym here)) k) m'.told.modules)
      ∙ sym (cond-true (drops q b s) _ (s ∷ streamed Passing (after b s) m'.told.modules) is)
      ∙ (λ k. streamed q (here k) (sym modules k))

  pub dropped_open : open_in q' m'.opened ≡ open_in q m.opened
  dropped_open =
      (λ k. open_in (falls_to k) ((opened ∙ ap (λ d. after d s) (sym here)) k))
      ∙ open_drops q b s is
      ∙ ap (open_in q) here
