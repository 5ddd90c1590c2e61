-- Modules without a `%` are all passed on, and the state stays.
use Rattle.std.proofs.Common.{◌≡◌, ℕ, false, List, [], ◌∷◌, ◌++◌, map, length, drop, sym, refl, ap, ◌∙◌, arith}
use Rattle.std.specs.List.{list_any}
use Rattle.std.proofs.lemmas.Bool.{cond-false, or_parts}
use Rattle.std.proofs.lemmas.List.{take_at, drop_at}
use Rattle.word.specs.declared.module.Module.{Module}
use Rattle.word.specs.Words.{after}
use Rattle.word.specs.Records.{symbol_of}
use Rattle.pruner.specs.declared.state.State.{State}
use Rattle.pruner.specs.declared.state.State.TheVariants.{Passing}
use Rattle.pruner.specs.Pruned.{is_cut}
use Rattle.pruner.specs.Streaming.{falls, goes, streamed, Sifts}

uncut : (d : ℕ) (v : List Module) → list_any (λ (m : Module). is_cut m.letter) v ≡ false → (streamed Passing d (map symbol_of v) ≡ map symbol_of v) × (goes Passing d (map symbol_of v) ≡ Passing)
uncut d [] e = (refl, refl)
uncut d (m ∷ v) e =
    let parts = or_parts (is_cut m.letter) (list_any (λ (x : Module). is_cut x.letter) v) e in
    let s = symbol_of m in
    let rest = uncut (after d s) v parts.1 in (
      cond-false (is_cut m.letter) (streamed (falls Passing d) (after d s) (map symbol_of v)) (s ∷ streamed Passing (after d s) (map symbol_of v)) parts.0 ∙ ap (λ w. s ∷ w) rest.0,
      ap (λ q. goes q (after d s) (map symbol_of v)) (cond-false (is_cut m.letter) (falls Passing d) Passing parts.0) ∙ rest.1,
    )

pub sifts_uncut : (q : State) (d : ℕ) (v places : List Module) → q ≡ Passing → list_any (λ (m : Module). is_cut m.letter) v ≡ false → Sifts q d v places (length v) (v ++ drop (length v) places) q
sifts_uncut q d v places is none =
    let all = uncut d v none in
    record {
      kept = ap (map symbol_of) (take_at v (drop (length v) places) (length v) refl) ∙ sym (ap (λ x. streamed x d (map symbol_of v)) is ∙ all.0);
      fits = omega arith;
      behind = drop_at v (drop (length v) places) (length v) refl;
      state = is ∙ sym (ap (λ x. goes x d (map symbol_of v)) is ∙ all.1);
    }
