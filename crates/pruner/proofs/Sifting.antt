-- Modules are sifted, one module on; and what a pruner has told once it has sifted some.
use Rattle.std.proofs.Common.{◌≡◌, ℕ, ◌+◌, ◌<◌, ◌≤◌, true, false, List, [], ◌∷◌, ◌++◌, map, length, get_or, set, take, drop, sym, ap, subst, ◌∙◌, arith}
use Rattle.std.proofs.lemmas.Bool.Decides.{nat_tests}
use Rattle.std.proofs.lemmas.Bool.{cond-true, cond-false}
use Rattle.std.proofs.lemmas.List.{map_more, map_push, take_more_set, drop-set-lt, drop-drop, append-nil, length-take}
use Rattle.word.specs.declared.module.Module.{Module}
use Rattle.word.specs.Symbols.{Symbol}
use Rattle.word.specs.Words.{Meaning, after, depth}
use Rattle.word.specs.Records.{symbol_of, Tells}
use Rattle.word.proofs.Joined.{depth_append}
use Rattle.pruner.specs.declared.state.State.{State}
use Rattle.pruner.specs.declared.state.State.TheVariants.{Passing}
use Rattle.pruner.specs.Streaming.{drops, falls, steps, goes, streamed, open_in, left_in, Sifts}
use Rattle.pruner.proofs.Parting.{streamed_append, goes_append, open_goes}

-- the brackets open behind the first i modules
abbrev pub behind : ℕ → ℕ → List Module → ℕ
behind d i w = let v = map symbol_of (take i w) in depth d v (length v)

module _ (q : State) (d : ℕ) (w : List Module) (i : ℕ) (x : Module) (here : i < length w) (is : x ≡ get_or w i x) (b : ℕ) (at : b ≡ behind d i w) where
  one_more : map symbol_of (take (i + 1) w) ≡ map symbol_of (take i w) ++ (symbol_of x ∷ [])
  one_more = map_more symbol_of w i x here ∙ ap (λ (y : Module). map symbol_of (take i w) ++ (symbol_of y ∷ [])) (sym is)

  pub behind_more : after b (symbol_of x) ≡ behind d (i + 1) w
  behind_more =
      ap (λ c. after c (symbol_of x)) at
      ∙ sym (depth_append d (map symbol_of (take i w)) (symbol_of x ∷ []))
      ∙ ap (λ v. depth d v (length v)) (sym one_more)

  module _ (places : List Module) (n : ℕ) (places' : List Module) (q' : State) (so_far : Sifts q d (take i w) places n places' q') where
    told : streamed q d (map symbol_of (take (i + 1) w)) ≡ streamed q d (map symbol_of (take i w)) ++ streamed q' b (symbol_of x ∷ [])
    told =
        ap (streamed q d) one_more
        ∙ streamed_append q d (map symbol_of (take i w)) (symbol_of x ∷ [])
        ∙ (λ k. streamed q d (map symbol_of (take i w)) ++ streamed (sym so_far.state k) (sym at k) (symbol_of x ∷ []))

    state : goes q d (map symbol_of (take (i + 1) w)) ≡ steps q' b (symbol_of x)
    state =
        ap (goes q d) one_more
        ∙ goes_append q d (map symbol_of (take i w)) (symbol_of x ∷ [])
        ∙ (λ k. steps (sym so_far.state k) (sym at k) (symbol_of x))

    longer : length (take (i + 1) w) ≡ length (take i w) + 1
    longer = simp length-take (omega arith)

    pub sifts_dropped : (q'' : State) → drops q' b (symbol_of x) ≡ true → q'' ≡ falls q' b → Sifts q d (take (i + 1) w) places n places' q''
    sifts_dropped q'' drop to = record {
      kept =
          so_far.kept
          ∙ sym (append-nil (streamed q d (map symbol_of (take i w))))
          ∙ ap (λ v. streamed q d (map symbol_of (take i w)) ++ v) (sym (cond-true (drops q' b (symbol_of x)) [] (symbol_of x ∷ []) drop))
          ∙ sym told;
      fits = omega (arith, so_far.fits, longer);
      behind = so_far.behind;
      state = to ∙ sym (state ∙ cond-true (drops q' b (symbol_of x)) (falls q' b) Passing drop);
    }

    pub sifts_passed : drops q' b (symbol_of x) ≡ false → n < length places' → Sifts q d (take (i + 1) w) places (n + 1) (set places' n x) Passing
    sifts_passed pass room = record {
      kept =
          ap (map symbol_of) (take_more_set places' n x room)
          ∙ map_push symbol_of (take n places') x
          ∙ ap (λ v. v ++ (symbol_of x ∷ [])) so_far.kept
          ∙ ap (λ v. streamed q d (map symbol_of (take i w)) ++ v) (sym (cond-false (drops q' b (symbol_of x)) [] (symbol_of x ∷ []) pass))
          ∙ sym told;
      fits = omega (arith, so_far.fits, longer);
      behind =
          drop-set-lt (n + 1) places' n x (omega arith)
          ∙ sym (drop-drop 1 n places')
          ∙ ap (drop 1) so_far.behind
          ∙ drop-drop 1 n places;
      state = sym (state ∙ cond-false (drops q' b (symbol_of x)) (falls q' b) Passing pass);
    }

-- what a pruner tells of modules that the source below told
pub sifted_told : (q q' : State) (m m' : Meaning) (d : ℕ) (v w : List Module) (places : List Module) (n : ℕ) (places' : List Module) → d ≡ m.opened → Tells m (map symbol_of v) m' → Sifts q d w places n places' q' → w ≡ v → Tells (left_in q m) (map symbol_of (take n places')) (left_in q' m')
sifted_told q q' m m' d v w places n places' here t s same =
    let kept : map symbol_of (take n places') ≡ streamed q m.opened (map symbol_of v) = s.kept ∙ (λ k. streamed q (here k) (map symbol_of (same k))) in
    let state : q' ≡ goes q m.opened (map symbol_of v) = s.state ∙ (λ k. goes q (here k) (map symbol_of (same k))) in
    record {
      modules =
          ap (streamed q m.opened) t.modules
          ∙ streamed_append q m.opened (map symbol_of v) m'.told.modules
          ∙ (λ k. sym kept k ++ streamed (sym state k) (sym t.opened k) m'.told.modules);
      ending = t.ending;
      opened =
          (λ k. open_in (state k) (t.opened k))
          ∙ open_goes q m.opened (map symbol_of v)
          ∙ ap (λ l. depth (open_in q m.opened) l (length l)) (sym kept);
      generation = t.generation;
    }

-- no module is put in a place
pub none_told : (s s' : Meaning) (n : ℕ) (places : List Module) → n ≡ 0 → Tells s (map symbol_of (take n places)) s' → Tells s [] s'
none_told s s' n places none t = subst (λ k. Tells s (map symbol_of (take k places)) s') none t

pub none_behind : (n : ℕ) (places places' : List Module) → n ≡ 0 → drop n places' ≡ drop n places → places' ≡ places
none_behind n places places' none same = subst (λ k. drop k places' ≡ drop k places) none same

pub after_low : (d : ℕ) (s : Symbol) → after d s ≤ d + 1
after_low d s = grind (arith, nat_tests)
