-- A look behind the module in hand, one module on.
use Rattle.std.proofs.Common.{◌≡◌, ℕ, suc, ◌+◌, ◌-◌, ◌<◌, ◌≤◌, Bool, List, [], ◌∷◌, ◌++◌, map, length, get_or, take, drop, sym, refl, ap, ◌∙◌, arith}
use Rattle.std.proofs.lemmas.List.{drop_more, drop_all, take_all, length-take, length-drop}
use Rattle.word.specs.declared.module.Module.{Module}
use Rattle.word.specs.Symbols.{Symbol}
use Rattle.word.specs.Words.{Meaning}
use Rattle.word.specs.Records.{symbol_of}
use Rattle.generation.specs.declared.window.Window.{Window}
use Rattle.generation.specs.Windows.{in_window, flow}
use Rattle.generation.specs.Stream.{ended, spent, scan}

-- the modules behind the first
abbrev pub behind_of : List Module → List Module
behind_of fs = take (length fs - 1) (drop 1 fs)

module _ (w : Window) (fs : List Module) (same : fs ≡ in_window w) where
  -- they are what flows on behind the first, and then what comes from below
  pub flowed : 0 < length (in_window w) → (m : Meaning) → drop 1 (flow w m).modules ≡ map symbol_of (behind_of fs) ++ m.told.modules
  flowed some m =
      first (in_window w) some
      ∙ ap (λ (l : List Module). map symbol_of l ++ m.told.modules) (ap (drop 1) (sym same) ∙ sym (take_all (length fs - 1) (drop 1 fs) (omega (arith, length-drop 1 fs))))
    where
      first : (l : List Module) → 0 < length l → drop 1 (map symbol_of l ++ m.told.modules) ≡ map symbol_of (drop 1 l) ++ m.told.modules
      first [] h = absurd (omega arith)
      first (x ∷ l) h = refl

  -- there are at most 64
  pub few_behind : (length (behind_of fs) ≤ 64) × (length (behind_of fs) ≡ length fs - 1)
  few_behind =
      let long : length (behind_of fs) ≡ length fs - 1 = length-take (length fs - 1) (drop 1 fs) ∙ omega (arith, length-drop 1 fs) in
      (omega (arith, long, ap length same, length-take w.len (drop w.start w.row), w.within), long)

module _ (ign : ℕ → Bool) (ms : List Module) (i d : ℕ) (so_far : (t : List Symbol) → scan ign 64 0 (map symbol_of ms ++ t) ≡ scan ign (64 - i) d (map symbol_of (drop i ms) ++ t)) where
  module _ (x : Module) (here : i < length ms) (is : x ≡ get_or ms i x) (low : i < 64) where
    -- the look comes to the module at i
    pub looked_at : (t : List Symbol) → scan ign 64 0 (map symbol_of ms ++ t) ≡ scan ign (suc (63 - i)) d (symbol_of x ∷ (map symbol_of (drop (i + 1) ms) ++ t))
    looked_at t =
        let n : 64 - i ≡ suc (63 - i) = omega arith in
        let l : drop i ms ≡ x ∷ drop (i + 1) ms = drop_more ms i x here ∙ ap (λ (y : Module). y ∷ drop (i + 1) ms) (sym is) in
        so_far t ∙ (λ k. scan ign (n k) d (map symbol_of (l k) ++ t))

    -- and goes on with o brackets open
    pub looked_on : (o : ℕ) → ((n : ℕ) (w : List Symbol) → scan ign (suc n) d (symbol_of x ∷ w) ≡ scan ign n o w) → (t : List Symbol) → scan ign 64 0 (map symbol_of ms ++ t) ≡ scan ign (64 - (i + 1)) o (map symbol_of (drop (i + 1) ms) ++ t)
    looked_on o on t =
        let n : 63 - i ≡ 64 - (i + 1) = omega arith in
        looked_at t ∙ on (63 - i) _ ∙ ap (λ k. scan ign k o (map symbol_of (drop (i + 1) ms) ++ t)) n

  module _ (over : length ms ≤ i) where
    past : (t : List Symbol) → scan ign 64 0 (map symbol_of ms ++ t) ≡ scan ign (64 - i) d t
    past t = so_far t ∙ ap (λ (l : List Module). scan ign (64 - i) d (map symbol_of l ++ t)) (drop_all i ms over)

    -- all that may be looked at is held
    pub looked_far : 64 ≤ i → (t : List Symbol) → scan ign 64 0 (map symbol_of ms ++ t) ≡ spent
    looked_far far t = let n : 64 - i ≡ 0 = omega arith in past t ∙ ap (λ k. scan ign k d t) n

    -- the word below ends
    pub looked_out : i < 64 → (t : List Symbol) → t ≡ [] → scan ign 64 0 (map symbol_of ms ++ t) ≡ ended
    looked_out low t none = let n : 64 - i ≡ suc (63 - i) = omega arith in past t ∙ (λ k. scan ign (n k) d (none k))
