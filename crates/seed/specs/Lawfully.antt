-- Part way through any text, a seed is a lawful source. Lemmas of the law of sources: internal.
use Rattle.std.proofs.Common.{◌≡◌, ℕ, suc, ◌+◌, ◌-◌, ◌≤◌, Bool, true, false, cond, ◌&&◌, eqb, ltb, leb, List, [], ◌∷◌, length, drop, Some, None, Option, refl, subst, arith, length-drop}
use Rattle.std.proofs.lemmas.Bool.{and_from, le-leb, ltb-false}
use Rattle.word.specs.Symbols.{Symbol, is_open, is_close, is_bracket, is_letter, all_in_range, valid}
use Rattle.word.specs.Words.{clean, Told, after, all_valid, nested, in_bounds, Lawful}
use Rattle.word.specs.Text.{glued}
use Rattle.seed.specs.Seeds.{cut, form, Outcome, tells, wrong, judged, outcome, stopped, onto, reads}
use Rattle.seed.specs.Left.{left}
use Rattle.seed.specs.Forming.{formed}
use Rattle.seed.specs.Telling.{Proper, proper, stays_shallow}

-- a text is cut into no more pieces than it has bytes
few_glued : (b : ℕ) (ps : List (List ℕ)) (n : ℕ) → length ps ≤ n → length (glued b ps) ≤ suc n
few_glued b [] n h = omega arith
few_glued b (p ∷ ps) n h = omega arith

few_cut : (inside : Bool) (l : List ℕ) → length (cut inside l) ≤ length l
few_cut inside [] = omega arith
few_cut true (b ∷ bs) = go (eqb b 41) (few_cut false bs) (few_cut true bs)
  where
    go : (t : Bool) → length (cut false bs) ≤ length bs → length (cut true bs) ≤ length bs → length (let r : List (List ℕ) = elim t [ true ↦ (b ∷ []) ∷ cut false bs | false ↦ glued b (cut true bs) ] in r) ≤ suc (length bs)
    go true x y = omega arith
    go false x y = few_glued b (cut true bs) (length bs) y
few_cut false (b ∷ []) = omega arith
few_cut false (b ∷ c ∷ bs) = go (eqb c 40) (few_cut false (c ∷ bs)) (few_cut true (c ∷ bs))
  where
    go : (t : Bool) → length (cut false (c ∷ bs)) ≤ suc (length bs) → length (cut true (c ∷ bs)) ≤ suc (length bs) → length (let r : List (List ℕ) = elim t [ true ↦ glued b (cut true (c ∷ bs)) | false ↦ (b ∷ []) ∷ cut false (c ∷ bs) ] in r) ≤ suc (suc (length bs))
    go true x y = few_glued b (cut true (c ∷ bs)) (suc (length bs)) y
    go false x y = omega arith

-- a module by the form, in range, is a valid one
proper_valid : (d : ℕ) (own : List ℕ) (s : Symbol) → Proper d own s → valid s ≡ true
proper_valid d own s p = go (is_bracket s.letter) (is_letter s.letter) (formed own s p.by_form)
  where
    go : (bracket letter : Bool) → cond bracket (eqb (length s.params) 0) (letter && leb (length s.params) 3) ≡ true → cond bracket (eqb (length s.params) 0) (letter && (leb (length s.params) 3 && all_in_range s.params)) ≡ true
    go true letter h = h
    go false true h = and_from _ _ h p.in_range
    go false false h = h

-- the word read from some pieces, at a place, with d brackets open
record Fair (d place n : ℕ) (t : Told) : Type 0 where
  modules : all_valid t.modules ≡ true
  brackets : nested d t.modules t.ending ≡ true
  ending : in_bounds t.ending ≡ true
  few : length t.modules ≤ n

stopped_fair : (d place cause n : ℕ) → d ≤ 32 → cause ≤ 255 → 1 ≤ place → place ≤ 16_000_001 → Fair d place n (stopped cause place)
stopped_fair d place cause n low c one most = record {
  modules = refl;
  brackets = le-leb d 32 low;
  ending = and_from _ _ (le-leb cause 255 c) (and_from _ _ (le-leb 1 place one) (le-leb place 16_000_001 most));
  few = omega arith;
}

onto_fair : (d place n : ℕ) (own : List ℕ) (s : Symbol) (t : Told) → d ≤ 32 → Proper d own s → Fair (after d s) (suc place) n t → Fair d place (suc n) (onto s t)
onto_fair d place n own s t low p f = record {
  modules = and_from _ _ (proper_valid d own s p) f.modules;
  brackets = and_from _ _ (le-leb d 32 low) (and_from _ _ (rw p.opens) f.brackets);
  ending = f.ending;
  few = omega (arith, f.few);
}

-- the causes that a module can have
small_cause : (d : ℕ) (own : List ℕ) (cause : ℕ) → outcome d own ≡ wrong cause → cause ≤ 255
small_cause d own cause e = from (form own) e
  where
    from : (o : Option Symbol) → judged d o ≡ wrong cause → cause ≤ 255
    from None q = let c : 21 ≡ cause = cc in omega arith
    from (Some s) q = go (all_in_range s.params) (is_close s.letter && eqb d 0) (is_open s.letter && leb 32 d) q
      where
        go : (r a b : Bool) → cond r (cond a (wrong 23) (cond b (wrong 24) (tells s))) (wrong 22) ≡ wrong cause → cause ≤ 255
        go false a b q = let c : 22 ≡ cause = cc in omega arith
        go true true b q = let c : 23 ≡ cause = cc in omega arith
        go true false true q = let c : 24 ≡ cause = cc in omega arith
        go true false false q = let z : ◌≡◌ {A = ℕ} 0 1 = cc in absurd (omega arith)

fair : (d place : ℕ) (cs : List (List ℕ)) → d ≤ 32 → 1 ≤ place → place + length cs ≤ 16_000_001 → Fair d place (length cs) (reads d place cs)
fair d place [] low one most = go (eqb d 0) refl
  where
    go : (t : Bool) → eqb d 0 ≡ t → Fair d place 0 (let r : Told = elim t [ true ↦ record { modules = []; ending = clean } | false ↦ stopped 25 place ] in r)
    go true e = record { modules = refl; brackets = e; ending = refl; few = omega arith }
    go false e = stopped_fair d place 25 0 low (omega arith) one (omega arith)
fair d place (own ∷ rest) low one most = go (outcome d own) refl (λ s e. fair (after d s) (suc place) rest (stays_shallow d own s low e) (omega arith) (omega arith))
  where
    go : (o : Outcome) → outcome d own ≡ o → ((s : Symbol) → outcome d own ≡ tells s → Fair (after d s) (suc place) (length rest) (reads (after d s) (suc place) rest)) → Fair d place (suc (length rest)) (let r : Told = elim o [ wrong cause ↦ stopped cause place | tells s ↦ onto s (reads (after d s) (suc place) rest) ] in r)
    go (wrong cause) e ih = stopped_fair d place cause (suc (length rest)) low (small_cause d own cause e) one (omega arith)
    go (tells s) e ih = onto_fair d place (length rest) own s _ low (proper d own s e) (ih s e)

pub lawfully : (text : List ℕ) (at n d : ℕ) → at ≤ length text → n ≤ at → d ≤ 32 → Lawful (left text at n d)
lawfully text at n d within counted low = go (ltb 65_536 (length text)) refl
  where
    from : (t : Told) (k : ℕ) → k ≤ 16_000_000 → Fair d (suc n) k t → Lawful (record { told = t; opened = d; generation = 0 })
    from t k most f = record { modules = f.modules; brackets = f.brackets; ending = f.ending; few = omega (arith, f.few); shallow = low; generation = omega arith }

    go : (b : Bool) → ltb 65_536 (length text) ≡ b → Lawful (record { told = let r : Told = elim b [ true ↦ stopped 20 1 | false ↦ reads d (suc n) (cut false (drop at text)) ] in r; opened = d; generation = 0 })
    go true e = let f = stopped_fair d 1 20 0 low (omega arith) (omega arith) (omega arith) in record { modules = f.modules; brackets = f.brackets; ending = f.ending; few = omega arith; shallow = low; generation = omega arith }
    go false e =
        let short : length text ≤ 65_536 = ltb-false 65_536 (length text) e in
        let few : length (cut false (drop at text)) ≤ length text - at = subst (λ k. length (cut false (drop at text)) ≤ k) (length-drop at text) (few_cut false (drop at text)) in
        from (reads d (suc n) (cut false (drop at text))) (length (cut false (drop at text))) (omega arith) (fair d (suc n) (cut false (drop at text)) low (omega arith) (omega arith))
