-- Code worked out on values is the expressions that it lays out, worked out.
use Rattle.std.proofs.Common.{◌≡◌, ℕ, suc, ◌+◌, ◌<◌, ◌≤◌, ltb, List, [], ◌∷◌, ◌++◌, map, length, take, pos, sym, refl, ap, ◌∙◌, add-one, arith, length-take}
use Rattle.std.proofs.lemmas.List.{length-map}
use Rattle.std.proofs.lemmas.Bool.{cond-true, lt-ltb}
use Rattle.expr.specs.declared.code.Code.{Code}
use Rattle.expr.specs.declared.code.Code.TheVariants.{Blank, Number, Name, Negate, Add, Subtract, Multiply, Divide, Compare}
use Rattle.expr.specs.Values.{Expr, number, Value, is, Env, value, negated, Comparison, Verdict, passes, fails, faults, judged, then, guard}
use Rattle.expr.specs.Codes.{top, below, stacked, decoded, noted, comparisons}
use Rattle.expr.specs.Machine.{pushed, binary, step, decides}

abbrev pub work : Env → List Value → List Code → List Value
work g vs [] = vs
work g vs (c ∷ cs) = work g (step g vs c) cs

abbrev pub verdict : Env → List Value → List Code → Verdict
verdict g vs [] = passes
verdict g vs (c ∷ cs) = then (decides vs c) (verdict g (step g vs c) cs)

module _ (g : Env) where
  abbrev vals : List Expr → List Value
  vals st = map (value g) st

  pub top_value : (st : List Expr) → top (is (pos 0)) (vals st) ≡ value g (top (number 0) st)
  top_value [] = refl
  top_value (e ∷ st) = refl

  pub below_values : (st : List Expr) → below (vals st) ≡ vals (below st)
  below_values [] = refl
  below_values (e ∷ st) = refl

  shorter : (st : List Expr) → length (below st) ≤ length st
  shorter [] = omega arith
  shorter (e ∷ st) = omega arith

  room : (v : Value) (st : List Expr) → length st < 200 → pushed v (vals st) ≡ v ∷ vals st
  room v st h = cond-true (ltb (length (vals st)) 200) (v ∷ vals st) (vals st) (lt-ltb _ 200 (omega (arith, length-map st (value g))))

  two_operands : (f : Value → Value → Value) (st : List Expr) → length st < 200 → pushed (f (top (is (pos 0)) (below (vals st))) (top (is (pos 0)) (vals st))) (below (below (vals st))) ≡ f (value g (top (number 0) (below st))) (value g (top (number 0) st)) ∷ vals (below (below st))
  two_operands f st h =
      let deep : below (below (vals st)) ≡ vals (below (below st)) = ap below (below_values st) ∙ below_values (below st) in
      let under : top (is (pos 0)) (below (vals st)) ≡ value g (top (number 0) (below st)) = ap (top (is (pos 0))) (below_values st) ∙ top_value (below st) in
      (λ i. pushed (f (under i) (top_value st i)) (deep i))
      ∙ room _ (below (below st)) (omega (arith, shorter st, shorter (below st)))

  step_stacked : (st : List Expr) (c : Code) → length st < 200 → step g (vals st) c ≡ vals (stacked st c)
  step_stacked st Blank h = refl
  step_stacked st (Number n) h = room _ st h
  step_stacked st (Name x) h = room _ st h
  step_stacked st Negate h = (λ i. pushed (negated (top_value st i)) (below_values st i)) ∙ room _ (below st) (omega (arith, shorter st))
  step_stacked st Add h = two_operands (binary Add) st h
  step_stacked st Subtract h = two_operands (binary Subtract) st h
  step_stacked st Multiply h = two_operands (binary Multiply) st h
  step_stacked st Divide h = two_operands (binary Divide) st h
  step_stacked st (Compare r) h = ap below (below_values st) ∙ below_values (below st)

  grows : (st : List Expr) (c : Code) → length (stacked st c) ≤ suc (length st)
  grows st Blank = omega arith
  grows st (Number n) = omega arith
  grows st (Name x) = omega arith
  grows st Negate = omega (arith, shorter st)
  grows st Add = omega (arith, shorter st, shorter (below st))
  grows st Subtract = omega (arith, shorter st, shorter (below st))
  grows st Multiply = omega (arith, shorter st, shorter (below st))
  grows st Divide = omega (arith, shorter st, shorter (below st))
  grows st (Compare r) = omega (arith, shorter st, shorter (below st))

  pub work_decoded : (st : List Expr) (cs : List Code) → length st + length cs ≤ 200 → work g (vals st) cs ≡ vals (decoded st cs)
  work_decoded st [] h = refl
  work_decoded st (c ∷ cs) h = ap (λ (vs : List Value). work g vs cs) (step_stacked st c (omega arith)) ∙ work_decoded (stacked st c) cs (omega (arith, grows st c))

  judges : (st : List Expr) (c : Code) (v : Verdict) (cs : List Comparison) → v ≡ guard g cs → then (decides (vals st) c) v ≡ guard g (noted st c ++ cs)
  judges st Blank v cs e = e
  judges st (Number n) v cs e = e
  judges st (Name x) v cs e = e
  judges st Negate v cs e = e
  judges st Add v cs e = e
  judges st Subtract v cs e = e
  judges st Multiply v cs e = e
  judges st Divide v cs e = e
  judges st (Compare r) v cs e =
      let under : top (is (pos 0)) (below (vals st)) ≡ value g (top (number 0) (below st)) = ap (top (is (pos 0))) (below_values st) ∙ top_value (below st) in
      λ i. then (judged r (under i) (top_value st i)) (e i)

  pub verdict_decoded : (st : List Expr) (cs : List Code) → length st + length cs ≤ 200 → verdict g (vals st) cs ≡ guard g (comparisons st cs)
  verdict_decoded st [] h = refl
  verdict_decoded st (c ∷ cs) h =
      ap (λ (vs : List Value). then (decides (vals st) c) (verdict g vs cs)) (step_stacked st c (omega arith))
      ∙ judges st c _ (comparisons (stacked st c) cs) (verdict_decoded (stacked st c) cs (omega (arith, grows st c)))

  -- of the first 200 places of code
  pub work_first : (code : List Code) → work g [] (take 200 code) ≡ map (value g) (decoded [] (take 200 code))
  work_first code = work_decoded [] (take 200 code) (omega (arith, length-take 200 code))

  pub verdict_first : (code : List Code) → verdict g [] (take 200 code) ≡ guard g (comparisons [] (take 200 code))
  verdict_first code = verdict_decoded [] (take 200 code) (omega (arith, length-take 200 code))

  -- one place further, where the first n of the places cs are left
  module _ (vs : List Value) (c : Code) (cs ds : List Code) (n m : ℕ) (next : (cs ≡ c ∷ ds) × (m + 1 ≡ n)) where
    taken : take n cs ≡ c ∷ take m ds
    taken = (λ i. take (sym next.1 i) (next.0 i)) ∙ ap (λ k. take k (c ∷ ds)) (add-one m)

    pub works_on : (ws : List Value) → ws ≡ step g vs c → work g ws (take m ds) ≡ work g vs (take n cs)
    works_on ws after = ap (λ (xs : List Value). work g xs (take m ds)) after ∙ sym (ap (work g vs) taken)

    decided : (v : Verdict) → v ≡ decides vs c → then v (verdict g (step g vs c) (take m ds)) ≡ verdict g vs (take n cs)
    decided v e = ap (λ (w : Verdict). then w (verdict g (step g vs c) (take m ds))) e ∙ sym (ap (verdict g vs) taken)

    pub goes_on : (ws : List Value) → ws ≡ step g vs c → passes ≡ decides vs c → verdict g ws (take m ds) ≡ verdict g vs (take n cs)
    goes_on ws after e = ap (λ (xs : List Value). verdict g xs (take m ds)) after ∙ decided passes e

    pub fails_at : fails ≡ decides vs c → fails ≡ verdict g vs (take n cs)
    fails_at = decided fails

    pub faults_at : (k : ℕ) → faults k ≡ decides vs c → faults k ≡ verdict g vs (take n cs)
    faults_at k = decided (faults k)
