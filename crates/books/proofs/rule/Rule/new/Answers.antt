use Rattle.std.proofs.Common.{◌≡◌, ◌≤◌, min, List, [], ◌++◌, map, length, take, sym, refl, ap, ◌∙◌, arith}
use lib.ListN.{length-map}
use Rattle.rows.specs.Rows.{held}
use Rattle.rows.proofs.Held.{all_fit}
use Rattle.rules.specs.declared.piece.Piece.{Piece}
use Rattle.rules.specs.Records.{pieces_in, places_in, bare}
use Rattle.rules.specs.Wrong.{nests, deepest}
use Rattle.rules.proofs.Depths.{not_deeper}
use Rattle.books.proofs.rule.Rule.new.Goals as goal

-- of at most 24 pieces the depth is told exactly
exact : (ps : List Piece) → length ps ≤ 24 → min 255 (deepest 0 (map bare ps)) ≡ deepest 0 (map bare ps)
exact ps h = omega (arith, not_deeper 0 (map bare ps), length-map ps bare)

-- a row without values is filled by at most 24
filled : (rs qs ps : List Piece) → qs ≡ take 24 (rs ++ ps) → rs ≡ [] → length ps ≤ 24 → qs ≡ ps
filled rs qs ps e none h = e ∙ ap (λ (l : List Piece). take 24 (l ++ ps)) none ∙ all_fit 24 [] ps (omega arith)

pub invariant_of-result : goal.invariant_of-result
invariant_of-result c =
    let d = c.args.draft.now in
    let same = c.as_slice-successor.ensures in
    let own : held c.extend_from_slice.new.self ≡ pieces_in d.pieces = filled _ _ _ c.extend_from_slice.ensures c.new-pieces.ensures (omega (arith, ap length same, c.requires.few)) ∙ same in
    record {
      few = d.few;
      within = omega (arith, d.within, ap places_in own, c.len.ensures);
      nested = ap (λ (qs : List Piece). nests 0 (map bare qs)) own ∙ c.requires.nested;
      deep = c.deepest.ensures ∙ exact _ (omega (arith, ap length same, c.requires.few)) ∙ ap (λ (qs : List Piece). deepest 0 (map bare qs)) (same ∙ sym own);
    }

pub returns : goal.returns
returns c =
    let same = c.as_slice-successor.ensures in
    record {
      head = refl;
      place = refl;
      size = c.len.ensures;
      guard = refl;
      pieces = filled _ _ _ c.extend_from_slice.ensures c.new-pieces.ensures (omega (arith, ap length same, c.requires.few)) ∙ same;
    }
