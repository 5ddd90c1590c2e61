-- Internal. What a source with modules drawn from it has still to tell is lawful in every state, where what the source below means is.
use Rattle.std.specs.Prelude.{◌≡◌, ℕ, ◌+◌, ◌≤◌, true, List, ◌++◌, map, length, take, drop}
use Rattle.std.proofs.Common.{arith, sym, ap, ◌∙◌, subst}
use Rattle.std.proofs.lemmas.List.{length-append, length-map, length-drop, length-take, map-append, take-append-drop, take-take}
use Rattle.word.specs.declared.module.Module.{Module}
use Rattle.word.specs.Symbols.{Symbol}
use Rattle.word.specs.Words.{Meaning, Lawful}
use Rattle.word.specs.Records.{symbol_of}
use Rattle.word.specs.Spans.{spans}
use Rattle.word.proofs.Spanning.{span_first}
use Rattle.word.proofs.Joined.{span_nested, span_split, valid_append, all_are}
use Rattle.buffered.specs.Held.{held, depth_at, left_in}

module _ (row : List Module) (at count first : ℕ) (m : Meaning) (ordered : at ≤ count) (joined : spans first (map symbol_of (take count row)) m.opened ≡ true) where
  -- the modules told, and those held
  parted : map symbol_of (take count row) ≡ map symbol_of (take at row) ++ held row at count
  parted =
      ap (map symbol_of) (sym (take-append-drop at (take count row)))
      ∙ map-append symbol_of (take at (take count row)) (drop at (take count row))
      ∙ ap (λ (l : List Module). map symbol_of l ++ held row at count) (take-take at count row ordered)

  pub halves : (spans first (map symbol_of (take at row)) (depth_at first row at) ≡ true) × (spans (depth_at first row at) (held row at count) m.opened ≡ true)
  halves = span_split first (map symbol_of (take at row)) (held row at count) m.opened (subst (λ (l : List Symbol). spans first l m.opened ≡ true) parted joined)

  pub lawful_in : count + length m.told.modules ≤ 16_000_000 → Lawful m → Lawful (left_in row at count first m)
  lawful_in few l = record {
    modules = valid_append (held row at count) m.told.modules (all_are (drop at (take count row))) l.modules;
    brackets = span_nested (depth_at first row at) (held row at count) m.opened m.told.modules m.told.ending halves.1 l.brackets;
    ending = l.ending;
    few = omega (arith, few, length-append (held row at count) m.told.modules, length-map (drop at (take count row)) symbol_of, length-drop at (take count row), length-take count row);
    shallow = span_first (depth_at first row at) (held row at count) m.opened halves.1;
    generation = l.generation;
  }
