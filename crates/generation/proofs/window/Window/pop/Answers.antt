use Rattle.std.proofs.Common.{◌≡◌, ◌+◌, ◌-◌, ◌<◌, true, List, ◌∷◌, map, get_or, take, drop, refl, ap, ◌∙◌, subst, arith}
use Rattle.word.specs.declared.module.Module.{Module}
use Rattle.word.specs.Words.{after, may_stand}
use Rattle.word.specs.Records.{symbol_of}
use Rattle.generation.specs.declared.window.Window.{Window}
use Rattle.word.specs.Spans.{spans}
use Rattle.generation.specs.Windows.{in_window}
use Rattle.generation.proofs.Rowing.{part_less}
use Rattle.word.proofs.Spanning.{one_less, span_stands}
use Rattle.generation.proofs.Stepping.{there, behind}
use Rattle.generation.proofs.window.Window.pop.Goals as goal

-- the modules behind the first
abbrev left : Window → List Module
left w = take (w.len - 1) (drop (w.start + 1) w.row)

module _ (w : Window) (x : Module) (some : w.len ≡ 0 → ⊥) (is : x ≡ get_or w.row w.start x) where
  first_off : in_window w ≡ x ∷ left w
  first_off = let h : 0 < w.len = omega arith in part_less w.row w.start w.len w.wide w.within x h is

  rest_spans : spans (after w.first.brackets (symbol_of x)) (map symbol_of (left w)) w.last.brackets ≡ true
  rest_spans = one_less w.first.brackets (symbol_of x) (map symbol_of (left w)) w.last.brackets (subst (λ (l : List Module). spans w.first.brackets (map symbol_of l) w.last.brackets ≡ true) first_off w.joined)

  may : may_stand w.first.brackets (symbol_of x) ≡ true
  may = span_stands w.first.brackets (symbol_of x) (map symbol_of (left w)) w.last.brackets (subst (λ (l : List Module). spans w.first.brackets (map symbol_of l) w.last.brackets ≡ true) first_off w.joined)

-- the element that is read
module _ (w : Window) (r : Module) (is : r ≡ get_or w.row w.start r) where
  abbrev read : Module
  read = get_or w.row w.start r

  read_is : read ≡ get_or w.row w.start read
  read_is = ap (λ (y : Module). get_or w.row w.start y) is

pub unwrap-self-requires : goal.unwrap-self-requires
unwrap-self-requires c =
    let w = c.args.self.now in
    let r = c.index-self-self.result in
    there w.first.brackets (symbol_of (read w r c.index-self-self.is)) (may w (read w r c.index-self-self.is) c.if-self-eq0.false (read_is w r c.index-self-self.is)) c.after.result c.after.ensures

pub invariant_of-self : goal.invariant_of-self
invariant_of-self c =
    let w = c.args.self.now in
    let r = c.index-self-self.result in
    record {
      wide = w.wide;
      within = omega arith;
      joined = ap (λ e. spans e (map symbol_of (left w)) w.last.brackets)
          (behind w.first.brackets (symbol_of (read w r c.index-self-self.is)) (may w (read w r c.index-self-self.is) c.if-self-eq0.false (read_is w r c.index-self-self.is)) c.after.result c.after.ensures c.unwrap-self.result c.unwrap-self.ensures)
          ∙ rest_spans w (read w r c.index-self-self.is) c.if-self-eq0.false (read_is w r c.index-self-self.is);
    }

pub returns : goal.returns
returns c =
    let w = c.args.self.now in
    let r = c.index-self-self.result in
    record {
      held = first_off w (read w r c.index-self-self.is) c.if-self-eq0.false (read_is w r c.index-self-self.is);
      first = behind w.first.brackets (symbol_of (read w r c.index-self-self.is)) (may w (read w r c.index-self-self.is) c.if-self-eq0.false (read_is w r c.index-self-self.is)) c.after.result c.after.ensures c.unwrap-self.result c.unwrap-self.ensures;
      last = refl;
    }
