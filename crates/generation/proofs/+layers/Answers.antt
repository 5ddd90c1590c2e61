use Rattle.std.proofs.Common.{◌≡◌, ◌-◌, ◌++◌, map, ap, ◌∙◌, List, rules}
use Rattle.word.specs.declared.depth.Depth.{Depth}
use Rattle.word.specs.declared.module.Module.{Module}
use Rattle.word.specs.Records.{symbol_of}
use Rattle.books.specs.Kinds.{closed_book}
use Rattle.books.proofs.Tidy.{tidy}
use Rattle.generation.specs.Rewriting.{left_in}
use Rattle.generation.specs.Writing.{Steady, Over}
use Rattle.generation.specs.Layers.{stacked, lawful_stacked}
use Rattle.generation.proofs.Lawful.{goes_on}
use Rattle.generation.proofs.Refilling.{now_flows, now_spans, shorter}
use Rattle.generation.proofs.Reading.{sure, still_left, still_meets}
use Rattle.generation.proofs.+layers.Goals as goal

pub «layers::draw_over-loop-count-preserved» : goal.«layers::draw_over-loop-count-preserved»
«layers::draw_over-loop-count-preserved» g t c =
    let b = c.args.book.now in
    let l = c.loop-count in
    let means = g.S.Source.means in
    let m = stacked b l.below (means l.source) in
    let m' = stacked b c.refill-beyond.new.below (means c.refill-beyond.new.source) in
    let r = l.top in
    let s = c.write.new.self in
    let x = l.beyond in
    let y = c.refill-beyond.result in
    let steady : Steady r s = search rules in
    let same : Over r x (λ n. left_in b s n ≡ left_in b r n) = search rules in
    let filled = c.refill-beyond.ensures.reads in
    let lawful = lawful_stacked b (goes_on (closed_book b) (tidy b)) c.refill-beyond.new.below (means c.refill-beyond.new.source) c.refill-beyond.ensures.chained (g.met.S.Source.lawful c.refill-beyond.new.source) in
    let meets = still_meets b r s m m' x y c.refill-beyond.new.self steady same l.invariant.3 l.invariant.5 filled in (
      still_left b r s m m' x y c.refill-beyond.new.self steady same l.invariant.3 l.invariant.5 filled ∙ l.invariant.0,
      search rules,
      search rules,
      filled.fits,
      sure y m' filled.fits lawful,
      record { joined = meets.joined; numbered = meets.numbered },
      c.refill-beyond.ensures.chained,
    )

pub «window::Window::refill-invariant_of-self-in-Ok-clause-joined» : goal.«window::Window::refill-invariant_of-self-in-Ok-clause-joined»
«window::Window::refill-invariant_of-self-in-Ok-clause-joined» g t c =
    let b = c.args.book.now in
    let w = c.to_front.new.self in
    let means = g.S.Source.means in
    let lawful = lawful_stacked b (goes_on (closed_book b) (tidy b)) c.args.below.now (means c.args.source.now) c.requires.chained (g.met.S.Source.lawful c.args.source.now) in
    let meets = ap (λ (d : Depth). d.brackets) c.to_front.ensures.last ∙ c.requires.meets in
    now_spans w c.to_front.ensures.start (stacked b c.args.below.now (means c.args.source.now)) (stacked b c.draw_from.new.layers (means c.draw_from.new.source)) _ c.draw_from.new.places (65 - w.len) c.in-Ok.count c.in-Ok.ensures.draws (search rules)
    lawful meets c.open_brackets-self.result.brackets (c.open_brackets-self.ensures b)

pub «window::Window::refill-returns-in-Ok-clause-reads» : goal.«window::Window::refill-returns-in-Ok-clause-reads»
«window::Window::refill-returns-in-Ok-clause-reads» g t c =
    let b = c.args.book.now in
    let w = c.to_front.new.self in
    let means = g.S.Source.means in
    let m = stacked b c.args.below.now (means c.args.source.now) in
    let m' = stacked b c.draw_from.new.layers (means c.draw_from.new.source) in
    let drew = c.in-Ok.ensures.draws in
    record {
      kept = record {
        flows = λ k. record {
          modules = (now_flows w c.to_front.ensures.start m m' _ c.draw_from.new.places (65 - w.len) c.in-Ok.count drew (search rules) ∙ ap (λ (l : List Module). map symbol_of l ++ m.told.modules) c.to_front.ensures.held) k;
          ending = drew.told.ending k;
        };
        first_stays = c.to_front.ensures.first;
        number_stays = drew.told.generation;
      };
      meets = c.open_brackets-self.ensures b;
      fits = tt;
      shorter = λ _. shorter w c.to_front.ensures.start m m' _ c.draw_from.new.places (65 - w.len) c.in-Ok.count drew (search rules) c.in-Ok.count-test.1;
    }
