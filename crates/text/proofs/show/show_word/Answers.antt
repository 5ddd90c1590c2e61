use Rattle.std.proofs.Common.{◌++◌, map, take, is_ok, ap, ◌∙◌}
use Rattle.std.proofs.Output.{has_written_of_eq, has_written_append}
use Rattle.word.specs.Records.{symbol_of}
use Rattle.word.specs.Words.{clean, broken}
use Rattle.text.specs.Texts.{held}
use Rattle.text.proofs.Printing.{at_end, ended, passes_on}
use Rattle.text.proofs.show.show_word.Goals as goal

pub loop-text-preserved : goal.loop-text-preserved
loop-text-preserved g c =
    let took = g.W.Write.write_str_gives in
    let means = g.S.Source.means in
    let drew = c.in-Ok.ensures in
    let v = map symbol_of (take c.in-Ok.count c.draw_some.new.places) in (
      c.draw_some.auto.places ∙ c.loop-text.invariant.0,
      λ p.
          let so_far = c.loop-text.invariant.1 p in
          let passed = c.make_room.ensures.passes so_far.1.plain (ap is_ok c.in_ok-make_room-in-Ok.was) in (
            so_far.0 ++ passed.0,
            has_written_append took _ _ _ _ _ so_far.1 passed.1,
            passes_on (means c.loop-text.source).told (means c.draw_some.new.self).told v so_far.0 passed.0 _ _ _ _ drew.told.modules drew.told.ending passed.2 c.push_modules.ensures so_far.2,
          ),
    )

pub returns-in-Ok-eq0-clause-text : goal.returns-in-Ok-eq0-clause-text
returns-in-Ok-eq0-clause-text g c = λ p ok.
    let took = g.W.Write.write_str_gives in
    let told = (g.S.Source.means c.loop-text.source).told in
    let so_far = c.loop-text.invariant.1 p in
    let end = ended _ _ _ _ _ c.loop-text.invariant.0 c.in-Ok-eq0.field-0-test c.in-Ok-eq0.ensures in
    let flushed = c.flush.ensures.writes so_far.1.plain (ap is_ok c.in_ok-flush-in-Ok-eq0.was) in
    has_written_of_eq took _ _ _ _ (ap (λ l. (so_far.0 ++ held c.loop-text.text) ++ l) (at_end told clean end.0 end.1) ∙ so_far.2)
    (has_written_append took _ _ _ _ _ (has_written_append took _ _ _ _ _ so_far.1 flushed) (c.writeln.ensures.writes flushed.plain ok))

pub returns-in-Err-clause-text : goal.returns-in-Err-clause-text
returns-in-Err-clause-text g c = λ p ok.
    let took = g.W.Write.write_str_gives in
    let told = (g.S.Source.means c.loop-text.source).told in
    let so_far = c.loop-text.invariant.1 p in
    let end = c.in-Err.ensures in
    let flushed = c.flush-in-Err.ensures.writes so_far.1.plain (ap is_ok c.in_ok-flush-in-Err.was) in
    has_written_of_eq took _ _ _ _ (ap (λ l. (so_far.0 ++ held c.loop-text.text) ++ l) (at_end told (broken c.in-Err.fault) end.0 end.1) ∙ so_far.2)
    (has_written_append took _ _ _ _ _ (has_written_append took _ _ _ _ _ so_far.1 flushed) (c.writeln-in-Err.ensures.writes flushed.plain ok))
