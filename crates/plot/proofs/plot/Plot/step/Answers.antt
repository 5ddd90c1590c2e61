use Rattle.std.proofs.Common.{◌≡◌, ◌+◌, Err, sym, refl, ap, ◌∙◌, inr, rules}
use Rattle.word.specs.Records.{symbol_of}
use Rattle.turtle.specs.Deeds.{breaks, deed}
use Rattle.turtle.specs.Acts.{cause_of}
use Rattle.walk.specs.declared.refusal.Refusal.TheVariants.{Limit}
use Rattle.walk.specs.Walks.{Walk}
use Rattle.walk.specs.Walkers.{walker, Takes}
use Rattle.plot.specs.Views.{view, Holds}
use Rattle.plot.proofs.Coming.{comes_number}
use Rattle.plot.proofs.plot.Plot.step.Goals as goal

pub returns-in-Err-Limit : goal.returns-in-Err-Limit
returns-in-Err-Limit g c =
    let v = view (g.S.Source.means c.args.self.now.source) c.args.self.now.inner in
    let u = view (g.S.Source.means c.look.new.self.source) c.look.new.self.inner in
    let m = symbol_of c.in-Ok-Some.next in
    let l = c.in-Err-Limit.limit in
    let looked : Holds v m v.latest u = search rules in
    let take : Takes u.walk (g.K.Sheet.means c.args.sheet.now) m (Err (Limit l)) (walker c.take.new.self) (g.K.Sheet.means c.take.new.sheet) = search rules in
    let cause : c.cause.result ≡ cause_of l = search rules in
    let number = comes_number v.held v.source m u.source looked.0 in (
      inr (
        m,
        c.cause.result,
        sym (ap (λ (k : Walk). deed m k.turtle.stance) looked.1.walk) ∙ take.0 ∙ ap breaks (sym cause),
        c.broken-fault.ensures ∙ (λ i. record { cause = c.cause.result; generation = number i; place = looked.1.taken i + 1 }),
        (looked.0, record { source = refl; held = looked.1.held; taken = looked.1.taken; walk = take.1 ∙ looked.1.walk; latest = refl }),
      ),
      take.2,
    )
