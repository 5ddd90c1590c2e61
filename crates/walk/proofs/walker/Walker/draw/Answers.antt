use Rattle.std.proofs.Common.{◌≡◌, Ok, refl, ap, ◌∙◌, subst, rules}
use Rattle.turtle.specs.Stances.{stance_of, stroke_of}
use Rattle.turtle.specs.Deeds.{Deed, draws, done}
use Rattle.turtle.specs.declared.command.Command.TheVariants.{Draw}
use Rattle.sheet.specs.Sheets.{Puts}
use Rattle.walk.specs.Walks.{Walk}
use Rattle.walk.specs.Walkers.{walker, Fits, Drawing, sheet_after}
use Rattle.walk.proofs.Going.{drew_on}
use Rattle.walk.proofs.walker.Walker.draw.Goals as goal

pub returns-then-is_err : goal.returns-then-is_err
returns-then-is_err g c =
    let means = g.K.Sheet.means in
    let e : draws (stroke_of c.in-Draws.segment) (stance_of c.in-Draws.pose) ≡ done Draw c.args.length (stance_of c.args.self.now.pose) = search rules in
    let full : (means c.args.sheet.now).space ≡ 0 = search rules in
    let same : means c.put.new.self ≡ means c.args.sheet.now = search rules in
    (subst Drawing e tt, full, refl, same)

pub returns-else-is_err : goal.returns-else-is_err
returns-else-is_err g c =
    let means = g.K.Sheet.means in
    let w = walker c.args.self.now in
    let k = stroke_of c.in-Draws.segment in
    let p = stance_of c.in-Draws.pose in
    let e : draws k p ≡ done Draw c.args.length w.turtle.stance = search rules in
    let put : Puts (means c.args.sheet.now) k (Ok tt) (means c.put.new.self) = search rules in (
      subst (λ (d : Deed). Fits (means c.args.sheet.now) d) e put.0,
      ap (λ (x : Walk). record x { turtle = record { stance = p; stored = x.turtle.stored } }) c.count.ensures ∙ drew_on w Draw c.args.length k p e,
      put.1 ∙ ap (sheet_after (means c.args.sheet.now)) e,
    )
