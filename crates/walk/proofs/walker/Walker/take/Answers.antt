use Rattle.std.proofs.Common.{◌≡◌, ◌≤◌, length, ℤ, Ok, sym, refl, ap, ◌∙◌, subst, w32, to_z, of_z}
use Rattle.std.proofs.lemmas.List.{length-map, length-reverse}
use Rattle.word.specs.Records.{symbol_of}
use Rattle.word.specs.declared.module.Module.{Module}
use Rattle.turtle.specs.Commands.{command_of}
use Rattle.turtle.specs.Deeds.{done, stride}
use Rattle.turtle.specs.Poses.{Stance}
use Rattle.turtle.specs.Stances.{stance_of}
use Rattle.turtle.specs.declared.command.Command.TheVariants.{Draw, Move, Turn}
use Rattle.turtle.proofs.Turning.{turned_so}
use Rattle.turtle.proofs.Steps.{stride_stays}
use Rattle.walk.specs.Walkers.{walker, TakesBy}
use Rattle.walk.specs.declared.walker.Walker.{Walker}
use Rattle.walk.proofs.Going.{takes_so}
use Rattle.walk.proofs.walker.Walker.take.Goals as goal

-- as many stances are stored as poses, and no more than were ever open
deep : (w : Walker) → length (walker w).turtle.stored ≤ (walker w).deepest
deep w = simp (length-reverse, length-map) w.deep

-- how far a module asks the turtle to go is passed on as it is
asked_is : (m : Module) (n : ℤ) → n ≡ stride (symbol_of m).params → to_z w32 (of_z w32 n) ≡ stride (symbol_of m).params
asked_is m n e = ap (λ (z : ℤ). to_z w32 (of_z w32 z)) e ∙ stride_stays m

pub returns-in-Draw : goal.returns-in-Draw
returns-in-Draw g c =
    let means = g.K.Sheet.means in
    let w = walker c.args.self.now in
    let m = symbol_of c.args.next in
    let is : command_of m.letter ≡ Draw = ap command_of (sym c.from.ensures) ∙ sym c.in-Draw.ensures in
    takes_so w (means c.args.sheet.now) m c.draw.result (walker c.draw.new.self) (means c.draw.new.sheet) Draw is tt (deep c.args.self.now)
    (subst (λ (n : ℤ). TakesBy w (means c.args.sheet.now) (done Draw n w.turtle.stance) c.draw.result (walker c.draw.new.self) (means c.draw.new.sheet)) (asked_is c.args.next c.asked.result c.asked.ensures) c.draw.ensures)

pub returns-in-Move : goal.returns-in-Move
returns-in-Move g c =
    let means = g.K.Sheet.means in
    let w = walker c.args.self.now in
    let m = symbol_of c.args.next in
    let s = means c.args.sheet.now in
    let is : command_of m.letter ≡ Move = ap command_of (sym c.from.ensures) ∙ sym c.in-Move.ensures in
    takes_so w s m c.go.result (walker c.go.new.self) s Move is tt (deep c.args.self.now)
    (subst (λ (n : ℤ). TakesBy w s (done Move n w.turtle.stance) c.go.result (walker c.go.new.self) s) (asked_is c.args.next c.asked-in-Move.result c.asked-in-Move.ensures) (c.go.ensures s))

pub returns-in-Turn : goal.returns-in-Turn
returns-in-Turn g c =
    let w = walker c.args.self.now in
    let m = symbol_of c.args.next in
    let s = g.K.Sheet.means c.args.sheet.now in
    let t = c.in-Turn.turn in
    let is : command_of m.letter ≡ Turn t = ap command_of (sym c.from.ensures) ∙ sym c.in-Turn.ensures in
    let e = turned_so w.turtle.stance (stance_of c.turn.new.self) t c.turn.ensures in
    takes_so w s m (Ok tt) (record w { turtle = record { stance = stance_of c.turn.new.self; stored = w.turtle.stored } }) s (Turn t) is tt (deep c.args.self.now)
    (tt, ap (λ (p : Stance). record w { turtle = record { stance = p; stored = w.turtle.stored } }) e, refl)
