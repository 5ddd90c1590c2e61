use Rattle.turtle.specs.Stances.{point_of}
use Rattle.report.proofs.Growing.{then}
use Rattle.report.proofs.Signs.{near, along}
use Rattle.report.proofs.figures.writing.push_box.Goals as goal

pub returns : goal.returns
returns c =
    let b = c.in-Some.field-0 in
    let l = near (point_of b.least) b.least.near in
    let g = near (point_of b.greatest) b.greatest.near in
    let x = along b.least.x b.greatest.x l.0 g.0 c.push_coordinate.ensures c.push_coordinate-2.ensures in
    let y = along b.least.y b.greatest.y l.1 g.1 c.push_coordinate-3.ensures c.push_coordinate-4.ensures in
    let z = along b.least.z b.greatest.z l.2 g.2 c.push_coordinate-5.ensures c.push_coordinate-6.ensures in
    rw c.in-Some.is (then (then c.push-2.ensures (then x (then y z))) c.push-3.ensures)
