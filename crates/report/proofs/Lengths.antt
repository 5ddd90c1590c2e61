-- How long the lines of a report are.
use Rattle.std.proofs.Common.{◌≡◌, ℕ, suc, ◌+◌, ◌^◌, ◌<◌, ◌≤◌, List, [], ◌∷◌, ◌++◌, length, decimal, ℤ, pos, negsuc, nat_abs, Some, None, Option, length-append, codes, arith}
use Rattle.std.specs.Fmt.{signed_decimal}
use Rattle.std.proofs.lemmas.Fmt.{length-decimal-le}
use Rattle.turtle.specs.Stances.{point_of}
use Rattle.word.specs.declared.fault.Fault.{Fault}
use Rattle.report.specs.Text.{spaced, on_a_line, counted}
use Rattle.std.specs.Option.{option_map}
use Rattle.report.specs.Boxes.{box_of}
use Rattle.report.specs.Report.{range, box_text, ending_text, report_text}
use Rattle.report.specs.declared.bounds.Bounds.{Bounds}
use Rattle.report.specs.declared.ending.Ending.TheVariants.{Broken}
use Rattle.report.specs.declared.figures.Figures.{Figures}
use Rattle.report.proofs.Signs.{near}

line : (text : List ℕ) → length (on_a_line text) ≡ length text + 1
line text = length-append text (10 ∷ [])

pub counted_line : (name : List ℕ) (k n : ℕ) → 0 < k → n < 10 ^ k → n < 2 ^ 64
    → length (counted name n) ≤ length name + k + 2
counted_line name k n some small fits =
    let digits = spaced (decimal n) in
    omega (arith, line (name ++ digits), length-append name digits, length-decimal-le k n some small fits)

coordinate : (z : ℤ) → nat_abs z ≤ 30_000 → length (signed_decimal z) ≤ 6
coordinate (pos n) h = omega (arith, length-decimal-le 5 n (omega arith) (omega arith) (omega arith))
coordinate (negsuc n) h = omega (arith, length-decimal-le 5 (suc n) (omega arith) (omega arith) (omega arith))

both : (y z : ℤ) → nat_abs y ≤ 30_000 → nat_abs z ≤ 30_000 → length (range y z) ≤ 14
both y z a b =
    omega (arith, length-append (spaced (signed_decimal y)) (spaced (signed_decimal z)), coordinate y a, coordinate z b)

pub box_line : (o : Option Bounds) → length (on_a_line (box_text (option_map box_of o))) ≤ 46
box_line None = omega arith
box_line (Some b) =
    let l = near (point_of b.least) b.least.near in
    let g = near (point_of b.greatest) b.greatest.near in
    let x = range b.least.x b.greatest.x in
    let y = range b.least.y b.greatest.y in
    let z = range b.least.z b.greatest.z in
    omega (
      arith,
      line (box_text (Some (box_of b))),
      length-append x (y ++ z),
      length-append y z,
      both b.least.x b.greatest.x l.0 g.0,
      both b.least.y b.greatest.y l.1 g.1,
      both b.least.z b.greatest.z l.2 g.2,
    )

pub fault_line : (f : Fault) → f.cause < 2 ^ 8 → f.generation < 2 ^ 8 → f.place < 2 ^ 32
    → length (on_a_line (ending_text (Broken f))) ≤ 29
fault_line f c g p =
    let second = spaced (decimal f.generation) ++ spaced (decimal f.place) in
    omega (
      arith,
      line (ending_text (Broken f)),
      length-append (spaced (decimal f.cause)) second,
      length-append (spaced (decimal f.generation)) (spaced (decimal f.place)),
      length-decimal-le 3 f.cause (omega arith) (omega arith) (omega arith),
      length-decimal-le 3 f.generation (omega arith) (omega arith) (omega arith),
      length-decimal-le 10 f.place (omega arith) (omega arith) (omega arith),
    )

six : (a b c d e f : List ℕ)
    → length a ≤ 19 → length b ≤ 20 → length c ≤ 28 → length d ≤ 46 → length e ≤ 12 → length f ≤ 29
    → length (a ++ (b ++ (c ++ (d ++ (e ++ f))))) ≤ 160
six a b c d e f ha hb hc hd he hf =
    omega (
      arith,
      length-append a (b ++ (c ++ (d ++ (e ++ f)))),
      length-append b (c ++ (d ++ (e ++ f))),
      length-append c (d ++ (e ++ f)),
      length-append d (e ++ f),
      length-append e f,
    )

pub report_short : (f : Figures) → f.modules < 2 ^ 32 → f.segments < 2 ^ 32 → f.length < 2 ^ 64 → f.deepest < 2 ^ 8
    → length (on_a_line (ending_text f.ending)) ≤ 29 → length (report_text f) ≤ 160
report_short f modules segments long deepest ending =
    six
    (counted (codes "modules") f.modules)
    (counted (codes "segments") f.segments)
    (counted (codes "length") f.length)
    (on_a_line (box_text (option_map box_of f.bounds)))
    (counted (codes "deepest") f.deepest)
    (on_a_line (ending_text f.ending))
    (counted_line (codes "modules") 10 f.modules (omega arith) (omega arith) (omega arith))
    (counted_line (codes "segments") 10 f.segments (omega arith) (omega arith) (omega arith))
    (counted_line (codes "length") 20 f.length (omega arith) (omega arith) (omega arith))
    (box_line f.bounds)
    (counted_line (codes "deepest") 3 f.deepest (omega arith) (omega arith) (omega arith))
    ending
