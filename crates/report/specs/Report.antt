-- The text of a report, and what a buffer holds of it.
use Rattle.std.specs.Prelude.{◌≡◌, ℕ, ◌<◌, ◌≤◌, List, ◌++◌, length, drop, ℤ, Some, None, Option, Ok, Err, Result, codes, decimal}
use Rattle.std.specs.Option.{option_map}
use Rattle.std.specs.Fmt.{signed_decimal}
use Rattle.report.specs.Text.{spaced, on_a_line, counted}
use Rattle.report.specs.Boxes.{Box, box_of}
use Rattle.report.specs.declared.ending.Ending.{Ending}
use Rattle.report.specs.declared.ending.Ending.TheVariants.{Open, Clean, Broken}
use Rattle.report.specs.declared.figures.Figures.{Figures}
use Rattle.report.specs.declared.short_buffer.ShortBuffer.{ShortBuffer}

-- the least and the greatest coordinate along an axis
abbrev pub range : ℤ → ℤ → List ℕ
range least greatest = spaced (signed_decimal least) ++ spaced (signed_decimal greatest)

abbrev pub box_text : Option Box → List ℕ
box_text None = codes "box none"
box_text (Some b) =
    codes "box" ++ (range b.least.x b.greatest.x ++ (range b.least.y b.greatest.y ++ range b.least.z b.greatest.z))

abbrev pub ending_text : Ending → List ℕ
ending_text Open = codes "end open"
ending_text Clean = codes "end clean"
ending_text (Broken f) =
    codes "end fault" ++ (spaced (decimal f.cause) ++ (spaced (decimal f.generation) ++ spaced (decimal f.place)))

-- THE REPORT of so many modules and segments, of this length in all, in this box, so deep, with this ending
abbrev pub report_lines : ℕ → ℕ → ℕ → Option Box → ℕ → Ending → List ℕ
report_lines modules segments long box deepest ending =
    counted (codes "modules") modules
    ++ (counted (codes "segments") segments
    ++ (counted (codes "length") long
    ++ (on_a_line (box_text box)
    ++ (counted (codes "deepest") deepest
    ++ on_a_line (ending_text ending)))))

abbrev pub report_text : Figures → List ℕ
report_text f = report_lines f.modules f.segments f.length (option_map box_of f.bounds) f.deepest f.ending

-- What a buffer is after a text was to be written to it. With 160 bytes or more it holds the text, whose length is the answer, before
-- the bytes that stood there; a shorter buffer is as it was.
abbrev pub Writes : List ℕ → List ℕ → Result ℕ ShortBuffer → List ℕ → Type 0
Writes text old (Ok n) new = (160 ≤ length old) × (n ≡ length text) × (new ≡ text ++ drop n old)
Writes text old (Err e) new = (length old < 160) × (new ≡ old)
