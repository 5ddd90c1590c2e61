-- What a tally says of its sheet.
use Rattle.std.specs.Prelude.{◌≡◌, ℕ, ◌+◌, ◌-◌, Some}
use Rattle.std.specs.Option.{option_map}
use Rattle.turtle.specs.Poses.{Stroke}
use Rattle.turtle.specs.Stances.{stroke_of}
use Rattle.sheet.specs.Sheets.{Content}
use Rattle.sheet.specs.declared.tally.Tally.{Tally}

-- of a sheet that had space for n segments when it was new
abbrev pub content : ℕ → Tally → Content
content n t = record { space = n - t.count; count = t.count; length = t.length; latest = option_map stroke_of t.latest }

-- one stroke is counted
pub record Adds (t : Tally) (s : Stroke) (t' : Tally) : Type 0 where
  pub count : t'.count ≡ t.count + 1
  pub length : t'.length ≡ t.length + s.length
  pub latest : option_map stroke_of t'.latest ≡ Some s
