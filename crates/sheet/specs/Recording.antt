-- The laws of records.
use Rattle.std.specs.Prelude.{◌≡◌, ℕ, ◌*◌, ◌≤◌, List, [], ◌∷◌, ◌++◌, length, drop, pos, negsuc}
use Rattle.std.specs.List.{flat_map}
use Rattle.turtle.specs.Poses.{Stroke, stroke}
use Rattle.turtle.specs.Stances.{stroke_of}
use Rattle.turtle.specs.declared.segment.Segment.{Segment}
use Rattle.sheet.specs.Records.{record_of, read_back}
use Rattle.sheet.specs.Pages.{inscribed_all}

pub record Recording : Type 0 where
  pub eight : (s : Stroke) → length (record_of s) ≡ 8
  -- a record tells its segment
  pub told : (s : Segment) → read_back (record_of (stroke_of s)) ≡ stroke_of s
  -- records stand in the order of their segments, from the start of the buffer on, and the rest of it stays
  pub in_order : (b : List ℕ) (ss : List Stroke) → 8 * length ss ≤ length b
      → inscribed_all 0 b ss ≡ flat_map record_of ss ++ drop (8 * length ss) b
  -- 3 ahead from home; and 4,095 along −z from (−1, 2, −30,000)
  pub three : record_of (stroke (pos 0) (pos 0) (pos 0) 2 3) ≡ 0 ∷ 0 ∷ 0 ∷ 0 ∷ 0 ∷ 0 ∷ 0x40 ∷ 0x06 ∷ []
  pub far : record_of (stroke (negsuc 0) (pos 2) (negsuc 29_999) 5 4_095) ≡ 0xff ∷ 0xff ∷ 0x00 ∷ 0x02 ∷ 0x8a ∷ 0xd0 ∷ 0xbf ∷ 0xfe ∷ []
