-- What a sheet means, and what one put does.
use Rattle.std.specs.Prelude.{◌≡◌, ℕ, ◌+◌, ◌-◌, ◌<◌, Some, None, Ok, Err, Option, Result}
use Rattle.turtle.specs.Poses.{Stroke}
use Rattle.sheet.specs.Refusals.{refusal_of}
use Rattle.sheet.specs.declared.sheet.NoSpace.{NoSpace}

-- the space left, and the number, the length in all and the latest of the segments put so far
pub record Content : Type 0 where
  pub space : ℕ
  pub count : ℕ
  pub length : ℕ
  pub latest : Option Stroke

-- a new sheet
abbrev pub blank : ℕ → Content
blank n = record { space = n; count = 0; length = 0; latest = None }

abbrev pub with_stroke : Content → Stroke → Content
with_stroke k s = record { space = k.space - 1; count = k.count + 1; length = k.length + s.length; latest = Some s }

-- a stroke is put on a sheet that means k, which means k' then
abbrev pub Puts : Content → Stroke → Result Unit NoSpace → Content → Type 0
Puts k s (Ok u) k' = (0 < k.space) × (k' ≡ with_stroke k s)
Puts k s (Err e) k' = (k.space ≡ 0) × (refusal_of e ≡ 50) × (k' ≡ k)
