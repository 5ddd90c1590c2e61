-- The number of the refusal of a short buffer.
use Rattle.std.specs.Prelude.{ℕ}
use Rattle.report.specs.declared.short_buffer.ShortBuffer.{ShortBuffer}

abbrev pub refusal_of : ShortBuffer → ℕ
refusal_of e = 9
