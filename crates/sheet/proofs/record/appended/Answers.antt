use Rattle.std.proofs.Common.{◌-◌, arith}
use Rattle.std.proofs.lemmas.Nat.{shl_whole, or_shifted}
use Rattle.sheet.proofs.record.appended.Goals as goal

pub returns : goal.returns
returns c =
    let b = c.args.bits in
    let w = c.args.width in
    rw (shl_whole b (64 - w) w 64 c.requires.room (omega arith), c.from.ensures) (or_shifted b w c.args.value c.requires.fits)
