use Rattle.std.proofs.Common.{◌≡◌, ◌+◌, ◌-◌, ap, ◌∙◌, arith}
use Rattle.std.proofs.lemmas.List.{drop-drop}
use Rattle.sheet.specs.Records.{record_of, last_bytes}
use Rattle.sheet.proofs.Bytes.{big_endian}
use Rattle.sheet.proofs.record.write_record.Goals as goal

pub returns : goal.returns
unfolding record_of
returns c =
    let at = c.args.at in
    let bytes = c.copy_from_slice.ensures.after ∙ c.to_be_bytes.ensures ∙ big_endian c.pack.result ∙ ap (last_bytes 8) c.pack.ensures in
    let end : at + (at + 8 - at) ≡ at + 8 = omega arith in
    rw (bytes, drop-drop (at + 8 - at) at c.args.buffer.now, end)
