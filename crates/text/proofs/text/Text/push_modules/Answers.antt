use Rattle.std.proofs.Common.{◌≤◌, length, map, sym, ap, subst, ◌∙◌, arith}
use Rattle.std.specs.Str.{IsAscii}
use Rattle.std.proofs.lemmas.Str.{IsAscii-append}
use Rattle.word.specs.Records.{symbol_of}
use Rattle.word.specs.Text.{spelled}
use Rattle.text.specs.Texts.{held}
use Rattle.text.proofs.Over.{length-over, puts_front}
use Rattle.text.proofs.Modules.{ascii_spelled}
use Rattle.text.proofs.text.Text.push_modules.Goals as goal

pub invariant_of-self : goal.invariant_of-self
invariant_of-self c =
    let text = c.args.self.now in
    let put = c.put_modules-end.ensures in
    let fits : c.put_modules-end.result ≤ length text.bytes = omega (arith, put.within, text.wide) in
    let front = puts_front _ _ _ text.bytes c.put_modules-end.new.bytes put.puts fits in
    record {
      wide = ap length put.puts.bytes ∙ length-over text.len (spelled (map symbol_of c.args.modules.now)) text.bytes ∙ text.wide;
      short = put.within;
      ascii = subst IsAscii (sym front) (IsAscii-append (held text) (spelled (map symbol_of c.args.modules.now)) text.ascii (ascii_spelled c.args.modules.now));
    }

pub returns : goal.returns
returns c =
    let text = c.args.self.now in
    let put = c.put_modules-end.ensures in
    let fits : c.put_modules-end.result ≤ length text.bytes = omega (arith, put.within, text.wide) in
    puts_front _ _ _ text.bytes c.put_modules-end.new.bytes put.puts fits
