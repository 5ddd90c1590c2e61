use Rattle.std.proofs.Common.{[], take, arith}
use Rattle.expr.specs.Codes.{decoded}
use Rattle.expr.specs.Records.{env_of}
use Rattle.expr.proofs.Gathering.{gives_1, gives_2, gives_3}
use Rattle.expr.proofs.names.Names.arguments_slowly.Goals as goal

pub returns-in-1 : goal.returns-in-1
returns-in-1 c =
    let g = env_of c.args.self.now in
    let p = gives_1 g (decoded [] (take 200 c.args.code.now)) _ c.work-values.ensures c.args.count (omega arith) _ c.pop-a.ensures.value _ c.gathered-in-1.ensures in
    record { values = p.0; spare = p.1 }

pub returns-in-2 : goal.returns-in-2
returns-in-2 c =
    let g = env_of c.args.self.now in
    let p = gives_2 g (decoded [] (take 200 c.args.code.now)) _ _ c.work-values.ensures c.pop-b.ensures.rest c.args.count (omega arith) _ _ c.pop-b.ensures.value c.pop-a-in-2.ensures.value _ c.gathered-in-2.ensures in
    record { values = p.0; spare = p.1 }

pub returns-in_default : goal.returns-in_default
returns-in_default c =
    let g = env_of c.args.self.now in
    let p = gives_3 g (decoded [] (take 200 c.args.code.now)) _ _ _ c.work-values.ensures c.pop-c.ensures.rest c.pop-b-in_default.ensures.rest c.args.count (omega arith) _ _ _ c.pop-c.ensures.value c.pop-b-in_default.ensures.value c.pop-a-in_default.ensures.value _ c.gathered-in_default.ensures in
    record { values = p.0; spare = p.1 }
