use Rattle.std.proofs.Common.{refl}
use Rattle.tokens.proofs.Places.{no_gap, takes, ends, nearer}
use Rattle.tokens.proofs.reader.lex.ReaderIterator.next.Goals as goal

pub first-requires : goal.first-requires
first-requires c = no_gap c.args.self.now c.args.self.now c.gap.result c.gap.ensures.count refl

pub returns-in_err-token-clause-steps : goal.returns-in_err-token-clause-steps
returns-in_err-token-clause-steps c =
    rw c.from_residual.ensures (ends c.args.self.now _ c.gap.result c.gap.ensures.count refl c.in_err-token.ensures refl)

pub returns-clause-steps : goal.returns-clause-steps
returns-clause-steps c = takes c.args.self.now _ c.gap.result c.gap.ensures.count refl c.in_ok-token.token c.in_ok-token.size c.in_ok-token.ensures refl

pub returns-clause-goes : goal.returns-clause-goes
returns-clause-goes c =
    nearer c.args.self.now _ c.in_ok-token.token (takes c.args.self.now _ c.gap.result c.gap.ensures.count refl c.in_ok-token.token c.in_ok-token.size c.in_ok-token.ensures refl)
