use Rattle.std.proofs.Common.{◌+◌, ◌*◌, length}
use Rattle.tokens.specs.Readers.{first_sign}
use Rattle.book.specs.Grammar.{sum, product}
use Rattle.lines.specs.Parts.{Stops}
use Rattle.lines.specs.Parsing.{left, laid}
use Rattle.lines.proofs.Steps.{Onward}
use Rattle.lines.proofs.parser.Parser.+factor_operand_product_sum.Given as goal

abbrev pub decreases-factor : goal.decreases-factor
decreases-factor l = 4 * length (left l.self.now) + 1

abbrev pub decreases-operand : goal.decreases-operand
decreases-operand l = 4 * length (left l.self.now)

abbrev pub decreases-product : goal.decreases-product
decreases-product l = 4 * length (left l.self.now) + 2

abbrev pub decreases-sum : goal.decreases-sum
decreases-sum l = 4 * length (left l.self.now) + 3

abbrev pub invariant-product-loop-code : goal.invariant-product-loop-code
invariant-product-loop-code l = Onward product (left l.initial.self) (left l.self) (laid l.initial.self) (laid l.self)

abbrev pub decreases-product-loop-code : goal.decreases-product-loop-code
decreases-product-loop-code l = length (left l.self)

abbrev pub invariant-sum-loop-code : goal.invariant-sum-loop-code
invariant-sum-loop-code l = Onward sum (left l.initial.self) (left l.self) (laid l.initial.self) (laid l.self) × Stops product (first_sign (left l.self))

abbrev pub decreases-sum-loop-code : goal.decreases-sum-loop-code
decreases-sum-loop-code l = length (left l.self)
