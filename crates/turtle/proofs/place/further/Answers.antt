use Rattle.turtle.proofs.Steps.{product_fits, sum_fits, sum_is}
use Rattle.turtle.proofs.place.further.Goals as goal

pub overflow_mul-result : goal.overflow_mul-result
overflow_mul-result c = product_fits c.args.number c.args.length c.args.unit c.requires.near c.requires.short c.requires.unit

pub overflow_add-result : goal.overflow_add-result
overflow_add-result c = sum_fits c.args.number c.args.length c.args.unit c.requires.near c.requires.short c.requires.unit

pub returns : goal.returns
returns c = sum_is c.args.number c.args.length c.args.unit c.requires.near c.requires.short c.requires.unit
