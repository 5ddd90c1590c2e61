use Rattle.book.proofs.Loading.{any_order}
use Rattle.book.proofs.order_is_gone.Goals as goal

pub returns : goal.returns
returns c = any_order
