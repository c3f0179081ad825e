use Rattle.out_of_order.proofs.Backwards.{puts}
use Rattle.out_of_order.proofs.put.Goals as goal

pub put_all-all-requires : goal.put_all-all-requires
put_all-all-requires c = search puts

pub returns : goal.returns
returns c = search puts
