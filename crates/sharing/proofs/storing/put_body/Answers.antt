use Rattle.sharing.proofs.StoreLaws.{bodies_put}
use Rattle.sharing.proofs.storing.put_body.Goals as goal

pub returns : goal.returns
returns c = search bodies_put
