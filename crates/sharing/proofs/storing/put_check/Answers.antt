use Rattle.sharing.proofs.StoreLaws.{checks_put}
use Rattle.sharing.proofs.storing.put_check.Goals as goal

pub returns : goal.returns
returns c = search checks_put
