use Rattle.rewrite.proofs.WholeLaws.{whole_put}
use Rattle.format.specs.Bytes.{Bytes}
use Rattle.rewrite.proofs.whole.put_whole.Goals as goal

pub returns : goal.returns
returns c = let known : Bytes c.args.s.now = λ i. (c.type_inv.s i).fits in search (whole_put, known)
