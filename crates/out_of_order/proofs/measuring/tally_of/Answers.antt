use Rattle.out_of_order.proofs.Measures.{measures}
use Rattle.out_of_order.proofs.measuring.tally_of.Goals as goal

pub loop-keys-init : goal.loop-keys-init
loop-keys-init c = search measures

pub returns-then-held-keys : goal.returns-then-held-keys
returns-then-held-keys c = search measures

pub loop-keys-smaller : goal.loop-keys-smaller
loop-keys-smaller c = search measures

pub loop-keys-preserved : goal.loop-keys-preserved
loop-keys-preserved c = search measures
