use Rattle.out_of_order.proofs.Tallies.{tally_turns}
use Rattle.out_of_order.proofs.tally.tally_all.Goals as goal

pub returns-then-counted-gt-MOST : goal.returns-then-counted-gt-MOST
returns-then-counted-gt-MOST c = search tally_turns

pub loop-i-preserved : goal.loop-i-preserved
loop-i-preserved c = search tally_turns

pub returns : goal.returns
returns c = search tally_turns
