use Rattle.lists.proofs.Sizes.{sums}
use Rattle.lists.proofs.measure.Goals as goal

pub returns-then-count-ge-TOO_LARGE : goal.returns-then-count-ge-TOO_LARGE
returns-then-count-ge-TOO_LARGE c = search sums

pub returns-then-total-ge-TOO_LARGE : goal.returns-then-total-ge-TOO_LARGE
returns-then-total-ge-TOO_LARGE c = search sums

pub loop-k-preserved : goal.loop-k-preserved
loop-k-preserved c = search sums

pub returns : goal.returns
returns c = search sums
