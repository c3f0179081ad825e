use Rattle.markers.proofs.AskLaws.{reading_entries}
use Rattle.markers.proofs.asking.first_with.Goals as goal

pub returns-in_err-index : goal.returns-in_err-index
returns-in_err-index c = rw c.from_residual.ensures (search (c.in_err-index.was, reading_entries))

pub returns-then-index-key : goal.returns-then-index-key
returns-then-index-key c = search (c.in_ok-index.was, reading_entries)

pub loop-more-preserved : goal.loop-more-preserved
loop-more-preserved c = search (c.in_ok-index.was, reading_entries)

pub returns : goal.returns
returns c = search reading_entries
