use Rattle.sharing.proofs.CompactLaws.{compacts}
use Rattle.sharing.proofs.compact.Goals as goal

pub returns-then-not-fits : goal.returns-then-not-fits
returns-then-not-fits c = search compacts

pub rows_right-requires : goal.rows_right-requires
rows_right-requires c = search compacts

pub returns-then-not-rows_right : goal.returns-then-not-rows_right
returns-then-not-rows_right c = search compacts

pub used_blocks-used-requires : goal.used_blocks-used-requires
used_blocks-used-requires c = search compacts

pub returns : goal.returns
returns c = search compacts
