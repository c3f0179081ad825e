use Rattle.format.proofs.Nested.{handed_on}
use Rattle.older.proofs.Steps.{turns}
use Rattle.older.proofs.entries_times.Goals as goal

pub loop-init : goal.loop-init
loop-init c = search turns

pub loop-preserved : goal.loop-preserved
loop-preserved c = search (c.in_ok-found.ensures, turns)

pub loop-preserved-in-Some : goal.loop-preserved-in-Some
loop-preserved-in-Some c = search (c.in_ok-found.ensures, turns)

pub returns : goal.returns
returns c = search turns

pub returns-in_err-found : goal.returns-in_err-found
returns-in_err-found c = rw (handed_on _ c.from_residual.ensures) (search (c.in_err-found.ensures, turns))
