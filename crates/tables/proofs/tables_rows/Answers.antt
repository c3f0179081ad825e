use Rattle.tables.proofs.Turns.{turns}
use Rattle.tables.proofs.tables_rows.Goals as goal

pub loop-init : goal.loop-init
loop-init c = search turns

pub loop-preserved : goal.loop-preserved
loop-preserved c = search turns

pub returns : goal.returns
returns c = search turns

pub returns-in_err-outer : goal.returns-in_err-outer
returns-in_err-outer c = search (c.in_err-outer.was, turns)
