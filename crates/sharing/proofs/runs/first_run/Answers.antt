use Rattle.sharing.proofs.RunLaws.{runs}
use Rattle.sharing.proofs.runs.first_run.Goals as goal

pub loop-b-preserved-then-cover-gt0 : goal.loop-b-preserved-then-cover-gt0
loop-b-preserved-then-cover-gt0 c = search runs

pub returns-then-free-wanted : goal.returns-then-free-wanted
returns-then-free-wanted c = search runs

pub loop-b-preserved : goal.loop-b-preserved
loop-b-preserved c = search runs

pub returns : goal.returns
returns c = search runs
