use Rattle.walk.proofs.BeginLaws.{beginnings}
use Rattle.walk.proofs.step.Walk.begin.Goals as goal

pub returns-then-m-lt-PREAMBLE_LENGTH : goal.returns-then-m-lt-PREAMBLE_LENGTH
returns-then-m-lt-PREAMBLE_LENGTH c = search beginnings

pub returns-then-is_called : goal.returns-then-is_called
returns-then-is_called c = search beginnings

pub returns : goal.returns
returns c = search beginnings
