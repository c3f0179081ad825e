use Rattle.markers.proofs.AskLaws.{question}
use Rattle.markers.proofs.asking.quick.Goals as goal

pub returns-then-p-ge-TOO_LONG : goal.returns-then-p-ge-TOO_LONG
returns-then-p-ge-TOO_LONG c = search question

pub returns-then-indices-offsets : goal.returns-then-indices-offsets
returns-then-indices-offsets c = search question

pub returns-then-offsets-indices : goal.returns-then-offsets-indices
returns-then-offsets-indices c = search question

pub returns-then-p-end : goal.returns-then-p-end
returns-then-p-end c = search question

pub returns-in-Err : goal.returns-in-Err
returns-in-Err c = search question

pub returns-in-None : goal.returns-in-None
returns-in-None c = search question

pub returns-in-Some : goal.returns-in-Some
returns-in-Some c = search question
