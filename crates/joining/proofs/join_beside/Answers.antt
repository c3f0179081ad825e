use Rattle.joining.proofs.JoinLaws.{joins_beside}
use Rattle.joining.proofs.join_beside.Goals as goal

pub returns-in-Err : goal.returns-in-Err
returns-in-Err c = search joins_beside

pub put_joined-end-requires : goal.put_joined-end-requires
put_joined-end-requires c = search joins_beside

pub returns-then-is_roomy : goal.returns-then-is_roomy
returns-then-is_roomy c = search joins_beside

pub put_both-requires : goal.put_both-requires
put_both-requires c = search joins_beside

pub returns : goal.returns
returns c = search joins_beside
