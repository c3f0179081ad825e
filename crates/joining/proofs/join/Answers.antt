use Rattle.joining.proofs.JoinLaws.{joins}
use Rattle.joining.proofs.join.Goals as goal

pub returns-in-Err : goal.returns-in-Err
returns-in-Err c = search joins
