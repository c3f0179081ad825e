use Rattle.joining.proofs.SubsectionPuts.{both_written}
use Rattle.joining.proofs.subsections.put_both.Goals as goal

pub returns-in_default : goal.returns-in_default
returns-in_default c = search both_written

pub returns-then-out-needed : goal.returns-then-out-needed
returns-then-out-needed c = search both_written

pub put_joined-end-requires : goal.put_joined-end-requires
put_joined-end-requires c = search both_written

pub returns : goal.returns
returns c = search both_written
