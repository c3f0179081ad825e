use Rattle.rewrite.proofs.SubsectionPuts.{payload_written}
use Rattle.rewrite.proofs.subsections.put_payload.Goals as goal

pub returns-then-out-needed : goal.returns-then-out-needed
returns-then-out-needed c = search payload_written

pub returns : goal.returns
returns c = search payload_written
