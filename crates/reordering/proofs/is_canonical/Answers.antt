use Rattle.reordering.proofs.Payloads.{judgement_steps}
use Rattle.reordering.proofs.is_canonical.Goals as goal

pub tells-requires : goal.tells-requires
tells-requires c = search judgement_steps

pub returns-in-Err : goal.returns-in-Err
returns-in-Err c = search judgement_steps
