use Rattle.format.proofs.Nested.{handed_on}
use Rattle.reordering.proofs.Payloads.{judgement_steps}
use Rattle.reordering.proofs.canonical.Goals as goal

pub put_payload-requires : goal.put_payload-requires
put_payload-requires c = search (c.in_ok-judge.was, judgement_steps)

pub returns-in_err-judge : goal.returns-in_err-judge
returns-in_err-judge c = rw (handed_on _ c.from_residual.ensures) (search (c.in_err-judge.was, judgement_steps))

pub returns : goal.returns
returns c = search (c.in_ok-judge.was, judgement_steps)
