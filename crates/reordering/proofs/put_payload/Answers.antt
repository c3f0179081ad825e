use Rattle.reordering.proofs.Payloads.{payload_steps}
use Rattle.reordering.proofs.put_payload.Goals as goal

pub number_here-count-requires : goal.number_here-count-requires
number_here-count-requires c = search payload_steps

pub survey-found-requires : goal.survey-found-requires
survey-found-requires c = search payload_steps

pub put_rising-requires : goal.put_rising-requires
put_rising-requires c = search payload_steps

pub returns-then-found : goal.returns-then-found
returns-then-found c = search payload_steps

pub returns : goal.returns
returns c = search payload_steps
