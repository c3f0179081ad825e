use Rattle.stream.proofs.LeadLaws.{payload_leads}
use Rattle.stream.proofs.leading.lead_payload.Goals as goal

pub overflow_sub-spot : goal.overflow_sub-spot
overflow_sub-spot c = search payload_leads

pub custom_behind-requires : goal.custom_behind-requires
custom_behind-requires c = search payload_leads

pub returns : goal.returns
returns c = search payload_leads
