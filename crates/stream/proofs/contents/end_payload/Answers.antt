use Rattle.stream.proofs.ContentLaws.{payloads}
use Rattle.stream.proofs.contents.end_payload.Goals as goal

pub overflow_sub-spot : goal.overflow_sub-spot
overflow_sub-spot c = search payloads

pub custom_behind-requires : goal.custom_behind-requires
custom_behind-requires c = search payloads

pub returns-in-Err : goal.returns-in-Err
returns-in-Err c = search payloads

pub returns-in-Ok : goal.returns-in-Ok
returns-in-Ok c = search payloads
