use Rattle.stream.proofs.LeadLaws.{preamble_leads}
use Rattle.stream.proofs.leading.lead_preamble.Goals as goal

pub returns-then-is_called : goal.returns-then-is_called
returns-then-is_called c = search preamble_leads
