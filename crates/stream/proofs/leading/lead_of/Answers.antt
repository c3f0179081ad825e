use Rattle.stream.proofs.LeadLaws.{leads}
use Rattle.stream.proofs.leading.lead_of.Goals as goal

pub returns-then-s-eq-BETWEEN : goal.returns-then-s-eq-BETWEEN
returns-then-s-eq-BETWEEN c = search leads

pub returns-then-s-eq-SKIPPING : goal.returns-then-s-eq-SKIPPING
returns-then-s-eq-SKIPPING c = search leads
