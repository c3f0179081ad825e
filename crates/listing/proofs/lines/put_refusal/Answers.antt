use Rattle.listing.proofs.LineLaws.{lines}
use Rattle.listing.proofs.lines.put_refusal.Goals as goal

pub returns : goal.returns
returns c = search lines
