use Rattle.stream.proofs.FeedLaws.{preambles}
use Rattle.stream.proofs.feeding.preamble_byte.Goals as goal

pub returns : goal.returns
returns c = search (preambles, c.blank.ensures, c.requires)
