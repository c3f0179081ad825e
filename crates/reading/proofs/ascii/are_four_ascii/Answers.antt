use Rattle.reading.proofs.AsciiLaws.{words}
use Rattle.reading.proofs.ascii.are_four_ascii.Goals as goal

pub returns : goal.returns
returns c = search words
