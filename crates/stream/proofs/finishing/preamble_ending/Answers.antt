use Rattle.stream.proofs.CallLaws.{preamble_endings}
use Rattle.stream.proofs.finishing.preamble_ending.Goals as goal

pub returns-then-total : goal.returns-then-total
returns-then-total c = search preamble_endings

pub returns : goal.returns
returns c = search preamble_endings
