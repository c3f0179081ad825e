use Rattle.stream.proofs.SectionLaws.{starts}
use Rattle.stream.proofs.sections.starting_byte.Goals as goal

pub returns-then-at-b : goal.returns-then-at-b
returns-then-at-b c = search starts

pub returns-then-at-lt-PREAMBLE_LENGTH : goal.returns-then-at-lt-PREAMBLE_LENGTH
returns-then-at-lt-PREAMBLE_LENGTH c = search starts

pub returns : goal.returns
returns c = search starts
