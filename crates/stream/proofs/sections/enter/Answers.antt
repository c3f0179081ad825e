use Rattle.stream.proofs.SectionLaws.{entries}
use Rattle.stream.proofs.sections.enter.Goals as goal

pub returns-then-n-eq0 : goal.returns-then-n-eq0
returns-then-n-eq0 c = search entries

pub returns-then-s-eq-CUSTOM : goal.returns-then-s-eq-CUSTOM
returns-then-s-eq-CUSTOM c = search entries

pub returns-then-n-eq0-2 : goal.returns-then-n-eq0-2
returns-then-n-eq0-2 c = search entries

pub returns : goal.returns
returns c = search entries
