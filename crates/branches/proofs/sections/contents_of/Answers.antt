use Rattle.branches.proofs.SectionSteps.{section_turns}
use Rattle.branches.proofs.sections.contents_of.Goals as goal

pub loop-at-init : goal.loop-at-init
loop-at-init c = search section_turns

pub part_here-section-requires : goal.part_here-section-requires
part_here-section-requires c = search section_turns

pub returns-then-m-at : goal.returns-then-m-at
returns-then-m-at c = search section_turns

pub loop-at-smaller : goal.loop-at-smaller
loop-at-smaller c = search section_turns

pub loop-at-preserved : goal.loop-at-preserved
loop-at-preserved c = search section_turns

pub returns : goal.returns
returns c = search section_turns
