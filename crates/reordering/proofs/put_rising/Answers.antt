use Rattle.reordering.proofs.Entries.{rising_steps}
use Rattle.reordering.proofs.put_rising.Goals as goal

pub returns-then-needed-gt-MOST : goal.returns-then-needed-gt-MOST
returns-then-needed-gt-MOST c = search rising_steps

pub returns-then-out-needed : goal.returns-then-out-needed
returns-then-out-needed c = search rising_steps

pub returns : goal.returns
returns c = search rising_steps
