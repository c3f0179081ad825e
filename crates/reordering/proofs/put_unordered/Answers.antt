use Rattle.reordering.proofs.Entries.{unordered_steps}
use Rattle.reordering.proofs.put_unordered.Goals as goal

pub returns-then-needed-gt-MOST : goal.returns-then-needed-gt-MOST
returns-then-needed-gt-MOST c = search unordered_steps

pub returns-then-out-needed : goal.returns-then-out-needed
returns-then-out-needed c = search unordered_steps

pub returns : goal.returns
returns c = search unordered_steps
