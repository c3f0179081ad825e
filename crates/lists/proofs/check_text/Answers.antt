use Rattle.lists.proofs.Checks.{readings}
use Rattle.lists.proofs.check_text.Goals as goal

pub is_text-requires : goal.is_text-requires
is_text-requires c = search readings

pub returns-then-not-is_text : goal.returns-then-not-is_text
returns-then-not-is_text c = search readings

pub loop-k-preserved : goal.loop-k-preserved
loop-k-preserved c = search readings

pub returns : goal.returns
returns c = search readings
