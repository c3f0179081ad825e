use Rattle.walk.proofs.StepLaws.{custom_refused, customs}
use Rattle.walk.proofs.step.read_custom.Goals as goal

pub returns-then-id-ne-CUSTOM : goal.returns-then-id-ne-CUSTOM
returns-then-id-ne-CUSTOM c = search customs

pub is_text-requires : goal.is_text-requires
is_text-requires c = search customs

pub returns-then-is_text : goal.returns-then-is_text
returns-then-is_text c = search (c.in_ok-name.ensures, customs)

pub returns : goal.returns
returns c = search (c.in_ok-name.ensures, customs)

pub returns-in_err-name : goal.returns-in_err-name
returns-in_err-name c = search (custom_refused c.if-id-ne-CUSTOM.false c.in_err-name.ensures, customs)
