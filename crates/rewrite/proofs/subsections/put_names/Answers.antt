use Rattle.rewrite.proofs.SubsectionPuts.{names_written}
use Rattle.rewrite.proofs.subsections.put_names.Goals as goal

pub returns-in-Some : goal.returns-in-Some
returns-in-Some c = search names_written
