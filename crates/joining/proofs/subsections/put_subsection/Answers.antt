use Rattle.joining.proofs.SubsectionPuts.{subsection_put}
use Rattle.joining.proofs.subsections.put_subsection.Goals as goal

pub put_head-contents-requires : goal.put_head-contents-requires
put_head-contents-requires c = search subsection_put

pub put_contents-requires-clause-fits_both : goal.put_contents-requires-clause-fits_both
put_contents-requires-clause-fits_both c = search subsection_put

pub put_contents-requires-clause-counts_both : goal.put_contents-requires-clause-counts_both
put_contents-requires-clause-counts_both c = search subsection_put

pub returns-in-None : goal.returns-in-None
returns-in-None c = search subsection_put

pub returns-in-Some : goal.returns-in-Some
returns-in-Some c = search subsection_put
