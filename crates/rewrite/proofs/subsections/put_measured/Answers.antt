use Rattle.rewrite.proofs.SubsectionPuts.{measured_put}
use Rattle.rewrite.proofs.subsections.put_measured.Goals as goal

pub overflow_cast-length : goal.overflow_cast-length
overflow_cast-length c = search measured_put

pub put_number-contents-requires : goal.put_number-contents-requires
put_number-contents-requires c = search measured_put

pub put_content-requires-clause-fits_content : goal.put_content-requires-clause-fits_content
put_content-requires-clause-fits_content c = search measured_put

pub returns-in-Some : goal.returns-in-Some
returns-in-Some c = search measured_put
