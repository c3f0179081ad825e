use Rattle.sharing.proofs.HoldLaws.{fits_tests}
use Rattle.sharing.proofs.holds.fits.Goals as goal

pub returns-then-length-bytes : goal.returns-then-length-bytes
returns-then-length-bytes c = search fits_tests

pub returns-then-length-ne0 : goal.returns-then-length-ne0
returns-then-length-ne0 c = search fits_tests

pub returns-then-length-eq0 : goal.returns-then-length-eq0
returns-then-length-eq0 c = search fits_tests

pub returns : goal.returns
returns c = search fits_tests
