use Rattle.stream.proofs.FitLaws.{fitting}
use Rattle.stream.proofs.fitting.custom_fits.Goals as goal

pub returns : goal.returns
returns c = search fitting
