use Rattle.sharing.proofs.TidyLaws.{tidied_tables}
use Rattle.sharing.proofs.tidying.pack_table.Goals as goal

pub returns : goal.returns
returns c = search tidied_tables
