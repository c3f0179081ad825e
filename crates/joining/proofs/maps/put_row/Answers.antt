use Rattle.joining.proofs.MapLaws.{putting_row}
use Rattle.joining.proofs.maps.put_row.Goals as goal

pub returns : goal.returns
returns c = search putting_row
