use Rattle.joining.proofs.MapLaws.{putting_maps}
use Rattle.joining.proofs.maps.put_ahead.Goals as goal

pub loop-row-init : goal.loop-row-init
loop-row-init c = search putting_maps

pub returns : goal.returns
returns c = search putting_maps

pub put_row-to-requires : goal.put_row-to-requires
put_row-to-requires c = search putting_maps

pub onward-ours-requires : goal.onward-ours-requires
onward-ours-requires c = search putting_maps

pub onward-theirs-requires : goal.onward-theirs-requires
onward-theirs-requires c = search putting_maps

pub loop-row-preserved : goal.loop-row-preserved
loop-row-preserved c = search putting_maps
