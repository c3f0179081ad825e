use Rattle.joining.proofs.MapLaws.{measuring_maps}
use Rattle.joining.proofs.maps.ahead_length.Goals as goal

pub loop-row-init : goal.loop-row-init
loop-row-init c = search measuring_maps

pub returns : goal.returns
returns c = search measuring_maps

pub overflow_sub-part : goal.overflow_sub-part
overflow_sub-part c = search measuring_maps

pub sized_length-text-requires : goal.sized_length-text-requires
sized_length-text-requires c = search measuring_maps

pub overflow_add-length-in-Some : goal.overflow_add-length-in-Some
overflow_add-length-in-Some c = search measuring_maps

pub overflow_add-count : goal.overflow_add-count
overflow_add-count c = search measuring_maps

pub onward-ours-requires : goal.onward-ours-requires
onward-ours-requires c = search measuring_maps

pub onward-theirs-requires : goal.onward-theirs-requires
onward-theirs-requires c = search measuring_maps

pub loop-row-smaller : goal.loop-row-smaller
loop-row-smaller c = search measuring_maps

pub loop-row-preserved : goal.loop-row-preserved
loop-row-preserved c = search measuring_maps
