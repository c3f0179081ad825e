use Rattle.lists.proofs.Puts.{rows_puts}
use Rattle.lists.proofs.put_rows.Goals as goal

pub slice_bounds-put_row-end : goal.slice_bounds-put_row-end
slice_bounds-put_row-end c = search rows_puts

pub put_row-next-requires : goal.put_row-next-requires
put_row-next-requires c = search rows_puts

pub loop-k-preserved : goal.loop-k-preserved
loop-k-preserved c = search rows_puts

pub returns : goal.returns
returns c = search rows_puts
