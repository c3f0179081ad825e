use Rattle.in_order.proofs.Putting.{putting_entry}
use Rattle.in_order.proofs.put_entry.Goals as goal

pub returns-then-count-eq0 : goal.returns-then-count-eq0
returns-then-count-eq0 c = search putting_entry

pub put_number-zero-requires : goal.put_number-zero-requires
put_number-zero-requires c = search putting_entry

pub put_byte-size-requires : goal.put_byte-size-requires
put_byte-size-requires c = search putting_entry

pub put_number-hints-requires : goal.put_number-hints-requires
put_number-hints-requires c = search putting_entry

pub put_hints-requires : goal.put_hints-requires
put_hints-requires c = search putting_entry

pub returns : goal.returns
returns c = search putting_entry
