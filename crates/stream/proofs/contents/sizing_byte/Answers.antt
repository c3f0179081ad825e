use Rattle.stream.proofs.NameLaws.{name_sizes}
use Rattle.stream.proofs.contents.sizing_byte.Goals as goal

pub overflow_sub-next : goal.overflow_sub-next
overflow_sub-next c = search name_sizes

pub count_byte-requires : goal.count_byte-requires
count_byte-requires c = search name_sizes

pub name_sized-requires : goal.name_sized-requires
name_sized-requires c = search name_sizes

pub overflow_add-next-in-Partly : goal.overflow_add-next-in-Partly
overflow_add-next-in-Partly c = search name_sizes

pub close-requires : goal.close-requires
close-requires c = search name_sizes

pub close-requires-in-Over : goal.close-requires-in-Over
close-requires-in-Over c = search name_sizes

pub returns-in-Whole : goal.returns-in-Whole
returns-in-Whole c = search name_sizes

pub returns-in-Partly : goal.returns-in-Partly
returns-in-Partly c = search name_sizes

pub returns-in-Over : goal.returns-in-Over
returns-in-Over c = search name_sizes
