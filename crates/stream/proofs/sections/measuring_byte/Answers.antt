use Rattle.stream.proofs.SectionLaws.{sizes}
use Rattle.stream.proofs.sections.measuring_byte.Goals as goal

pub count_byte-requires : goal.count_byte-requires
count_byte-requires c = search sizes

pub enter-requires : goal.enter-requires
enter-requires c = search sizes

pub overflow_add-next-in-Partly : goal.overflow_add-next-in-Partly
overflow_add-next-in-Partly c = search sizes

pub overflow_add-s : goal.overflow_add-s
overflow_add-s c = search sizes

pub returns-in-Whole : goal.returns-in-Whole
returns-in-Whole c = search sizes

pub returns-in-Partly : goal.returns-in-Partly
returns-in-Partly c = search sizes

pub returns-in-Over : goal.returns-in-Over
returns-in-Over c = search sizes
