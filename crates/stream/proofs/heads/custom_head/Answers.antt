use Rattle.stream.proofs.HeadLaws.{name_heads}
use Rattle.stream.proofs.heads.custom_head.Goals as goal

pub called-requires : goal.called-requires
called-requires c = search name_heads

pub overflow_sub-read : goal.overflow_sub-read
overflow_sub-read c = search name_heads

pub overflow_cast-read : goal.overflow_cast-read
overflow_cast-read c = search name_heads

pub overflow_sub-result : goal.overflow_sub-result
overflow_sub-result c = search name_heads

pub returns : goal.returns
returns c = search name_heads
