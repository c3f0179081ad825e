use Rattle.stream.proofs.HeadLaws.{whole_heads}
use Rattle.stream.proofs.heads.head_at.Goals as goal

pub overflow_sub-end : goal.overflow_sub-end
overflow_sub-end c = search whole_heads

pub custom_head-requires : goal.custom_head-requires
custom_head-requires c = search whole_heads

pub returns-then-id-eq-CUSTOM : goal.returns-then-id-eq-CUSTOM
returns-then-id-eq-CUSTOM c = search whole_heads

pub returns : goal.returns
returns c = search whole_heads
