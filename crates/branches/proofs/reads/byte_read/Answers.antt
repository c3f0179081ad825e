use Rattle.branches.proofs.ReadLaws.{byte_reads}
use Rattle.branches.proofs.reads.byte_read.Goals as goal

pub returns-then-end-at : goal.returns-then-end-at
returns-then-end-at c = search byte_reads

pub returns : goal.returns
returns c = search byte_reads
