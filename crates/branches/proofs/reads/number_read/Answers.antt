use Rattle.branches.proofs.ReadLaws.{number_reads}
use Rattle.branches.proofs.reads.number_read.Goals as goal

pub returns : goal.returns
returns c = search (c.in_ok-n.was, number_reads)
