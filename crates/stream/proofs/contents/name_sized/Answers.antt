use Rattle.stream.proofs.NameLaws.{beginnings}
use Rattle.stream.proofs.contents.name_sized.Goals as goal

pub close-requires : goal.close-requires
close-requires c = search beginnings
