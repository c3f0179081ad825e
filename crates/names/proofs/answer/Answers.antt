use Rattle.names.proofs.AskLaws.{answering}
use Rattle.names.proofs.answer.Goals as goal

pub find-requires : goal.find-requires
find-requires c = search answering

pub the_name-requires : goal.the_name-requires
the_name-requires c = search answering

pub find-requires-in-NameMap : goal.find-requires-in-NameMap
find-requires-in-NameMap c = search answering

pub named-requires : goal.named-requires
named-requires c = search answering

pub find-requires-in-IndirectMap : goal.find-requires-in-IndirectMap
find-requires-in-IndirectMap c = search answering

pub named_within-requires : goal.named_within-requires
named_within-requires c = search answering

pub find-requires-in-Kept : goal.find-requires-in-Kept
find-requires-in-Kept c = search answering

pub all_kept-requires : goal.all_kept-requires
all_kept-requires c = search answering

pub returns-in-OneName : goal.returns-in-OneName
returns-in-OneName c = search answering

pub returns-in_default : goal.returns-in_default
returns-in_default c = search answering

pub returns-in-NameMap : goal.returns-in-NameMap
returns-in-NameMap c = search answering

pub returns-in_default-kind_of : goal.returns-in_default-kind_of
returns-in_default-kind_of c = search answering

pub returns-in-IndirectMap : goal.returns-in-IndirectMap
returns-in-IndirectMap c = search answering

pub returns-in_default-kind_of-2 : goal.returns-in_default-kind_of-2
returns-in_default-kind_of-2 c = search answering

pub returns-in-Kept : goal.returns-in-Kept
returns-in-Kept c = search answering

pub returns-in_default-kind_of-3 : goal.returns-in_default-kind_of-3
returns-in_default-kind_of-3 c = search answering
