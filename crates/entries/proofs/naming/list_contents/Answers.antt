use Rattle.entries.proofs.NamingLaws.{contents_listed}
use Rattle.entries.proofs.naming.list_contents.Goals as goal

pub list_one-requires : goal.list_one-requires
list_one-requires c = search contents_listed

pub list_map-requires : goal.list_map-requires
list_map-requires c = search contents_listed

pub list_groups-requires : goal.list_groups-requires
list_groups-requires c = search contents_listed

pub returns-in-OneName : goal.returns-in-OneName
returns-in-OneName c = search contents_listed

pub returns-in-NameMap : goal.returns-in-NameMap
returns-in-NameMap c = search contents_listed

pub returns-in-IndirectMap : goal.returns-in-IndirectMap
returns-in-IndirectMap c = search contents_listed

pub returns-in-Kept : goal.returns-in-Kept
returns-in-Kept c = search contents_listed
