use Rattle.names.proofs.TellLaws.{tell_contents}
use Rattle.names.proofs.telling_widely.is_tidy_widely.Goals as goal

pub returns-in-OneName : goal.returns-in-OneName
returns-in-OneName c = search tell_contents

pub returns-in-NameMap : goal.returns-in-NameMap
returns-in-NameMap c = search tell_contents

pub returns-in-IndirectMap : goal.returns-in-IndirectMap
returns-in-IndirectMap c = search tell_contents

pub returns-in-Kept : goal.returns-in-Kept
returns-in-Kept c = search tell_contents
