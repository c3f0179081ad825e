use Rattle.entries.proofs.HintLaws.{hint_storing}
use Rattle.entries.proofs.hints.put_hint.Goals as goal

pub bounds-likely-at : goal.bounds-likely-at
bounds-likely-at c = search hint_storing

pub returns : goal.returns
returns c = search hint_storing
