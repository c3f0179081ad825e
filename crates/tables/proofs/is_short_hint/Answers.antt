use Rattle.tables.proofs.Hints.{short_hint_steps}
use Rattle.tables.proofs.is_short_hint.Goals as goal

pub returns-then-c-at-lt-SHORT_HINT : goal.returns-then-c-at-lt-SHORT_HINT
returns-then-c-at-lt-SHORT_HINT c = search short_hint_steps
