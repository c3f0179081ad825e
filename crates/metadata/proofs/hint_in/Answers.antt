use Rattle.metadata.proofs.AnswerLaws.{hints}
use Rattle.metadata.proofs.hint_in.Goals as goal

pub returns-in_err-held : goal.returns-in_err-held
returns-in_err-held c = search (c.in_err-held.ensures, hints)

pub bounds-s-byte : goal.bounds-s-byte
bounds-s-byte c = search (c.in_ok-held.ensures, hints)

pub returns-then-s-byte-eq-LIKELY : goal.returns-then-s-byte-eq-LIKELY
returns-then-s-byte-eq-LIKELY c = search (c.in_ok-held.ensures, hints)

pub returns-in-None : goal.returns-in-None
returns-in-None c = search (c.in_ok-held.ensures, hints)

pub returns-else-s-byte-eq-LIKELY : goal.returns-else-s-byte-eq-LIKELY
returns-else-s-byte-eq-LIKELY c = search (c.in_ok-held.ensures, hints)
