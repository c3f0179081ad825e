use native.Mathlib.Omega.{arith}
use Rattle.older.proofs.Steps.{kind_steps, kind_too_large}
use Rattle.older.proofs.judging.kind.Goals as goal

pub returns-then-k-gt-LIKELY : goal.returns-then-k-gt-LIKELY
returns-then-k-gt-LIKELY c = kind_too_large c.in_ok-k.ensures (omega (arith, c.if-k-gt-LIKELY.true))

pub returns : goal.returns
returns c = search (c.in_ok-k.ensures, kind_steps)

pub returns-in_err-k : goal.returns-in_err-k
returns-in_err-k c = search (c.in_err-k.ensures, kind_steps)
