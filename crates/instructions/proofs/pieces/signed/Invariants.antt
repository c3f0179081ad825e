use Rattle.instructions.specs.Immediates.{signed}
use Rattle.instructions.proofs.PieceSteps.{Still}
use Rattle.instructions.proofs.pieces.signed.Given as goal

abbrev pub invariant-loop-more : goal.invariant-loop-more
invariant-loop-more l = Still (signed l.following l.last) (signed l.more l.last) l.s (record { at = l.initial.i; end = l.end }) (record { at = l.i; end = l.end })

abbrev pub decreases-loop-more : goal.decreases-loop-more
decreases-loop-more l = l.more
