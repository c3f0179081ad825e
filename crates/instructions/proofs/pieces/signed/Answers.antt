use Rattle.instructions.proofs.PieceSteps.{signed_ends, signed_turns}
use Rattle.instructions.proofs.pieces.signed.Goals as goal

pub returns-then-end-i : goal.returns-then-end-i
returns-then-end-i c = search signed_turns

pub returns-then-s-i-lt-FOLLOWED : goal.returns-then-s-i-lt-FOLLOWED
returns-then-s-i-lt-FOLLOWED c = signed_ends c.args.following c.loop-more.more c.args.last c.loop-more.invariant c.loop-more-test.true c.if-end-i.false c.if-s-i-lt-FOLLOWED.true

pub loop-more-preserved : goal.loop-more-preserved
loop-more-preserved c = search signed_turns

pub returns : goal.returns
returns c = search signed_turns
