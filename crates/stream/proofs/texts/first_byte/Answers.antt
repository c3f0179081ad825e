use Rattle.stream.proofs.Leaves.{spelling}
use Rattle.stream.proofs.texts.first_byte.Goals as goal

pub returns-then-b-lt128 : goal.returns-then-b-lt128
returns-then-b-lt128 c = search spelling

pub returns-then-b-lt192 : goal.returns-then-b-lt192
returns-then-b-lt192 c = search spelling

pub returns-then-b-lt224 : goal.returns-then-b-lt224
returns-then-b-lt224 c = search spelling

pub returns-then-b-lt240 : goal.returns-then-b-lt240
returns-then-b-lt240 c = search spelling

pub returns-then-b-lt248 : goal.returns-then-b-lt248
returns-then-b-lt248 c = search spelling

pub returns : goal.returns
returns c = search spelling
