use Rattle.instructions.proofs.Steps.{immediates_steps}
use Rattle.instructions.proofs.immediates_here.Goals as goal

pub returns-in-Plain : goal.returns-in-Plain
returns-in-Plain c = search immediates_steps

pub returns-in-Block : goal.returns-in-Block
returns-in-Block c = search immediates_steps

pub returns-in-Index : goal.returns-in-Index
returns-in-Index c = search immediates_steps

pub returns-in-Table : goal.returns-in-Table
returns-in-Table c = search immediates_steps

pub returns-in-Indirect : goal.returns-in-Indirect
returns-in-Indirect c = search immediates_steps

pub returns-in-Memory : goal.returns-in-Memory
returns-in-Memory c = search immediates_steps

pub returns-in-Zero : goal.returns-in-Zero
returns-in-Zero c = search immediates_steps

pub returns-in-Const32 : goal.returns-in-Const32
returns-in-Const32 c = search immediates_steps

pub returns-in-Const64 : goal.returns-in-Const64
returns-in-Const64 c = search immediates_steps

pub returns-in-Float32 : goal.returns-in-Float32
returns-in-Float32 c = search immediates_steps

pub returns-in-Float64 : goal.returns-in-Float64
returns-in-Float64 c = search immediates_steps

pub returns-in-Unknown : goal.returns-in-Unknown
returns-in-Unknown c = search immediates_steps
