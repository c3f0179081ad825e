-- Each promise of the crate `instructions` determines what comes back.
use Rattle.format.proofs.Determined.{Determines2}
use Rattle.instructions.proofs.Same.{way_same}
use Rattle.instructions.specs.Promises.{InstructionsStep, InstructionsLocals}

pub record Instructions : Type 0 where
  -- instructions
  instructions_step : Determines2 InstructionsStep
  -- instructions::locals
  instructions_locals : Determines2 InstructionsLocals

pub determined : Instructions
determined =
    record {
      instructions_step = λ c s. way_same;
      instructions_locals = λ c s. way_same;
    }
