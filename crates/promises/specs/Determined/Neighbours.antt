-- Each promise of the crate `neighbours` determines what comes back.
use Rattle.format.proofs.Determined.{Determines2, Determines3, meaning_determined}
use Rattle.neighbours.proofs.Same.{why_same}
use Rattle.neighbours.specs.Promises.{NeighboursWhyFunction, NeighboursWhyLocal}

pub record Neighbours : Type 0 where
  -- neighbours::functions
  neighbours_why_function : Determines2 NeighboursWhyFunction
  -- neighbours::locals
  neighbours_why_local : Determines3 NeighboursWhyLocal

pub determined : Neighbours
determined =
    record {
      neighbours_why_function = λ p function. meaning_determined why_same _;
      neighbours_why_local = λ p function local. meaning_determined why_same _;
    }
