-- Each promise of the crate `joining` determines what comes back.
use Rattle.format.proofs.Determined.{DeterminesBoth4, joins_determined}
use Rattle.joining.specs.Promises.{JoiningJoin}

pub record Joining : Type 0 where
  joining_join : DeterminesBoth4 JoiningJoin

pub determined : Joining
determined = record { joining_join = λ separate own edition old. joins_determined _ _ }
