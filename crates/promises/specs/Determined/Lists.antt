-- Each promise of the crate `lists` determines what comes back.
use Rattle.format.proofs.Determined.{DeterminesBoth4, writes_determined}
use Rattle.lists.specs.Promises.{ListsFunctionNames}

pub record Lists : Type 0 where
  lists_function_names : DeterminesBoth4 ListsFunctionNames

pub determined : Lists
determined =
    record {
      lists_function_names = λ indices lengths text old. writes_determined _ _;
    }
