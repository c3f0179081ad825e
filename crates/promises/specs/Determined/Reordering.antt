-- Each promise of the crate `reordering` determines what comes back.
use Rattle.format.proofs.Determined.{Determines1, DeterminesBoth2, equal_determined, writes_determined, lists_determined}
use Rattle.reordering.specs.Promises.{ReorderingCanonical, ReorderingIsCanonical, ReorderingList}

pub record Reordering : Type 0 where
  reordering_canonical : DeterminesBoth2 ReorderingCanonical
  reordering_is_canonical : Determines1 ReorderingIsCanonical
  -- reordering::listing
  reordering_list : DeterminesBoth2 ReorderingList

pub determined : Reordering
determined =
    record {
      reordering_canonical = λ p old. writes_determined _ _;
      reordering_is_canonical = λ p. equal_determined _;
      reordering_list = λ p lists. lists_determined _ _ _;
    }
