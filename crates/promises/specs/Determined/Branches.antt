-- Each promise of the crate `branches` determines what comes back.
use Rattle.branches.specs.Promises.{BranchesHintsOnBranches}
use Rattle.format.proofs.Determined.{Determines1, meaning_determined}
use Rattle.format.specs.Laws.Refusals.{same_verdict}

pub record Branches : Type 0 where
  -- branches
  branches_hints_on_branches : Determines1 BranchesHintsOnBranches

pub determined : Branches
determined =
    record {
      branches_hints_on_branches = λ m. meaning_determined same_verdict _;
    }
