-- THE PROMISES of the crate `branches`, each by the name of its function. They stand in the `ensures` of the public functions and nowhere else: what is shown of these names is shown of the functions. A promise relates what is lent to what comes back.
use Rattle.std.specs.Prelude.{ℕ, List, ◌≡◌}
use Rattle.format.specs.Verdicts.{verdict_of}
use Rattle.format.specs.Returned.{Verdict}
use Rattle.branches.specs.Branches.{hints_on_branches}

-- branches
abbrev pub BranchesHintsOnBranches : (m : List ℕ) → Verdict → Type 0
BranchesHintsOnBranches m r = verdict_of r ≡ hints_on_branches m
