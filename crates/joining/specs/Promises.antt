-- THE PROMISES of the crate `joining`, each by the name of its function. They stand in the `ensures` of the public functions and nowhere else: what is shown of these names is shown of the functions. A promise relates what is lent to what comes back.
use Rattle.std.specs.Prelude.{ℕ, List}
use Rattle.format.specs.Joined.{join_names, JoinWrites}
use Rattle.format.specs.Names.{kind_in}
use Rattle.format.specs.declared.Edition.{Edition}
use Rattle.format.specs.Returned.{JoinWritten}

-- joining
abbrev pub JoiningJoin : (separate own : List ℕ) (edition : Edition) (old : List ℕ) → List ℕ → JoinWritten → Type 0
JoiningJoin separate own edition old new r = JoinWrites (join_names (kind_in edition) separate own) old new r
