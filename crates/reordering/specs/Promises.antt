-- THE PROMISES of the crate `reordering`, each by the name of its function. They stand in the `ensures` of the public functions and nowhere else: what is shown of these names is shown of the functions. A promise relates what is lent to what comes back.
use Rattle.std.specs.Prelude.{ℕ, Bool, List, ◌≡◌}
use Rattle.format.specs.Entries.{older_rows, older_columns, Lists}
use Rattle.format.specs.Older.{canonical_older}
use Rattle.format.specs.Outputs.{Writes}
use Rattle.format.specs.Telling.{older_is_canonical}
use Rattle.format.specs.Returned.{Answer}
use Rattle.format.specs.Returned.{Written}

-- reordering
abbrev pub ReorderingCanonical : (p old : List ℕ) → List ℕ → Written → Type 0
ReorderingCanonical p old new r = Writes (canonical_older p) old new r

abbrev pub ReorderingIsCanonical : (p : List ℕ) → Bool → Type 0
ReorderingIsCanonical p r = r ≡ older_is_canonical p

-- reordering::listing
abbrev pub ReorderingList : (p : List ℕ) (lists : List (List ℕ)) → List (List ℕ) → Answer → Type 0
ReorderingList p lists lists' r = Lists older_columns (older_rows p) lists lists' r
