-- THE PROMISES of the crate `rewrite`, each by the name of its function. They stand in the `ensures` of the public functions and nowhere else: what is shown of these names is shown of the functions. A promise relates what is lent to what comes back.
use Rattle.std.specs.Prelude.{ℕ, List}
use Rattle.format.specs.Canonical.{canonical_names, canonical_metadata, canonical_hints}
use Rattle.format.specs.Names.{kind_in}
use Rattle.format.specs.Outputs.{Writes}
use Rattle.format.specs.declared.Edition.{Edition}
use Rattle.format.specs.Returned.{Written}

-- rewrite
abbrev pub RewriteNames : (p : List ℕ) (edition : Edition) (old : List ℕ) → List ℕ → Written → Type 0
RewriteNames p edition old new r = Writes (canonical_names (kind_in edition) p) old new r

abbrev pub RewriteMetadata : (p old : List ℕ) → List ℕ → Written → Type 0
RewriteMetadata p old new r = Writes (canonical_metadata p) old new r

abbrev pub RewriteHints : (p old : List ℕ) → List ℕ → Written → Type 0
RewriteHints p old new r = Writes (canonical_hints p) old new r
