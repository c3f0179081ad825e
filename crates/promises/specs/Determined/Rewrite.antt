-- Each promise of the crate `rewrite` determines what comes back.
use Rattle.format.proofs.Determined.{DeterminesBoth2, DeterminesBoth3, writes_determined}
use Rattle.rewrite.specs.Promises.{RewriteNames, RewriteMetadata, RewriteHints}

pub record Rewrite : Type 0 where
  rewrite_names : DeterminesBoth3 RewriteNames
  rewrite_metadata : DeterminesBoth2 RewriteMetadata
  rewrite_hints : DeterminesBoth2 RewriteHints

pub determined : Rewrite
determined =
    record {
      rewrite_names = λ p edition old. writes_determined _ _;
      rewrite_metadata = λ p old. writes_determined _ _;
      rewrite_hints = λ p old. writes_determined _ _;
    }
