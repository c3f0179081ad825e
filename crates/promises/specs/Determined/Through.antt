-- Each promise of the crate `through` determines what comes back.
use Rattle.format.proofs.Determined.{Determines3, Determines4, DeterminesBoth4, DeterminesBoth5, answer_determined, hint_answer_determined, part_determined}
use Rattle.through.specs.Promises.{ThroughAsk, ThroughAskBytes, ThroughMetadata, ThroughMetadataBytes, ThroughHint, ThroughOlderHint}

pub record Through : Type 0 where
  through_ask : Determines3 ThroughAsk
  through_ask_bytes : DeterminesBoth4 ThroughAskBytes
  through_metadata : Determines4 ThroughMetadata
  through_metadata_bytes : DeterminesBoth5 ThroughMetadataBytes
  through_hint : Determines3 ThroughHint
  through_older_hint : Determines3 ThroughOlderHint

pub determined : Through
determined =
    record {
      through_ask = λ m edition q. answer_determined _;
      through_ask_bytes = λ m lent_at_lem edition q. part_determined _ _;
      through_metadata = λ m format f at. answer_determined _;
      through_metadata_bytes = λ m lent_at_lem format f at. part_determined _ _;
      through_hint = λ m f at. hint_answer_determined _;
      through_older_hint = λ m f at. hint_answer_determined _;
    }
