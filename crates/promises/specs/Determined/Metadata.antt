-- Each promise of the crate `metadata` determines what comes back.
use Rattle.format.proofs.Determined.{Determines1, Determines3, Determines4, Determines5, DeterminesBoth4, equal_determined, meaning_determined, answer_determined, hint_answer_determined, part_determined}
use Rattle.format.specs.Laws.Refusals.{same_verdict}
use Rattle.metadata.specs.Promises.{MetadataFindIn, MetadataJudgeIn, MetadataHintIn, MetadataJudge, MetadataJudgeHints, MetadataFind, MetadataFindBytes, MetadataHint, MetadataIsCanonical, MetadataAreHintsCanonical}

pub record Metadata : Type 0 where
  metadata_find_in : Determines5 MetadataFindIn
  metadata_judge_in : Determines3 MetadataJudgeIn
  metadata_hint_in : Determines4 MetadataHintIn
  metadata_judge : Determines1 MetadataJudge
  metadata_judge_hints : Determines1 MetadataJudgeHints
  metadata_find : Determines3 MetadataFind
  metadata_find_bytes : DeterminesBoth4 MetadataFindBytes
  metadata_hint : Determines3 MetadataHint
  -- metadata::telling
  metadata_is_canonical : Determines1 MetadataIsCanonical
  metadata_are_hints_canonical : Determines1 MetadataAreHintsCanonical

pub determined : Metadata
determined =
    record {
      metadata_find_in = λ s c item f at. answer_determined _;
      metadata_judge_in = λ s c item. meaning_determined same_verdict _;
      metadata_hint_in = λ s c f at. hint_answer_determined _;
      metadata_judge = λ p. meaning_determined same_verdict _;
      metadata_judge_hints = λ p. meaning_determined same_verdict _;
      metadata_find = λ p f at. answer_determined _;
      metadata_find_bytes = λ p lent_at_lem f at. part_determined _ _;
      metadata_hint = λ p f at. hint_answer_determined _;
      metadata_is_canonical = λ p. equal_determined _;
      metadata_are_hints_canonical = λ p. equal_determined _;
    }
