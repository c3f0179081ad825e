-- THE PROMISES of the crate `through`, each by the name of its function. They stand in the `ensures` of the public functions and nowhere else: what is shown of these names is shown of the functions. A promise relates what is lent to what comes back.
use Rattle.std.specs.Prelude.{ℕ, ◌+◌, List, ◌≡◌}
use Rattle.format.specs.Metadata.{hint_answered}
use Rattle.format.specs.Names.{kind_in}
use Rattle.format.specs.Questions.{as_place, as_bytes, start_of, answered}
use Rattle.format.specs.declared.Edition.{Edition}
use Rattle.format.specs.declared.Question.{Question}
use Rattle.format.specs.Through.{ask_through, ask_metadata_through, ask_hint_through, ask_older_through}
use Rattle.format.specs.Returned.{Answer}
use Rattle.format.specs.declared.CodeOffset.{CodeOffset}
use Rattle.format.specs.declared.FunctionIndex.{FunctionIndex}
use Rattle.format.specs.Returned.{HintAnswer}
use Rattle.format.specs.declared.InstructionOffset.{InstructionOffset}

-- through
abbrev pub ThroughAsk : (m : List ℕ) (edition : Edition) (q : Question) → Answer → Type 0
ThroughAsk m edition q r = answered r ≡ as_place (ask_through (kind_in edition) q m)

abbrev pub ThroughAskBytes : (m : List ℕ) (lent_at_lem : ℕ × ℕ) (edition : Edition) (q : Question) → (ℕ × ℕ) → List ℕ → Type 0
ThroughAskBytes m lent_at_lem edition q begins bytes = (bytes ≡ as_bytes (ask_through (kind_in edition) q m)) × (begins ≡ (lent_at_lem.0, start_of (ask_through (kind_in edition) q m) + lent_at_lem.1))

abbrev pub ThroughMetadata : (m format : List ℕ) (f : FunctionIndex) (at : CodeOffset) → Answer → Type 0
ThroughMetadata m format f at r = answered r ≡ as_place (ask_metadata_through format f at m)

abbrev pub ThroughMetadataBytes : (m : List ℕ) (lent_at_lem : ℕ × ℕ) (format : List ℕ) (f : FunctionIndex) (at : CodeOffset) → (ℕ × ℕ) → List ℕ → Type 0
ThroughMetadataBytes m lent_at_lem format f at begins bytes = (bytes ≡ as_bytes (ask_metadata_through format f at m)) × (begins ≡ (lent_at_lem.0, start_of (ask_metadata_through format f at m) + lent_at_lem.1))

abbrev pub ThroughHint : (m : List ℕ) (f : FunctionIndex) (at : CodeOffset) → HintAnswer → Type 0
ThroughHint m f at r = hint_answered r ≡ ask_hint_through f at m

abbrev pub ThroughOlderHint : (m : List ℕ) (f : FunctionIndex) (at : InstructionOffset) → HintAnswer → Type 0
ThroughOlderHint m f at r = hint_answered r ≡ ask_older_through f at m
