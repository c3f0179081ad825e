-- THE PROMISES of the crate `metadata`, each by the name of its function. They stand in the `ensures` of the public functions and nowhere else: what is shown of these names is shown of the functions. A promise relates what is lent to what comes back.
use Rattle.std.specs.Prelude.{ℕ, ◌+◌, Bool, List, ◌≡◌}
use Rattle.format.specs.Metadata.{any_item, hint_item, judge_metadata, ask_metadata, ask_hint, hint_answered}
use Rattle.format.specs.Questions.{as_place, as_bytes, start_of, answered}
use Rattle.format.specs.Reading.{verdict}
use Rattle.format.specs.Returned.{Answer}
use Rattle.format.specs.declared.CodeOffset.{CodeOffset}
use Rattle.format.specs.declared.FunctionIndex.{FunctionIndex}
use Rattle.format.specs.Returned.{HintAnswer}
use Rattle.format.specs.Telling.{items_are_canonical}
use Rattle.format.specs.Verdicts.{verdict_of}
use Rattle.format.specs.Returned.{Verdict}
use Rattle.reading.specs.Cursors.{left}
use Rattle.reading.specs.declared.Cursor.{Cursor}
use Rattle.tables.specs.Seeking.{reader_of}
use Rattle.tables.specs.declared.Item.{Item}

-- metadata
abbrev pub MetadataFindIn : (s : List ℕ) (c : Cursor) (item : Item) (f : FunctionIndex) (at : CodeOffset) → Answer → Type 0
MetadataFindIn s c item f at r = answered r ≡ as_place (ask_metadata (reader_of item) f at c.at (left s c))

abbrev pub MetadataJudgeIn : (s : List ℕ) (c : Cursor) (item : Item) → Verdict → Type 0
MetadataJudgeIn s c item r = verdict_of r ≡ verdict (judge_metadata (reader_of item) c.at (left s c))

abbrev pub MetadataHintIn : (s : List ℕ) (c : Cursor) (f : FunctionIndex) (at : CodeOffset) → HintAnswer → Type 0
MetadataHintIn s c f at r = hint_answered r ≡ ask_hint f at c.at (left s c)

abbrev pub MetadataJudge : (p : List ℕ) → Verdict → Type 0
MetadataJudge p r = verdict_of r ≡ verdict (judge_metadata any_item 0 p)

abbrev pub MetadataJudgeHints : (p : List ℕ) → Verdict → Type 0
MetadataJudgeHints p r = verdict_of r ≡ verdict (judge_metadata hint_item 0 p)

abbrev pub MetadataFind : (p : List ℕ) (f : FunctionIndex) (at : CodeOffset) → Answer → Type 0
MetadataFind p f at r = answered r ≡ as_place (ask_metadata any_item f at 0 p)

abbrev pub MetadataFindBytes : (p : List ℕ) (lent_at_lem : ℕ × ℕ) (f : FunctionIndex) (at : CodeOffset) → (ℕ × ℕ) → List ℕ → Type 0
MetadataFindBytes p lent_at_lem f at begins bytes = (bytes ≡ as_bytes (ask_metadata any_item f at 0 p)) × (begins ≡ (lent_at_lem.0, start_of (ask_metadata any_item f at 0 p) + lent_at_lem.1))

abbrev pub MetadataHint : (p : List ℕ) (f : FunctionIndex) (at : CodeOffset) → HintAnswer → Type 0
MetadataHint p f at r = hint_answered r ≡ ask_hint f at 0 p

-- metadata::telling
abbrev pub MetadataIsCanonical : (p : List ℕ) → Bool → Type 0
MetadataIsCanonical p r = r ≡ items_are_canonical any_item p

abbrev pub MetadataAreHintsCanonical : (p : List ℕ) → Bool → Type 0
MetadataAreHintsCanonical p r = r ≡ items_are_canonical hint_item p
