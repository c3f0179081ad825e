-- Rules R3.6 to R3.8, R6.9, R7.6 and R19.7 of docs/RULES.md.
-- Questions through a module: the walk first; then the payload is judged and asked, and its offsets count from the module's start. An accepted module without the section gets none. Assumes nothing.
use Rattle.std.specs.Prelude.{ℕ, cond, List, ◌++◌}
use Rattle.std.proofs.Math.Option.{Option, none, some}
use Rattle.format.specs.Bytes.{same}
use Rattle.format.specs.Reading.{Reader, Judged, accepted, judged_then}
use Rattle.format.specs.Parts.{Part}
use Rattle.format.specs.Walk.{name_section, metadata_prefix, branch_hint, hint_section, older_hint_section, custom_payload}
use Rattle.format.specs.Names.{Kind}
use Rattle.format.specs.Questions.{ask_at}
use Rattle.format.specs.declared.Question.{Question}
use Rattle.format.specs.Metadata.{any_item, hint_item, ask_metadata, ask_hint}
use Rattle.format.specs.declared.FunctionIndex.{FunctionIndex}
use Rattle.format.specs.Older.{ask_older}
use Rattle.format.specs.declared.CodeOffset.{CodeOffset}
use Rattle.format.specs.declared.Hint.{Hint}
use Rattle.format.specs.declared.InstructionOffset.{InstructionOffset}

abbrev pub or_none : {A : Type 0} → Option Part → (ℕ → List ℕ → Judged (Option A)) → Judged (Option A)
or_none none question = accepted none
or_none (some p) question = question p.at p.bytes

-- a question put to the payload of the first custom section of a name
unfoldable pub through : {A : Type 0} → List ℕ → (ℕ → List ℕ → Judged (Option A)) → List ℕ → Judged (Option A)
through x question m = judged_then (custom_payload x m) (λ found. or_none found question)

unfoldable pub ask_through : (ℕ → Kind) → Question → List ℕ → Judged (Option Part)
ask_through kind_of q m = through name_section (ask_at kind_of q) m

-- metadata.code.T, where T = branch_hint is read by the rules of hints
unfoldable pub metadata_section : List ℕ → List ℕ
metadata_section format = metadata_prefix ++ format

unfoldable pub item_of : List ℕ → Reader Part
item_of format = cond (same format branch_hint) hint_item any_item

unfoldable pub ask_metadata_through : List ℕ → FunctionIndex → CodeOffset → List ℕ → Judged (Option Part)
ask_metadata_through format f at m = through (metadata_section format) (ask_metadata (item_of format) f at) m

unfoldable pub ask_hint_through : FunctionIndex → CodeOffset → List ℕ → Judged (Option Hint)
ask_hint_through f at m = through hint_section (ask_hint f at) m

-- K2: the older edition is asked apart, in a section of its own
unfoldable pub ask_older_through : FunctionIndex → InstructionOffset → List ℕ → Judged (Option Hint)
ask_older_through f at m = through older_hint_section (ask_older f at) m
