-- The wrong lookup that stops at the entry that it looks for. What is asked for is found in the first entry; with a second entry, group, function or item that is damaged the payload is refused. Every result that meets the promise says so, and so does every result of the C call.
use Rattle.std.specs.Prelude.{ℕ, ◌+◌, List, [], ◌∷◌, ◌++◌, map, ◌≡◌, refl}
use Rattle.std.proofs.Math.Option.{Option, some, none}
use Rattle.std.proofs.Common.{ap, ◌∙◌}
use Prim.Native.String.{String}
use Rattle.promises.specs.Asking.{with_names}
use Rattle.format.specs.Walk.{preamble, begins, greatest_id, is_custom, is_code, is_data, rank, custom, is_called, name_section, hint_section, nothing, seeing, id_rules, name_rules, section, sections, framing, walk, payload_of, payload_in, custom_payload}
use Rattle.format.specs.Through.{through, ask_through}
use Rattle.format.specs.Canonical.{write_part}
use Rattle.format.specs.Bytes.{ascii, same}
use Rattle.format.specs.Examples.{hex, digit}
use Rattle.format.specs.Metadata.{hint_of, any_item, hint_item, metadata, judge_metadata, item_at, ask_metadata, hint_in, ask_hint, hint_answered}
use Rattle.format.specs.Names.{known, known_kind, wider, wider_kind, contents, subsections, payload, judge_names}
use Rattle.format.specs.Numbers.{number, groups, shortest, fewest}
use Rattle.format.specs.Older.{times, vector, zero_byte, older_kind, older_hint, older_entry, judge_older, first_at, first_in, ask_older}
use Rattle.format.specs.Parts.{sized, name, remaining}
use Rattle.format.specs.Questions.{answer, asked, ask_at, ask, as_place, answered}
use Rattle.format.specs.declared.Question.{Question}
use Rattle.format.specs.declared.Question.TheVariants.{ModuleName, FunctionName, LocalName, LabelName, TypeName, TableName, MemoryName, GlobalName, ElementName, DataName, FieldName, TagName, KeptContents}
use Rattle.format.specs.Reading.{Judged, accepted, refused}
use Rattle.format.specs.Tables.{lookup, rows, table}
use Rattle.format.specs.Text.{utf8, characters, character, completes}
use Rattle.format.specs.declared.CodeOffset.{CodeOffset}
use Rattle.format.specs.declared.FunctionIndex.{FunctionIndex}
use Rattle.format.specs.declared.InstructionOffset.{InstructionOffset}
use Rattle.format.specs.declared.Hint.{Hint}
use Rattle.format.specs.declared.Hint.TheVariants.{Likely}
use Rattle.format.specs.declared.Place.{Place}
use Rattle.wakemiono.specs.Boundary.{wm_place, wm_hint}
use Rattle.promises.specs.Answers.{says_place, place_said, says_hint, hint_said}
use Rattle.promises.specs.RuledOut.{Row, ◌demands◌, Demanded, by_table}

abbrev pub found : (offset length : ℕ) → Judged (Option Place)
found offset length = accepted (some (record { offset = record { 0 = offset }; length = length }))

-- A call that answers with a place or a hint, and its C call
module _ {Lent : Type 0} where
  pub record PlacesDemanded (wanted : Lent → Judged (Option Place)) (table : List (Row Lent (Judged (Option Place)))) : Type 0 where
    pub call : Demanded (λ x r. answered r ≡ wanted x) answered table
    pub c_call : Demanded (λ x a. a ≡ wm_place (wanted x)) says_place table

  pub record HintsDemanded (wanted : Lent → Judged (Option Hint)) (table : List (Row Lent (Judged (Option Hint)))) : Type 0 where
    pub call : Demanded (λ x r. hint_answered r ≡ wanted x) hint_answered table
    pub c_call : Demanded (λ x a. a ≡ wm_hint (wanted x)) says_hint table

  places_demanded : (wanted : Lent → Judged (Option Place)) (table : List (Row Lent (Judged (Option Place)))) → map (λ row. wanted row.input) table ≡ map (λ row. row.verdict) table → PlacesDemanded wanted table
  places_demanded wanted table e = record {
    call = by_table (λ x r meets. meets) table e;
    c_call = by_table (λ x a meets. ap says_place meets ∙ place_said (wanted x)) table e;
  }

  pub hints_demanded : (wanted : Lent → Judged (Option Hint)) (table : List (Row Lent (Judged (Option Hint)))) → map (λ row. wanted row.input) table ≡ map (λ row. row.verdict) table → HintsDemanded wanted table
  hints_demanded wanted table e = record {
    call = by_table (λ x r meets. meets) table e;
    c_call = by_table (λ x a meets. ap says_hint meets ∙ hint_said (wanted x)) table e;
  }

-- One table for all questions to a name payload, put to the payload and through a module
pub record Stopped : Type 0 where
  pub payload : String
  pub question : Question
  pub told : Judged (Option Place)

infixl 90 ◌of◌tells◌
abbrev pub ◌of◌tells◌ : Question → String → Judged (Option Place) → Stopped
◌of◌tells◌ q payload told = record { payload = payload; question = q; told = told }

abbrev pub stopped_in_both : List Stopped
stopped_in_both =
    -- the module's name: the subsection behind is damaged
    ModuleName of "00 02 01 6D" tells found 3 1 ∷
    ModuleName of "00 02 01 6D 01 00" tells refused 2 6 ∷
    ModuleName of "00 02 01 6D 00 02 01 6D" tells refused 9 4 ∷
    -- a map's second entry, an indirect map's second group, and its first group's second entry
    FunctionName (record { 0 = 7 }) of "01 04 01 07 01 61" tells found 5 1 ∷
    FunctionName (record { 0 = 7 }) of "01 07 02 07 01 61 07 01 62" tells refused 11 6 ∷
    FunctionName (record { 0 = 7 }) of "01 07 02 07 01 61 08 01 FF" tells refused 4 8 ∷
    FunctionName (record { 0 = 7 }) of "01 07 02 07 01 61 08 02 62" tells refused 2 7 ∷
    TypeName (record { 0 = 7 }) of "04 04 01 07 01 61" tells found 5 1 ∷
    TypeName (record { 0 = 7 }) of "04 07 02 07 01 61 07 01 62" tells refused 11 6 ∷
    TypeName (record { 0 = 7 }) of "04 07 02 07 01 61 08 01 FF" tells refused 4 8 ∷
    TypeName (record { 0 = 7 }) of "04 07 02 07 01 61 08 02 62" tells refused 2 7 ∷
    TagName (record { 0 = 7 }) of "0B 04 01 07 01 61" tells found 5 1 ∷
    TagName (record { 0 = 7 }) of "0B 07 02 07 01 61 07 01 62" tells refused 11 6 ∷
    TagName (record { 0 = 7 }) of "0B 07 02 07 01 61 08 01 FF" tells refused 4 8 ∷
    TagName (record { 0 = 7 }) of "0B 07 02 07 01 61 08 02 62" tells refused 2 7 ∷
    LocalName (record { 0 = 3 }) (record { 0 = 0 }) of "02 06 01 03 01 00 01 78" tells found 7 1 ∷
    LocalName (record { 0 = 3 }) (record { 0 = 0 }) of "02 0B 02 03 01 00 01 78 03 01 00 01 79" tells refused 11 8 ∷
    LocalName (record { 0 = 3 }) (record { 0 = 0 }) of "02 0B 02 03 01 00 01 78 04 01 00 01 FF" tells refused 4 12 ∷
    LocalName (record { 0 = 3 }) (record { 0 = 0 }) of "02 09 01 03 02 00 01 78 00 01 79" tells refused 11 8 ∷
    FieldName (record { 0 = 3 }) (record { 0 = 0 }) of "0A 06 01 03 01 00 01 78" tells found 7 1 ∷
    FieldName (record { 0 = 3 }) (record { 0 = 0 }) of "0A 0B 02 03 01 00 01 78 03 01 00 01 79" tells refused 11 8 ∷
    FieldName (record { 0 = 3 }) (record { 0 = 0 }) of "0A 0B 02 03 01 00 01 78 04 01 00 01 FF" tells refused 4 12 ∷
    FieldName (record { 0 = 3 }) (record { 0 = 0 }) of "0A 09 01 03 02 00 01 78 00 01 79" tells refused 11 8 ∷
    []

-- the first edition's: contents that are kept, with the subsection behind damaged
abbrev pub stopped : List Stopped
stopped = stopped_in_both ++ (
    KeptContents 3 of "03 01 FF" tells found 2 1 ∷
    KeptContents 3 of "03 01 FF 04 02 01 07" tells refused 2 7 ∷
    KeptContents 3 of "03 01 FF 03 00" tells refused 9 3 ∷
    [])

-- the wider edition's, with its six
abbrev pub wide_stopped : List Stopped
wide_stopped = stopped_in_both ++ (
    LabelName (record { 0 = 3 }) (record { 0 = 0 }) of "03 06 01 03 01 00 01 78" tells found 7 1 ∷
    LabelName (record { 0 = 3 }) (record { 0 = 0 }) of "03 0B 02 03 01 00 01 78 03 01 00 01 79" tells refused 11 8 ∷
    LabelName (record { 0 = 3 }) (record { 0 = 0 }) of "03 0B 02 03 01 00 01 78 04 01 00 01 FF" tells refused 4 12 ∷
    LabelName (record { 0 = 3 }) (record { 0 = 0 }) of "03 09 01 03 02 00 01 78 00 01 79" tells refused 11 8 ∷
    TableName (record { 0 = 7 }) of "05 04 01 07 01 61" tells found 5 1 ∷
    TableName (record { 0 = 7 }) of "05 07 02 07 01 61 07 01 62" tells refused 11 6 ∷
    TableName (record { 0 = 7 }) of "05 07 02 07 01 61 08 01 FF" tells refused 4 8 ∷
    TableName (record { 0 = 7 }) of "05 07 02 07 01 61 08 02 62" tells refused 2 7 ∷
    MemoryName (record { 0 = 7 }) of "06 04 01 07 01 61" tells found 5 1 ∷
    MemoryName (record { 0 = 7 }) of "06 07 02 07 01 61 07 01 62" tells refused 11 6 ∷
    MemoryName (record { 0 = 7 }) of "06 07 02 07 01 61 08 01 FF" tells refused 4 8 ∷
    MemoryName (record { 0 = 7 }) of "06 07 02 07 01 61 08 02 62" tells refused 2 7 ∷
    GlobalName (record { 0 = 7 }) of "07 04 01 07 01 61" tells found 5 1 ∷
    GlobalName (record { 0 = 7 }) of "07 07 02 07 01 61 07 01 62" tells refused 11 6 ∷
    GlobalName (record { 0 = 7 }) of "07 07 02 07 01 61 08 01 FF" tells refused 4 8 ∷
    GlobalName (record { 0 = 7 }) of "07 07 02 07 01 61 08 02 62" tells refused 2 7 ∷
    ElementName (record { 0 = 7 }) of "08 04 01 07 01 61" tells found 5 1 ∷
    ElementName (record { 0 = 7 }) of "08 07 02 07 01 61 07 01 62" tells refused 11 6 ∷
    ElementName (record { 0 = 7 }) of "08 07 02 07 01 61 08 01 FF" tells refused 4 8 ∷
    ElementName (record { 0 = 7 }) of "08 07 02 07 01 61 08 02 62" tells refused 2 7 ∷
    DataName (record { 0 = 7 }) of "09 04 01 07 01 61" tells found 5 1 ∷
    DataName (record { 0 = 7 }) of "09 07 02 07 01 61 07 01 62" tells refused 11 6 ∷
    DataName (record { 0 = 7 }) of "09 07 02 07 01 61 08 01 FF" tells refused 4 8 ∷
    DataName (record { 0 = 7 }) of "09 07 02 07 01 61 08 02 62" tells refused 2 7 ∷
    KeptContents 12 of "0C 01 FF" tells found 2 1 ∷
    KeptContents 12 of "0C 01 FF 0D 02 01" tells refused 2 4 ∷
    KeptContents 12 of "0C 01 FF 0C 00" tells refused 9 3 ∷
    [])

-- lent as `lend` makes it of a payload, which then begins `ahead` bytes further on
abbrev moved : ℕ → Judged (Option Place) → Judged (Option Place)
moved ahead (accepted none) = accepted none
moved ahead (accepted (some p)) = found (ahead + p.offset.0) p.length
moved ahead (refused n at) = refused n (ahead + at)

abbrev pub name_rows : List Stopped → (String → List ℕ) → ℕ → List (Row (List ℕ × Question) (Judged (Option Place)))
name_rows rows lend ahead = map (λ (s : Stopped). (lend s.payload, s.question) demands moved ahead s.told) rows

pub names : PlacesDemanded (λ (x : List ℕ × Question). as_place (ask known_kind x.1 x.0)) (name_rows stopped hex 0)
unfolding hex digit number groups utf8 characters character completes sized name remaining lookup rows table known known_kind contents subsections payload judge_names answer asked ask_at ask as_place
names = places_demanded _ (name_rows stopped hex 0) refl

pub wide_names : PlacesDemanded (λ (x : List ℕ × Question). as_place (ask wider_kind x.1 x.0)) (name_rows wide_stopped hex 0)
unfolding hex digit number groups utf8 characters character completes sized name remaining lookup rows table wider wider_kind contents subsections payload judge_names answer asked ask_at ask as_place
wide_names = places_demanded _ (name_rows wide_stopped hex 0) refl

pub names_through : PlacesDemanded (λ (x : List ℕ × Question). as_place (ask_through known_kind x.1 x.0)) (name_rows stopped with_names 15)
unfolding with_names write_part shortest fewest ascii same preamble begins greatest_id is_custom is_code is_data rank custom is_called name_section hint_section nothing seeing id_rules name_rules section sections framing walk payload_of payload_in custom_payload through ask_through hex digit number groups utf8 characters character completes sized name remaining lookup rows table known known_kind contents subsections payload judge_names answer asked ask_at as_place
names_through = places_demanded _ (name_rows stopped with_names 15) refl

pub wide_names_through : PlacesDemanded (λ (x : List ℕ × Question). as_place (ask_through wider_kind x.1 x.0)) (name_rows wide_stopped with_names 15)
unfolding with_names write_part shortest fewest ascii same preamble begins greatest_id is_custom is_code is_data rank custom is_called name_section hint_section nothing seeing id_rules name_rules section sections framing walk payload_of payload_in custom_payload through ask_through hex digit number groups utf8 characters character completes sized name remaining lookup rows table wider wider_kind contents subsections payload judge_names answer asked ask_at as_place
wide_names_through = places_demanded _ (name_rows wide_stopped with_names 15) refl

abbrev pub find_rows : List (Row (List ℕ × FunctionIndex × CodeOffset) (Judged (Option Place)))
find_rows =
    (hex "01 02 01 05 01 01", record { 0 = 2 }, record { 0 = 5 }) demands found 5 1 ∷
    (hex "02 02 01 05 01 01 02 00", record { 0 = 2 }, record { 0 = 5 }) demands refused 11 6 ∷
    (hex "01 02 02 05 01 01 05 01 01", record { 0 = 2 }, record { 0 = 5 }) demands refused 11 6 ∷
    (hex "01 02 02 05 01 01 06 02 01", record { 0 = 2 }, record { 0 = 5 }) demands refused 2 7 ∷
    []

pub find : PlacesDemanded (λ (x : List ℕ × FunctionIndex × CodeOffset). as_place (ask_metadata any_item x.1 x.2 0 x.0)) find_rows
unfolding hex digit number groups sized lookup rows table any_item metadata judge_metadata item_at ask_metadata as_place
find = places_demanded _ find_rows refl

abbrev pub hint_rows : List (Row (List ℕ × FunctionIndex × CodeOffset) (Judged (Option Hint)))
hint_rows =
    (hex "01 02 01 05 01 01", record { 0 = 2 }, record { 0 = 5 }) demands accepted (some Likely) ∷
    (hex "02 02 01 05 01 01 02 00", record { 0 = 2 }, record { 0 = 5 }) demands refused 11 6 ∷
    (hex "01 02 02 05 01 01 05 01 01", record { 0 = 2 }, record { 0 = 5 }) demands refused 11 6 ∷
    (hex "01 02 02 05 01 01 06 01 02", record { 0 = 2 }, record { 0 = 5 }) demands refused 12 7 ∷
    []

pub hint : HintsDemanded (λ (x : List ℕ × FunctionIndex × CodeOffset). ask_hint x.1 x.2 0 x.0) hint_rows
unfolding hex digit number groups sized lookup rows table hint_of hint_item metadata judge_metadata item_at ask_metadata hint_in ask_hint
hint = hints_demanded _ hint_rows refl

-- Of the older edition: the second hint, and the second entry, also one for the same pair
abbrev pub older_rows : List (Row (List ℕ × FunctionIndex × InstructionOffset) (Judged (Option Hint)))
older_rows =
    (hex "01 02 00 01 01 05", record { 0 = 2 }, record { 0 = 5 }) demands accepted (some Likely) ∷
    (hex "01 02 00 02 01 05 02 05", record { 0 = 2 }, record { 0 = 5 }) demands refused 12 6 ∷
    (hex "02 02 00 01 01 05 02 01", record { 0 = 2 }, record { 0 = 5 }) demands refused 17 7 ∷
    (hex "02 02 00 01 01 05 03 00 01 00", record { 0 = 2 }, record { 0 = 5 }) demands refused 2 10 ∷
    (hex "01 02 00 01 01 05 00", record { 0 = 2 }, record { 0 = 5 }) demands refused 10 6 ∷
    []

pub is_older_hint : HintsDemanded (λ (x : List ℕ × FunctionIndex × InstructionOffset). ask_older x.1 x.2 0 x.0) older_rows
unfolding hex digit number groups times vector zero_byte older_kind older_hint older_entry judge_older first_at first_in ask_older
is_older_hint = hints_demanded _ older_rows refl
