-- THE PROMISES OF THE C CALLS, each by the name of its call. They stand in the `ensures` of the calls in src/lib.rt and nowhere else: what is shown of these names is shown of the calls. A promise relates what is lent to the answer, and of a call that writes also the output before and after. Assumes nothing.
use Rattle.std.specs.Prelude.{ℕ, List, [], ◌≡◌, length}
use Rattle.format.specs.Canonical.{canonical_names, canonical_metadata, canonical_hints}
use Rattle.format.specs.Entries.{name_rows, item_rows, older_rows, place_columns, hint_columns, older_columns}
use Rattle.format.specs.Lists.{function_names}
use Rattle.format.specs.Markers.{made, quick}
use Rattle.format.specs.Metadata.{any_item, hint_item, judge_metadata, ask_metadata, ask_hint}
use Rattle.format.specs.Names.{known_kind, wider_kind, judge_names}
use Rattle.format.specs.Older.{judge_older, ask_older, canonical_older}
use Rattle.format.specs.Joined.{join_names}
use Rattle.format.specs.Options.{map_some}
use Rattle.format.specs.Pairs.{ask_pair, as_places}
use Rattle.format.specs.Questions.{as_place, ask}
use Rattle.format.specs.declared.Question.{Question}
use Rattle.format.specs.Reading.{map_judged, verdict}
use Rattle.format.specs.Telling.{names_are_canonical, items_are_canonical, older_is_canonical}
use Rattle.format.specs.Through.{ask_through, ask_metadata_through, ask_hint_through, ask_older_through}
use Rattle.format.specs.Why.{why_function, why_local}
use Rattle.format.specs.Walk.{section_count, section_at, custom_payload}
use Rattle.walk.specs.Surveys.{section_place}
use Rattle.stream.specs.Fields.{held}
use Rattle.stream.specs.Stream.{begin}
use Rattle.stream.specs.declared.Stream.{Stream}
use Rattle.sharing.specs.Arrays.{table_of}
use Rattle.sharing.specs.Model.{opening, asking, closing, tidying}
use Rattle.sharing.specs.Promises.{SharingStart}
use Rattle.sharing.specs.declared.Table.{Table}
use Rattle.wakemiono.specs.Arriving.{turned_by, over_by}
use Rattle.wakemiono.specs.Shared.{Shares, WmShares}
use Rattle.branches.specs.Branches.{hints_on_branches}
use Rattle.wakemiono.specs.Boundary.{wm_count, wm_section, wm_place, wm_judged, wm_hint, wm_yes, WmWrites, WmMakes, WmLists}
use Rattle.wakemiono.specs.Pairs.{wm_pair, WmJoins}
use Rattle.wakemiono.specs.Why.{wm_why}
use Rattle.wakemiono.specs.declared.WmAnswer.{WmAnswer}
use Rattle.wakemiono.specs.declared.beside.WmPairAnswer.{WmPairAnswer}
use Rattle.wakemiono.specs.declared.arriving.WmStreamAnswer.{WmStreamAnswer}
use Rattle.wakemiono.specs.declared.why.WmWhy.{WmWhy}

abbrev pub WmWalk : List ℕ → WmAnswer → Type 0
WmWalk bytes a = a ≡ wm_count (section_count bytes)

abbrev pub WmSection : (position : ℕ) → List ℕ → WmAnswer → Type 0
WmSection position bytes a = a ≡ wm_section (map_judged (map_some section_place) (section_at position bytes))

abbrev pub WmCustom : (name : List ℕ) → List ℕ → WmAnswer → Type 0
WmCustom name bytes a = a ≡ wm_place (as_place (custom_payload name bytes))

abbrev pub WmNamesJudge : List ℕ → WmAnswer → Type 0
WmNamesJudge payload a = a ≡ wm_judged (length payload) (verdict (judge_names known_kind 0 payload))

-- The questions to a name payload, one for each call: wm_module_name asks ModuleName, wm_function_name FunctionName (record { 0 = function }), wm_type_name TypeName (record { 0 = index }), wm_tag_name TagName (record { 0 = tag }), wm_local_name LocalName (record { 0 = function }) (record { 0 = local }), wm_field_name FieldName (record { 0 = index }) (record { 0 = field }), wm_kept KeptContents id
abbrev pub WmName : Question → List ℕ → WmAnswer → Type 0
WmName q payload a = a ≡ wm_place (as_place (ask known_kind q payload))

abbrev pub WmMetadataJudge : List ℕ → WmAnswer → Type 0
WmMetadataJudge payload a = a ≡ wm_judged (length payload) (verdict (judge_metadata any_item 0 payload))

abbrev pub WmMetadata : (function offset : ℕ) → List ℕ → WmAnswer → Type 0
WmMetadata function offset payload a = a ≡ wm_place (as_place (ask_metadata any_item (record { 0 = function }) (record { 0 = offset }) 0 payload))

abbrev pub WmHintsJudge : List ℕ → WmAnswer → Type 0
WmHintsJudge payload a = a ≡ wm_judged (length payload) (verdict (judge_metadata hint_item 0 payload))

abbrev pub WmHint : (function offset : ℕ) → List ℕ → WmAnswer → Type 0
WmHint function offset payload a = a ≡ wm_hint (ask_hint (record { 0 = function }) (record { 0 = offset }) 0 payload)

-- The same questions through a module: wm_module_name_in and the others with `_in`
abbrev pub WmNameIn : Question → List ℕ → WmAnswer → Type 0
WmNameIn q bytes a = a ≡ wm_place (as_place (ask_through known_kind q bytes))

abbrev pub WmMetadataIn : (format : List ℕ) (function offset : ℕ) → List ℕ → WmAnswer → Type 0
WmMetadataIn format function offset bytes a = a ≡ wm_place (as_place (ask_metadata_through format (record { 0 = function }) (record { 0 = offset }) bytes))

abbrev pub WmHintIn : (function offset : ℕ) → List ℕ → WmAnswer → Type 0
WmHintIn function offset bytes a = a ≡ wm_hint (ask_hint_through (record { 0 = function }) (record { 0 = offset }) bytes)

-- The calls that write are promised of the output before and after, too: `old` and `new`
abbrev pub WmNamesCanonical : (payload old new : List ℕ) → WmAnswer → Type 0
WmNamesCanonical payload old new a = WmWrites (canonical_names known_kind payload) old new a

abbrev pub WmMetadataCanonical : (payload old new : List ℕ) → WmAnswer → Type 0
WmMetadataCanonical payload old new a = WmWrites (canonical_metadata payload) old new a

abbrev pub WmHintsCanonical : (payload old new : List ℕ) → WmAnswer → Type 0
WmHintsCanonical payload old new a = WmWrites (canonical_hints payload) old new a

-- K10: a yes or no
abbrev pub WmNamesIsCanonical : (payload : List ℕ) → ℕ → Type 0
WmNamesIsCanonical payload a = a ≡ wm_yes (names_are_canonical known_kind payload)

abbrev pub WmMetadataIsCanonical : (payload : List ℕ) → ℕ → Type 0
WmMetadataIsCanonical payload a = a ≡ wm_yes (items_are_canonical any_item payload)

abbrev pub WmHintsIsCanonical : (payload : List ℕ) → ℕ → Type 0
WmHintsIsCanonical payload a = a ≡ wm_yes (items_are_canonical hint_item payload)

-- K9: the same of the wider edition. wm_wide_module_name asks ModuleName, and so on; wm_wide_label_name LabelName (record { 0 = function }) (record { 0 = label }), wm_wide_table_name TableName (record { 0 = table }), wm_wide_memory_name, wm_wide_global_name, wm_wide_element_name and wm_wide_data_name likewise
abbrev pub WmWideNamesJudge : List ℕ → WmAnswer → Type 0
WmWideNamesJudge payload a = a ≡ wm_judged (length payload) (verdict (judge_names wider_kind 0 payload))

abbrev pub WmWideName : Question → List ℕ → WmAnswer → Type 0
WmWideName q payload a = a ≡ wm_place (as_place (ask wider_kind q payload))

abbrev pub WmWideNameIn : Question → List ℕ → WmAnswer → Type 0
WmWideNameIn q bytes a = a ≡ wm_place (as_place (ask_through wider_kind q bytes))

abbrev pub WmWideNamesCanonical : (payload old new : List ℕ) → WmAnswer → Type 0
WmWideNamesCanonical payload old new a = WmWrites (canonical_names wider_kind payload) old new a

abbrev pub WmWideNamesIsCanonical : (payload : List ℕ) → ℕ → Type 0
WmWideNamesIsCanonical payload a = a ≡ wm_yes (names_are_canonical wider_kind payload)

-- K2: the older edition of hints
abbrev pub WmOldHintsJudge : List ℕ → WmAnswer → Type 0
WmOldHintsJudge payload a = a ≡ wm_judged (length payload) (verdict (judge_older 0 payload))

abbrev pub WmOldHint : (function offset : ℕ) → List ℕ → WmAnswer → Type 0
WmOldHint function offset payload a = a ≡ wm_hint (ask_older (record { 0 = function }) (record { 0 = offset }) 0 payload)

abbrev pub WmOldHintIn : (function offset : ℕ) → List ℕ → WmAnswer → Type 0
WmOldHintIn function offset bytes a = a ≡ wm_hint (ask_older_through (record { 0 = function }) (record { 0 = offset }) bytes)

abbrev pub WmOldHintsCanonical : (payload old new : List ℕ) → WmAnswer → Type 0
WmOldHintsCanonical payload old new a = WmWrites (canonical_older payload) old new a

abbrev pub WmOldHintsIsCanonical : (payload : List ℕ) → ℕ → Type 0
WmOldHintsIsCanonical payload a = a ≡ wm_yes (older_is_canonical payload)

abbrev pub WmFunctionNamesWrite : (indices lengths text old new : List ℕ) → WmAnswer → Type 0
WmFunctionNamesWrite indices lengths text old new a = WmWrites (function_names indices lengths text) old new a

-- K7: why a function or a local has no name
abbrev pub WmWhyFunction : (function : ℕ) → List ℕ → WmWhy → Type 0
WmWhyFunction function payload a = a ≡ wm_why (why_function (record { 0 = function }) payload)

abbrev pub WmWhyLocal : (function local : ℕ) → List ℕ → WmWhy → Type 0
WmWhyLocal function local payload a = a ≡ wm_why (why_local (record { 0 = function }) (record { 0 = local }) payload)

-- K8: markers, and the quick question
abbrev pub WmMarkers : (payload indices offsets indices' offsets' : List ℕ) → WmAnswer → Type 0
WmMarkers payload indices offsets indices' offsets' a = WmMakes (made payload indices offsets) indices offsets indices' offsets' a

abbrev pub WmQuickFunctionName : (payload indices offsets : List ℕ) (end function : ℕ) → WmAnswer → Type 0
WmQuickFunctionName payload indices offsets end function a = a ≡ wm_place (as_place (quick payload indices offsets end (record { 0 = function })))

-- K3: a question over two payloads, and the two as one. wm_pair_module_name asks ModuleName and so on, as the questions to one payload do
abbrev pub WmPair : Question → (separate own : List ℕ) → WmPairAnswer → Type 0
WmPair q separate own a = a ≡ wm_pair (as_places (ask_pair known_kind q separate own))

abbrev pub WmWidePair : Question → (separate own : List ℕ) → WmPairAnswer → Type 0
WmWidePair q separate own a = a ≡ wm_pair (as_places (ask_pair wider_kind q separate own))

abbrev pub WmPairJoin : (separate own old new : List ℕ) → WmPairAnswer → Type 0
WmPairJoin separate own old new a = WmJoins (join_names known_kind separate own) old new a

abbrev pub WmWidePairJoin : (separate own old new : List ℕ) → WmPairAnswer → Type 0
WmWidePairJoin separate own old new a = WmJoins (join_names wider_kind separate own) old new a

-- K5: a module as it arrives: the state before a call and after it, and the answer
abbrev pub WmStreamBegin : Stream → Type 0
WmStreamBegin r = r ≡ held begin

abbrev pub WmStreamPart : (before : Stream) (part : List ℕ) (after : Stream) → WmAnswer → Type 0
WmStreamPart before part after a = (after ≡ (turned_by before part).state) × (a ≡ (turned_by before part).answer)

abbrev pub WmStreamFinish : (before after : Stream) → WmStreamAnswer → Type 0
WmStreamFinish before after a = (after ≡ (over_by before).state) × (a ≡ (over_by before).answer)

-- K6: every hint sits on br_if or if
abbrev pub WmHintsOnBranches : List ℕ → WmAnswer → Type 0
WmHintsOnBranches bytes a = a ≡ wm_judged (length bytes) (hints_on_branches bytes)

-- K12: the calls on the shared table. A question leaves table and store as they were, and a close the store
abbrev pub WmTableStart : (bytes : ℕ) → Table → Type 0
WmTableStart bytes r = SharingStart bytes r

abbrev pub WmTableOpen : (t : Table) (store : List ℕ) (customer : ℕ) (payload work : List ℕ) → (after : Table) (left work' : List ℕ) → WmAnswer → Type 0
WmTableOpen t store customer payload work after left work' a = WmShares t store (opening customer payload work) after left work' a

abbrev pub WmTableFunctionName : (t : Table) (store : List ℕ) (customer hold function : ℕ) (out : List ℕ) → (out' : List ℕ) → WmAnswer → Type 0
WmTableFunctionName t store customer hold function out out' a = Shares (table_of t) store (asking customer hold function out) (table_of t) store out' a

abbrev pub WmTableClose : (t : Table) (store : List ℕ) (customer hold : ℕ) → (after : Table) → WmAnswer → Type 0
WmTableClose t store customer hold after a = WmShares t store (closing customer hold) after store [] a

-- K13: the step that closes the gaps
abbrev pub WmTableCompact : (t : Table) (store : List ℕ) → (after : Table) (left : List ℕ) → WmAnswer → Type 0
WmTableCompact t store after left a = WmShares t store tidying after left [] a

-- Every entry in one pass: all lists before the call and after it, in the order of the call
abbrev pub WmNamesList : (payload : List ℕ) (id : ℕ) (lists lists' : List (List ℕ)) → WmAnswer → Type 0
WmNamesList payload id lists lists' a = WmLists place_columns (name_rows known_kind id payload) lists lists' a

abbrev pub WmWideNamesList : (payload : List ℕ) (id : ℕ) (lists lists' : List (List ℕ)) → WmAnswer → Type 0
WmWideNamesList payload id lists lists' a = WmLists place_columns (name_rows wider_kind id payload) lists lists' a

abbrev pub WmMetadataList : (payload : List ℕ) (lists lists' : List (List ℕ)) → WmAnswer → Type 0
WmMetadataList payload lists lists' a = WmLists place_columns (item_rows any_item payload) lists lists' a

abbrev pub WmHintsList : (payload : List ℕ) (lists lists' : List (List ℕ)) → WmAnswer → Type 0
WmHintsList payload lists lists' a = WmLists hint_columns (item_rows hint_item payload) lists lists' a

abbrev pub WmOldHintsList : (payload : List ℕ) (lists lists' : List (List ℕ)) → WmAnswer → Type 0
WmOldHintsList payload lists lists' a = WmLists older_columns (older_rows payload) lists lists' a
