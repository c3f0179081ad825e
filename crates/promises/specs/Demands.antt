-- THE FRONT DOOR. What users of the library demand, as types about its C calls, each under the sentence that it comes from, with the name of its proof in Proved.antt. A call is known by its promise alone: what is said here is said of every answer that meets the promise; that the call's own answer meets it is proved of its code.
-- The rules are those of docs/RULES.md, named by its numbers. What stands in quotes is the users' own wording: "document 01" in it is what RULES says in the chapters 1 to 9 and 17 to 20.
use Rattle.std.specs.Prelude.{ℕ, suc, ◌+◌, ◌*◌, ◌/◌, ◌≤◌, ◌<◌, List, [], ◌∷◌, ◌++◌, Bool, true, false, cond, ◌||◌, eqb, ◌↔◌, ◌≢◌, ◌⊎◌, ◌≡◌, length, take, drop, get_or, Ok}
-- `cond t x y` is x where the test t holds, and y where it does not; `eqb m n` tests m ≡ n, and `s || t` is either test
-- `A ↔ B`: each follows from the other; `x ≢ y`: they are not equal; `A ⊎ B`: one of them; `A × B`: both, and `(x : A) × B`: some x with B; `⊥`: never
use Rattle.std.proofs.Math.Option.{Option, none, some}
-- the length of a list, its first n elements, the list without them, and the element at a position, counted from 0 (`some`, or `none` past the last)
use Rattle.std.proofs.Math.ListN.{get_elem?}
-- WHAT IS LENT. Bytes are a list of numbers, and `Bytes p` says that each is below 256.
use Rattle.format.specs.Bytes.{Bytes}
-- THE SECTIONS that are asked, by the bytes of their names: `name_section` is name, `metadata_section format` is metadata.code. with the format behind it, `branch_hint` is the format branch_hint, and `hint_section` its section; `older_hint_section` is branchHints.
use Rattle.format.specs.Walk.{name_section, branch_hint, hint_section, older_hint_section}
use Rattle.format.specs.Through.{metadata_section}
-- WHAT COMES BACK. Each call answers with a record of four numbers: `kind` (0 none, 1 found, 2 refused, 3 unlikely, 4 likely), `code`, `offset` and `length`. `wm_none` is four times 0; `wm_found code offset length` is the answer of kind 1 with these; `wm_refused n at` is the answer of kind 2 with the refusal's number n as its code, its offset `at` and the length 0.
use Rattle.wakemiono.specs.declared.WmAnswer.{WmAnswer}
use Rattle.wakemiono.specs.Boundary.{wm_none, wm_found, wm_refused, wm_place}
-- WHAT THE RULES REFUSE, each with its number and its place, said as faults in crates/grammar/specs/Faults, one file a topic, apart from the library's readers: bytes have a fault where they begin well and then break one rule. `NamePayloadFault SourceIds p n k`: the bytes p have the fault n of a name payload at the place k, counted from their first; `NamePayloadFault WiderIds` is that of the wider edition, `MetadataFault Unknown AnyItemFault` of metadata of any format, `MetadataFault BranchHint HintFault` of branch hints, `OlderFault` of hints of the older edition, and `ModuleFault` of a module. `ListsFault indices lengths text n k` are the faults of the lists that names are written from: `FineLists` have none but a subsection too large, `contents_length` is the length of its contents, `bytes_for n` that of the number n, and `Rise` says of a list that it rises. `Refuses at judgement grammar Fault`: the judgement of bytes that begin at an offset refuses exactly with their fault's number and at its place; no bytes have two faults; and they have one exactly where they have no meaning. `RefusesLists` says so of lists.
use Rattle.grammar.specs.Faults.Numbers.{Faults}
use Rattle.grammar.specs.Faults.Names.{NamePayloadFault}
use Rattle.grammar.specs.Faults.Metadata.{AnyItemFault, HintFault, MetadataFault}
use Rattle.grammar.specs.Faults.Older.{OlderFault}
use Rattle.grammar.specs.Faults.Modules.{ModuleFault}
use Rattle.grammar.specs.Faults.Writing.{Rise, FineLists, bytes_for, contents_length, ListsFault}
use Rattle.grammar.proofs.Refusing.{Refuses, RefusesLists}
-- THE JUDGEMENTS, as the rules are written down once more in `crates/format/specs`, by readers: `Judged A` is `accepted v`, with what was read, or `refused number offset`. `judge_module m` judges a module, `judge_names known_kind at p` a name payload that begins at an offset of what was lent, `judge_names wider_kind at p` one by the wider edition, `judge_metadata any_item at p` metadata of any format, and `judge_metadata hint_item at p` branch hints; `judge_older at p` judges hints of the older edition. Of what was read, `rewrite_names` and `rewrite_metadata` are the bytes of the canonical rewriting, and of older hints `write_older (sorted_from nil es)`.
use Rattle.format.specs.Reading.{Judged, accepted, refused}
use Rattle.format.specs.Walk.{walk as judge_module, custom_payload}
use Rattle.format.specs.Names.{known_kind, wider_kind, judge_names}
use Rattle.format.specs.Metadata.{any_item, hint_item, judge_metadata}
use Rattle.format.specs.Canonical.{rewrite_names, rewrite_metadata}
use Rattle.format.specs.Older.{judge_older, sorted_from, write_older}
-- `group_rows t` are the rows of a table of tables, one after another, each with its two numbers
use Rattle.format.specs.Entries.{group_rows}
-- WHAT THE RULES ACCEPT. The sources' grammar, written down in the crate `grammar` line by line, apart from the library's readers: `NamePayload SourceIds p m`, in the wider edition `NamePayload WiderIds p m`, `CodeMetadata Unknown p m`, `CodeMetadata BranchHint p m`, `OlderHints p m` and `Module p m` say that the bytes p are a name payload, code metadata, branch hints, hints of the older edition or a module, and mean m. `U32 bs n`: the bytes bs are the number n in LEB128. `Subsections SourceIds bs m`: the bytes bs are subsections of a name payload, one after another; `Entries Name n bs t`: they are n entries of a name map, each an index and a name. `Grammar A` are the grammars with meanings in A.
use Rattle.grammar.specs.Numbers.{Grammar, U32}
use Rattle.grammar.specs.Names.{Name, SourceIds, WiderIds, Subsections, NamePayload}
use Rattle.grammar.specs.Lists.{Entries}
use Rattle.grammar.specs.Metadata.{CodeMetadata, Unknown, BranchHint}
use Rattle.grammar.specs.Older.{OlderHints}
use Rattle.grammar.specs.Modules.{Module}
-- WHAT IT MEANS. Metadata means a table of functions, each with a table of data by offset. A name payload means a table of subsections by id, each with what it holds: `single x` one name, `names t` a table of names by index, `names_by t` a table of tables, `whole x` contents that are kept. `Has k v t`: the table t has a row with the number k and the value v, as its first, `Has k v (row k v t)`, or further on, `Has k v (row i w t)` from `Has k v t`.
use Rattle.format.specs.Tables.{Table, nil, row, lookup}
use Rattle.format.specs.Names.{Kind, Content, single, names, names_by, whole}
use Rattle.format.specs.Holding.{Has}
-- Their rows, in order: `EntryRow X` is a record of two numbers, `first` and `second`, and what is `held`; `content_rows` and `group_rows` are explained where every entry is listed. `some_then x f` is f of what x is, and `none` without it; `lookup k t` is the value of t's first row with the number k.
use Rattle.format.specs.Entries.{Listed as EntryRow, content_rows}
use Rattle.format.specs.Options.{some_then}
-- A module means a list of records: `id`, `contents`, and `custom`, which is `some` of a record of `name` and `payload` or `none`. `Among t ss`: t is one of ss. `Called x s`: s is custom and its name is x.
use Rattle.grammar.specs.Modules.{Section, Among, Called}
-- Hints of the older edition mean a list of entries in file order, each a record of its `function` and its `hints`; a hint is a record of its `kind`, `Unlikely` for the number 0 and `Likely` for 1, and its `offset`.
use Rattle.format.specs.Older.{OlderHint, OlderEntry}
use Rattle.format.specs.declared.Hint.{Hint}
use Rattle.format.specs.declared.Hint.TheVariants.{Unlikely, Likely}
-- TWO PAYLOADS. The calls over two name payloads answer with a record of five numbers, those four and `whose`: 0 is nobody's, 1 (`wm_whose Separate`) the separate payload's, 2 (`wm_whose Own`) the module's own. `wm_pair_none` is five times 0; `wm_pair_found whose offset length` and `wm_pair_refused whose number offset` are as above, with whose it is. `joined_contents t u` is what two meanings come to as one, with nothing empty left, by crates/format/specs/Joined.antt; `write_content c` are the bytes of contents, and `write_subsections` those of all subsections.
use Rattle.format.specs.Canonical.{write_content, write_subsections}
use Rattle.format.specs.Joined.{joined_contents}
use Rattle.format.specs.declared.Edition.{Edition}
use Rattle.format.specs.declared.Edition.TheVariants.{First, Wider}
use Rattle.format.specs.declared.Whose.{Whose}
use Rattle.wakemiono.specs.Pairs.{wm_whose, wm_pair_none, wm_pair_found, wm_pair_refused}
use Rattle.wakemiono.specs.declared.beside.WmPairAnswer.{WmPairAnswer}
-- WHY A NAME IS MISSING: `Why` is `named id position`, `no_subsection`, `no_group` or `no_entry below above`, each side `some` index or `none`. `TrueOfFunction k m w` and `TrueOfLocal k j m w` say, without any search, that w is true of the function k, and of its local j, in a meaning m: no subsection has that id, no row that number; below is the greatest number below that has a row, and above the least above; a row stands at a position, from 0. Two calls answer with a record of eight numbers: `wm_named id position` has kind 1 and these as its code and position, `wm_alone 5` and `wm_alone 6` have kind 5 and 6 and nothing else, `wm_no_entry below above` kind 7 and, for each side that there is, 1 and its index, `wm_why_refused number offset` kind 2 and these. `wm_why (accepted w)` is the one for w.
use Rattle.format.specs.Why.{Why, TrueOfFunction, TrueOfLocal}
use Rattle.wakemiono.specs.Why.{wm_alone, wm_named, wm_no_entry, wm_why_refused, wm_why}
use Rattle.wakemiono.specs.declared.why.WmWhy.{WmWhy}
-- THE RULE OF THE QUICK QUESTION, said without any search, in crates/format/specs/MarkerRule.antt: `Follows p is os end k j` says that it makes j of the bytes p, the list of indices is and of offsets os, the end, and the index k that is asked. j is a refusal, `accepted none`, or `accepted (some x)`, where x is the text of an entry: where it lies in p, `x.at`, and its `x.bytes`. `wm_place (as_place j)` is the answer with that: `wm_refused` with its number and offset, `wm_none`, or `wm_found 0 x.at (length x.bytes)`.
use Rattle.format.specs.MarkerRule.{Follows}
use Rattle.format.specs.Parts.{Part}
-- A MODULE AS IT ARRIVES: `Stream` is the state that a caller lends, a record of numbers whose first is `total`. The finish answers with a record of thirteen numbers: four as every call, and behind them `kind`, `offset` and `length` for each of three places. `joined ps` are the bytes of the parts ps, one behind the other.
use Rattle.stream.specs.declared.Stream.{Stream}
use Rattle.stream.specs.Calls.{together as joined}
use Rattle.wakemiono.specs.declared.arriving.WmStreamAnswer.{WmStreamAnswer}
-- THE SHARED TABLE: `SharedTable` is the state that a caller lends beside the store. A call on it is `Opening customer payload work`, `Asking customer hold function out`, `Closing customer hold` or `Tidying`, the step of K13, and an event is a record of a `call` and its `answer`. Of events, the latest first: `calls_of c es` are the calls of the customer c, and `answers_to c es` their answers. `opened_with`, `opens` and `closes` are explained at K12, where they are named for the calls. `need n` is how many blocks a payload of n bytes takes, and `blocks s` are those of a store. `Stored (table_of t) s b p`: the table t has users at the block b and the length of p, and the blocks of the store s from there on are those of p. `FreeRun (table_of t) s b n`: n blocks from b on lie in the store, and no payload stands in any of them. `UsedBefore (table_of t) s b n`: payloads stand in n of the blocks before b; it counts them one by one. `Damage (table_of t) s`: some block of a payload that the table has users of is not there, or is not `right`: its last four bytes are not the check of the others. `SinceStep es`: one of the events is the step, and none after it is a close.
use Rattle.format.specs.Canonical.{canonical_names}
use Rattle.sharing.specs.Arrays.{table_of}
use Rattle.sharing.specs.Blocks.{need}
use Rattle.sharing.specs.Events.{Event, event, calls_of, answers_to, opened_with, opens, closes, Stored, FreeRun, UsedBefore, Damage, SinceStep}
use Rattle.sharing.specs.Model.{opening as Opening, asking as Asking, closing as Closing, tidying as Tidying, Call}
use Rattle.sharing.specs.Named.{names as name_payloads}
use Rattle.sharing.specs.Table.{blank, blocks}
use Rattle.sharing.specs.declared.Table.{Table as SharedTable}
-- EXAMPLES are written as their bytes: `hex "07 01 00"`.
use Rattle.format.specs.Examples.{hex}
-- LISTS. `Indices is`: each number in the list is below 4,294,967,296. `Lists k x indices lengths text`: k is listed, and x is its own stretch of the text. `Lists k x (k ∷ is) (n ∷ ns) text` from `take n text ≡ x`, and `Lists k x (i ∷ is) (n ∷ ns) text` from `Lists k x is ns (drop n text)`.
use Rattle.format.specs.Lists.{Indices}
use Rattle.format.specs.Holding.{Lists}
-- WHAT CAN BE ASKED of a name payload: one question for each call. An index is a record of one number, `k.0`. `AllowedBy known_kind q`: the first edition asks q, each index in q is below 4,294,967,296, and an id below 256; `AllowedBy wider_kind q`: the wider edition does.
use Rattle.format.specs.Questions.{AllowedBy, as_place}
use Rattle.format.specs.declared.FunctionIndex.{FunctionIndex}
use Rattle.format.specs.declared.LocalIndex.{LocalIndex}
use Rattle.format.specs.declared.TypeIndex.{TypeIndex}
use Rattle.format.specs.declared.FieldIndex.{FieldIndex}
use Rattle.format.specs.declared.TagIndex.{TagIndex}
use Rattle.format.specs.declared.Question.{Question}
use Rattle.format.specs.declared.Question.TheVariants.{ModuleName, FunctionName, LocalName, LabelName, TypeName, TableName, MemoryName, GlobalName, ElementName, DataName, FieldName, TagName, KeptContents}
-- Of metadata and hints: `ItemQuestion` is a function and an offset, each a record of one number; `ItemInRange q` says that both are below 4,294,967,296. `OlderInRange q` says it of a question for a hint of the older edition.
use Rattle.format.proofs.Theorems.{ItemInRange, OlderInRange}
-- THE CALLS, each by its promise: `WmWalk bytes a` says that the answer a is one that the promise of wm_walk allows for these bytes. It is the promise itself, the one name that stands in the `ensures` of the call in crates/wakemiono/src. What the promises come to is said below, so that nothing has to be known of how they are put. `WmName q` is the promise of the call that asks q: wm_module_name asks `ModuleName`, wm_function_name `FunctionName` of its function, wm_type_name `TypeName` of its index, wm_tag_name `TagName` of its tag, wm_local_name `LocalName` of its function and its local, wm_field_name `FieldName` of its index and its field, wm_kept `KeptContents` of its id; `WmNameIn q` is that of the same call with `_in`, which is lent a module. `WmWideName q` and `WmWideNameIn q` are those of the wider edition, wm_wide_module_name and so on, which has six more: wm_wide_label_name asks `LabelName` of its function and its label, wm_wide_table_name `TableName`, wm_wide_memory_name `MemoryName`, wm_wide_global_name `GlobalName`, wm_wide_element_name `ElementName` and wm_wide_data_name `DataName`. The calls that write are promised of the output before and after, too: `old` and `new`. `WmMarkers p is os is' os' a` is promised of both lists before the call, `is` and `os`, and after it; `WmOldHintsList p lists lists' a` of its three lists before the call and after it; `WmQuickFunctionName p is os end function a` of a payload, two lists, an end and the function asked. `WmPair q separate own a` is the promise of the call that asks q over two payloads, wm_pair_module_name and so on, and `WmWidePair` that of the wider edition; `WmPairJoin separate own old new a` is the join's. `WmStreamPart s p t a` is promised of the state before the call, s, a part, the state after the call, t, and the answer; `WmStreamFinish s t a` of both states and the answer; `WmStreamBegin b` of the state that comes back. `WmTableStart n t` is promised of the length of a store and the table that comes back; `WmTableOpen t s customer payload work u r work' a` of the table, the store and the work buffer before the call and after it, u, r and work'; `WmTableFunctionName t s customer hold function out out' a` of the output before and after, as nothing else is written to, and `WmTableClose t s customer hold u a` of the table. `WmNamesList p id lists lists' a`, `WmWideNamesList`, `WmMetadataList p lists lists' a` and `WmHintsList` are promised of all lists before the call and after it, in the order of the call.
use Rattle.wakemiono.specs.Calls.{WmWalk, WmSection, WmCustom, WmNamesJudge, WmName, WmMetadataJudge, WmMetadata, WmHintsJudge, WmHint, WmNameIn, WmMetadataIn, WmHintIn, WmNamesCanonical, WmMetadataCanonical, WmHintsCanonical, WmFunctionNamesWrite, WmNamesIsCanonical, WmMetadataIsCanonical, WmHintsIsCanonical, WmWideNamesJudge, WmWideName, WmWideNameIn, WmWideNamesCanonical, WmWideNamesIsCanonical, WmOldHintsJudge, WmOldHint, WmOldHintIn, WmOldHintsCanonical, WmOldHintsIsCanonical, WmOldHintsList, WmWhyFunction, WmWhyLocal, WmMarkers, WmQuickFunctionName, WmPair, WmWidePair, WmPairJoin, WmWidePairJoin, WmStreamBegin, WmStreamPart, WmStreamFinish, WmHintsOnBranches, WmTableStart, WmTableOpen, WmTableFunctionName, WmTableClose, WmTableCompact, WmNamesList, WmWideNamesList, WmMetadataList, WmHintsList}
-- HINTS ON BRANCHES, by crates/branches/specs: `hints_on_branches m` is the check of a module; `imported_functions` counts the functions that are imported, and `function_bodies` are the bodies. `Placed` has a `number`, where it stands, `at`, and its `value`: of hints, by function and then by offset. The rule without a step stands in Rule.antt, over the grammar of core specification 1.0 in Grammar.antt: `HasHints m`: walk and hint payload of m are accepted; `Hinted m first parts fs`: so are its import list and its list of bodies, `first` functions are imported, `parts` are the bodies and fs the hints. `AllSit first parts fs`: every hint of fs has a body of which a br_if or an if begins at its offset. `ModuleRefused m n at`: the walk, the payload, the import list, the list of bodies or the first hint that does not sit is refused with n at that offset.
use Rattle.branches.specs.Branches.{imported_functions, function_bodies, hints_on_branches}
use Rattle.branches.specs.Hints.{Placed, Hints}
use Rattle.branches.specs.Rule.{AllSit, HasHints, Hinted, ModuleRefused}
-- THE NUMBER READER of the library, by its promise: from the cursor c over the bytes s it reads the number v, says `told`, and stands at `next`; `left s c` are the bytes from c to the end of the innermost part, and `shortest v` is the shortest form of v. `Inside s c`: the cursor lies in what was lent.
use Rattle.format.specs.Numbers.{shortest}
use Rattle.reading.specs.Cursors.{Inside, left}
use Rattle.reading.specs.Promises.{ReadingNumber}
use Rattle.reading.specs.declared.Cursor.{Cursor}
-- THE PART that is handed back in Rattle, by the promise of `pairs::ask_bytes`: of two payloads that begin at two places in memory, each a block and an offset in it, the part's bytes and the place where it begins.
use Rattle.pairs.specs.Promises.{PairsAskBytes}

-- DEMAND 1 (R21.1). "Any bytes may be lent as a module, a section or a set of lists. Each public call ends, does nothing undefined and asks no prior check. Bad input gets a refusal number and the offset document 01 gives with it, and every lent buffer is unchanged." Proved as `demand_1` in Proved.antt.

-- That a call ends and does nothing undefined is what the checker proves of its code before it says `proved`, and a call without a `requires` asks nothing: none of the C calls has one. What is lent to be read is lent as `&[u8]` or `&[u32]`, which cannot be written to. What is left to say is what the answers are, which input is refused with which number and offset, and what an output holds after the call.

-- What a judging call, the walk or a call that writes answers: a length or a count, or a refusal
pub data Verdict : WmAnswer → Type 0 where
  yes : (length : ℕ) → Verdict (wm_found 0 0 length)
  no : (number offset : ℕ) → Verdict (wm_refused number offset)

-- What a question is answered: none, a place, or a refusal
pub data Reply : WmAnswer → Type 0 where
  reply_none : Reply wm_none
  reply_found : (offset length : ℕ) → Reply (wm_found 0 offset length)
  reply_refused : (number offset : ℕ) → Reply (wm_refused number offset)

-- What the question for a section is answered: a place has its id, too
pub data SectionReply : WmAnswer → Type 0 where
  section_none_lem : SectionReply wm_none
  section_found_lem : (id offset length : ℕ) → SectionReply (wm_found id offset length)
  section_refused_lem : (number offset : ℕ) → SectionReply (wm_refused number offset)

-- What a question for a hint is answered: none, unlikely, likely, or a refusal
pub data HintReply : WmAnswer → Type 0 where
  hint_none : HintReply wm_none
  hint_unlikely : HintReply (record { kind = 3; code = 0; offset = 0; length = 0 })
  hint_likely : HintReply (record { kind = 4; code = 0; offset = 0; length = 0 })
  hint_refused_lem : (number offset : ℕ) → HintReply (wm_refused number offset)

-- The numbers that the calls refuse with, but for those on the shared table, which K12 lists; 16 is the listing program's alone. Each with its row of the table, and what says it: a fault by its file in crates/grammar/specs/Faults, or a statement below
-- 1 | preamble missing or different | 0: `no_preamble` in Modules
-- 2 | a number, name or sized part runs past its enclosing part | first byte of the number (for a name or sized part, of its length): `cut_off` in Numbers, `runs_past` in Parts; a zero byte that is `missing` in Older
-- 3 | fifth byte of a number above 0x0F | first byte of the number: `too_large_lem` in Numbers
-- 4 | text not UTF-8 | first byte of the text: `not_text` in Parts; of lists `not_text` in Writing
-- 5 | section id above 12, by K1 above 13 | id byte: `unknown_id` in Modules
-- 6 | section repeated or out of order | id byte: `out_of_order` in Modules
-- 7 | second `name` or `metadata.code.branch_hint`, by K2 `branchHints` | its id byte: `second_of_its_name` in Modules
-- 8 | data after `name`; hints after code | id byte of the later section: `data_after_name` and `hints_after_code` in Modules
-- 9 | subsection id not above the one before | id byte: `id_not_above` in Names
-- 10 | bytes left over in a subsection or a metadata payload | first of them: `left_over` in Parts
-- 11 | index or offset not above the one before | that number (in lists: its position): `not_above_lem` in Lists, and in Writing
-- 12 | hint of size other than 1, or data above 1 | the size number: `other_size_lem` and `data_above_lem` in Metadata; by K2 a kind above 1, at the kind: `kind_above` in Older
-- 13 | output shorter than needed | the needed length: `too_short` and `output_too_short`; `older_too_short` of K2, `join_too_short` of K3, `few_indices` and `few_offsets` of K8, `few_places` of lists of rows
-- 14 | lists disagree: unequal counts, or lengths that don't add up to the text | 0: `lists_disagree` in Writing
-- 15 | subsection would exceed 4,294,967,295 bytes | 0: `subsection_too_large` in Writing; `older_too_long` of K2, `join_too_large` of K3, `payload_too_long` of K8
-- 17 | the byte behind a function of the older hints is not zero | that byte: `not_zero` in Older
-- 18 | a part or a finish after the finish | 0: `part_late` and `finish_late` of K5
-- 19 | no body for a hinted function | the function index: `no_body` in crates/branches/specs/Rule.antt
-- 20 | locals, or an instruction before a hinted place, not readable by version 1.0 | the hint's offset number: `cannot_be_read` there
-- 21 | a hint not on a branch | the hint's offset number: `not_on_aBranch` there
-- 22 | markers that are none | the shorter list's length, the lists' length, or the first such position: `Follows` in crates/format/specs/MarkerRule.antt
-- 28 | a part that takes the total above 18,446,744,073,709,551,615 bytes | 0: `too_large` of K5
-- 29 | an import kind above 3, or a limits flag above 1 | that byte: `ImportKindFault` and `LimitsFault` in crates/branches/specs/Faults.antt
abbrev pub numbers : List ℕ
numbers = 1 ∷ 2 ∷ 3 ∷ 4 ∷ 5 ∷ 6 ∷ 7 ∷ 8 ∷ 9 ∷ 10 ∷ 11 ∷ 12 ∷ 13 ∷ 14 ∷ 15 ∷ 17 ∷ 18 ∷ 19 ∷ 20 ∷ 21 ∷ 22 ∷ 28 ∷ 29 ∷ []

-- whether a number is one of a list
abbrev pub is_among : List ℕ → ℕ → Bool
is_among [] n = false
is_among (x ∷ xs) n = eqb n x || is_among xs n

-- What a call answers, said of every call alike: `Forms` are the forms that its answer can have, and `Refused` says which input is refused, and how. So a call that refuses too little or too much, with another number or at another offset, does not meet this
pub record Answers (Forms : WmAnswer → Type 0) (Refused : (number offset : ℕ) → Type 0) (a : WmAnswer) : Type 0 where
  pub answers : Forms a
  -- a refusal is answered exactly where there is one to give, with its own number and its own offset
  pub refuses : (number offset : ℕ) → (a ≡ wm_refused number offset) ↔ Refused number offset
  -- and its number is one of the list
  pub numbered : (number offset : ℕ) → a ≡ wm_refused number offset → is_among numbers number ≡ true

-- Through a module the walk comes first. Then the payload of the section, if wm_custom finds one, has a fault where it lies, and offsets count from the module's start
pub data RefusedThrough (section : List ℕ) (Fault : Faults) (m : List ℕ) : (number offset : ℕ) → Type 0 where
  by_the_walk : {number offset : ℕ} → ModuleFault m number offset → RefusedThrough section Fault m number offset
  by_its_payload : {number place : ℕ} (c : WmAnswer) → WmCustom section m c → c.kind ≡ 1 → Fault (take c.length (drop c.offset m)) number place → RefusedThrough section Fault m number (c.offset + place)

-- metadata of a format: for branch_hint the rules of hints hold
pub data FormatFault (format : List ℕ) : List ℕ → (number place : ℕ) → Type 0 where
  of_hints : {p : List ℕ} {number place : ℕ} → format ≡ branch_hint → MetadataFault BranchHint HintFault p number place → FormatFault format p number place
  of_any_other : {p : List ℕ} {number place : ℕ} → format ≢ branch_hint → MetadataFault Unknown AnyItemFault p number place → FormatFault format p number place

-- A call that writes: what is lent may have a fault, and 13 comes last, exactly where the output is shorter than needed. Its offset is the needed length
pub data RefusedOrShort {A : Type 0} (Fault : (number offset : ℕ) → Type 0) (judged : Judged A) (needed : A → ℕ) (room : ℕ) : (number offset : ℕ) → Type 0 where
  by_aFault : {number offset : ℕ} → Fault number offset → RefusedOrShort Fault judged needed room number offset
  too_short : {v : A} → judged ≡ accepted v → room < needed v → RefusedOrShort Fault judged needed room 13 (needed v)

-- The payload that is written from lists: nothing for no names, else the subsection's id, the size of its contents, and these
abbrev pub payload_length : (indices lengths : List ℕ) → ℕ
payload_length [] ns = 0
payload_length (i ∷ is) ns = 1 + bytes_for (contents_length (i ∷ is) ns) + contents_length (i ∷ is) ns

-- Which lists are refused, and how: at their fault, in the order 14, all of 11, all of 4, 15; and 13 behind them
pub data ListsRefused (indices lengths text : List ℕ) (room : ℕ) : (number offset : ℕ) → Type 0 where
  lists_fault : {number offset : ℕ} → ListsFault indices lengths text number offset → ListsRefused indices lengths text room number offset
  output_too_short : FineLists indices lengths text → contents_length indices lengths ≤ 4_294_967_295 → room < payload_length indices lengths → ListsRefused indices lengths text room 13 (payload_length indices lengths)

-- What an output holds after a call that writes
pub record Leaves (old new : List ℕ) (a : WmAnswer) : Type 0 where
  -- after a refusal it is unchanged as a whole
  pub refused_unchanged : a.kind ≡ 2 → new ≡ old
  -- after a write every byte behind what was written is
  pub others_unchanged : a.kind ≡ 1 → drop a.length new ≡ drop a.length old
  -- what was written lies inside, and the output is as long as before
  pub inside : a.length ≤ length old
  pub as_long : length new ≡ length old

-- What is written is the same in every output with room for it, and a shorter one is refused by 13, with the length that is needed
abbrev pub NeedsRoom : (writing : (old new : List ℕ) → WmAnswer → Type 0) → Type 0
NeedsRoom writing = (old new old' new' : List ℕ) (a b : WmAnswer) → writing old new a → writing old' new' b → a.kind ≡ 1 → (length old' < a.length → b ≡ wm_refused 13 a.length) × (a.length ≤ length old' → (b ≡ a) × (take a.length new' ≡ take a.length new))

-- A call that writes, by which input it refuses into an output of a length
pub record Writing (Refused : (room number offset : ℕ) → Type 0) (writing : (old new : List ℕ) → WmAnswer → Type 0) : Type 0 where
  pub answers : (old new : List ℕ) (a : WmAnswer) → writing old new a → Answers Verdict (Refused (length old)) a
  pub leaves : (old new : List ℕ) (a : WmAnswer) → writing old new a → Leaves old new a
  pub needs_room : NeedsRoom writing

-- The judgements that the requests below speak of refuse exactly what has a fault, with its number and at its place, wherever the bytes begin in what was lent; and of no bytes are there two answers
pub record Faulty : Type 0 where
  pub modules : Refuses 0 judge_module Module ModuleFault
  pub names : (at : ℕ) → Refuses at (judge_names known_kind at) (NamePayload SourceIds) (NamePayloadFault SourceIds)
  pub wide_names : (at : ℕ) → Refuses at (judge_names wider_kind at) (NamePayload WiderIds) (NamePayloadFault WiderIds)
  pub metadata : (at : ℕ) → Refuses at (judge_metadata any_item at) (CodeMetadata Unknown) (MetadataFault Unknown AnyItemFault)
  pub hints : (at : ℕ) → Refuses at (judge_metadata hint_item at) (CodeMetadata BranchHint) (MetadataFault BranchHint HintFault)
  pub older_hints : (at : ℕ) → Refuses at (judge_older at) OlderHints OlderFault
  pub lists : RefusesLists

pub record Demand1 : Type 0 where
  pub walk : (bytes : List ℕ) (a : WmAnswer) → Bytes bytes → WmWalk bytes a → Answers Verdict (ModuleFault bytes) a
  pub section : (position : ℕ) (bytes : List ℕ) (a : WmAnswer) → Bytes bytes → WmSection position bytes a → Answers SectionReply (ModuleFault bytes) a
  pub custom : (name bytes : List ℕ) (a : WmAnswer) → Bytes bytes → WmCustom name bytes a → Answers Reply (ModuleFault bytes) a
  pub names_judge : (payload : List ℕ) (a : WmAnswer) → Bytes payload → WmNamesJudge payload a → Answers Verdict (NamePayloadFault SourceIds payload) a
  pub name : (q : Question) (payload : List ℕ) (a : WmAnswer) → Bytes payload → WmName q payload a → Answers Reply (NamePayloadFault SourceIds payload) a
  pub metadata_judge : (payload : List ℕ) (a : WmAnswer) → Bytes payload → WmMetadataJudge payload a → Answers Verdict (MetadataFault Unknown AnyItemFault payload) a
  pub metadata : (function offset : ℕ) (payload : List ℕ) (a : WmAnswer) → Bytes payload → WmMetadata function offset payload a → Answers Reply (MetadataFault Unknown AnyItemFault payload) a
  pub hints_judge : (payload : List ℕ) (a : WmAnswer) → Bytes payload → WmHintsJudge payload a → Answers Verdict (MetadataFault BranchHint HintFault payload) a
  pub hint : (function offset : ℕ) (payload : List ℕ) (a : WmAnswer) → Bytes payload → WmHint function offset payload a → Answers HintReply (MetadataFault BranchHint HintFault payload) a
  pub name_in : (q : Question) (bytes : List ℕ) (a : WmAnswer) → Bytes bytes → WmNameIn q bytes a → Answers Reply (RefusedThrough name_section (NamePayloadFault SourceIds) bytes) a
  pub metadata_in : (format : List ℕ) (function offset : ℕ) (bytes : List ℕ) (a : WmAnswer) → Bytes bytes → WmMetadataIn format function offset bytes a → Answers Reply (RefusedThrough (metadata_section format) (FormatFault format) bytes) a
  pub hint_in : (function offset : ℕ) (bytes : List ℕ) (a : WmAnswer) → Bytes bytes → WmHintIn function offset bytes a → Answers HintReply (RefusedThrough hint_section (MetadataFault BranchHint HintFault) bytes) a
  pub names_canonical : (payload : List ℕ) → Bytes payload → Writing (RefusedOrShort (NamePayloadFault SourceIds payload) (judge_names known_kind 0 payload) (λ t. length (rewrite_names t))) (WmNamesCanonical payload)
  pub metadata_canonical : (payload : List ℕ) → Bytes payload → Writing (RefusedOrShort (MetadataFault Unknown AnyItemFault payload) (judge_metadata any_item 0 payload) (λ t. length (rewrite_metadata t))) (WmMetadataCanonical payload)
  pub hints_canonical : (payload : List ℕ) → Bytes payload → Writing (RefusedOrShort (MetadataFault BranchHint HintFault payload) (judge_metadata hint_item 0 payload) (λ t. length (rewrite_metadata t))) (WmHintsCanonical payload)
  pub function_names_write : (indices lengths text : List ℕ) → Writing (ListsRefused indices lengths text) (WmFunctionNamesWrite indices lengths text)
  pub faults : Faulty

-- DEMAND 2 (R21.2). "Exactly what the rules accept is accepted. A lookup gives the mapped name as the very bytes of the section, or none exactly when the index has no name. Walk, hints and kept parts are what the rules make them. Names written from lists read back as those lists." Proved as `demand_2` in Proved.antt.

-- Found: a place inside what was lent, and the bytes that lie there are x. Where the same bytes stand at two places this does not say which of them is told; the promises do, by the place at which each name was read
abbrev pub FoundIn : List ℕ → WmAnswer → List ℕ → Type 0
FoundIn lent a x = (a.kind ≡ 1) × (a.offset + a.length ≤ length lent) × (take a.length (drop a.offset lent) ≡ x)

-- Exactly what is held is found, and none is answered exactly where nothing is
abbrev pub Tells : List ℕ → (List ℕ → Type 0) → WmAnswer → Type 0
Tells lent Held a = ((x : List ℕ) → FoundIn lent a x ↔ Held x) × ((a.kind ≡ 0) ↔ ((x : List ℕ) → Held x → ⊥))

-- What a name payload of a meaning holds for a question: the name in subsection 0; the name with an index in the maps 1, 4 and 11, and 5 to 9; the name with an index within another in the maps 2 and 10, and 3; the contents of a subsection that is kept
module _ (m : Table (Content (List ℕ))) (x : List ℕ) where
  abbrev pub HoldsEntry : (id index : ℕ) → Type 0
  HoldsEntry id index = (t : Table (List ℕ)) × Has id (names t) m × Has index x t

  abbrev pub HoldsWithin : (id outer inner : ℕ) → Type 0
  HoldsWithin id outer inner = (g : Table (Table (List ℕ))) × Has id (names_by g) m × ((t : Table (List ℕ)) × Has outer t g × Has inner x t)

  abbrev pub HoldsName : Question → Type 0
  HoldsName ModuleName = Has 0 (single x) m
  HoldsName (FunctionName k) = HoldsEntry 1 k.0
  HoldsName (LocalName k j) = HoldsWithin 2 k.0 j.0
  HoldsName (LabelName k j) = HoldsWithin 3 k.0 j.0
  HoldsName (TypeName k) = HoldsEntry 4 k.0
  HoldsName (TableName k) = HoldsEntry 5 k.0
  HoldsName (MemoryName k) = HoldsEntry 6 k.0
  HoldsName (GlobalName k) = HoldsEntry 7 k.0
  HoldsName (ElementName k) = HoldsEntry 8 k.0
  HoldsName (DataName k) = HoldsEntry 9 k.0
  HoldsName (FieldName k j) = HoldsWithin 10 k.0 j.0
  HoldsName (TagName k) = HoldsEntry 11 k.0
  HoldsName (KeptContents id) = Has id (whole x) m

-- What metadata of a meaning holds for a function and an offset
abbrev pub HoldsData : (function offset : ℕ) → Table (Table (List ℕ)) → List ℕ → Type 0
HoldsData function offset m x = (t : Table (List ℕ)) × Has function t m × Has offset x t

module _ {A : Type 0} (judging : List ℕ → WmAnswer → Type 0) (grammar : Grammar A) where
  pub record JudgesExactly : Type 0 where
    -- found is answered exactly for bytes that have a meaning
    pub found_exactly : (p : List ℕ) (a : WmAnswer) → Bytes p → judging p a → (a.kind ≡ 1) ↔ ((m : A) × grammar p m)
    -- and a refusal exactly for bytes that have none
    pub refused_exactly : (p : List ℕ) (a : WmAnswer) → Bytes p → judging p a → (a.kind ≡ 2) ↔ ((m : A) → grammar p m → ⊥)
    -- no bytes have two meanings
    pub one_meaning : (p : List ℕ) (m n : A) → grammar p m → grammar p n → m ≡ n

-- A refusal of a question is the judging call's own, with its number and offset, whatever was asked
abbrev pub RefusesAs : (judging asking : List ℕ → WmAnswer → Type 0) → Type 0
RefusesAs judging asking = (p : List ℕ) (a j : WmAnswer) → asking p a → judging p j → (n at : ℕ) → (a ≡ wm_refused n at) ↔ (j ≡ wm_refused n at)

-- The questions to name payloads over a table of ids, by the promises of the judging call and of the calls that ask
pub record AnswersNames (Ids : ℕ → Kind → Type 0) (judging : List ℕ → WmAnswer → Type 0) (asking : Question → List ℕ → WmAnswer → Type 0) : Type 0 where
  -- of a payload with a meaning, exactly what the meaning holds is found
  pub tells : (q : Question) (p : List ℕ) (m : Table (Content (List ℕ))) (a : WmAnswer) → NamePayload Ids p m → asking q p a → Tells p (λ x. HoldsName m x q) a
  pub refuses : (q : Question) → RefusesAs judging (asking q)

pub record AnswersMetadata : Type 0 where
  pub tells : (function offset : ℕ) (p : List ℕ) (m : Table (Table (List ℕ))) (a : WmAnswer) → CodeMetadata Unknown p m → WmMetadata function offset p a → Tells p (λ x. HoldsData function offset m x) a
  pub refuses : (function offset : ℕ) → RefusesAs WmMetadataJudge (WmMetadata function offset)

-- For hints kind 4 is likely, which is the data 1, and kind 3 unlikely, the data 0
pub record AnswersHints : Type 0 where
  pub likely : (function offset : ℕ) (p : List ℕ) (m : Table (Table (List ℕ))) (a : WmAnswer) → CodeMetadata BranchHint p m → WmHint function offset p a → (a.kind ≡ 4) ↔ HoldsData function offset m (1 ∷ [])
  pub unlikely : (function offset : ℕ) (p : List ℕ) (m : Table (Table (List ℕ))) (a : WmAnswer) → CodeMetadata BranchHint p m → WmHint function offset p a → (a.kind ≡ 3) ↔ HoldsData function offset m (0 ∷ [])
  pub none : (function offset : ℕ) (p : List ℕ) (m : Table (Table (List ℕ))) (a : WmAnswer) → CodeMetadata BranchHint p m → WmHint function offset p a → (a.kind ≡ 0) ↔ ((x : List ℕ) → HoldsData function offset m x → ⊥)
  pub refuses : (function offset : ℕ) → RefusesAs WmHintsJudge (WmHint function offset)

-- The walk. A module means its sections in file order, each with its id, its contents and, of a custom section, its name and payload. A section s stands in m at an offset: there is its id byte, then the size number, which is the length of the contents, then the contents, which end where the next section begins
abbrev pub Stands : List ℕ → (at next : ℕ) → Section → Type 0
Stands m at next s = (front size rest : List ℕ) × (m ≡ front ++ (s.id ∷ (size ++ (s.contents ++ rest)))) × (length front ≡ at) × U32 size (length s.contents) × (next + length rest ≡ length m)

-- The first custom section of a name has the payload x: there is such a section, and none of those before it has the name
abbrev pub FirstCalled : (name : List ℕ) → List Section → List ℕ → Type 0
FirstCalled name ss x = (before : List Section) × (s : Section) × (after : List Section) × (ss ≡ before ++ (s ∷ after)) × (s.custom ≡ some (record { name = name; payload = x })) × ((t : Section) → Among t before → Called name t → ⊥)

pub record Walks : Type 0 where
  -- the count of sections
  pub counts : (m : List ℕ) (ss : List Section) (a : WmAnswer) → Module m ss → WmWalk m a → a.length ≡ length ss
  -- the section at a position, counted from 0: its id, the offset of its id byte and the length of its contents
  pub section : (position : ℕ) (m : List ℕ) (ss : List Section) (a : WmAnswer) → Module m ss → WmSection position m a → Bytes m → (s : Section) → get_elem? ss position ≡ some s → (a.kind ≡ 1) × (a.code ≡ s.id) × (a.length ≡ length s.contents) × ((next : ℕ) × Stands m a.offset next s × ((b : WmAnswer) → WmSection (suc position) m b → b.kind ≡ 1 → b.offset ≡ next))
  -- the first begins after the 8 bytes of the preamble
  pub first : (m : List ℕ) (ss : List Section) (a : WmAnswer) → Module m ss → WmSection 0 m a → a.kind ≡ 1 → a.offset ≡ 8
  -- none past the last
  pub past_the_last : (position : ℕ) (m : List ℕ) (ss : List Section) (a : WmAnswer) → Module m ss → WmSection position m a → (a.kind ≡ 0) ↔ (length ss ≤ position)
  -- the payload of the first custom section of a name, or none
  pub custom : (name m : List ℕ) (ss : List Section) (a : WmAnswer) → Module m ss → WmCustom name m a → Tells m (λ x. FirstCalled name ss x) a
  pub section_refuses : (position : ℕ) → RefusesAs WmWalk (WmSection position)
  pub custom_refuses : (name : List ℕ) → RefusesAs WmWalk (WmCustom name)

-- Through a module. "Asked through an accepted module without the section, each gets none." "A payload asked through its module is judged after the walk and counts from the module's start."

-- The same answer, for a payload that begins k bytes into the module: what is found or refused lies k further on
abbrev pub Moved : ℕ → WmAnswer → WmAnswer → Type 0
Moved k b a = (a.kind ≡ b.kind) × (a.code ≡ b.code) × (a.length ≡ b.length) × (a.kind ≡ 1 → a.offset ≡ k + b.offset) × (a.kind ≡ 2 → a.offset ≡ k + b.offset)

-- The question is put to the section that wm_custom finds: without one the answer is none, a refusal of the walk comes first, and else the answer is that of the payload's own call
abbrev pub PutThrough : (section : List ℕ) (asking asking_in : List ℕ → WmAnswer → Type 0) → Type 0
PutThrough section asking asking_in = (m : List ℕ) (a c : WmAnswer) → asking_in m a → WmCustom section m c
    → (c.kind ≡ 0 → a ≡ wm_none)
    × ((n at : ℕ) → c ≡ wm_refused n at → a ≡ wm_refused n at)
    × ((b : WmAnswer) → c.kind ≡ 1 → asking (take c.length (drop c.offset m)) b → Moved c.offset b a)

pub record AsksThrough : Type 0 where
  pub names : (q : Question) → PutThrough name_section (WmName q) (WmNameIn q)
  pub hints : (function offset : ℕ) → PutThrough hint_section (WmHint function offset) (WmHintIn function offset)
  pub metadata : (format : List ℕ) → format ≢ branch_hint → (function offset : ℕ) → PutThrough (metadata_section format) (WmMetadata function offset) (WmMetadataIn format function offset)
  -- of hints, as metadata: the refusal of wm_hints_judge, and else the answer of wm_metadata
  pub hint_data : (function offset : ℕ) → PutThrough hint_section (λ p b. (j : WmAnswer) × WmHintsJudge p j × (j.kind ≡ 2 → b ≡ j) × (j.kind ≡ 1 → WmMetadata function offset p b)) (WmMetadataIn branch_hint function offset)

-- Names from lists. What the lists give for a question: for a function whose index is listed, its own stretch of the text; for any other question nothing
abbrev pub Listed : (indices lengths text : List ℕ) → Question → List ℕ → Type 0
Listed indices lengths text ModuleName x = ⊥
Listed indices lengths text (FunctionName k) x = Lists k.0 x indices lengths text
Listed indices lengths text (TypeName k) x = ⊥
Listed indices lengths text (LabelName k j) x = ⊥
Listed indices lengths text (TableName k) x = ⊥
Listed indices lengths text (MemoryName k) x = ⊥
Listed indices lengths text (GlobalName k) x = ⊥
Listed indices lengths text (ElementName k) x = ⊥
Listed indices lengths text (DataName k) x = ⊥
Listed indices lengths text (TagName k) x = ⊥
Listed indices lengths text (LocalName k j) x = ⊥
Listed indices lengths text (FieldName k j) x = ⊥
Listed indices lengths text (KeptContents id) x = ⊥

pub record WritesLists (indices lengths text written : List ℕ) (a : WmAnswer) : Type 0 where
  -- what was written is accepted
  pub is_accepted : (j : WmAnswer) → WmNamesJudge written j → j.kind ≡ 1
  -- every question finds in it exactly what the lists give
  pub reads_back : (q : Question) (b : WmAnswer) → WmName q written b → Tells written (λ x. Listed indices lengths text q x) b
  -- and it is canonical: its rewriting is itself
  pub is_canonical : (old new : List ℕ) (b : WmAnswer) → a.length ≤ length old → WmNamesCanonical written old new b → (b ≡ a) × (take b.length new ≡ written)

pub record Demand2 : Type 0 where
  pub names_judged : JudgesExactly WmNamesJudge (NamePayload SourceIds)
  pub metadata_judged : JudgesExactly WmMetadataJudge (CodeMetadata Unknown)
  pub hints_judged : JudgesExactly WmHintsJudge (CodeMetadata BranchHint)
  -- K1. "Demand 2 reads over the mended rule": a module's sections stand in `section_order`, which `Module` asks of every two of them
  pub modules_judged : JudgesExactly WmWalk Module
  -- of a payload that is accepted the judging call finds the whole
  pub names_whole : (p : List ℕ) (a : WmAnswer) → WmNamesJudge p a → a.kind ≡ 1 → a ≡ wm_found 0 0 (length p)
  pub metadata_whole : (p : List ℕ) (a : WmAnswer) → WmMetadataJudge p a → a.kind ≡ 1 → a ≡ wm_found 0 0 (length p)
  pub hints_whole : (p : List ℕ) (a : WmAnswer) → WmHintsJudge p a → a.kind ≡ 1 → a ≡ wm_found 0 0 (length p)
  pub names : AnswersNames SourceIds WmNamesJudge WmName
  pub metadata : AnswersMetadata
  pub hints : AnswersHints
  pub walks : Walks
  pub through_modules : AsksThrough
  -- exactly the fine lists are written, but for the size of their subsection and for want of room, which demand 1 says
  pub written_fine : (indices lengths text old new : List ℕ) (a : WmAnswer) → WmFunctionNamesWrite indices lengths text old new a → a.kind ≡ 1 → FineLists indices lengths text
  pub fine_written : (indices lengths text old new : List ℕ) (a : WmAnswer) → WmFunctionNamesWrite indices lengths text old new a → FineLists indices lengths text → contents_length indices lengths ≤ 4_294_967_295 → payload_length indices lengths ≤ length old → a ≡ wm_found 0 0 (payload_length indices lengths)
  pub lists : (indices lengths text old new : List ℕ) (a : WmAnswer) → Indices indices → WmFunctionNamesWrite indices lengths text old new a → a.kind ≡ 1 → WritesLists indices lengths text (take a.length new) a

-- DEMAND 3 (R8.9, R21.3). "Canonical rewritings of two accepted payloads are equal byte by byte exactly when every allowed question gets the same answer from both. A rewriting is accepted, answers as its original, is never longer, and rewriting it again changes nothing." Proved as `demand_3` in Proved.antt.

-- Two answers, of the payloads x and y, are the same: of one kind, and with the same bytes
abbrev pub SameAnswer : (x y : List ℕ) (a b : WmAnswer) → Type 0
SameAnswer x y a b = (a.kind ≡ b.kind) × (take a.length (drop a.offset x) ≡ take b.length (drop b.offset y))

-- A call that answered `found` wrote the first bytes of its output, as many as it says: `take a.length new`
module _ {Q : Type 0} (judging : List ℕ → WmAnswer → Type 0) (asking : Q → List ℕ → WmAnswer → Type 0) (Allowed : Q → Type 0) (Same : (x y : List ℕ) (a b : WmAnswer) → Type 0) (rewriting : (payload old new : List ℕ) → WmAnswer → Type 0) where
  -- of what was written, wherever something was
  pub record Rewritten : Type 0 where
    -- "equal byte by byte exactly when every allowed question gets the same answer from both"
    pub same_exactly : (x y old new old' new' : List ℕ) (a b : WmAnswer) → Bytes x → Bytes y → rewriting x old new a → rewriting y old' new' b → a.kind ≡ 1 → b.kind ≡ 1 → (take a.length new ≡ take b.length new') ↔ ((q : Q) → Allowed q → (c d : WmAnswer) → asking q x c → asking q y d → Same x y c d)
    -- "is accepted"
    pub is_accepted : (p old new : List ℕ) (a : WmAnswer) → rewriting p old new a → a.kind ≡ 1 → (j : WmAnswer) → judging (take a.length new) j → j.kind ≡ 1
    -- "answers as its original"
    pub answers_alike : (p old new : List ℕ) (a : WmAnswer) → rewriting p old new a → a.kind ≡ 1 → (q : Q) (c d : WmAnswer) → asking q p c → asking q (take a.length new) d → Same p (take a.length new) c d
    -- "is never longer"
    pub never_longer : (p old new : List ℕ) (a : WmAnswer) → rewriting p old new a → a.kind ≡ 1 → a.length ≤ length p
    -- "rewriting it again changes nothing"
    pub comes_to_rest : (p old new : List ℕ) (a : WmAnswer) → rewriting p old new a → a.kind ≡ 1 → (old' new' : List ℕ) (b : WmAnswer) → a.length ≤ length old' → rewriting (take a.length new) old' new' b → (b ≡ a) × (take b.length new' ≡ take a.length new)
    -- a payload that the judging call refuses is refused alike
    pub refuses : (p old new : List ℕ) (a j : WmAnswer) → judging p j → rewriting p old new a → (n at : ℕ) → j ≡ wm_refused n at → a ≡ wm_refused n at

  pub record Rewrites : Type 0 where
    pub written : Rewritten
    -- every accepted payload has one: an output as long as the payload is enough
    pub room_enough : (p old new : List ℕ) (a j : WmAnswer) → judging p j → j.kind ≡ 1 → length p ≤ length old → rewriting p old new a → a.kind ≡ 1

-- Allowed is every question that its C call can be given; of names, every question of the first edition
pub record Demand3 : Type 0 where
  pub names : Rewrites WmNamesJudge WmName (AllowedBy known_kind) SameAnswer WmNamesCanonical
  pub metadata : Rewrites WmMetadataJudge (λ q. WmMetadata q.0.0 q.1.0) ItemInRange SameAnswer WmMetadataCanonical
  -- hints are the same where the whole answers are, none, likely or unlikely
  pub hints : Rewrites WmHintsJudge (λ q. WmHint q.0.0 q.1.0) ItemInRange (λ _ _ a b. a ≡ b) WmHintsCanonical

-- K10 (R1.15, R8.10). "The number reader should also say whether the number took its fewest bytes, and its promise and every caller's change with it. On top comes a yes or no for a payload: yes exactly when it is accepted and equals its canonical rewriting." Proved as `k10` in Proved.antt.

-- A call that tells: yes is 1 and no is 0
module _ (judging : List ℕ → WmAnswer → Type 0) (rewriting : (payload old new : List ℕ) → WmAnswer → Type 0) (telling : List ℕ → ℕ → Type 0) where
  pub record TellsCanonical : Type 0 where
    -- yes exactly when the judging call accepts the payload, and what the rewriting call writes of it, wherever there is room, is the payload
    pub yes_exactly : (p : List ℕ) (y : ℕ) → telling p y → (y ≡ 1) ↔ (((j : WmAnswer) → judging p j → j.kind ≡ 1) × ((old new : List ℕ) (a : WmAnswer) → length p ≤ length old → rewriting p old new a → take a.length new ≡ p))
    -- and no otherwise
    pub no_else : (p : List ℕ) (y : ℕ) → telling p y → (y ≡ 1 → ⊥) → y ≡ 0

pub record K10 : Type 0 where
  -- a number took its fewest bytes exactly when the bytes read are its shortest form
  pub numbers : (s : List ℕ) (c next : Cursor) (v : ℕ) (told : Bool) → Bytes s → Inside s c → ReadingNumber c s (Ok (v, next, told)) → (told ≡ true) ↔ (left s c ≡ shortest v ++ left s next)
  pub names : TellsCanonical WmNamesJudge WmNamesCanonical WmNamesIsCanonical
  pub metadata : TellsCanonical WmMetadataJudge WmMetadataCanonical WmMetadataIsCanonical
  pub hints : TellsCanonical WmHintsJudge WmHintsCanonical WmHintsIsCanonical

-- K9 (R4.3, R4.9, R8.8). "Toolchains follow the extended name section proposal: ids 3 labels (indirect, by function), 5 tables, 6 memories, 7 globals, 8 element segments, 9 data segments (name maps). We want it as a second edition, the caller choosing, the first unchanged; there these six get questions by index and are none as kept. .. Demand 3 holds within one edition only: an empty map of id 7 is dropped by one and kept by the other. .. Refusals as for the known ids." Proved as `k9` in Proved.antt.

-- The questions that both editions have
pub data InBoth : Question → Type 0 where
  the_module : InBoth ModuleName
  a_function : (k : FunctionIndex) → InBoth (FunctionName k)
  a_local : (k : FunctionIndex) (j : LocalIndex) → InBoth (LocalName k j)
  a_type : (k : TypeIndex) → InBoth (TypeName k)
  a_field : (k : TypeIndex) (j : FieldIndex) → InBoth (FieldName k j)
  a_tag : (k : TagIndex) → InBoth (TagName k)

pub record K9 : Type 0 where
  -- demand 1 of the wider edition
  pub names_judge : (payload : List ℕ) (a : WmAnswer) → Bytes payload → WmWideNamesJudge payload a → Answers Verdict (NamePayloadFault WiderIds payload) a
  pub name : (q : Question) (payload : List ℕ) (a : WmAnswer) → Bytes payload → WmWideName q payload a → Answers Reply (NamePayloadFault WiderIds payload) a
  pub name_in : (q : Question) (bytes : List ℕ) (a : WmAnswer) → Bytes bytes → WmWideNameIn q bytes a → Answers Reply (RefusedThrough name_section (NamePayloadFault WiderIds) bytes) a
  pub names_canonical : (payload : List ℕ) → Bytes payload → Writing (RefusedOrShort (NamePayloadFault WiderIds payload) (judge_names wider_kind 0 payload) (λ t. length (rewrite_names t))) (WmWideNamesCanonical payload)
  -- demand 2
  pub names_judged : JudgesExactly WmWideNamesJudge (NamePayload WiderIds)
  pub names_whole : (p : List ℕ) (a : WmAnswer) → WmWideNamesJudge p a → a.kind ≡ 1 → a ≡ wm_found 0 0 (length p)
  pub names : AnswersNames WiderIds WmWideNamesJudge WmWideName
  pub through_modules : (q : Question) → PutThrough name_section (WmWideName q) (WmWideNameIn q)
  -- demand 3, within the edition; and the yes or no of K10
  pub rewritten : Rewrites WmWideNamesJudge WmWideName (AllowedBy wider_kind) SameAnswer WmWideNamesCanonical
  pub told : TellsCanonical WmWideNamesJudge WmWideNamesCanonical WmWideNamesIsCanonical
  -- "are none as kept": all twelve ids
  pub none_kept : (id : ℕ) → id < 12 → (p : List ℕ) (a j : WmAnswer) → WmWideNamesJudge p j → j.kind ≡ 1 → WmWideName (KeptContents id) p a → a ≡ wm_none
  -- "an empty map of id 7 is dropped by one and kept by the other"
  pub within_one_edition : (old new old' new' : List ℕ) (a b : WmAnswer) → WmWideNamesCanonical (7 ∷ 1 ∷ 0 ∷ []) old new a → WmNamesCanonical (7 ∷ 1 ∷ 0 ∷ []) old' new' b → a.kind ≡ 1 → b.kind ≡ 1 → (take a.length new ≡ []) × (take b.length new' ≡ 7 ∷ 1 ∷ 0 ∷ [])
  -- what the wider edition accepts the first accepts, and what both ask both answer alike
  pub accepted_by_both : (p : List ℕ) (a b : WmAnswer) → WmWideNamesJudge p a → WmNamesJudge p b → a.kind ≡ 1 → b ≡ a
  pub answered_alike : (q : Question) → InBoth q → (p : List ℕ) (a b j : WmAnswer) → WmWideNamesJudge p j → j.kind ≡ 1 → WmWideName q p a → WmName q p b → b ≡ a

-- K2 (R7.1 to R7.7, R8.5, R8.6). "Builds from the older compiler. They carry hints in a section called `branchHints`: a list of (function index, one zero byte, list of (kind, offset)), kind and offset both numbers. That edition demands no order and allows repeats, so the first hint in the file for a pair answers: unlikely for kind 0, likely for kind 1, however the kind is padded, and none without one. It counts offsets from the first instruction, so the editions are kept and asked apart. Add reader, lookup, and a canonical rewriting, also sorted by function and offset, shadowed hints dropped, one entry per function. Demand 3 holds for it, with its own rule and questions; a payload whose rewriting is refused 15 has none, and demand 3 leaves it out. .. Refusals: 17, the byte is not zero, at that byte (missing: 2 at its place); 12 also for a kind above 1, at the kind, before the offset is read; 10 as before; for the rewriting 15, a payload above 4,294,967,295 bytes, then 13; 7 and 8 for `branchHints` counted by itself." Proved as `k2` in Proved.antt.

-- The numbers that a payload is refused with: 2 and 3 are those of numbers that are cut off or too large
abbrev pub older_numbers : List ℕ
older_numbers = 2 ∷ 3 ∷ 10 ∷ 12 ∷ 17 ∷ []

-- Which payload the rewriting refuses, and how: at its fault; then 15, exactly where what would be written is above 4,294,967,295 bytes; then 13
pub data OlderRefused (Fault : (number offset : ℕ) → Type 0) (payload : List ℕ) (room : ℕ) : (number offset : ℕ) → Type 0 where
  older_fault : {number offset : ℕ} → Fault number offset → OlderRefused Fault payload room number offset
  older_too_long : {es : List OlderEntry} → judge_older 0 payload ≡ accepted es → 4_294_967_295 < length (write_older (sorted_from nil es)) → OlderRefused Fault payload room 15 0
  older_too_short : {es : List OlderEntry} → judge_older 0 payload ≡ accepted es → length (write_older (sorted_from nil es)) ≤ 4_294_967_295 → room < length (write_older (sorted_from nil es)) → OlderRefused Fault payload room 13 (length (write_older (sorted_from nil es)))

-- All hints of a meaning in file order, each with its function and its offset
abbrev pub from_function : (function : ℕ) → List OlderHint → List (ℕ × ℕ × Hint)
from_function function [] = []
from_function function (h ∷ hs) = (function, h.offset, h.kind) ∷ from_function function hs

abbrev pub in_file : List OlderEntry → List (ℕ × ℕ × Hint)
in_file [] = []
in_file (e ∷ es) = from_function e.function e.hints ++ in_file es

-- The first hint for a pair is of this kind: it stands at a position, and at none before it stands one for the pair
abbrev pub FirstHint : (function offset : ℕ) → List OlderEntry → Hint → Type 0
FirstHint function offset m kind = (i : ℕ) × (get_elem? (in_file m) i ≡ some (function, offset, kind)) × ((j : ℕ) (other : Hint) → j < i → get_elem? (in_file m) j ≡ some (function, offset, other) → ⊥)

pub record AnswersOlder : Type 0 where
  pub likely : (function offset : ℕ) (p : List ℕ) (m : List OlderEntry) (a : WmAnswer) → OlderHints p m → WmOldHint function offset p a → (a.kind ≡ 4) ↔ FirstHint function offset m Likely
  pub unlikely : (function offset : ℕ) (p : List ℕ) (m : List OlderEntry) (a : WmAnswer) → OlderHints p m → WmOldHint function offset p a → (a.kind ≡ 3) ↔ FirstHint function offset m Unlikely
  pub none : (function offset : ℕ) (p : List ℕ) (m : List OlderEntry) (a : WmAnswer) → OlderHints p m → WmOldHint function offset p a → (a.kind ≡ 0) ↔ ((i : ℕ) (kind : Hint) → get_elem? (in_file m) i ≡ some (function, offset, kind) → ⊥)
  pub refuses : (function offset : ℕ) → RefusesAs WmOldHintsJudge (WmOldHint function offset)

-- In order: each function above the one before, and in each entry each offset
abbrev pub functions_of : List OlderEntry → List ℕ
functions_of [] = []
functions_of (e ∷ es) = e.function ∷ functions_of es

abbrev pub offsets_of : List OlderHint → List ℕ
offsets_of [] = []
offsets_of (h ∷ hs) = h.offset ∷ offsets_of hs

abbrev pub InOrder : List OlderEntry → Type 0
InOrder m = Rise (functions_of m) × ((i : ℕ) (e : OlderEntry) → get_elem? m i ≡ some e → Rise (offsets_of e.hints))

pub record K2 : Type 0 where
  -- demand 1 of the older edition
  pub judge : (payload : List ℕ) (a : WmAnswer) → Bytes payload → WmOldHintsJudge payload a → Answers Verdict (OlderFault payload) a
  pub numbered : (payload : List ℕ) (a : WmAnswer) → WmOldHintsJudge payload a → (number offset : ℕ) → a ≡ wm_refused number offset → is_among older_numbers number ≡ true
  pub hint : (function offset : ℕ) (payload : List ℕ) (a : WmAnswer) → Bytes payload → WmOldHint function offset payload a → Answers HintReply (OlderFault payload) a
  pub hint_in : (function offset : ℕ) (bytes : List ℕ) (a : WmAnswer) → Bytes bytes → WmOldHintIn function offset bytes a → Answers HintReply (RefusedThrough older_hint_section OlderFault bytes) a
  pub canonical : (payload : List ℕ) → Bytes payload → Writing (OlderRefused (OlderFault payload) payload) (WmOldHintsCanonical payload)
  -- demand 2. "a list of (function index, one zero byte, list of (kind, offset)), kind and offset both numbers"
  pub judged : JudgesExactly WmOldHintsJudge OlderHints
  pub whole : (p : List ℕ) (a : WmAnswer) → WmOldHintsJudge p a → a.kind ≡ 1 → a ≡ wm_found 0 0 (length p)
  -- "the first hint in the file for a pair answers: unlikely for kind 0, likely for kind 1, however the kind is padded, and none without one"
  pub hints : AnswersOlder
  -- "the editions are kept and asked apart": each call through a module asks its own section, and these have two names
  pub through_modules : (function offset : ℕ) → PutThrough older_hint_section (WmOldHint function offset) (WmOldHintIn function offset)
  pub newer_through_modules : (function offset : ℕ) → PutThrough hint_section (WmHint function offset) (WmHintIn function offset)
  pub apart : older_hint_section ≢ hint_section
  -- demand 3. Hints are the same where the whole answers are
  pub rewritten : Rewritten WmOldHintsJudge (λ q. WmOldHint q.0.0 q.1.0) OlderInRange (λ _ _ a b. a ≡ b) WmOldHintsCanonical
  -- "a payload whose rewriting is refused 15 has none": no payload below 4,294,967,296 bytes is, and where it is accepted an output as long as the payload is enough
  pub never_15 : (p old new : List ℕ) (a : WmAnswer) → length p < 4_294_967_296 → WmOldHintsCanonical p old new a → (offset : ℕ) → a ≡ wm_refused 15 offset → ⊥
  pub room_enough : (p old new : List ℕ) (a j : WmAnswer) → length p < 4_294_967_296 → WmOldHintsJudge p j → j.kind ≡ 1 → length p ≤ length old → WmOldHintsCanonical p old new a → a.kind ≡ 1
  -- "sorted by function and offset, shadowed hints dropped, one entry per function"
  pub in_order : (p old new : List ℕ) (a : WmAnswer) → WmOldHintsCanonical p old new a → a.kind ≡ 1 → (m : List OlderEntry) → OlderHints (take a.length new) m → InOrder m
  -- the yes or no of K10
  pub told : TellsCanonical WmOldHintsJudge WmOldHintsCanonical WmOldHintsIsCanonical

-- EVERY PAIR AS A ROW (R12.1, R12.5 to R12.8). "All rows, in order, at the front of the lent lists: FOUND with offset 0, length = number of rows .. REFUSED as judging does, then 13 with the number of rows as its offset where one of the lists is shorter. A list keeps what stands behind its rows; a refusal changes none. .. Hints: function, code offset, 0 unlikely or 1 likely. Of the older edition: every pair once, by function and offset, with the hint that answers." Proved as `old_hints_listed` in Proved.antt.

-- What a call that lists rows answers
pub data RowsReply : WmAnswer → Type 0 where
  rows_listed : (rows : ℕ) → RowsReply (wm_found 0 0 rows)
  rows_refused_lem : (number offset : ℕ) → RowsReply (wm_refused number offset)

-- Which payload it refuses, and how: at its fault; then 13, exactly where one of the lists is shorter than the number of rows, which is its offset
pub data RowsRefused {A : Type 0} (Fault : (number offset : ℕ) → Type 0) (judged : Judged A) (rows : A → ℕ) (lists : List (List ℕ)) : (number offset : ℕ) → Type 0 where
  unlisted : {number offset : ℕ} → Fault number offset → RowsRefused Fault judged rows lists number offset
  few_places : {v : A} {list : List ℕ} → judged ≡ accepted v → Among list lists → length list < rows v → RowsRefused Fault judged rows lists 13 (rows v)

-- The row at a position among the first n of three lists
pub record RowAt (n : ℕ) (functions offsets likely : List ℕ) (i function offset kind : ℕ) : Type 0 where
  pub listed : i < n
  pub function_is : get_elem? functions i ≡ some function
  pub offset_is : get_elem? offsets i ≡ some offset
  pub kind_is : get_elem? likely i ≡ some kind

-- The call over three lists, before it and after it
module _ (p functions offsets likely functions' offsets' likely' : List ℕ) (a : WmAnswer) where
  abbrev ListsHints : Type 0
  ListsHints = WmOldHintsList p (functions ∷ offsets ∷ likely ∷ []) (functions' ∷ offsets' ∷ likely' ∷ []) a

  abbrev ListedRow : (i function offset kind : ℕ) → Type 0
  ListedRow = RowAt a.length functions' offsets' likely'

  pub record RowsOfHints : Type 0 where
    -- demand 1, and what each list holds after the call
    pub answers : Bytes p → ListsHints → Answers RowsReply (RowsRefused (OlderFault p) (judge_older 0 p) (λ es. length (group_rows (sorted_from nil es))) (functions ∷ offsets ∷ likely ∷ [])) a
    pub functions_left : ListsHints → Leaves functions functions' a
    pub offsets_left : ListsHints → Leaves offsets offsets' a
    pub likely_left : ListsHints → Leaves likely likely' a
    -- "with the hint that answers": 0 where wm_old_hint says unlikely of the pair, and 1 where it says likely
    pub told : ListsHints → (i function offset kind : ℕ) → ListedRow i function offset kind → (b : WmAnswer) → WmOldHint function offset p b → b.kind ≡ 3 + kind
    -- "every pair once": every pair that has a hint is listed, of any other the answer is none
    pub every : ListsHints → a.kind ≡ 1 → (function offset : ℕ) (b : WmAnswer) → WmOldHint function offset p b → b.kind ≢ 0 → (i kind : ℕ) × ListedRow i function offset kind
    pub no_other : ListsHints → a.kind ≡ 1 → (function offset : ℕ) (b : WmAnswer) → WmOldHint function offset p b → ((i kind : ℕ) → ListedRow i function offset kind → ⊥) → b ≡ wm_none
    -- and none twice, "by function and offset"
    pub rise : ListsHints → (i j f g o u k l : ℕ) → i < j → ListedRow i f o k → ListedRow j g u l → (f < g) ⊎ ((f ≡ g) × (o < u))

abbrev pub OldHintsListed : Type 0
OldHintsListed = (p functions offsets likely functions' offsets' likely' : List ℕ) (a : WmAnswer) → RowsOfHints p functions offsets likely functions' offsets' likely' a

-- K11 (R8.11). "Nothing shorter says the same. Storage asks whether another tool could save a byte. Show that every other accepted payload giving the same answers to every question is strictly longer than the canonical one, for names in each edition and for the metadata sections. For `branchHints`, whose order is free, show that none is shorter." Proved as `k11` in Proved.antt.

module _ {Q : Type 0} (judging : List ℕ → WmAnswer → Type 0) (asking : Q → List ℕ → WmAnswer → Type 0) (Allowed : Q → Type 0) (Same : (x y : List ℕ) (a b : WmAnswer) → Type 0) (rewriting : (payload old new : List ℕ) → WmAnswer → Type 0) where
  -- "accepted payload giving the same answers to every question": y is any bytes, of any length, that the judging call accepts and that answer as x does
  pub record SaysTheSame (x y : List ℕ) : Type 0 where
    pub are_bytes_lem : Bytes y
    pub is_accepted : (j : WmAnswer) → judging y j → j.kind ≡ 1
    pub answers_alike : (q : Q) → Allowed q → (c d : WmAnswer) → asking q x c → asking q y d → Same x y c d

  -- "every other .. is strictly longer than the canonical one", which is what the rewriting call wrote of x
  abbrev pub OthersLonger : Type 0
  OthersLonger = (x y old new : List ℕ) (a : WmAnswer) → Bytes x → rewriting x old new a → a.kind ≡ 1 → SaysTheSame x y → y ≢ take a.length new → a.length < length y

  -- "none is shorter"
  abbrev pub NoneShorter : Type 0
  NoneShorter = (x y old new : List ℕ) (a : WmAnswer) → rewriting x old new a → a.kind ≡ 1 → SaysTheSame x y → a.length ≤ length y

  -- And there are others: of two payloads with these lengths the first is canonical, and the second is not the first and says the same
  pub record Another (x y : List ℕ) (long other : ℕ) : Type 0 where
    pub lengths : (length x ≡ long) × (length y ≡ other)
    pub is_canonical : (old new : List ℕ) (a : WmAnswer) → rewriting x old new a → a.kind ≡ 1 → take a.length new ≡ x
    pub differs : y ≢ x
    pub says_the_same : SaysTheSame x y

pub record K11 : Type 0 where
  pub names : OthersLonger WmNamesJudge WmName (AllowedBy known_kind) SameAnswer WmNamesCanonical
  pub wide_names : OthersLonger WmWideNamesJudge WmWideName (AllowedBy wider_kind) SameAnswer WmWideNamesCanonical
  pub metadata : OthersLonger WmMetadataJudge (λ q. WmMetadata q.0.0 q.1.0) ItemInRange SameAnswer WmMetadataCanonical
  pub hints : OthersLonger WmHintsJudge (λ q. WmHint q.0.0 q.1.0) ItemInRange (λ _ _ a b. a ≡ b) WmHintsCanonical
  pub old_hints : NoneShorter WmOldHintsJudge (λ q. WmOldHint q.0.0 q.1.0) OlderInRange (λ _ _ a b. a ≡ b) WmOldHintsCanonical
  -- function 0 is a, the size of the subsection padded
  pub other_names : Another WmNamesJudge WmName (AllowedBy known_kind) SameAnswer WmNamesCanonical (hex "01 04 01 00 01 61") (hex "01 84 00 01 00 01 61") 6 7
  -- global 0 is a, a map of no tables before it
  pub other_wide_names : Another WmWideNamesJudge WmWideName (AllowedBy wider_kind) SameAnswer WmWideNamesCanonical (hex "07 04 01 00 01 61") (hex "05 01 00 07 04 01 00 01 61") 6 9
  -- one byte at offset 5 of function 2, and a function without items behind it
  pub other_metadata : Another WmMetadataJudge (λ q. WmMetadata q.0.0 q.1.0) ItemInRange SameAnswer WmMetadataCanonical (hex "01 02 01 05 01 FF") (hex "02 02 01 05 01 FF 03 00") 6 8
  -- likely at offset 5 of function 2, the hint's size padded
  pub other_hints : Another WmHintsJudge (λ q. WmHint q.0.0 q.1.0) ItemInRange (λ _ _ a b. a ≡ b) WmHintsCanonical (hex "01 02 01 05 01 01") (hex "01 02 01 05 81 00 01") 6 7
  -- likely at offset 5 of function 0 and unlikely at offset 7 of function 3, the functions the other way round: as long, and not canonical
  pub other_old_hints : Another WmOldHintsJudge (λ q. WmOldHint q.0.0 q.1.0) OlderInRange (λ _ _ a b. a ≡ b) WmOldHintsCanonical (hex "02 00 00 01 01 05 03 00 01 00 07") (hex "02 03 00 01 00 07 00 00 01 01 05") 11 11

-- K6 (R15.1 to R15.16). "Hints that sit on a branch. .. Add a check over the whole module: count imported functions, find each hinted body, step over its locals, then its instructions by the immediates of core specification 1.0, and accept when every hint's offset begins one of those two. .. Hints go in section order. An accepted module without the hint section is accepted, imports unread. Refusals, after all of document 01's for module and payload: faults in the import list, then in the list of sized bodies, as 2, 3, 4 and 10, with 29 for an import kind above 3 or a limits flag above 1, at that byte ..; then per hint 19, no body for that function, at the function index; at the hint's offset number 20, the locals or an instruction starting before the hinted place can't be read by version 1.0, else 21, not on a branch." Proved as `k6` in Proved.antt.

-- The numbers that the import list is refused with, and the list of bodies
abbrev pub import_numbers : List ℕ
import_numbers = 2 ∷ 3 ∷ 4 ∷ 10 ∷ 29 ∷ []

abbrev pub body_numbers : List ℕ
body_numbers = 2 ∷ 3 ∷ 10 ∷ []

pub record K6 : Type 0 where
  pub judge : (m : List ℕ) (a : WmAnswer) → Bytes m → WmHintsOnBranches m a → Answers Verdict (ModuleRefused m) a
  pub accepts : (m : List ℕ) (a : WmAnswer) → WmHintsOnBranches m a → (a ≡ wm_found 0 0 (length m)) ↔ (hints_on_branches m ≡ accepted tt)
  pub without_hints : (m : List ℕ) → custom_payload hint_section m ≡ accepted none → hints_on_branches m ≡ accepted tt
  -- "accept when every hint's offset begins one of those two"
  pub exactly : (m : List ℕ) → Bytes m → (first : ℕ) (parts : List Part) (fs : List (Placed Hints)) → Hinted m first parts fs → (hints_on_branches m ≡ accepted tt) ↔ AllSit first parts fs
  -- and each refusal is the first that there is to give, by the rule
  pub refused_exactly : (m : List ℕ) → Bytes m → (number offset : ℕ) → (hints_on_branches m ≡ refused number offset) ↔ ModuleRefused m number offset
  pub imports_numbered : (m : List ℕ) → HasHints m → (number offset : ℕ) → imported_functions m ≡ refused number offset → is_among import_numbers number ≡ true
  pub bodies_numbered : (m : List ℕ) → HasHints m → (number offset : ℕ) → function_bodies m ≡ refused number offset → is_among body_numbers number ≡ true

-- K7 (R11.1 to R11.5). "Why has this function no name? For an accepted payload and a function or local question answered none, a tool names one reason: no such subsection; a subsection without a group for that function; or a map without that index, with the nearest mapped index below and above, if any. For a name found it gives the subsection and the entry's position in its map, from 0. Exactly one reason is true of each such question, and it is the one given." Proved as `k7` in Proved.antt.

-- What is answered: the place of a name, one of the reasons, or a refusal
pub data WhyReply : WmWhy → Type 0 where
  a_place : (id position : ℕ) → WhyReply (wm_named id position)
  no_such_subsection : WhyReply (wm_alone 5)
  no_such_group : WhyReply (wm_alone 6)
  no_such_entry : (below above : Option ℕ) → WhyReply (wm_no_entry below above)
  why_refused : (number offset : ℕ) → WhyReply (wm_why_refused number offset)

-- A call that says why, by what is true of a payload's meaning and by the call that looks the name up
pub record SaysWhy (asking : List ℕ → WmWhy → Type 0) (True : Table (Content (List ℕ)) → Why → Type 0) (looking : List ℕ → WmAnswer → Type 0) : Type 0 where
  pub answers : (p : List ℕ) (a : WmWhy) → asking p a → WhyReply a
  -- "exactly one is true of each such question"
  pub one_is_true : (p : List ℕ) (m : Table (Content (List ℕ))) → NamePayload SourceIds p m → (w : Why) × True m w × ((v : Why) → True m v → v ≡ w)
  -- "and it is the one given"
  pub given : (p : List ℕ) (m : Table (Content (List ℕ))) (a : WmWhy) (w : Why) → NamePayload SourceIds p m → asking p a → (a ≡ wm_why (accepted w)) ↔ True m w
  -- a place is given exactly where the name is found, and so a reason exactly where a payload that is accepted answers none
  pub found_exactly : (p : List ℕ) (a : WmWhy) (b : WmAnswer) → asking p a → looking p b → (a.kind ≡ 1) ↔ (b.kind ≡ 1)
  -- a refusal is the judging call's own
  pub refuses : (p : List ℕ) (a : WmWhy) (j : WmAnswer) → asking p a → WmNamesJudge p j → (n at : ℕ) → (a ≡ wm_why_refused n at) ↔ (j ≡ wm_refused n at)

pub record K7 : Type 0 where
  pub functions : (function : ℕ) → SaysWhy (WmWhyFunction function) (TrueOfFunction function) (WmName (FunctionName (record { 0 = function })))
  pub locals : (function local : ℕ) → SaysWhy (WmWhyLocal function local) (TrueOfLocal function local) (WmName (LocalName (record { 0 = function }) (record { 0 = local })))

-- K8 (R13.1 to R13.11). "A marker list beside large maps. Charts ask for thousands of names a minute. From an accepted payload we want two lists of numbers, the function index and the offset of every sixteenth function entry, the first included, with the offset where their subsection ends (0 if there is no such subsection). A quick question is given these and doesn't judge the payload. It starts at the last marker not above the index asked (no such marker: none), reads at most sixteen entries, none past the end, and the first with that index answers. A number of refusal 3, or an entry that doesn't fit before the end, met first, is answered none; text isn't checked. With the markers made from this payload the answer equals the full one; with others it still follows this rule. Refusals: 15 for a payload above 4,294,967,295 bytes (first in the quick question); 13 for short lists; 22, lists of unequal length (at the shorter's length), then an end outside the payload (at the list's length), then either list not strictly rising or an offset not below the end (at the first such position)." Proved as `k8` in Proved.antt.

-- The map of function names in a payload, by the grammar: behind other subsections stand the id 1, the size of its contents, the count of its entries, and the entries. `first` is the offset of the first entry, and `end` is where they end
abbrev pub FunctionMap : (p entries : List ℕ) (n first end : ℕ) → Type 0
FunctionMap p entries n first end = (front size count rest : List ℕ) × (others : Table (Content (List ℕ))) × (t : Table (List ℕ))
    × (p ≡ front ++ (1 ∷ (size ++ (count ++ (entries ++ rest)))))
    × Subsections SourceIds front others
    × U32 size (length count + length entries)
    × U32 count n
    × Entries Name n entries t
    × (length front + 1 + length size + length count ≡ first)
    × (first + length entries ≡ end)

-- What an accepted payload has to be marked: that map; or nothing, with the end 0, if there is no such subsection
pub data FunctionNames (p : List ℕ) : (entries : List ℕ) (n first end : ℕ) → Type 0 where
  a_map : {m : Table (Content (List ℕ))} {entries : List ℕ} {n first end : ℕ} → NamePayload SourceIds p m → FunctionMap p entries n first end → FunctionNames p entries n first end
  no_map : {m : Table (Content (List ℕ))} → NamePayload SourceIds p m → ((c : Content (List ℕ)) → Has 1 c m → ⊥) → FunctionNames p [] 0 0 0

-- The entry at a position, from 0: behind so many entries stands its index, at its offset
abbrev pub EntryAt : (entries : List ℕ) (first position index offset : ℕ) → Type 0
EntryAt entries first position index offset = (before number behind : List ℕ) × (t : Table (List ℕ))
    × (entries ≡ before ++ (number ++ behind))
    × Entries Name position before t
    × U32 number index
    × (first + length before ≡ offset)

-- "every sixteenth function entry, the first included": of n entries a sixteenth, rounded up
abbrev pub sixteenths : ℕ → ℕ
sixteenths n = (n + 15) / 16

-- and at each position i of both lists stand the index and the offset of the entry at position 16 * i
abbrev pub Marked : (entries : List ℕ) (n first : ℕ) (indices offsets : List ℕ) → Type 0
Marked entries n first indices offsets = (i : ℕ) → i < sixteenths n → (index offset : ℕ) × (get_elem? indices i ≡ some index) × (get_elem? offsets i ≡ some offset) × EntryAt entries first (16 * i) index offset

-- What making answers: with the end as its offset and the number of markers as its length, or a refusal
pub data MarkersReply : WmAnswer → Type 0 where
  markers_made : (end markers : ℕ) → MarkersReply (wm_found 0 end markers)
  markers_refused_lem : (number offset : ℕ) → MarkersReply (wm_refused number offset)

-- Which payload it refuses, and how, into lists of so many numbers: at its fault; then 15; then 13, with the number of markers, where one of the lists is shorter than that
pub data MarkersRefused (p : List ℕ) (indices offsets : ℕ) : (number offset : ℕ) → Type 0 where
  payload_refused : {number offset : ℕ} → NamePayloadFault SourceIds p number offset → MarkersRefused p indices offsets number offset
  payload_too_long : {entries : List ℕ} {n first end : ℕ} → FunctionNames p entries n first end → 4_294_967_295 < length p → MarkersRefused p indices offsets 15 0
  few_indices : {entries : List ℕ} {n first end : ℕ} → FunctionNames p entries n first end → length p ≤ 4_294_967_295 → indices < sixteenths n → MarkersRefused p indices offsets 13 (sixteenths n)
  few_offsets : {entries : List ℕ} {n first end : ℕ} → FunctionNames p entries n first end → length p ≤ 4_294_967_295 → offsets < sixteenths n → MarkersRefused p indices offsets 13 (sixteenths n)

pub record K8 : Type 0 where
  -- demand 1 of both calls. The rule of the quick question says which of its refusals is given, and where
  pub markers : (p is os is' os' : List ℕ) (a : WmAnswer) → Bytes p → WmMarkers p is os is' os' a → Answers MarkersReply (MarkersRefused p (length is) (length os)) a
  pub quick : (p is os : List ℕ) (end function : ℕ) (a : WmAnswer) → WmQuickFunctionName p is os end function a → Answers Reply (λ number offset. Follows p is os end function (refused number offset)) a
  -- what each list holds after the call
  pub indices : (p is os is' os' : List ℕ) (a : WmAnswer) → WmMarkers p is os is' os' a → Leaves is is' a
  pub offsets : (p is os is' os' : List ℕ) (a : WmAnswer) → WmMarkers p is os is' os' a → Leaves os os' a
  -- "the function index and the offset of every sixteenth function entry, the first included, with the offset where their subsection ends (0 if there is no such subsection)"
  pub function_names_lem : (p : List ℕ) (m : Table (Content (List ℕ))) → NamePayload SourceIds p m → (entries : List ℕ) × (n first end : ℕ) × FunctionNames p entries n first end
  pub marked : (p is os is' os' entries : List ℕ) (n first end : ℕ) (a : WmAnswer) → FunctionNames p entries n first end → WmMarkers p is os is' os' a → a.kind ≡ 1 → (a ≡ wm_found 0 end (sixteenths n)) × Marked entries n first is' os'
  -- "With the markers made from this payload the answer equals the full one"
  pub own : (p is os is' os' : List ℕ) (a : WmAnswer) → WmMarkers p is os is' os' a → a.kind ≡ 1 → (function : ℕ) (b c : WmAnswer) → WmQuickFunctionName p (take a.length is') (take a.length os') a.offset function b → WmName (FunctionName (record { 0 = function })) p c → b ≡ c
  -- "with others it still follows this rule", and nothing else does
  pub rule : (p is os : List ℕ) (end function : ℕ) (a : WmAnswer) → WmQuickFunctionName p is os end function a → (j : Judged (Option Part)) × Follows p is os end function j × (a ≡ wm_place (as_place j)) × ((other : Judged (Option Part)) → Follows p is os end function other → other ≡ j)

-- K3 (R10.1 to R10.6). "Names that travel beside a stripped module. We are sent a name payload apart. One question goes over the two lent payloads: the separate one answers unless it gives none, else the module's; a name found says which, and is handed back as a part of the payload that supplied it. Add a writer of one canonical payload that answers every question, kept subsections too, as the pair does. Refusals: the separate payload's first, the answer saying whose; 15 for a joined subsection too large, then 13." Proved as `k3` in Proved.antt.

-- What a question over two payloads is answered: none; or a place, or a refusal, and whose it is
pub data PairReply : WmPairAnswer → Type 0 where
  pair_none : PairReply wm_pair_none
  pair_found : (whose : Whose) (offset length : ℕ) → PairReply (wm_pair_found (wm_whose whose) offset length)
  pair_refused : (whose : Whose) (number offset : ℕ) → PairReply (wm_pair_refused (wm_whose whose) number offset)

-- The questions over a separate payload s and an own one o, by the calls that are lent one payload. Both are judged whole, whatever is asked
pub record AsksPairs (judging : List ℕ → WmAnswer → Type 0) (asking : Question → List ℕ → WmAnswer → Type 0) (asking_both : Question → (separate own : List ℕ) → WmPairAnswer → Type 0) : Type 0 where
  pub answers : (q : Question) (s o : List ℕ) (a : WmPairAnswer) → asking_both q s o a → PairReply a
  -- "the separate one answers unless it gives none", where the own one is accepted
  pub separate_answers : (q : Question) (s o : List ℕ) (a : WmPairAnswer) (b j : WmAnswer) → asking_both q s o a → asking q s b → judging o j → (offset long : ℕ) → (a ≡ wm_pair_found 1 offset long) ↔ ((b ≡ wm_found 0 offset long) × (j.kind ≡ 1))
  -- "else the module's"
  pub own_answers : (q : Question) (s o : List ℕ) (a : WmPairAnswer) (b c : WmAnswer) → asking_both q s o a → asking q s b → asking q o c → (offset long : ℕ) → (a ≡ wm_pair_found 2 offset long) ↔ ((b ≡ wm_none) × (c ≡ wm_found 0 offset long))
  pub none_answered : (q : Question) (s o : List ℕ) (a : WmPairAnswer) (b c : WmAnswer) → asking_both q s o a → asking q s b → asking q o c → (a ≡ wm_pair_none) ↔ ((b ≡ wm_none) × (c ≡ wm_none))
  -- "the separate payload's first, the answer saying whose": the judging call's own refusals
  pub refuses_separate : (q : Question) (s o : List ℕ) (a : WmPairAnswer) (i : WmAnswer) → asking_both q s o a → judging s i → (number offset : ℕ) → (a ≡ wm_pair_refused 1 number offset) ↔ (i ≡ wm_refused number offset)
  pub refuses_own : (q : Question) (s o : List ℕ) (a : WmPairAnswer) (i j : WmAnswer) → asking_both q s o a → judging s i → judging o j → (number offset : ℕ) → (a ≡ wm_pair_refused 2 number offset) ↔ ((i.kind ≡ 1) × (j ≡ wm_refused number offset))
  pub numbered : (q : Question) (s o : List ℕ) (a : WmPairAnswer) → asking_both q s o a → (whose number offset : ℕ) → a ≡ wm_pair_refused whose number offset → is_among numbers number ≡ true

-- "is handed back as a part of the payload that supplied it": the very bytes at the place that was found, in that payload's own memory; and no bytes where nothing was found
pub record HandsBack (edition : Edition) (asking_both : Question → (separate own : List ℕ) → WmPairAnswer → Type 0) : Type 0 where
  pub of_separate : (q : Question) (s o bytes : List ℕ) (s_begins o_begins begins : ℕ × ℕ) (a : WmPairAnswer) → asking_both q s o a → PairsAskBytes s o s_begins o_begins edition q begins bytes → (offset long : ℕ) → a ≡ wm_pair_found 1 offset long → (offset + long ≤ length s) × (bytes ≡ take long (drop offset s)) × (begins ≡ (s_begins.0, offset + s_begins.1))
  pub of_own : (q : Question) (s o bytes : List ℕ) (s_begins o_begins begins : ℕ × ℕ) (a : WmPairAnswer) → asking_both q s o a → PairsAskBytes s o s_begins o_begins edition q begins bytes → (offset long : ℕ) → a ≡ wm_pair_found 2 offset long → (offset + long ≤ length o) × (bytes ≡ take long (drop offset o)) × (begins ≡ (o_begins.0, offset + o_begins.1))
  pub else_empty : (q : Question) (s o bytes : List ℕ) (s_begins o_begins begins : ℕ × ℕ) (a : WmPairAnswer) → asking_both q s o a → PairsAskBytes s o s_begins o_begins edition q begins bytes → (a.kind ≡ 1 → ⊥) → bytes ≡ []

-- An answer over two payloads without whose it is; and the bytes at its place, in the payload that it says
abbrev pub without_whose : WmPairAnswer → WmAnswer
without_whose a = record { kind = a.kind; code = a.code; offset = a.offset; length = a.length }

abbrev pub bytes_of : (separate own : List ℕ) → WmPairAnswer → List ℕ
bytes_of s o a = take a.length (drop a.offset (cond (eqb a.whose 1) s o))

-- What the join answers: a length; a refusal of one of the payloads, and whose it is; or one of what both come to
pub data JoinReply : WmPairAnswer → Type 0 where
  join_written : (length : ℕ) → JoinReply (wm_pair_found 0 0 length)
  payload_not_joined : (whose : Whose) (number offset : ℕ) → JoinReply (wm_pair_refused (wm_whose whose) number offset)
  not_joined : (number offset : ℕ) → JoinReply (wm_pair_refused 0 number offset)

-- Which pair it refuses, and how, into an output of a length: as the separate payload is judged; then as the own one; then 15, exactly where the contents of a subsection of both would be above 4,294,967,295 bytes; then 13
pub data JoinRefused (kind_of : ℕ → Kind) (s o : List ℕ) (room : ℕ) : (whose number offset : ℕ) → Type 0 where
  separate_refused : {number offset : ℕ} → judge_names kind_of 0 s ≡ refused number offset → JoinRefused kind_of s o room 1 number offset
  own_refused : {number offset : ℕ} {t : Table (Content Part)} → judge_names kind_of 0 s ≡ accepted t → judge_names kind_of 0 o ≡ refused number offset → JoinRefused kind_of s o room 2 number offset
  join_too_large : {t u : Table (Content Part)} → judge_names kind_of 0 s ≡ accepted t → judge_names kind_of 0 o ≡ accepted u → (id : ℕ) (c : Content (List ℕ)) → Has id c (joined_contents t u) → 4_294_967_295 < length (write_content c) → JoinRefused kind_of s o room 0 15 0
  join_too_short : {t u : Table (Content Part)} → judge_names kind_of 0 s ≡ accepted t → judge_names kind_of 0 o ≡ accepted u → ((id : ℕ) (c : Content (List ℕ)) → Has id c (joined_contents t u) → length (write_content c) ≤ 4_294_967_295) → room < length (write_subsections (joined_contents t u)) → JoinRefused kind_of s o room 0 13 (length (write_subsections (joined_contents t u)))

-- The join, by the calls of its edition. What was written is `take a.length new`, as of every call that writes
module _ (kind_of : ℕ → Kind) (judging : List ℕ → WmAnswer → Type 0) (asking : Question → List ℕ → WmAnswer → Type 0) (asking_both : Question → (separate own : List ℕ) → WmPairAnswer → Type 0)
    (rewriting : (payload old new : List ℕ) → WmAnswer → Type 0) (telling : List ℕ → ℕ → Type 0) (joining : (separate own old new : List ℕ) → WmPairAnswer → Type 0) where
  pub record JoinsPairs : Type 0 where
    -- demand 1
    pub answers : (s o old new : List ℕ) (a : WmPairAnswer) → joining s o old new a → JoinReply a
    pub refuses : (s o old new : List ℕ) (a : WmPairAnswer) → joining s o old new a → (whose number offset : ℕ) → (a ≡ wm_pair_refused whose number offset) ↔ JoinRefused kind_of s o (length old) whose number offset
    pub numbered : (s o old new : List ℕ) (a : WmPairAnswer) → joining s o old new a → (whose number offset : ℕ) → a ≡ wm_pair_refused whose number offset → is_among numbers number ≡ true
    pub leaves : (s o old new : List ℕ) (a : WmPairAnswer) → joining s o old new a → Leaves old new (without_whose a)
    pub needs_room : (s o : List ℕ) → NeedsRoom (λ old new b. (a : WmPairAnswer) × joining s o old new a × (without_whose a ≡ b))
    -- accepted payloads below 4,294,967,296 bytes together are joined into an output as long as both
    pub room_enough : (s o old new : List ℕ) (a : WmPairAnswer) (i j : WmAnswer) → joining s o old new a → judging s i → i.kind ≡ 1 → judging o j → j.kind ≡ 1 → length s + length o < 4_294_967_296 → length s + length o ≤ length old → a.kind ≡ 1
    -- "one canonical payload": it is accepted, wm_names_is_canonical, or its like of the wider edition, says yes, and it is no longer than both
    pub is_accepted : (s o old new : List ℕ) (a : WmPairAnswer) → joining s o old new a → a.kind ≡ 1 → (j : WmAnswer) → judging (take a.length new) j → j.kind ≡ 1
    pub is_canonical : (s o old new : List ℕ) (a : WmPairAnswer) → joining s o old new a → a.kind ≡ 1 → (y : ℕ) → telling (take a.length new) y → y ≡ 1
    pub never_longer : (s o old new : List ℕ) (a : WmPairAnswer) → joining s o old new a → a.kind ≡ 1 → a.length ≤ length s + length o
    -- "that answers every question, kept subsections too, as the pair does"
    pub answers_as_pair : (s o old new : List ℕ) (a : WmPairAnswer) → joining s o old new a → a.kind ≡ 1 → (q : Question) (b : WmPairAnswer) (c : WmAnswer) → asking_both q s o b → asking q (take a.length new) c → (b.kind ≡ c.kind) × (bytes_of s o b ≡ take c.length (drop c.offset (take a.length new)))
    -- so two pairs have the same joined payload exactly when all their answers agree
    pub same_exactly : (s o s' o' old new old' new' : List ℕ) (a b : WmPairAnswer) → Bytes s → Bytes o → Bytes s' → Bytes o' → joining s o old new a → joining s' o' old' new' b → a.kind ≡ 1 → b.kind ≡ 1 → (take a.length new ≡ take b.length new') ↔ ((q : Question) → AllowedBy kind_of q → (c d : WmPairAnswer) → asking_both q s o c → asking_both q s' o' d → (c.kind ≡ d.kind) × (bytes_of s o c ≡ bytes_of s' o' d))
    -- joined with an empty payload it is the rewriting, answer and output, refusals too
    pub no_own : (s old new new' : List ℕ) (a : WmPairAnswer) (b : WmAnswer) → joining s [] old new a → rewriting s old new' b → (without_whose a ≡ b) × (new ≡ new')
    pub no_separate : (o old new new' : List ℕ) (a : WmPairAnswer) (b : WmAnswer) → joining [] o old new a → rewriting o old new' b → (without_whose a ≡ b) × (new ≡ new')

pub record K3 : Type 0 where
  pub asks : AsksPairs WmNamesJudge WmName WmPair
  pub wide_asks : AsksPairs WmWideNamesJudge WmWideName WmWidePair
  pub hands_back : HandsBack First WmPair
  pub wide_hands_back : HandsBack Wider WmWidePair
  pub joins : JoinsPairs known_kind WmNamesJudge WmName WmPair WmNamesCanonical WmNamesIsCanonical WmPairJoin
  pub wide_joins : JoinsPairs wider_kind WmWideNamesJudge WmWideName WmWidePair WmWideNamesCanonical WmWideNamesIsCanonical WmWidePairJoin

-- K5 (R14.1 to R14.9). "Reading an upload as it arrives. A module comes in parts, cut anywhere, some of no length. The reader's state is small and is updated by each part without being copied by the caller; no part is kept. At the finish the answer is the module walk's on all of it joined: section count, places of the name payload and of both editions' hint payloads, or the refusal and offset. Accepted parts that join to the same bytes leave the same state however cut. Refusals, offset 0 and state unchanged: 18, a part or a finish after the finish; then 28, a part that takes the total above 18,446,744,073,709,551,615 bytes." Proved as `k5` in Proved.antt.

-- Parts one after the other, from one state to another: each is lent to the call, and is found (taken) or refused. Those that were taken are listed
pub data Arrives : (before : Stream) → (taken : List (List ℕ)) → (after : Stream) → Type 0 where
  nothing_more : {s : Stream} → Arrives s [] s
  found : {s t u : Stream} {a : WmAnswer} (p : List ℕ) {ps : List (List ℕ)} → WmStreamPart s p t a → a.kind ≡ 1 → Arrives t ps u → Arrives s (p ∷ ps) u
  not_found_lem : {s t u : Stream} {a : WmAnswer} (p : List ℕ) {ps : List (List ℕ)} → WmStreamPart s p t a → a.kind ≡ 2 → Arrives t ps u → Arrives s ps u

-- a stream from its beginning, with the parts that were taken
abbrev pub Begun : (taken : List (List ℕ)) → Stream → Type 0
Begun ps s = (b : Stream) × WmStreamBegin b × Arrives b ps s

-- The fields of what the finish answers: the walk's, and those of the three places
abbrev pub walk_fields : WmStreamAnswer → WmAnswer
walk_fields a = record { kind = a.kind; code = a.code; offset = a.offset; length = a.length }

abbrev pub name_fields : WmStreamAnswer → WmAnswer
name_fields a = record { kind = a.name_kind; code = 0; offset = a.name_offset; length = a.name_length }

abbrev pub hint_fields : WmStreamAnswer → WmAnswer
hint_fields a = record { kind = a.hints_kind; code = 0; offset = a.hints_offset; length = a.hints_length }

abbrev pub older_fields : WmStreamAnswer → WmAnswer
older_fields a = record { kind = a.old_hints_kind; code = 0; offset = a.old_hints_offset; length = a.old_hints_length }

pub record K5 : Type 0 where
  -- "At the finish the answer is the module walk's on all of it joined: section count, .. or the refusal and offset"
  pub walk : (ps : List (List ℕ)) (s t : Stream) (a : WmStreamAnswer) (c : WmAnswer) → Begun ps s → WmStreamFinish s t a → WmWalk (joined ps) c → walk_fields a ≡ c
  -- "places of the name payload and of both editions' hint payloads": of an accepted module as wm_custom answers; none of a refused one
  pub name : (ps : List (List ℕ)) (s t : Stream) (a : WmStreamAnswer) (c : WmAnswer) → Begun ps s → WmStreamFinish s t a → a.kind ≡ 1 → WmCustom name_section (joined ps) c → name_fields a ≡ c
  pub hints : (ps : List (List ℕ)) (s t : Stream) (a : WmStreamAnswer) (c : WmAnswer) → Begun ps s → WmStreamFinish s t a → a.kind ≡ 1 → WmCustom hint_section (joined ps) c → hint_fields a ≡ c
  pub older : (ps : List (List ℕ)) (s t : Stream) (a : WmStreamAnswer) (c : WmAnswer) → Begun ps s → WmStreamFinish s t a → a.kind ≡ 1 → WmCustom older_hint_section (joined ps) c → older_fields a ≡ c
  pub none_told : (s t : Stream) (a : WmStreamAnswer) → WmStreamFinish s t a → a.kind ≡ 2 → (name_fields a ≡ wm_none) × (hint_fields a ≡ wm_none) × (older_fields a ≡ wm_none)
  -- "Accepted parts that join to the same bytes leave the same state however cut."
  pub however_cut : (ps qs : List (List ℕ)) (s t : Stream) → Begun ps s → Begun qs t → joined ps ≡ joined qs → s ≡ t
  pub counted : (ps : List (List ℕ)) (s : Stream) → Begun ps s → s.total ≡ length (joined ps)
  -- "cut anywhere, some of no length": a part is taken unless it is 28
  pub taken : (ps : List (List ℕ)) (s t : Stream) (p : List ℕ) (a : WmAnswer) → Begun ps s → WmStreamPart s p t a → length (joined ps) + length p ≤ 18_446_744_073_709_551_615 → a ≡ wm_found 0 0 (length p)
  -- "28, a part that takes the total above 18,446,744,073,709,551,615 bytes"
  pub too_large : (ps : List (List ℕ)) (s t : Stream) (p : List ℕ) (a : WmAnswer) → Begun ps s → WmStreamPart s p t a → 18_446_744_073_709_551_615 < length (joined ps) + length p → a ≡ wm_refused 28 0
  -- "18, a part or a finish after the finish", whatever the part: 18 comes before 28. Of any state, also one that nobody began
  pub part_late : (s t u : Stream) (a : WmStreamAnswer) (p : List ℕ) (c : WmAnswer) → WmStreamFinish s t a → WmStreamPart t p u c → c ≡ wm_refused 18 0
  pub finish_late : (s t u : Stream) (a c : WmStreamAnswer) → WmStreamFinish s t a → WmStreamFinish t u c → walk_fields c ≡ wm_refused 18 0
  -- "state unchanged": of any state. After the finish of another one, a finish is refused 18 and nothing else
  pub part_unchanged : (s t : Stream) (p : List ℕ) (a : WmAnswer) → WmStreamPart s p t a → a.kind ≡ 2 → t ≡ s
  pub finish_unchanged : (s t u : Stream) (a c : WmStreamAnswer) → WmStreamFinish s t a → WmStreamFinish t u c → u ≡ t

-- K12 (R16.1 to R16.17). "The shared table itself. A second crate: 16 customers (0 to 15), 8 holds each (0 to 7), over one lent store of 1 to 128 blocks of 512 bytes: 508 of payload, zeros behind its end, then the check, the wrapping sum of those 127 little-endian words, in that byte order. A customer opens a name payload (first edition), lending a work buffer for its canonical form, and gets their lowest unused hold; asks a function name through it, copied to a lent buffer; closes it, the store unchanged. Equal canonical payloads are stored once, in the first run of free blocks long enough, an empty one in one block. Each payload's users at any time are the granted opens less the granted closes of the history; at none its blocks are free and are used again. No answer holds a place in the store. If two histories agree on one customer's calls but for the store, lend at each call the store they started with, of 1 to 128 blocks, written by nothing else, and never refuse that customer for room, the customer's answers are the same. Refusals in this order: 30, a store of another length than at the start, or not 1 to 128 blocks; 23, no such customer; 24, hold not open or above 7; document 01's for the payload, with 13 for the work buffer; 25, eight holds in use; 27, a needed block's check is wrong (an open needs all used blocks, a question those of its payload, a close none), or a question's payload is no longer accepted; 26, payload not yet stored and no free run long enough; for a question, 13 last. The new ones give offset 0. Each changes nothing, save that after 27 or 26 on an open, as after a grant, the work buffer begins with the canonical payload." Proved as `k12` in Proved.antt.

-- A history: a table started over a store of 1 to 128 blocks of 512 bytes, and calls one after the other, each lent the table and the store as the one before left them; K13's step is one of them. Each call is an event, with its answer and with the lent buffer after it; the latest comes first
abbrev pub TableEvent : Type 0
TableEvent = Event (WmAnswer × List ℕ)

pub data History : List TableEvent → SharedTable → (store : List ℕ) → Type 0 where
  its_start : {t : SharedTable} {s : List ℕ} (n : ℕ) → length s ≡ n * 512 → 0 < n → n ≤ 128 → WmTableStart (length s) t → History [] t s
  an_open : {es : List TableEvent} {t u : SharedTable} {s r : List ℕ} {a : WmAnswer} (customer : ℕ) (payload work work' : List ℕ) → WmTableOpen t s customer payload work u r work' a → History es t s → History (event (Opening customer payload work) (a, work') ∷ es) u r
  a_question : {es : List TableEvent} {t : SharedTable} {s : List ℕ} {a : WmAnswer} (customer hold function : ℕ) (out out' : List ℕ) → WmTableFunctionName t s customer hold function out out' a → History es t s → History (event (Asking customer hold function out) (a, out') ∷ es) t s
  a_close : {es : List TableEvent} {t u : SharedTable} {s : List ℕ} {a : WmAnswer} (customer hold : ℕ) → WmTableClose t s customer hold u a → History es t s → History (event (Closing customer hold) (a, []) ∷ es) u s
  a_step : {es : List TableEvent} {t u : SharedTable} {s r : List ℕ} {a : WmAnswer} → WmTableCompact t s u r a → History es t s → History (event Tidying (a, []) ∷ es) u r

-- A call is granted where its answer is found; of an open the length is the hold
abbrev pub granted : WmAnswer × List ℕ → Option ℕ
granted r = cond (eqb r.0.kind 1) (some r.0.length) none

-- What a customer's hold was opened with: the payload of their last open that was granted with this hold; none if there is none, or it is closed since
abbrev pub held_by : (customer hold : ℕ) → List TableEvent → Option (List ℕ)
held_by customer hold es = opened_with granted customer hold es

-- The granted opens of payloads whose canonical form is p, and the granted closes of holds that were opened with one
abbrev pub opens_of : (p : List ℕ) → List TableEvent → ℕ
opens_of p es = opens granted name_payloads p es

abbrev pub closes_of : (p : List ℕ) → List TableEvent → ℕ
closes_of p es = closes granted name_payloads p es

abbrev pub OpensLessCloses : (users : ℕ) (p : List ℕ) → List TableEvent → Type 0
OpensLessCloses users p es = users + closes_of p es ≡ opens_of p es

-- the users that a table counts at a block
abbrev pub users_at : SharedTable → (block : ℕ) → ℕ
users_at t block = (get_or (table_of t).marks block blank).users

-- The canonical form of a payload, as wm_names_canonical writes it; and a buffer that begins with it, its other bytes as they were
abbrev pub Canonical : (payload p : List ℕ) → Type 0
Canonical payload p = canonical_names known_kind payload ≡ accepted p

abbrev pub begun_with : (p buffer : List ℕ) → List ℕ
begun_with p buffer = p ++ drop (length p) buffer

-- What an open answers and leaves after the events es, in the order of the refusals. 30 and 27 are not among them: no history has one. "No answer holds a place in the store": what is found has the offset 0
module _ (es : List TableEvent) (t : SharedTable) (s : List ℕ) (customer : ℕ) (payload work : List ℕ) where
  -- nothing is in the way but room: the canonical form is p, and h is "their lowest unused hold"
  pub record MayOpen (p : List ℕ) (h : ℕ) : Type 0 where
    pub there : customer < 16
    pub canonical : Canonical payload p
    pub fits : length p ≤ length work
    pub low : h < 8
    pub unused : held_by customer h es ≡ none
    pub lowest : (k : ℕ) → k < h → held_by customer k es ≢ none

  pub data OpenReply : (u : SharedTable) (r work' : List ℕ) → WmAnswer → Type 0 where
    -- "23, no such customer"
    open_no_customer : 16 ≤ customer → OpenReply t s work (wm_refused 23 0)
    -- "document 01's for the payload, with 13 for the work buffer"
    open_not_accepted : {number offset : ℕ} → customer < 16 → judge_names known_kind 0 payload ≡ refused number offset → OpenReply t s work (wm_refused number offset)
    open_too_short : {p : List ℕ} → customer < 16 → Canonical payload p → length work < length p → OpenReply t s work (wm_refused 13 (length p))
    -- "25, eight holds in use"
    open_no_hold : {p : List ℕ} → customer < 16 → Canonical payload p → length p ≤ length work → ((h : ℕ) → h < 8 → held_by customer h es ≢ none) → OpenReply t s work (wm_refused 25 0)
    -- "26, payload not yet stored and no free run long enough"
    open_no_room : {p : List ℕ} {h : ℕ} → MayOpen p h → ((b : ℕ) → Stored (table_of t) s b p → ⊥) → ((b : ℕ) → FreeRun (table_of t) s b (need (length p)) → ⊥) → OpenReply t s (begun_with p work) (wm_refused 26 0)
    -- "Equal canonical payloads are stored once": the store stays as it is
    open_stored : {u : SharedTable} {p : List ℕ} {h b : ℕ} → MayOpen p h → Stored (table_of t) s b p → OpenReply u s (begun_with p work) (wm_found 0 0 h)
    -- "in the first run of free blocks long enough, an empty one in one block"
    open_new : {u : SharedTable} {r p : List ℕ} {h b : ℕ} → MayOpen p h → ((d : ℕ) → Stored (table_of t) s d p → ⊥) → FreeRun (table_of t) s b (need (length p)) → ((d : ℕ) → d < b → FreeRun (table_of t) s d (need (length p)) → ⊥) → Stored (table_of u) r b p → OpenReply u r (begun_with p work) (wm_found 0 0 h)

-- What a question answers, and what its output is after it: as wm_function_name answers of the payload that was opened
pub data QuestionReply (es : List TableEvent) (customer hold function : ℕ) (out : List ℕ) : (out' : List ℕ) → WmAnswer → Type 0 where
  ask_no_customer : 16 ≤ customer → QuestionReply es customer hold function out out (wm_refused 23 0)
  -- "24, hold not open or above 7"
  ask_not_open : customer < 16 → held_by customer hold es ≡ none → QuestionReply es customer hold function out out (wm_refused 24 0)
  ask_none : {payload : List ℕ} → held_by customer hold es ≡ some payload → WmName (FunctionName (record { 0 = function })) payload wm_none → QuestionReply es customer hold function out out wm_none
  -- "for a question, 13 last"
  ask_too_short : {payload name : List ℕ} (b : WmAnswer) → held_by customer hold es ≡ some payload → WmName (FunctionName (record { 0 = function })) payload b → FoundIn payload b name → length out < length name → QuestionReply es customer hold function out out (wm_refused 13 (length name))
  -- "copied to a lent buffer"
  ask_found : {payload name : List ℕ} (b : WmAnswer) → held_by customer hold es ≡ some payload → WmName (FunctionName (record { 0 = function })) payload b → FoundIn payload b name → length name ≤ length out → QuestionReply es customer hold function out (begun_with name out) (wm_found 0 0 (length name))

-- What a close answers, and the table after it
pub data CloseReply (es : List TableEvent) (t : SharedTable) (customer hold : ℕ) : (u : SharedTable) → WmAnswer → Type 0 where
  close_no_customer : 16 ≤ customer → CloseReply es t customer hold t (wm_refused 23 0)
  close_not_open : customer < 16 → held_by customer hold es ≡ none → CloseReply es t customer hold t (wm_refused 24 0)
  close_open : {u : SharedTable} {payload : List ℕ} → held_by customer hold es ≡ some payload → CloseReply es t customer hold u (wm_found 0 0 0)

-- no call of the customer's is refused for room
abbrev pub NeverForRoom : (customer : ℕ) → List TableEvent → Type 0
NeverForRoom customer es = (buffer : List ℕ) → Among (wm_refused 26 0, buffer) (answers_to customer es) → ⊥

-- one of the events is an open of this payload by the customer, which was granted with this hold
abbrev pub OpenedIn : (customer hold : ℕ) (payload : List ℕ) → List TableEvent → Type 0
OpenedIn customer hold payload es = (work : List ℕ) × (r : WmAnswer × List ℕ) × Among (event (Opening customer payload work) r) es × (granted r ≡ some hold)

-- "30, a store of another length than at the start, or not 1 to 128 blocks"
pub data NotTheStore (t : SharedTable) (s : List ℕ) : Type 0 where
  other_length : length s ≢ t.bytes → NotTheStore t s
  no_blocks : ((n : ℕ) → length s ≡ n * 512 → 0 < n → n ≤ 128 → ⊥) → NotTheStore t s

pub record K12 : Type 0 where
  -- "A customer opens a name payload (first edition), lending a work buffer for its canonical form, and gets their lowest unused hold; asks a function name through it, copied to a lent buffer; closes it, the store unchanged."
  pub opens : (es : List TableEvent) (t u : SharedTable) (s r : List ℕ) → History es t s → (customer : ℕ) (payload work work' : List ℕ) (a : WmAnswer) → WmTableOpen t s customer payload work u r work' a → OpenReply es t s customer payload work u r work' a
  pub asks : (es : List TableEvent) (t : SharedTable) (s : List ℕ) → History es t s → (customer hold function : ℕ) (out out' : List ℕ) (a : WmAnswer) → WmTableFunctionName t s customer hold function out out' a → QuestionReply es customer hold function out out' a
  pub closes : (es : List TableEvent) (t u : SharedTable) (s : List ℕ) → History es t s → (customer hold : ℕ) (a : WmAnswer) → WmTableClose t s customer hold u a → CloseReply es t customer hold u a
  -- "Each payload's users at any time are the granted opens less the granted closes of the history": where a payload stands, where the table counts users, and wherever more was opened than closed; so "at none its blocks are free"
  pub users : (es : List TableEvent) (t : SharedTable) (s : List ℕ) → History es t s → (b : ℕ) (p : List ℕ) → Stored (table_of t) s b p → OpensLessCloses (users_at t b) p es
  pub used : (es : List TableEvent) (t : SharedTable) (s : List ℕ) → History es t s → (b : ℕ) → b < length (blocks s) → 0 < users_at t b → (p : List ℕ) × Stored (table_of t) s b p
  pub kept : (es : List TableEvent) (t : SharedTable) (s : List ℕ) → History es t s → (p : List ℕ) → closes_of p es < opens_of p es → (b : ℕ) × Stored (table_of t) s b p
  -- "Equal canonical payloads are stored once"
  pub once : (es : List TableEvent) (t : SharedTable) (s : List ℕ) → History es t s → (b d : ℕ) (p : List ℕ) → Stored (table_of t) s b p → Stored (table_of t) s d p → b ≡ d
  -- "If two histories agree on one customer's calls but for the store, lend at each call the store they started with, of 1 to 128 blocks, written by nothing else, and never refuse that customer for room, the customer's answers are the same": all fields of every answer, and every lent buffer after its call, whatever sizes the two stores have and whatever they held
  pub isolation : (customer : ℕ) (es fs : List TableEvent) (t u : SharedTable) (s r : List ℕ) → History es t s → History fs u r → NeverForRoom customer es → NeverForRoom customer fs → calls_of customer es ≡ calls_of customer fs → answers_to customer es ≡ answers_to customer fs
  -- The same as a customer meets it: a name that is shown to them is in a payload that they opened themselves, and that was granted with the hold they ask through
  pub shown : (es : List TableEvent) (t : SharedTable) (s : List ℕ) → History es t s → (customer hold function : ℕ) (out out' : List ℕ) (a : WmAnswer) → WmTableFunctionName t s customer hold function out out' a → a.kind ≡ 1
      → (payload : List ℕ) × OpenedIn customer hold payload es × ((b : WmAnswer) → WmName (FunctionName (record { 0 = function })) payload b → FoundIn payload b (take a.length out'))
  -- "27, a needed block's check is wrong": no history has it, and none has 30
  pub never : (es : List TableEvent) (t : SharedTable) (s : List ℕ) → History es t s → (call : Call) (r : WmAnswer × List ℕ) → Among (event call r) es → (number offset : ℕ) → r.0 ≡ wm_refused number offset → (number ≢ 27) × (number ≢ 30)
  -- 30 comes first, of any table, and nothing is changed
  pub open_elsewhere : (t u : SharedTable) (s r : List ℕ) → NotTheStore t s → (customer : ℕ) (payload work work' : List ℕ) (a : WmAnswer) → WmTableOpen t s customer payload work u r work' a → (a ≡ wm_refused 30 0) × (table_of u ≡ table_of t) × (r ≡ s) × (work' ≡ work)
  pub ask_elsewhere : (t : SharedTable) (s : List ℕ) → NotTheStore t s → (customer hold function : ℕ) (out out' : List ℕ) (a : WmAnswer) → WmTableFunctionName t s customer hold function out out' a → (a ≡ wm_refused 30 0) × (out' ≡ out)
  pub close_elsewhere : (t u : SharedTable) (s : List ℕ) → NotTheStore t s → (customer hold : ℕ) (a : WmAnswer) → WmTableClose t s customer hold u a → (a ≡ wm_refused 30 0) × (table_of u ≡ table_of t)

-- K13 (R16.19 to R16.22). "Close the gaps. After a busy week the store refuses 26 though half of it is free. Add a step that moves stored blocks to the front, in their present order; blocks behind them keep their bytes. Every customer's next answers are as before, save that an open refused 26 may now be granted; for the first open after the step that reaches that check, with no close between, 26 is given exactly when the payload isn't stored and too few blocks are free in all. K12's rule on two histories counts the step as nobody's call. Refusals: 30, then 27 if any used block's check is wrong, offset 0, found before anything is moved." Proved as `k13` in Proved.antt.

-- Calls from a table and a store on, as in a history
pub data Onward (t : SharedTable) (s : List ℕ) : List TableEvent → SharedTable → (store : List ℕ) → Type 0 where
  none_yet : Onward t s [] t s
  next_open : {es : List TableEvent} {u v : SharedTable} {r x : List ℕ} {a : WmAnswer} (customer : ℕ) (payload work work' : List ℕ) → WmTableOpen u r customer payload work v x work' a → Onward t s es u r → Onward t s (event (Opening customer payload work) (a, work') ∷ es) v x
  next_question : {es : List TableEvent} {u : SharedTable} {r : List ℕ} {a : WmAnswer} (customer hold function : ℕ) (out out' : List ℕ) → WmTableFunctionName u r customer hold function out out' a → Onward t s es u r → Onward t s (event (Asking customer hold function out) (a, out') ∷ es) u r
  next_close : {es : List TableEvent} {u v : SharedTable} {r : List ℕ} {a : WmAnswer} (customer hold : ℕ) → WmTableClose u r customer hold v a → Onward t s es u r → Onward t s (event (Closing customer hold) (a, []) ∷ es) v r
  next_step : {es : List TableEvent} {u v : SharedTable} {r x : List ℕ} {a : WmAnswer} → WmTableCompact u r v x a → Onward t s es u r → Onward t s (event Tidying (a, []) ∷ es) v x

-- What an open answers, with its work buffer after it, and what it answers after the step: the same, or it was refused 26 and is granted now
pub data Eased : (before after : WmAnswer × List ℕ) → Type 0 where
  as_before : {r : WmAnswer × List ℕ} → Eased r r
  now_granted : (hold : ℕ) (work : List ℕ) → Eased (wm_refused 26 0, work) (wm_found 0 0 hold, work)

-- A step after a history: the table and the store before it, and those that it leaves
pub record Stepped (t u : SharedTable) (s r : List ℕ) (a : WmAnswer) : Type 0 where
  -- it is granted
  pub granted : a ≡ wm_found 0 0 0
  -- "moves stored blocks to the front, in their present order": each payload goes, with its users, to where as many blocks stand before it as payloads stood in before it; and nothing else stands there then
  pub goes : (b n : ℕ) (p : List ℕ) → Stored (table_of t) s b p → UsedBefore (table_of t) s b n → Stored (table_of u) r n p × (users_at u n ≡ users_at t b)
  pub came : (n : ℕ) (p : List ℕ) → Stored (table_of u) r n p → (b : ℕ) × Stored (table_of t) s b p × UsedBefore (table_of t) s b n
  pub counted : (b : ℕ) → b ≤ length (blocks s) → (n : ℕ) × UsedBefore (table_of t) s b n
  -- "blocks behind them keep their bytes"
  pub behind : (n : ℕ) → UsedBefore (table_of t) s (length (blocks s)) n → (length r ≡ length s) × (drop (n * 512) r ≡ drop (n * 512) s)
  -- "Every customer's next answers are as before, save that an open refused 26 may now be granted"
  pub asks : (customer hold function : ℕ) (out out' out'' : List ℕ) (c d : WmAnswer) → WmTableFunctionName t s customer hold function out out' c → WmTableFunctionName u r customer hold function out out'' d → (d ≡ c) × (out'' ≡ out')
  pub closes : (customer hold : ℕ) (v w : SharedTable) (c d : WmAnswer) → WmTableClose t s customer hold v c → WmTableClose u r customer hold w d → d ≡ c
  pub opens : (customer : ℕ) (payload work work' work'' : List ℕ) (v w : SharedTable) (x y : List ℕ) (c d : WmAnswer) → WmTableOpen t s customer payload work v x work' c → WmTableOpen u r customer payload work w y work'' d → Eased (c, work') (d, work'')
  -- The same for as long as nobody refuses the customer for room: whatever others do meanwhile, the one time with the step and the other without
  pub onward : (customer : ℕ) (fs gs : List TableEvent) (v w : SharedTable) (x y : List ℕ) → Onward t s fs v x → Onward u r gs w y → NeverForRoom customer fs → NeverForRoom customer gs → calls_of customer fs ≡ calls_of customer gs → answers_to customer fs ≡ answers_to customer gs

pub record K13 : Type 0 where
  pub step : (es : List TableEvent) (t u : SharedTable) (s r : List ℕ) → History es t s → (a : WmAnswer) → WmTableCompact t s u r a → Stepped t u s r a
  -- "for the first open after the step that reaches that check, with no close between, 26 is given exactly when the payload isn't stored and too few blocks are free in all": for every open until the next close
  pub room : (es : List TableEvent) (t u : SharedTable) (s r : List ℕ) → History es t s → SinceStep es → (customer : ℕ) (payload work work' : List ℕ) (a : WmAnswer) → WmTableOpen t s customer payload work u r work' a → (p : List ℕ) (h n : ℕ) → MayOpen es t s customer payload work p h → UsedBefore (table_of t) s (length (blocks s)) n
      → (a ≡ wm_refused 26 0) ↔ (((b : ℕ) → Stored (table_of t) s b p → ⊥) × (length (blocks s) < n + need (length p)))
  -- "K12's rule on two histories counts the step as nobody's call": the histories of `isolation` in K12 have steps, and no customer's calls and answers tell of them
  pub nobodys : (customer : ℕ) (es : List TableEvent) (r : WmAnswer × List ℕ) → (calls_of customer (event Tidying r ∷ es) ≡ calls_of customer es) × (answers_to customer (event Tidying r ∷ es) ≡ answers_to customer es)
  -- "Refusals: 30, then 27 if any used block's check is wrong, offset 0, found before anything is moved": of any table. Nothing is changed
  pub elsewhere : (t u : SharedTable) (s r : List ℕ) → NotTheStore t s → (a : WmAnswer) → WmTableCompact t s u r a → (a ≡ wm_refused 30 0) × (table_of u ≡ table_of t) × (r ≡ s)
  pub damaged : (t u : SharedTable) (s r : List ℕ) → (NotTheStore t s → ⊥) → Damage (table_of t) s → (a : WmAnswer) → WmTableCompact t s u r a → (a ≡ wm_refused 27 0) × (table_of u ≡ table_of t) × (r ≡ s)
  pub granted : (t u : SharedTable) (s r : List ℕ) → (NotTheStore t s → ⊥) → (Damage (table_of t) s → ⊥) → (a : WmAnswer) → WmTableCompact t s u r a → a ≡ wm_found 0 0 0

-- EVERY ENTRY IN ONE PASS (R12.1 to R12.9). "All rows of one subsection or payload into lent lists; 13 at the number of rows, lists unchanged by a refusal. Proved: exactly the rows of the meaning, in order; for function names, writing them from the lists gives the canonical payload back." Proved as `every_entry` in Proved.antt.

-- `content_rows c` are the rows of contents c, in order, each with its `first` and `second` number and what is `held`: of `single x` one with 0 and 0, of `names t` one for each row of t, its number first and 0 second, of `names_by t` those of `group_rows t`, one for each row of each group, the group's number first; of contents that are kept there are none.

-- so many rows need room: none, where nothing is listed
abbrev pub row_count : {X : Type 0} → Option (List (EntryRow X)) → ℕ
row_count none = 0
row_count (some es) = length es

-- Where no rows are found, no list changes; of each list, what stands behind the rows does not
abbrev pub Unchanged : (lists lists' : List (List ℕ)) → WmAnswer → Type 0
Unchanged lists lists' a = a.kind ≢ 1 → lists' ≡ lists

-- The row at a position of four lists: its two numbers, and a place in the payload where what it holds lies
pub record PlaceAt (p firsts seconds offsets lengths : List ℕ) (i : ℕ) (e : EntryRow (List ℕ)) : Type 0 where
  pub offset : ℕ
  pub long : ℕ
  pub first_is : get_elem? firsts i ≡ some e.first
  pub second_is : get_elem? seconds i ≡ some e.second
  pub offset_is : get_elem? offsets i ≡ some offset
  pub length_is : get_elem? lengths i ≡ some long
  pub inside : offset + long ≤ length p
  pub there : take long (drop offset p) ≡ e.held

-- and of three: the data of a hint is the one byte that the third list has, 0 or 1
pub record HintAt (functions offsets likely : List ℕ) (i : ℕ) (e : EntryRow (List ℕ)) : Type 0 where
  pub byte : ℕ
  pub function_is : get_elem? functions i ≡ some e.first
  pub offset_is : get_elem? offsets i ≡ some e.second
  pub byte_is : get_elem? likely i ≡ some byte
  pub data_is : e.held ≡ byte ∷ []

-- the bytes at such places, joined
abbrev pub text_at : (p offsets lengths : List ℕ) → List ℕ
text_at p [] ns = []
text_at p (o ∷ os) [] = []
text_at p (o ∷ os) (n ∷ ns) = take n (drop o p) ++ text_at p os ns

-- One subsection of a name payload over a table of ids, by the promises of the call that lists and of the one that rewrites
pub record NamesListed (Ids : ℕ → Kind → Type 0) (kind_of : ℕ → Kind) (listing : (p : List ℕ) (id : ℕ) (lists lists' : List (List ℕ)) → WmAnswer → Type 0) (rewriting : (p old new : List ℕ) → WmAnswer → Type 0) : Type 0 where
  pub answers : (p : List ℕ) (id : ℕ) (lists lists' : List (List ℕ)) (a : WmAnswer) → Bytes p → listing p id lists lists' a → Answers Reply (RowsRefused (NamePayloadFault Ids p) (judge_names kind_of 0 p) (λ t. row_count (some_then (lookup id t) content_rows)) lists) a
  pub unchanged : (p : List ℕ) (id : ℕ) (lists lists' : List (List ℕ)) (a : WmAnswer) → listing p id lists lists' a → Unchanged lists lists' a
  pub left : (p : List ℕ) (id : ℕ) (fs ss os ns fs' ss' os' ns' : List ℕ) (a : WmAnswer) → listing p id (fs ∷ ss ∷ os ∷ ns ∷ []) (fs' ∷ ss' ∷ os' ∷ ns' ∷ []) a → Leaves fs fs' a × Leaves ss ss' a × Leaves os os' a × Leaves ns ns' a
  -- none exactly where the meaning has no such subsection, or it is kept
  pub none : (p : List ℕ) (id : ℕ) (lists lists' : List (List ℕ)) (m : Table (Content (List ℕ))) (a : WmAnswer) → NamePayload Ids p m → listing p id lists lists' a → (a ≡ wm_none) ↔ ((c : Content (List ℕ)) → Has id c m → content_rows c ≡ none)
  -- else exactly the rows of the meaning, in order, and where each name lies
  pub rows : (p : List ℕ) (id : ℕ) (fs ss os ns fs' ss' os' ns' : List ℕ) (m : Table (Content (List ℕ))) (c : Content (List ℕ)) (es : List (EntryRow (List ℕ))) (a : WmAnswer) → NamePayload Ids p m → Has id c m → content_rows c ≡ some es → listing p id (fs ∷ ss ∷ os ∷ ns ∷ []) (fs' ∷ ss' ∷ os' ∷ ns' ∷ []) a → a.kind ≡ 1 → (a ≡ wm_found 0 0 (length es)) × ((i : ℕ) (e : EntryRow (List ℕ)) → get_elem? es i ≡ some e → PlaceAt p fs' ss' os' ns' i e)
  -- function names from the lists: as every payload q is rewritten that holds these names and nothing else, with the same answer and into the same output
  pub back : (p q : List ℕ) (fs ss os ns fs' ss' os' ns' old new new' : List ℕ) (m : Table (Content (List ℕ))) (t : Table (List ℕ)) (a b c : WmAnswer) → NamePayload Ids p m → Has 1 (names t) m → NamePayload Ids q (row 1 (names t) nil) → listing p 1 (fs ∷ ss ∷ os ∷ ns ∷ []) (fs' ∷ ss' ∷ os' ∷ ns' ∷ []) a → a.kind ≡ 1 → WmFunctionNamesWrite (take a.length fs') (take a.length ns') (text_at p (take a.length os') (take a.length ns')) old new b → rewriting q old new' c → (b ≡ c) × (new ≡ new')

pub record MetadataListed : Type 0 where
  pub answers : (p : List ℕ) (lists lists' : List (List ℕ)) (a : WmAnswer) → Bytes p → WmMetadataList p lists lists' a → Answers RowsReply (RowsRefused (MetadataFault Unknown AnyItemFault p) (judge_metadata any_item 0 p) (λ t. length (group_rows t)) lists) a
  pub unchanged : (p : List ℕ) (lists lists' : List (List ℕ)) (a : WmAnswer) → WmMetadataList p lists lists' a → Unchanged lists lists' a
  pub left : (p fs ss os ns fs' ss' os' ns' : List ℕ) (a : WmAnswer) → WmMetadataList p (fs ∷ ss ∷ os ∷ ns ∷ []) (fs' ∷ ss' ∷ os' ∷ ns' ∷ []) a → Leaves fs fs' a × Leaves ss ss' a × Leaves os os' a × Leaves ns ns' a
  pub rows : (p fs ss os ns fs' ss' os' ns' : List ℕ) (m : Table (Table (List ℕ))) (a : WmAnswer) → CodeMetadata Unknown p m → WmMetadataList p (fs ∷ ss ∷ os ∷ ns ∷ []) (fs' ∷ ss' ∷ os' ∷ ns' ∷ []) a → a.kind ≡ 1 → (a ≡ wm_found 0 0 (length (group_rows m))) × ((i : ℕ) (e : EntryRow (List ℕ)) → get_elem? (group_rows m) i ≡ some e → PlaceAt p fs' ss' os' ns' i e)

pub record HintsListed : Type 0 where
  pub answers : (p : List ℕ) (lists lists' : List (List ℕ)) (a : WmAnswer) → Bytes p → WmHintsList p lists lists' a → Answers RowsReply (RowsRefused (MetadataFault BranchHint HintFault p) (judge_metadata hint_item 0 p) (λ t. length (group_rows t)) lists) a
  pub unchanged : (p : List ℕ) (lists lists' : List (List ℕ)) (a : WmAnswer) → WmHintsList p lists lists' a → Unchanged lists lists' a
  pub left : (p fs os ls fs' os' ls' : List ℕ) (a : WmAnswer) → WmHintsList p (fs ∷ os ∷ ls ∷ []) (fs' ∷ os' ∷ ls' ∷ []) a → Leaves fs fs' a × Leaves os os' a × Leaves ls ls' a
  pub rows : (p fs os ls fs' os' ls' : List ℕ) (m : Table (Table (List ℕ))) (a : WmAnswer) → CodeMetadata BranchHint p m → WmHintsList p (fs ∷ os ∷ ls ∷ []) (fs' ∷ os' ∷ ls' ∷ []) a → a.kind ≡ 1 → (a ≡ wm_found 0 0 (length (group_rows m))) × ((i : ℕ) (e : EntryRow (List ℕ)) → get_elem? (group_rows m) i ≡ some e → HintAt fs' os' ls' i e)

pub record EveryEntry : Type 0 where
  pub names : NamesListed SourceIds known_kind WmNamesList WmNamesCanonical
  pub wide_names : NamesListed WiderIds wider_kind WmWideNamesList WmWideNamesCanonical
  pub metadata : MetadataListed
  pub hints : HintsListed
