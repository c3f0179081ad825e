-- Further cases: what the rules say beside the sixteen examples, and where two careful readers could differ (docs/RULES.md). Computed by the checker, as the examples are. Assumes nothing.
use Rattle.std.specs.Prelude.{ℕ, Bool, true, false, List, [], ◌∷◌, ◌++◌, map, ◌≡◌, refl, length, drop, replicate}
use Prim.Native.String.{String}
use Rattle.std.proofs.Math.Option.{Option, none, some}
use Rattle.format.specs.Bytes.{ascii, same}
use Rattle.format.specs.Numbers.{number, groups, shortest, fewest}
use Rattle.format.specs.Text.{utf8, characters, character, completes}
use Rattle.format.specs.Parts.{sized, name, remaining}
use Rattle.format.specs.Tables.{lookup, size, map_table, rows, table}
use Rattle.format.specs.Walk.{Section, preamble, begins, greatest_id, is_custom, is_code, is_data, rank, custom, is_called, name_section, hint_section, nothing, seeing, id_rules, name_rules, section, sections, framing, walk, section_count, section_at, payload_of, payload_in, custom_payload}
use Rattle.format.specs.Names.{known, known_kind, wider, wider_kind, contents, subsections, payload, judge_names}
use Rattle.format.specs.Questions.{answer, asked, ask_at, ask}
use Rattle.format.specs.declared.Question.{Question}
use Rattle.format.specs.declared.Question.TheVariants.{ModuleName, LabelName, TypeName, TableName, MemoryName, GlobalName, ElementName, DataName, FieldName, TagName, KeptContents}
use Rattle.format.specs.Metadata.{hint_of, any_item, hint_item, metadata, judge_metadata, item_at, ask_metadata, hint_in, ask_hint}
use Rattle.format.specs.Canonical.{write_part, write_rows, write_table, unless_empty, keep_rows, bare, write_content, write_subsections, rewrite_names, canonical_names, rewrite_metadata, canonical_of, canonical_metadata, canonical_hints}
use Rattle.format.specs.Older.{times, vector, zero_byte, older_kind, older_hint, older_entry, judge_older, first_at, first_in, ask_older, put_first, amend, with_hints, sorted_from, write_older_hints, write_older, not_too_long, canonical_older}
use Rattle.format.specs.Telling.{as_few, is_its_rewriting, names_are_canonical, items_are_canonical}
use Rattle.format.specs.Outputs.{fitting, write_answer, output_after}
use Rattle.format.specs.Lists.{sum, listed, unsorted_at, bad_text_at, subsection, function_names}
use Rattle.format.specs.Why.{named, no_subsection, no_group, no_entry, why_from, why_in, why_function, why_local}
use Rattle.format.specs.Through.{through, ask_through, metadata_section, item_of, ask_metadata_through, ask_hint_through}
use Rattle.format.specs.Listing.{digits, decimal, piece, line, section_lines, payload_line, printed, greatest_input, listing}
use Rattle.format.specs.Examples.{digit, hex, Result, is_accepted, value, is_none, is_likely, is_unlikely, found, bytes, because, refusal, of_outcome, of, place, likelihood, number_is, names_are, answer_is, canonical_is, hint_is, function, local_in, P, Example, ◌gives◌, computed, stated}

name_is : String → Result
name_is s = of_outcome (λ p _. place (some p)) (name 0 (hex s))

tag : ℕ → Question
tag k = TagName (record { 0 = k })

metadata_is : ℕ → ℕ → String → Result
metadata_is f at s = of place (ask_metadata any_item (record { 0 = f }) (record { 0 = at }) 0 (hex s))

metadata_canonical_is : String → Result
metadata_canonical_is s = of bytes (canonical_metadata (hex s))

hints_canonical_is : String → Result
hints_canonical_is s = of bytes (canonical_hints (hex s))

-- what fits an output of some bytes, and the output afterwards
canonical_into : List ℕ → String → List ℕ
canonical_into old s = output_after (canonical_names known_kind (hex s)) old

canonical_answers : ℕ → String → Result
canonical_answers room s = of (λ n. value n 0) (write_answer room (canonical_names known_kind (hex s)))

written_is : List ℕ → List ℕ → String → Result
written_is indices lengths text = of bytes (function_names indices lengths (hex text))

pub payloads : List Example
payloads =
    -- 01 00; C0 80; ED A0 80; a count of 4,294,967,295 in six bytes
    names_are "01 00" gives refusal 2 2 ∷
    name_is "02 C0 80" gives refusal 4 1 ∷
    name_is "03 ED A0 80" gives refusal 4 1 ∷
    metadata_is 0 0 "FF FF FF FF 0F 00" gives refusal 2 6 ∷
    -- an earlier fault inside a list that is too long wins; a missing number is refused where it would start
    metadata_is 0 0 "FF FF FF FF 0F 05 00 05" gives refusal 11 7 ∷
    metadata_is 0 0 "" gives refusal 2 0 ∷
    -- bytes outside the innermost part are not looked at; the whole fifth byte is compared
    names_are "01 04 FF FF FF FF 1F" gives refusal 2 2 ∷
    number_is "80 80 80 80 80 00" gives refusal 3 0 ∷
    -- a part too long is refused at its length, before its contents are judged
    names_are "00 03 05 FF 61" gives refusal 2 2 ∷
    names_are "01 09 02 03 01 62 03 01 61" gives refusal 2 1 ∷
    -- 4 gives the start of the text, which ends where its length says
    names_are "00 03 02 61 FF" gives refusal 4 3 ∷
    names_are "00 03 01 C3 A9" gives refusal 4 3 ∷
    -- the last before and the first after the surrogates; the greatest code point, and one more; U+0000, U+FEFF, U+FFFF
    name_is "03 ED 9F BF" gives found 1 3 ∷
    name_is "03 EE 80 80" gives found 1 3 ∷
    name_is "04 F4 8F BF BF" gives found 1 4 ∷
    name_is "04 F4 90 80 80" gives refusal 4 1 ∷
    name_is "01 00" gives found 1 1 ∷
    -- a character of four bytes that three would do for, and the first and last that three bytes and a free second one allow
    name_is "04 F0 8F BF BF" gives refusal 4 1 ∷
    name_is "04 F0 90 80 80" gives found 1 4 ∷
    name_is "03 E0 A0 80" gives found 1 3 ∷
    name_is "03 E1 80 80" gives found 1 3 ∷
    name_is "03 EC BF BF" gives found 1 3 ∷
    name_is "03 EF BB BF" gives found 1 3 ∷
    name_is "03 EF BF BF" gives found 1 3 ∷
    -- 11 before what follows the index; 9 before the size; 10 before a fault of the next subsection
    names_are "01 06 02 03 01 62 03 85" gives refusal 11 6 ∷
    names_are "02 01 00 01 FF" gives refusal 9 3 ∷
    names_are "01 02 00 00 01 FF" gives refusal 10 3 ∷
    -- a padded number's faults stand at its first byte: a part too long, an index not above; 4 behind a padded length, 12 at a padded size
    names_are "01 89 00 00" gives refusal 2 1 ∷
    names_are "01 08 02 03 01 62 83 00 01 61" gives refusal 11 6 ∷
    name_is "81 00 FF" gives refusal 4 2 ∷
    hint_is 2 5 "01 02 01 05 81 00 02" gives refusal 12 4 ∷
    hint_is 2 5 "01 02 01 05 80 00" gives refusal 12 4 ∷
    -- of several bytes left over 10 gives the first
    names_are "01 03 00 00 00" gives refusal 10 3 ∷
    metadata_is 0 0 "00 00 00" gives refusal 10 1 ∷
    -- an empty name lies where its text would start; tag names stand under 11
    answer_is (function 7) "01 03 01 07 00" gives found 5 0 ∷
    answer_is (tag 7) "0B 03 01 07 00" gives found 5 0 ∷
    answer_is (tag 7) "01 03 01 07 00" gives is_none ∷
    -- a known id as kept gets none from an accepted payload, the refusal from a refused one
    answer_is (KeptContents 1) P gives is_none ∷
    answer_is (KeptContents 1) "01 00" gives refusal 2 2 ∷
    -- an answer waits for the whole payload's judgement
    answer_is (function 0) "01 07 02 00 01 61 00 01 62" gives refusal 11 6 ∷
    -- an item of size 0 is an item, and stays; a hint's size may be padded; 2 comes before 12
    metadata_is 2 5 "01 02 01 05 00" gives found 5 0 ∷
    metadata_canonical_is "01 02 81 00 05 80 00" gives bytes (hex "01 02 01 05 00") ∷
    hint_is 2 5 "01 02 01 05 81 00 00" gives is_unlikely ∷
    hint_is 2 5 "01 02 01 05 02 01" gives refusal 2 4 ∷
    hint_is 2 5 "01 02 01 05 02 01 01" gives refusal 12 4 ∷
    -- a function without items is left out; nothing left is the one byte 00
    hints_canonical_is "02 02 00 03 01 05 01 01" gives bytes (hex "01 03 01 05 01 01") ∷
    hints_canonical_is "01 02 00" gives bytes (hex "00") ∷
    -- a group without entries is left out, and the subsection that it leaves empty
    canonical_is "02 07 02 00 00 03 01 00 00" gives bytes (hex "02 05 01 03 01 00 00") ∷
    canonical_is "02 03 01 00 00" gives bytes [] ∷
    -- an output exactly long enough is enough, and one shorter is not
    canonical_answers 6 "01 85 00 01 00 81 00 61" gives value 6 0 ∷
    canonical_answers 5 "01 85 00 01 00 81 00 61" gives refusal 13 6 ∷
    canonical_answers 0 "01 01 00" gives value 0 0 ∷
    bytes (canonical_into (hex "AA AA AA AA AA AA AA") "01 85 00 01 00 81 00 61") gives bytes (hex "01 04 01 00 01 61 AA") ∷
    bytes (canonical_into (hex "AA AA AA AA AA") "01 85 00 01 00 81 00 61") gives bytes (hex "AA AA AA AA AA") ∷
    -- lists: 14 by the exact sum, 11 at its position, before all of 4, at the start of the first bad name
    written_is (4_294_967_295 ∷ []) (1 ∷ []) "61" gives bytes (hex "01 08 01 FF FF FF FF 0F 01 61") ∷
    written_is [] [] "" gives bytes [] ∷
    written_is (0 ∷ 1 ∷ []) (4_294_967_295 ∷ 3 ∷ []) "61 61" gives refusal 14 0 ∷
    written_is (0 ∷ []) [] "" gives refusal 14 0 ∷
    written_is (3 ∷ 3 ∷ []) (1 ∷ 1 ∷ []) "FF 61" gives refusal 11 1 ∷
    written_is (0 ∷ 1 ∷ []) (1 ∷ 1 ∷ []) "C3 A9" gives refusal 4 0 ∷
    written_is (0 ∷ 1 ∷ []) (1 ∷ 1 ∷ []) "61 A9" gives refusal 4 1 ∷
    -- 14 before 11, and before 4; of two indices that are not above 11 gives the first; 4 gives a place in the text, and no position
    written_is (3 ∷ 3 ∷ []) (1 ∷ []) "61" gives refusal 14 0 ∷
    written_is (0 ∷ []) (1 ∷ []) "FF FF" gives refusal 14 0 ∷
    written_is (5 ∷ 4 ∷ 3 ∷ []) (0 ∷ 0 ∷ 0 ∷ []) "" gives refusal 11 1 ∷
    written_is (0 ∷ 1 ∷ []) (2 ∷ 1 ∷ []) "61 61 A9" gives refusal 4 2 ∷
    []

pub payloads_hold : map computed payloads ≡ map stated payloads
unfolding payloads computed stated name_is number_is names_are answer_is canonical_is hint_is metadata_is metadata_canonical_is hints_canonical_is canonical_into canonical_answers written_is function local_in tag P hex digit of_outcome of place likelihood number groups shortest fewest utf8 characters character completes sized name remaining lookup size map_table rows table known known_kind contents subsections payload judge_names answer asked ask_at ask hint_of any_item hint_item metadata judge_metadata item_at ask_metadata hint_in ask_hint write_part write_rows write_table unless_empty keep_rows bare write_content write_subsections rewrite_names canonical_names rewrite_metadata canonical_of canonical_metadata canonical_hints fitting write_answer output_after sum listed unsorted_at bad_text_at subsection function_names
payloads_hold = refl

-- Modules
ordinary : ℕ → String → List ℕ
ordinary id contents = id ∷ write_part (hex contents)

custom_section : String → String → List ℕ
custom_section called payload = 0 ∷ write_part (write_part (ascii called) ++ hex payload)

the_hints : String → List ℕ
the_hints payload = custom_section "metadata.code.branch_hint" payload

walk_is : List ℕ → Result
walk_is ss = of (λ n. value n 0) (section_count (preamble ++ ss))

section_is : ℕ → List ℕ → Result
section_is position ss = of place' (section_at position (preamble ++ ss))
  where
    place' : Option Section → Result
    place' none = is_none
    place' (some s) = found s.at (length s.contents.bytes)

payload_under : List ℕ → List ℕ → Result
payload_under called ss = of place (custom_payload called (preamble ++ ss))

payload_is : String → List ℕ → Result
payload_is called ss = payload_under (ascii called) ss

answer_through : Question → List ℕ → Result
answer_through q ss = of place (ask_through known_kind q (preamble ++ ss))

metadata_through : String → ℕ → ℕ → List ℕ → Result
metadata_through format f at ss = of place (ask_metadata_through (ascii format) (record { 0 = f }) (record { 0 = at }) (preamble ++ ss))

hint_through : ℕ → ℕ → List ℕ → Result
hint_through f at ss = of likelihood (ask_hint_through (record { 0 = f }) (record { 0 = at }) (preamble ++ ss))

listing_of : List ℕ → Result
listing_of ss = bytes (listing (preamble ++ ss))

pub modules : List Example
modules =
    -- ids once and in order, custom sections anywhere; 6 before the size
    walk_is (ordinary 1 "" ++ custom_section "x" "" ++ ordinary 12 "") gives value 3 0 ∷
    walk_is (ordinary 3 "" ++ (3 ∷ 0xFF ∷ [])) gives refusal 6 10 ∷
    walk_is (ordinary 3 "" ++ ordinary 2 "") gives refusal 6 10 ∷
    -- 6 before 8 for data, which is barred after `name`; hints after it are not
    walk_is (ordinary 11 "" ++ custom_section "name" "" ++ ordinary 11 "") gives refusal 6 17 ∷
    walk_is (custom_section "name" "" ++ (11 ∷ 0xFF ∷ [])) gives refusal 8 15 ∷
    walk_is (custom_section "name" "" ++ the_hints "") gives value 2 0 ∷
    -- data count stands before code, once; code before data
    walk_is (ordinary 12 "" ++ ordinary 10 "" ++ ordinary 11 "") gives value 3 0 ∷
    walk_is (ordinary 9 "" ++ ordinary 12 "") gives value 2 0 ∷
    walk_is (ordinary 10 "" ++ ordinary 12 "") gives refusal 6 10 ∷
    walk_is (ordinary 11 "" ++ ordinary 12 "") gives refusal 6 10 ∷
    walk_is (ordinary 12 "" ++ ordinary 12 "") gives refusal 6 10 ∷
    walk_is (ordinary 12 "" ++ ordinary 9 "") gives refusal 6 10 ∷
    -- tag stands between memory and global, once; ids run to 13
    walk_is (ordinary 13 "") gives value 1 0 ∷
    walk_is (ordinary 5 "" ++ ordinary 13 "" ++ ordinary 6 "") gives value 3 0 ∷
    walk_is (ordinary 6 "" ++ ordinary 13 "") gives refusal 6 10 ∷
    walk_is (ordinary 13 "" ++ ordinary 5 "") gives refusal 6 10 ∷
    walk_is (ordinary 13 "" ++ ordinary 13 "") gives refusal 6 10 ∷
    walk_is (14 ∷ 0xFF ∷ []) gives refusal 5 8 ∷
    -- `name` and hints among them: data count after `name` is fine, and hints between data count and code
    walk_is (ordinary 12 "" ++ the_hints "" ++ ordinary 10 "" ++ ordinary 11 "" ++ custom_section "name" "") gives value 5 0 ∷
    walk_is (ordinary 12 "" ++ ordinary 10 "" ++ the_hints "") gives refusal 8 12 ∷
    walk_is (custom_section "name" "" ++ ordinary 12 "" ++ ordinary 10 "" ++ ordinary 11 "") gives refusal 8 19 ∷
    walk_is (ordinary 10 "" ++ custom_section "name" "" ++ ordinary 12 "") gives refusal 6 17 ∷
    -- data count is not data; code is remembered behind other sections
    walk_is (custom_section "name" "" ++ ordinary 12 "") gives value 2 0 ∷
    walk_is (ordinary 10 "" ++ custom_section "x" "" ++ the_hints "") gives refusal 8 14 ∷
    -- a second `name` that runs past the module is 2 before 7; hints, code, hints: 7 before 8
    walk_is (custom_section "name" "" ++ (0 ∷ 6 ∷ 4 ∷ ascii "name")) gives refusal 2 16 ∷
    walk_is (custom_section "name" "" ++ custom_section "name" "") gives refusal 7 15 ∷
    walk_is (the_hints "" ++ ordinary 10 "" ++ the_hints "") gives refusal 7 38 ∷
    walk_is (ordinary 10 "" ++ the_hints "") gives refusal 8 10 ∷
    -- K2: `branchHints` is counted by itself, so a module may have both editions; it is 7 before 8 as well, and not after code
    walk_is (custom_section "branchHints" "" ++ the_hints "") gives value 2 0 ∷
    walk_is (custom_section "branchHints" "" ++ the_hints "" ++ custom_section "branchHints" "") gives refusal 7 50 ∷
    walk_is (custom_section "branchHints" "" ++ ordinary 10 "" ++ custom_section "branchHints" "") gives refusal 7 24 ∷
    walk_is (ordinary 10 "" ++ custom_section "branchHints" "") gives refusal 8 10 ∷
    walk_is (custom_section "branchHint" "" ++ custom_section "branchHint" "") gives value 2 0 ∷
    -- every custom name is judged; a second `metadata.code.x` is an ordinary custom section
    walk_is (0 ∷ 2 ∷ 1 ∷ 0xFF ∷ []) gives refusal 4 11 ∷
    walk_is (custom_section "metadata.code.x" "" ++ custom_section "metadata.code.x" "") gives value 2 0 ∷
    -- a custom section without a name is 2 where the name would start
    walk_is (0 ∷ 0 ∷ []) gives refusal 2 10 ∷
    -- a section's name may have a padded length; the first of a name answers; none past the last
    payload_is "x" (0 ∷ 5 ∷ 0x81 ∷ 0 ∷ 0x78 ∷ 7 ∷ 7 ∷ []) gives found 13 2 ∷
    payload_is "x" (custom_section "x" "01" ++ custom_section "x" "02 03") gives found 12 1 ∷
    payload_is "y" (custom_section "x" "01") gives is_none ∷
    -- a name that a caller passes is not judged
    payload_under (hex "FF") (custom_section "x" "01") gives is_none ∷
    section_is 1 (ordinary 1 "AA" ++ ordinary 2 "AA AA") gives found 11 2 ∷
    section_is 2 (ordinary 1 "AA" ++ ordinary 2 "AA AA") gives is_none ∷
    -- a module damaged anywhere is refused, whichever section was asked for
    payload_is "x" (custom_section "x" "01" ++ ordinary 14 "") gives refusal 5 13 ∷
    -- through a module: none without the section; the walk's refusals first; offsets from the module's start
    answer_through (function 3) (custom_section "name" P) gives found 27 1 ∷
    answer_through (function 3) (ordinary 1 "") gives is_none ∷
    answer_through (function 3) (custom_section "name" "01 00" ++ ordinary 14 "") gives refusal 5 17 ∷
    answer_through (function 3) (custom_section "name" "01 00") gives refusal 2 17 ∷
    -- only the payload asked is judged; generic metadata called branch_hint is judged by the rules of hints; an empty T
    answer_through ModuleName (the_hints "02" ++ custom_section "name" "00 01 00") gives found 47 0 ∷
    metadata_through "branch_hint" 2 5 (the_hints "01 02 01 05 01 02") gives refusal 12 40 ∷
    metadata_through "branch_hint" 2 5 (the_hints "01 02 01 05 01 01") gives found 41 1 ∷
    metadata_through "" 2 5 (custom_section "metadata.code." "01 02 01 05 01 02") gives found 30 1 ∷
    -- of two with one name the first answers, and the second is not judged
    metadata_through "x" 2 5 (custom_section "metadata.code.x" "01 02 01 05 01 02" ++ custom_section "metadata.code.x" "02") gives found 31 1 ∷
    metadata_through "x" 2 5 (custom_section "metadata.code.x" "02" ++ custom_section "metadata.code.x" "01 02 01 05 01 02") gives refusal 2 27 ∷
    hint_through 2 5 (the_hints "01 02 01 05 01 01") gives is_likely ∷
    hint_through 2 5 (ordinary 1 "") gives is_none ∷
    []

pub modules_hold : map computed modules ≡ map stated modules
unfolding modules computed stated ordinary custom_section the_hints walk_is section_is payload_under payload_is answer_through metadata_through hint_through function local_in tag P hex digit of place likelihood ascii same number groups shortest fewest utf8 characters character completes sized name remaining lookup rows table preamble begins greatest_id is_custom is_code is_data rank custom is_called name_section hint_section nothing seeing id_rules name_rules section sections framing walk section_count section_at payload_of payload_in custom_payload known known_kind contents subsections payload judge_names answer asked ask_at ask hint_of any_item hint_item metadata judge_metadata item_at ask_metadata hint_in ask_hint write_part through ask_through metadata_section item_of ask_metadata_through ask_hint_through
modules_hold = refl

-- K10: a number's fewest bytes, and payloads that are their own rewriting
yes_no : Bool → Result
yes_no true = value 1 0
yes_no false = value 0 0

yes : Result
yes = value 1 0

not : Result
not = value 0 0

number_told : String → Result
number_told s = of_outcome (λ v o. yes_no (as_few (shortest v) (drop o (hex s)) (hex s))) (number 0 (hex s))

names_told : String → Result
names_told s = yes_no (names_are_canonical known_kind (hex s))

metadata_told : String → Result
metadata_told s = yes_no (items_are_canonical any_item (hex s))

hints_told : String → Result
hints_told s = yes_no (items_are_canonical hint_item (hex s))

pub tellings : List Example
tellings =
    -- a number is shortest with one byte, or with a last byte that is not 0
    number_told "00" gives yes ∷
    number_told "80 00" gives not ∷
    number_told "80 01" gives yes ∷
    number_told "80 80 80 80 00" gives not ∷
    number_told "FF FF FF FF 0F" gives yes ∷
    -- the examples E7 to E11, and P
    names_told "01 85 00 01 00 81 00 61" gives not ∷
    names_told "01 04 01 00 01 61" gives yes ∷
    names_told "01 01 00" gives not ∷
    names_told "" gives yes ∷
    names_told "00 01 00" gives yes ∷
    names_told "03 01 FF" gives yes ∷
    names_told P gives yes ∷
    -- one number padded: a subsection's size, a count, an index, a length; of a kept subsection its size, but nothing in it
    names_told "01 84 00 01 00 01 61" gives not ∷
    names_told "01 05 81 00 00 01 61" gives not ∷
    names_told "01 05 01 80 00 01 61" gives not ∷
    names_told "01 05 01 00 81 00 61" gives not ∷
    names_told "00 03 81 00 61" gives not ∷
    names_told "03 81 00 FF" gives not ∷
    names_told "03 02 80 00" gives yes ∷
    -- an empty group beside another, and alone; an indirect map without groups
    names_told "02 08 02 00 00 03 01 00 01 78" gives not ∷
    names_told "02 06 01 03 01 00 01 78" gives yes ∷
    names_told "02 03 01 00 00" gives not ∷
    names_told "02 01 00" gives not ∷
    -- a refused payload is no, also behind what is canonical
    names_told "01 00" gives not ∷
    names_told "01 07 02 03 01 62 03 01 61" gives not ∷
    -- metadata with nothing left is the one byte 00
    metadata_told "00" gives yes ∷
    metadata_told "80 00" gives not ∷
    metadata_told "" gives not ∷
    metadata_told "01" gives not ∷
    -- a function without items, alone and before another; an item of size 0 is an item
    metadata_told "01 02 00" gives not ∷
    metadata_told "02 02 00 03 01 05 01 01" gives not ∷
    metadata_told "01 02 01 05 00" gives yes ∷
    -- E15, and with one number padded: the count of functions, a function, its count, an offset, a size
    hints_told "01 02 01 05 01 01" gives yes ∷
    hints_told "81 00 02 01 05 01 01" gives not ∷
    hints_told "01 82 00 01 05 01 01" gives not ∷
    hints_told "01 02 81 00 05 01 01" gives not ∷
    hints_told "01 02 01 85 00 01 01" gives not ∷
    hints_told "01 02 01 05 81 00 01" gives not ∷
    -- E16 is metadata and no hint
    metadata_told "01 02 01 05 01 02" gives yes ∷
    hints_told "01 02 01 05 01 02" gives not ∷
    []

pub tellings_hold : map computed tellings ≡ map stated tellings
unfolding tellings computed stated yes_no yes not number_told names_told metadata_told hints_told P hex digit of_outcome same number groups shortest fewest utf8 characters character completes sized name remaining lookup size map_table rows table known known_kind contents subsections payload judge_names hint_of any_item hint_item metadata judge_metadata write_part write_rows write_table unless_empty keep_rows bare write_content write_subsections rewrite_names canonical_names rewrite_metadata canonical_of is_its_rewriting names_are_canonical items_are_canonical
tellings_hold = refl

-- K9: the wider edition, and beside it the first
wide_are : String → Result
wide_are s = of (λ _. is_accepted) (judge_names wider_kind 0 (hex s))

wide_is : Question → String → Result
wide_is q s = of place (ask wider_kind q (hex s))

wide_canonical_is : String → Result
wide_canonical_is s = of bytes (canonical_names wider_kind (hex s))

wide_told : String → Result
wide_told s = yes_no (names_are_canonical wider_kind (hex s))

label : (function label : ℕ) → Question
label f k = LabelName (record { 0 = f }) (record { 0 = k })

global : ℕ → Question
global k = GlobalName (record { 0 = k })

data_segment : ℕ → Question
data_segment k = DataName (record { 0 = k })

-- a name under each of the twelve ids, and id 12
twelve : String
twelve = "00 02 01 6D 01 04 01 00 01 66 02 06 01 00 01 00 01 6C 03 06 01 00 01 02 01 62 04 04 01 01 01 74 05 04 01 00 01 54 06 04 01 00 01 4D 07 04 01 07 01 67 08 04 01 01 01 65 09 04 01 02 01 64 0A 06 01 01 01 03 01 78 0B 04 01 00 01 65 0C 01 FF"

pub editions : List Example
editions =
    -- the six questions, by index; none where the index has no name
    wide_is (label 0 2) "03 06 01 00 01 02 01 62" gives found 7 1 ∷
    wide_is (label 0 3) "03 06 01 00 01 02 01 62" gives is_none ∷
    wide_is (label 1 2) "03 06 01 00 01 02 01 62" gives is_none ∷
    wide_is (TableName (record { 0 = 0 })) "05 04 01 00 01 54" gives found 5 1 ∷
    wide_is (MemoryName (record { 0 = 0 })) "06 04 01 00 01 4D" gives found 5 1 ∷
    wide_is (global 7) "07 04 01 07 01 67" gives found 5 1 ∷
    wide_is (global 0) "07 04 01 07 01 67" gives is_none ∷
    wide_is (ElementName (record { 0 = 1 })) "08 04 01 01 01 65" gives found 5 1 ∷
    wide_is (data_segment 2) "09 04 01 02 01 64" gives found 5 1 ∷
    -- each at its own place among the twelve
    wide_is (global 7) twelve gives found 49 1 ∷
    wide_is (data_segment 2) twelve gives found 61 1 ∷
    -- the others as in the first edition
    wide_is ModuleName "00 02 01 6D" gives found 3 1 ∷
    wide_is (function 3) P gives found 12 1 ∷
    wide_is (local_in 3 0) P gives found 20 1 ∷
    wide_is (TypeName (record { 0 = 1 })) "04 04 01 01 01 74" gives found 5 1 ∷
    wide_is (FieldName (record { 0 = 1 }) (record { 0 = 3 })) "0A 06 01 01 01 03 01 78" gives found 7 1 ∷
    wide_is (tag 0) "0B 04 01 00 01 65" gives found 5 1 ∷
    -- as kept the twelve are none, and the next is not; the first edition keeps six of them
    wide_is (KeptContents 0) "00 02 01 6D" gives is_none ∷
    wide_is (KeptContents 3) "03 06 01 00 01 02 01 62" gives is_none ∷
    wide_is (KeptContents 7) "07 04 01 07 01 67" gives is_none ∷
    wide_is (KeptContents 9) "09 04 01 02 01 64" gives is_none ∷
    wide_is (KeptContents 12) twelve gives found 78 1 ∷
    answer_is (KeptContents 3) "03 06 01 00 01 02 01 62" gives found 2 6 ∷
    answer_is (KeptContents 7) twelve gives found 46 4 ∷
    answer_is (global 7) "07 04 01 07 01 67" gives is_none ∷
    -- an empty map of id 7 is dropped by the one and kept by the other
    wide_canonical_is "07 01 00" gives bytes [] ∷
    canonical_is "07 01 00" gives bytes (hex "07 01 00") ∷
    wide_told "07 01 00" gives not ∷
    names_told "07 01 00" gives yes ∷
    -- and so are padding, a group without labels, an empty map of groups
    wide_canonical_is "09 86 00 01 80 00 81 00 64" gives bytes (hex "09 04 01 00 01 64") ∷
    wide_canonical_is "03 08 02 00 00 03 01 00 01 62" gives bytes (hex "03 06 01 03 01 00 01 62") ∷
    wide_canonical_is "03 01 00" gives bytes [] ∷
    wide_told twelve gives yes ∷
    -- an empty name is found
    wide_is (global 0) "07 03 01 00 00" gives found 5 0 ∷
    -- where both refuse, number and place may differ; what the wider edition refuses the first may keep
    names_are "07 01 FF 07 00" gives refusal 9 3 ∷
    wide_are "07 01 FF 07 00" gives refusal 2 2 ∷
    names_are "07 01 FF" gives is_accepted ∷
    -- refusals as for the known ids: past its part, a number too large, no text, left over, not above
    wide_are "05 01 01" gives refusal 2 3 ∷
    wide_are "06 06 01 80 80 80 80 10" gives refusal 3 3 ∷
    wide_are "08 04 01 00 01 FF" gives refusal 4 5 ∷
    wide_are "09 02 00 00" gives refusal 10 3 ∷
    wide_are "07 07 02 03 01 62 03 01 61" gives refusal 11 6 ∷
    wide_are "03 05 02 01 00 01 00" gives refusal 11 5 ∷
    -- labels are no plain map
    wide_are "03 04 01 00 01 62" gives refusal 2 6 ∷
    []

pub editions_hold : map computed editions ≡ map stated editions
unfolding editions computed stated yes_no yes not wide_are wide_is wide_canonical_is wide_told names_are answer_is canonical_is names_told label global data_segment twelve tag function local_in P hex digit of place same number groups shortest fewest utf8 characters character completes sized name remaining lookup size map_table rows table known known_kind wider wider_kind contents subsections payload judge_names answer asked ask_at ask write_part write_rows write_table unless_empty keep_rows bare write_content write_subsections rewrite_names canonical_names is_its_rewriting names_are_canonical
editions_hold = refl

-- K2: the older edition of hints
older_are : String → Result
older_are s = of (λ _. is_accepted) (judge_older 0 (hex s))

older_is : (function offset : ℕ) → String → Result
older_is f at s = of likelihood (ask_older (record { 0 = f }) (record { 0 = at }) 0 (hex s))

older_canonical_is : String → Result
older_canonical_is s = of bytes (canonical_older (hex s))

pub older : List Example
older =
    -- one hint; none for another function or offset; an entry for a function without hints
    older_is 0 5 "01 00 00 01 01 05" gives is_likely ∷
    older_is 0 5 "01 00 00 01 00 05" gives is_unlikely ∷
    older_is 0 6 "01 00 00 01 01 05" gives is_none ∷
    older_is 1 5 "01 00 00 01 01 05" gives is_none ∷
    older_is 1 5 "01 01 00 00" gives is_none ∷
    older_are "00" gives is_accepted ∷
    -- functions in any order; a pair twice with other kinds, in one entry and over two: the first answers
    older_is 1 2 "02 07 00 01 01 05 01 00 01 00 02" gives is_unlikely ∷
    older_is 0 5 "01 00 00 02 01 05 00 05" gives is_likely ∷
    older_is 0 5 "02 00 00 01 00 05 00 00 01 01 05" gives is_unlikely ∷
    older_is 0 6 "02 00 00 01 00 05 00 00 01 01 06" gives is_likely ∷
    -- a padded kind is that kind
    older_is 0 5 "01 00 00 01 80 00 05" gives is_unlikely ∷
    older_is 0 5 "01 00 00 01 81 00 05" gives is_likely ∷
    -- kind 2 with no offset behind it is 12, and not 2; a kind that cannot be read is 2 or 3
    older_are "01 00 00 01 02" gives refusal 12 4 ∷
    older_are "01 00 00 01 82 00" gives refusal 12 4 ∷
    older_are "01 00 00 01" gives refusal 2 4 ∷
    older_are "01 00 00 01 80 80 80 80 10" gives refusal 3 4 ∷
    older_are "01 00 00 01 01" gives refusal 2 5 ∷
    -- the byte 80 in the place of 00 is 17; without it 2 at its place
    older_are "01 00 80 00 00" gives refusal 17 2 ∷
    older_are "01 00 01" gives refusal 17 2 ∷
    older_are "01 00" gives refusal 2 2 ∷
    -- and so behind a padded function
    older_are "01 80 00 01" gives refusal 17 3 ∷
    older_are "01 80 00" gives refusal 2 3 ∷
    -- the count, a function, a list that runs out; a byte behind the list
    older_are "" gives refusal 2 0 ∷
    older_are "01" gives refusal 2 1 ∷
    older_are "02 00 00 00" gives refusal 2 4 ∷
    older_are "00 00" gives refusal 10 1 ∷
    -- canonical: functions rising, each once; offsets rising, each once with the kind that answers; nothing left is 00
    older_canonical_is "02 07 00 01 01 05 01 00 01 00 02" gives bytes (hex "02 01 00 01 00 02 07 00 01 01 05") ∷
    older_canonical_is "01 00 00 02 01 05 01 05" gives bytes (hex "01 00 00 01 01 05") ∷
    older_canonical_is "02 03 00 01 00 09 03 00 02 01 02 01 09" gives bytes (hex "01 03 00 02 01 02 00 09") ∷
    older_canonical_is "02 00 00 00 07 00 00" gives bytes (hex "00") ∷
    older_canonical_is "81 00 80 00 00 81 00 81 00 85 00" gives bytes (hex "01 00 00 01 01 05") ∷
    -- the order is that of numbers: 128 is behind 5, though 80 01 begins with a smaller byte than 85 00 ends
    older_canonical_is "01 00 00 02 00 80 01 01 05" gives bytes (hex "01 00 00 02 01 05 00 80 01") ∷
    []

pub older_hold : map computed older ≡ map stated older
unfolding older computed stated older_are older_is older_canonical_is hex digit of likelihood number groups shortest fewest size write_table write_rows times vector zero_byte older_kind older_hint older_entry judge_older first_at first_in ask_older put_first amend with_hints sorted_from write_older_hints write_older not_too_long canonical_older
older_hold = refl

-- K7: why a function or a local has no name, or where its name stands
why_function_is : ℕ → String → Result
why_function_is k s = of because (why_function (record { 0 = k }) (hex s))

why_local_is : (function local : ℕ) → String → Result
why_local_is k j s = of because (why_local (record { 0 = k }) (record { 0 = j }) (hex s))

-- functions 0 and 4,294,967,295
far_apart : String
far_apart = "01 0B 02 00 01 61 FF FF FF FF 0F 01 62"

-- functions 1 and 3, the one with locals 0 and 1, the other with locals 2 and 5
two_groups : String
two_groups = "02 11 02 01 02 00 01 61 01 01 62 03 02 02 01 63 05 01 64"

pub reasons : List Example
reasons =
    -- no subsection 1: no subsection at all, a later one, one that is kept
    why_function_is 0 "" gives because no_subsection ∷
    why_function_is 0 "02 01 00" gives because no_subsection ∷
    why_function_is 7 "07 01 FF" gives because no_subsection ∷
    -- an empty map is a map, and has no neighbours
    why_function_is 0 "01 01 00" gives because (no_entry none none) ∷
    -- one entry: below it, above it, itself; an entry with an empty name is one
    why_function_is 4 "01 04 01 05 01 61" gives because (no_entry none (some 5)) ∷
    why_function_is 6 "01 04 01 05 01 61" gives because (no_entry (some 5) none) ∷
    why_function_is 5 "01 04 01 05 01 61" gives because (named 1 0) ∷
    why_function_is 5 "01 03 01 05 00" gives because (named 1 0) ∷
    -- the least and the greatest index, and all between them
    why_function_is 0 far_apart gives because (named 1 0) ∷
    why_function_is 1 far_apart gives because (no_entry (some 0) (some 4_294_967_295)) ∷
    why_function_is 4_294_967_294 far_apart gives because (no_entry (some 0) (some 4_294_967_295)) ∷
    why_function_is 4_294_967_295 far_apart gives because (named 1 1) ∷
    -- the last of three, and the nearest of three
    why_function_is 7 "01 0A 03 01 01 61 02 01 62 07 01 63" gives because (named 1 2) ∷
    why_function_is 3 "01 0A 03 01 01 61 02 01 62 07 01 63" gives because (no_entry (some 2) (some 7)) ∷
    why_function_is 9 "01 0A 03 01 01 61 02 01 62 07 01 63" gives because (no_entry (some 7) none) ∷
    -- a padded index is that index
    why_function_is 5 "01 05 01 85 00 01 61" gives because (named 1 0) ∷
    why_function_is 4 "01 05 01 85 00 01 61" gives because (no_entry none (some 5)) ∷
    -- the questions of E5, between other subsections
    why_function_is 1 P gives because (no_entry (some 0) (some 3)) ∷
    why_function_is 3 P gives because (named 1 1) ∷
    -- a refused payload gives no reason, also where the fault is behind the map
    why_function_is 0 "01 00" gives refusal 2 2 ∷
    why_function_is 5 "01 04 01 05 01 61 01 00" gives refusal 9 6 ∷
    -- no subsection 2: the map of functions does not count
    why_local_is 0 0 "" gives because no_subsection ∷
    why_local_is 5 0 "01 04 01 05 01 61" gives because no_subsection ∷
    -- no group at all, and none for that function: before, between and behind others
    why_local_is 0 0 "02 01 00" gives because no_group ∷
    why_local_is 0 0 two_groups gives because no_group ∷
    why_local_is 2 0 two_groups gives because no_group ∷
    why_local_is 4 0 two_groups gives because no_group ∷
    -- a group without entries is a group
    why_local_is 3 0 "02 03 01 03 00" gives because (no_entry none none) ∷
    why_local_is 2 0 "02 03 01 03 00" gives because no_group ∷
    -- a position counts in its own group
    why_local_is 1 1 two_groups gives because (named 2 1) ∷
    why_local_is 3 2 two_groups gives because (named 2 0) ∷
    why_local_is 3 5 two_groups gives because (named 2 1) ∷
    -- and neighbours are of that group
    why_local_is 1 2 two_groups gives because (no_entry (some 1) none) ∷
    why_local_is 3 1 two_groups gives because (no_entry none (some 2)) ∷
    why_local_is 3 3 two_groups gives because (no_entry (some 2) (some 5)) ∷
    -- the questions of E6
    why_local_is 3 0 P gives because (named 2 0) ∷
    why_local_is 0 0 P gives because no_group ∷
    -- refused behind the group: in the next group, and in the next subsection
    why_local_is 3 0 "02 08 02 03 01 00 01 78 03 00" gives refusal 11 8 ∷
    why_local_is 3 0 "02 06 01 03 01 00 01 78 01 00" gives refusal 9 8 ∷
    []

pub reasons_hold : map computed reasons ≡ map stated reasons
unfolding reasons computed stated why_function_is why_local_is far_apart two_groups P hex digit of number groups utf8 characters character sized name remaining lookup rows table known known_kind contents subsections payload judge_names why_from why_in why_function why_local
reasons_hold = refl

-- The listing; the first row is R17.6
pub listings : List Example
listings =
    -- the 36_byte module's listing; an empty payload; a refusal alone; 65,536 bytes are read and one more is refused
    bytes (listing (hex "00 61 73 6D 01 00 00 00 00 1A 04 6E 61 6D 65" ++ hex P)) gives bytes (ascii "sections 1\n0 8 26\nname 15 21\nhints none\n") ∷
    listing_of (custom_section "name" "") gives bytes (ascii "sections 1\n0 8 5\nname 15 0\nhints none\n") ∷
    listing_of (ordinary 1 "00" ++ the_hints "01 02") gives bytes (ascii "sections 2\n1 8 1\n0 11 28\nname none\nhints 39 2\n") ∷
    -- id 13 is printed as any other; 14 is no id
    listing_of (ordinary 13 "00 00") gives bytes (ascii "sections 1\n13 8 2\nname none\nhints none\n") ∷
    listing_of (ordinary 14 "") gives bytes (ascii "refused 5 8\n") ∷
    bytes (listing []) gives bytes (ascii "refused 1 0\n") ∷
    -- a preamble that is cut off is refused at the front
    bytes (listing (hex "00 61 73 6D")) gives bytes (ascii "refused 1 0\n") ∷
    bytes (listing (replicate 65_537 0)) gives bytes (ascii "refused 16 65536\n") ∷
    bytes (listing (replicate 65_536 0)) gives bytes (ascii "refused 1 0\n") ∷
    []

pub listings_hold : map computed listings ≡ map stated listings
unfolding listings computed stated ordinary custom_section the_hints listing_of P hex digit ascii same number groups shortest fewest utf8 characters character completes sized name remaining preamble begins greatest_id is_custom is_code is_data rank custom is_called name_section hint_section nothing seeing id_rules name_rules section sections framing walk payload_of payload_in write_part digits decimal piece line section_lines payload_line printed greatest_input listing
listings_hold = refl
