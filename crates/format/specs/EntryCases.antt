-- Cases of listing every entry. Computed by the checker, as the examples are. Assumes nothing.
use Rattle.std.specs.Prelude.{ℕ, List, [], ◌∷◌, ◌++◌, map, ◌≡◌, refl}
use Prim.Native.String.{String}
use Rattle.std.proofs.Math.Option.{Option, none, some}
use Rattle.format.specs.Numbers.{number, groups}
use Rattle.format.specs.Text.{utf8, characters, character, completes}
use Rattle.format.specs.Parts.{Part, sized, name, remaining}
use Rattle.format.specs.Reading.{Judged}
use Rattle.format.specs.Tables.{lookup, rows, table}
use Rattle.format.specs.Names.{Kind, known, known_kind, wider, wider_kind, contents, subsections, payload, judge_names}
use Rattle.format.specs.Metadata.{hint_of, any_item, hint_item, metadata, judge_metadata}
use Rattle.format.specs.Older.{times, vector, zero_byte, older_kind, older_hint, older_entry, judge_older, put_first, amend, with_hints, sorted_from}
use Rattle.format.specs.Entries.{Listed, plain_rows, rows_under, group_rows, name_rows, item_rows, older_rows, place_columns, hint_columns, older_columns, fit_each, fitting_rows, over_each, lists_after}
use Rattle.format.specs.Examples.{digit, hex, Result, is_none, bytes, refusal, of, Example, ◌gives◌, computed, stated}

-- a row as the numbers of its columns, and rows one after another
in_columns : {X : Type 0} → List (Listed X → ℕ) → Listed X → List ℕ
in_columns [] e = []
in_columns (column ∷ columns) e = column e ∷ in_columns columns e

in_rows : {X : Type 0} → List (Listed X → ℕ) → List (Listed X) → List ℕ
in_rows columns [] = []
in_rows columns (e ∷ es) = in_columns columns e ++ in_rows columns es

rows_as : {X : Type 0} → List (Listed X → ℕ) → Option (List (Listed X)) → Result
rows_as columns none = is_none
rows_as columns (some es) = bytes (in_rows columns es)

names : (ℕ → Kind) → ℕ → String → Result
names kind_of id s = of (rows_as place_columns) (name_rows kind_of id (hex s))

items : String → Result
items s = of (rows_as place_columns) (item_rows any_item (hex s))

hints : String → Result
hints s = of (rows_as hint_columns) (item_rows hint_item (hex s))

older : String → Result
older s = of (rows_as older_columns) (older_rows (hex s))

-- what fits four lists, and the lists afterwards, one after another
named : String → Judged (Option (List (Listed Part)))
named s = name_rows known_kind 1 (hex s)

into : List (List ℕ) → String → Result
into lists s = of (rows_as place_columns) (fitting_rows lists (named s))

joined : List (List ℕ) → List ℕ
joined [] = []
joined (l ∷ ls) = l ++ joined ls

after : List (List ℕ) → String → Result
after lists s = bytes (joined (lists_after place_columns (fitting_rows lists (named s)) lists))

pub listings : List Example
listings =
    -- a plain map: index, 0, offset, length
    names known_kind 1 "01 07 02 00 01 61 03 01 62" gives bytes (0 ∷ 0 ∷ 5 ∷ 1 ∷ 3 ∷ 0 ∷ 8 ∷ 1 ∷ []) ∷
    -- padded numbers, and an empty name
    names known_kind 1 "01 8A 00 82 00 80 00 81 00 61 03 01 62" gives bytes (0 ∷ 0 ∷ 9 ∷ 1 ∷ 3 ∷ 0 ∷ 12 ∷ 1 ∷ []) ∷
    names known_kind 11 "0B 03 01 05 00" gives bytes (5 ∷ 0 ∷ 5 ∷ 0 ∷ []) ∷
    -- an indirect map with an empty group
    names known_kind 2 "02 08 02 01 00 02 01 05 01 61" gives bytes (2 ∷ 5 ∷ 9 ∷ 1 ∷ []) ∷
    -- the module's name
    names known_kind 0 "00 02 01 6D" gives bytes (0 ∷ 0 ∷ 3 ∷ 1 ∷ []) ∷
    -- no such subsection; one without rows
    names known_kind 2 "01 01 00" gives is_none ∷
    names known_kind 1 "" gives is_none ∷
    names known_kind 1 "01 01 00" gives bytes [] ∷
    -- an id that is kept, in both editions and in the first alone
    names known_kind 200 "C8 01 FF" gives is_none ∷
    names wider_kind 200 "C8 01 FF" gives is_none ∷
    names known_kind 5 "05 04 01 07 01 61" gives is_none ∷
    names wider_kind 5 "05 04 01 07 01 61" gives bytes (7 ∷ 0 ∷ 5 ∷ 1 ∷ []) ∷
    names wider_kind 3 "03 06 01 02 01 04 01 61" gives bytes (2 ∷ 4 ∷ 7 ∷ 1 ∷ []) ∷
    -- a refused payload is refused whatever id is asked
    names known_kind 1 "01 01 00 01 00" gives refusal 9 3 ∷
    names known_kind 7 "01 01 00 01 00" gives refusal 9 3 ∷
    names known_kind 200 "01 04 01 05 01 FF" gives refusal 4 5 ∷
    -- metadata, also without rows; and its refusals
    items "01 02 02 05 01 41 09 00" gives bytes (2 ∷ 5 ∷ 5 ∷ 1 ∷ 2 ∷ 9 ∷ 8 ∷ 0 ∷ []) ∷
    items "00" gives bytes [] ∷
    items "01 02 00" gives bytes [] ∷
    items "01 02 01 05 01 41 00" gives refusal 10 6 ∷
    -- hints: function, code offset, 0 or 1
    hints "02 02 02 05 01 01 09 01 00 03 01 05 81 00 01" gives bytes (2 ∷ 5 ∷ 1 ∷ 2 ∷ 9 ∷ 0 ∷ 3 ∷ 5 ∷ 1 ∷ []) ∷
    hints "00" gives bytes [] ∷
    hints "01 02 01 05 01 02" gives refusal 12 4 ∷
    -- older hints, shuffled: every pair once, by function and offset, with the first hint for it
    older "02 02 00 03 01 09 00 05 00 09 01 00 01 01 03" gives bytes (1 ∷ 3 ∷ 1 ∷ 2 ∷ 5 ∷ 0 ∷ 2 ∷ 9 ∷ 1 ∷ []) ∷
    -- two entries of one function
    older "02 04 00 01 00 07 04 00 02 01 07 01 06" gives bytes (4 ∷ 6 ∷ 1 ∷ 4 ∷ 7 ∷ 0 ∷ []) ∷
    older "00" gives bytes [] ∷
    older "01 02 01" gives refusal 17 2 ∷
    -- each list needs room for all rows, and refusal 13 gives their number; the payload comes first
    into ((7 ∷ 7 ∷ []) ∷ (7 ∷ 7 ∷ []) ∷ (7 ∷ 7 ∷ []) ∷ (7 ∷ 7 ∷ []) ∷ []) "01 07 02 00 01 61 03 01 62" gives bytes (0 ∷ 0 ∷ 5 ∷ 1 ∷ 3 ∷ 0 ∷ 8 ∷ 1 ∷ []) ∷
    into ((7 ∷ 7 ∷ []) ∷ (7 ∷ 7 ∷ []) ∷ (7 ∷ 7 ∷ []) ∷ (7 ∷ []) ∷ []) "01 07 02 00 01 61 03 01 62" gives refusal 13 2 ∷
    into ((7 ∷ []) ∷ (7 ∷ 7 ∷ []) ∷ (7 ∷ 7 ∷ []) ∷ (7 ∷ 7 ∷ []) ∷ []) "01 07 02 00 01 61 03 01 62" gives refusal 13 2 ∷
    into ([] ∷ [] ∷ [] ∷ [] ∷ []) "01 01 00" gives bytes [] ∷
    into ([] ∷ [] ∷ [] ∷ [] ∷ []) "" gives is_none ∷
    into ([] ∷ [] ∷ [] ∷ [] ∷ []) "01 07 02 03 01 62 03 01 61" gives refusal 11 6 ∷
    -- what is behind the rows stays, and all of it after a refusal and for none
    after ((7 ∷ 7 ∷ 7 ∷ []) ∷ (8 ∷ 8 ∷ 8 ∷ []) ∷ (9 ∷ 9 ∷ 9 ∷ []) ∷ (6 ∷ 6 ∷ 6 ∷ []) ∷ []) "01 07 02 00 01 61 03 01 62" gives bytes (0 ∷ 3 ∷ 7 ∷ 0 ∷ 0 ∷ 8 ∷ 5 ∷ 8 ∷ 9 ∷ 1 ∷ 1 ∷ 6 ∷ []) ∷
    after ((7 ∷ 7 ∷ 7 ∷ []) ∷ (8 ∷ []) ∷ (9 ∷ 9 ∷ 9 ∷ []) ∷ (6 ∷ 6 ∷ 6 ∷ []) ∷ []) "01 07 02 00 01 61 03 01 62" gives bytes (7 ∷ 7 ∷ 7 ∷ 8 ∷ 9 ∷ 9 ∷ 9 ∷ 6 ∷ 6 ∷ 6 ∷ []) ∷
    after ((7 ∷ []) ∷ (8 ∷ []) ∷ (9 ∷ []) ∷ (6 ∷ []) ∷ []) "" gives bytes (7 ∷ 8 ∷ 9 ∷ 6 ∷ []) ∷
    []

pub listings_hold : map computed listings ≡ map stated listings
unfolding listings computed stated in_columns in_rows rows_as names items hints older named into joined after hex digit of number groups utf8 characters character completes sized name remaining lookup rows table known known_kind wider wider_kind contents subsections payload judge_names hint_of any_item hint_item metadata judge_metadata times vector zero_byte older_kind older_hint older_entry judge_older put_first amend with_hints sorted_from plain_rows rows_under group_rows name_rows item_rows older_rows fit_each fitting_rows over_each
listings_hold = refl
