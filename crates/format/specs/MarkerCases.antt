-- K8. Cases of markers and of the quick question (docs/RULES.md). Computed by the checker, as the examples are. Assumes nothing.
use Rattle.std.specs.Prelude.{ℕ, zero, suc, ◌+◌, ◌*◌, List, [], ◌∷◌, map, ◌≡◌, refl, replicate}
use Rattle.format.specs.Reading.{map_judged, judged_then}
use Rattle.format.specs.Numbers.{number, groups}
use Rattle.format.specs.Text.{utf8, characters, character, completes}
use Rattle.format.specs.Parts.{sized, name, remaining}
use Rattle.format.specs.Tables.{lookup, rows, table}
use Rattle.format.specs.Names.{known, known_kind, contents, subsections, payload, judge_names}
use Rattle.format.specs.Questions.{answer, asked}
use Rattle.format.specs.Outputs.{over}
use Rattle.format.specs.Markers.{entry, entries, all_entries, thinned, Markers, functions_part, markers_of, unless_long, fitting_both, made, indices_of, offsets_of, first_fault, lists_fault, last_not_above, first_with, from_marker, quick}
use Rattle.format.specs.Examples.{digit, hex, Result, is_none, found, bytes, marks, refusal, of, place, P, Example, ◌gives◌, computed, stated}

-- the functions 0, 1, 2 .. all called a, in entries of three bytes: the first stands at 3
a_names : (first n : ℕ) → List ℕ
a_names first zero = []
a_names first (suc n) = first ∷ 1 ∷ 0x61 ∷ a_names (suc first) n

called_a : ℕ → List ℕ
called_a n = 1 ∷ (1 + 3 * n) ∷ n ∷ a_names 0 n

marked_as : Markers → Result
marked_as m = marks (indices_of m) (offsets_of m) m.end

markers_are : List ℕ → Result
markers_are bs = of marked_as (markers_of bs)

-- into two lists of some lengths
made_into : (indices offsets : ℕ) → List ℕ → Result
made_into i o bs = of marked_as (made bs (replicate i 0) (replicate o 0))

indices_after : (indices offsets : List ℕ) → List ℕ → Result
indices_after is os bs = bytes (over (map_judged indices_of (made bs is os)) is)

offsets_after : (indices offsets : List ℕ) → List ℕ → Result
offsets_after is os bs = bytes (over (map_judged offsets_of (made bs is os)) os)

pub makings : List Example
makings =
    -- fewer than sixteen names, exactly sixteen, one more; and two times sixteen, one more
    markers_are (hex "01 07 02 00 01 61 03 01 62") gives marks (0 ∷ []) (3 ∷ []) 9 ∷
    markers_are (called_a 15) gives marks (0 ∷ []) (3 ∷ []) 48 ∷
    markers_are (called_a 16) gives marks (0 ∷ []) (3 ∷ []) 51 ∷
    markers_are (called_a 17) gives marks (0 ∷ 16 ∷ []) (3 ∷ 51 ∷ []) 54 ∷
    markers_are (called_a 32) gives marks (0 ∷ 16 ∷ []) (3 ∷ 51 ∷ []) 99 ∷
    markers_are (called_a 33) gives marks (0 ∷ 16 ∷ 32 ∷ []) (3 ∷ 51 ∷ 99 ∷ []) 102 ∷
    -- no such subsection: nothing at all, another known one, one that is kept
    markers_are [] gives marks [] [] 0 ∷
    markers_are (hex "02 01 00") gives marks [] [] 0 ∷
    markers_are (hex "03 01 FF") gives marks [] [] 0 ∷
    -- an empty map has no marker, and an end
    markers_are (hex "01 01 00") gives marks [] [] 3 ∷
    -- between other subsections; numbers that are padded
    markers_are (hex P) gives marks (0 ∷ []) (7 ∷ []) 13 ∷
    markers_are (hex "01 8A 00 82 00 80 00 81 00 61 03 01 62") gives marks (0 ∷ []) (5 ∷ []) 13 ∷
    -- the payload's refusals, also behind the map
    markers_are (hex "01 07 02 03 01 62 03 01 61") gives refusal 11 6 ∷
    markers_are (hex "01 04 01 05 01 61 01 00") gives refusal 9 6 ∷
    markers_are (hex "01 04 01 05 01 FF") gives refusal 4 5 ∷
    -- each list needs room for all, and refusal 13 gives their number; no room is needed for none
    made_into 2 2 (called_a 17) gives marks (0 ∷ 16 ∷ []) (3 ∷ 51 ∷ []) 54 ∷
    made_into 1 2 (called_a 17) gives refusal 13 2 ∷
    made_into 2 1 (called_a 17) gives refusal 13 2 ∷
    made_into 0 0 (called_a 1) gives refusal 13 1 ∷
    made_into 0 0 (hex "01 01 00") gives marks [] [] 3 ∷
    made_into 0 0 [] gives marks [] [] 0 ∷
    -- the payload comes first
    made_into 0 0 (hex "01 07 02 03 01 62 03 01 61") gives refusal 11 6 ∷
    -- what is behind the markers stays, and all of it after a refusal
    indices_after (7 ∷ 8 ∷ 9 ∷ []) (7 ∷ 8 ∷ 9 ∷ []) (called_a 17) gives bytes (0 ∷ 16 ∷ 9 ∷ []) ∷
    offsets_after (7 ∷ 8 ∷ 9 ∷ []) (7 ∷ 8 ∷ 9 ∷ []) (called_a 17) gives bytes (3 ∷ 51 ∷ 9 ∷ []) ∷
    indices_after (7 ∷ 8 ∷ 9 ∷ []) (7 ∷ []) (called_a 17) gives bytes (7 ∷ 8 ∷ 9 ∷ []) ∷
    offsets_after (7 ∷ 8 ∷ 9 ∷ []) (7 ∷ []) (called_a 17) gives bytes (7 ∷ []) ∷
    []

pub makings_hold : map computed makings ≡ map stated makings
unfolding makings computed stated a_names called_a marked_as markers_are made_into indices_after offsets_after P hex digit of number groups utf8 characters character completes sized name remaining lookup rows table known known_kind contents subsections payload judge_names answer asked entry entries all_entries thinned functions_part markers_of unless_long fitting_both made
makings_hold = refl

-- The quick question, with lists and an end that are given; and with those that were made
quick_is : (indices offsets : List ℕ) (end key : ℕ) → List ℕ → Result
quick_is is os end key bs = of place (quick bs is os end (record { 0 = key }))

own_is : ℕ → List ℕ → Result
own_is key bs = of place (judged_then (markers_of bs) (λ m. quick bs (indices_of m) (offsets_of m) m.end (record { 0 = key })))

-- a map of the functions 0 and 3; and one of 5 and 3, which is out of order
in_order_bytes : List ℕ
in_order_bytes = hex "01 07 02 00 01 61 03 01 62"

out_of_order : List ℕ
out_of_order = hex "01 07 02 05 01 61 03 01 62"

pub questions : List Example
questions =
    -- the first and the last of an own map, between them and behind them
    own_is 0 in_order_bytes gives found 5 1 ∷
    own_is 3 in_order_bytes gives found 8 1 ∷
    own_is 2 in_order_bytes gives is_none ∷
    own_is 4_294_967_295 in_order_bytes gives is_none ∷
    -- the sixteenth entry is read from the first marker, the seventeenth from the second
    own_is 15 (called_a 17) gives found 50 1 ∷
    own_is 16 (called_a 17) gives found 53 1 ∷
    own_is 17 (called_a 17) gives is_none ∷
    own_is 0 (hex "01 8A 00 82 00 80 00 81 00 61 03 01 62") gives found 9 1 ∷
    own_is 3 (hex P) gives found 12 1 ∷
    own_is 0 (hex "01 01 00") gives is_none ∷
    own_is 0 [] gives is_none ∷
    -- below the first marker: none, though an entry has that index
    quick_is (3 ∷ []) (3 ∷ []) 9 2 out_of_order gives is_none ∷
    quick_is (6 ∷ []) (3 ∷ []) 9 5 out_of_order gives is_none ∷
    -- an index out of order behind the marker is read on to; the first with that index answers, and no greater one ends the reading
    quick_is (3 ∷ []) (3 ∷ []) 9 3 out_of_order gives found 8 1 ∷
    quick_is (3 ∷ []) (3 ∷ []) 9 5 out_of_order gives found 5 1 ∷
    quick_is (3 ∷ []) (3 ∷ []) 9 4 out_of_order gives is_none ∷
    quick_is (3 ∷ []) (3 ∷ []) 9 3 (hex "01 07 02 03 01 61 03 01 62") gives found 5 1 ∷
    -- the next marker does not end it either
    quick_is (3 ∷ 6 ∷ []) (3 ∷ 6 ∷ []) 9 3 out_of_order gives found 8 1 ∷
    -- the seventeenth entry is not read
    quick_is (0 ∷ []) (3 ∷ []) 54 15 (called_a 17) gives found 50 1 ∷
    quick_is (0 ∷ []) (3 ∷ []) 54 16 (called_a 17) gives is_none ∷
    -- markers of another payload: what stands there is read as entries
    quick_is (0 ∷ []) (3 ∷ []) 9 109 (hex P) gives found 5 1 ∷
    quick_is (0 ∷ []) (3 ∷ []) 9 2 (hex P) gives found 8 0 ∷
    quick_is (0 ∷ []) (3 ∷ []) 9 1 (hex P) gives is_none ∷
    -- an entry that does not fit before the end: its text, its length, its index
    quick_is (0 ∷ []) (3 ∷ []) 8 3 in_order_bytes gives is_none ∷
    quick_is (0 ∷ []) (3 ∷ []) 7 3 in_order_bytes gives is_none ∷
    quick_is (0 ∷ []) (3 ∷ []) 6 3 in_order_bytes gives is_none ∷
    quick_is (0 ∷ []) (3 ∷ []) 8 0 in_order_bytes gives found 5 1 ∷
    quick_is (5 ∷ []) (3 ∷ []) 6 5 (hex "01 04 01 05 05 61") gives is_none ∷
    quick_is (5 ∷ []) (3 ∷ []) 4 5 (hex "01 04 01 85") gives is_none ∷
    -- a number of refusal 3, as an index and as a length, also before the one that is asked
    quick_is (0 ∷ []) (3 ∷ []) 9 0 (hex "01 07 01 FF FF FF FF 1F 00") gives is_none ∷
    quick_is (5 ∷ []) (3 ∷ []) 9 5 (hex "01 07 01 05 FF FF FF FF 1F") gives is_none ∷
    quick_is (0 ∷ []) (3 ∷ []) 10 0 (hex "01 08 02 FF FF FF FF 1F 00 00") gives is_none ∷
    -- text is not looked at
    quick_is (5 ∷ []) (3 ∷ []) 6 5 (hex "01 04 01 05 01 FF") gives found 5 1 ∷
    -- 22 for unequal lists at the shorter's length, before the end and before the order
    quick_is (0 ∷ 3 ∷ []) (3 ∷ []) 9 0 in_order_bytes gives refusal 22 1 ∷
    quick_is (0 ∷ []) (3 ∷ 6 ∷ []) 9 0 in_order_bytes gives refusal 22 1 ∷
    quick_is [] (3 ∷ []) 10 0 in_order_bytes gives refusal 22 0 ∷
    quick_is (3 ∷ 0 ∷ 0 ∷ []) (6 ∷ 3 ∷ []) 10 0 in_order_bytes gives refusal 22 2 ∷
    -- then for an end outside the payload, at the lists' length; its own length is inside
    quick_is (0 ∷ []) (3 ∷ []) 10 0 in_order_bytes gives refusal 22 1 ∷
    quick_is (3 ∷ 0 ∷ []) (6 ∷ 3 ∷ []) 10 0 in_order_bytes gives refusal 22 2 ∷
    quick_is [] [] 10 0 in_order_bytes gives refusal 22 0 ∷
    quick_is [] [] 9 0 in_order_bytes gives is_none ∷
    quick_is [] [] 1 0 [] gives refusal 22 0 ∷
    -- then at the first position at fault: an index or an offset that does not rise, an offset not below the end
    quick_is (3 ∷ 3 ∷ []) (3 ∷ 6 ∷ []) 9 0 in_order_bytes gives refusal 22 1 ∷
    quick_is (0 ∷ 3 ∷ []) (3 ∷ 3 ∷ []) 9 0 in_order_bytes gives refusal 22 1 ∷
    quick_is (0 ∷ []) (9 ∷ []) 9 0 in_order_bytes gives refusal 22 0 ∷
    quick_is (0 ∷ 3 ∷ []) (3 ∷ 9 ∷ []) 9 0 in_order_bytes gives refusal 22 1 ∷
    quick_is (0 ∷ []) (0 ∷ []) 0 0 in_order_bytes gives refusal 22 0 ∷
    -- the first of both lists together
    quick_is (2 ∷ 1 ∷ 3 ∷ []) (3 ∷ 4 ∷ 4 ∷ []) 9 0 in_order_bytes gives refusal 22 1 ∷
    quick_is (1 ∷ 2 ∷ 2 ∷ []) (3 ∷ 3 ∷ 4 ∷ []) 9 0 in_order_bytes gives refusal 22 1 ∷
    -- the last position, and a question that would be none
    quick_is (1 ∷ 2 ∷ 2 ∷ []) (3 ∷ 4 ∷ 5 ∷ []) 9 0 in_order_bytes gives refusal 22 2 ∷
    quick_is (5 ∷ 4 ∷ []) (3 ∷ 6 ∷ []) 9 0 in_order_bytes gives refusal 22 1 ∷
    -- a first position has none before it, and may be 0
    quick_is (0 ∷ []) (0 ∷ []) 9 1 in_order_bytes gives found 2 7 ∷
    -- no markers at all
    quick_is [] [] 0 0 [] gives is_none ∷
    quick_is [] [] 0 0 in_order_bytes gives is_none ∷
    []

pub questions_hold : map computed questions ≡ map stated questions
unfolding questions computed stated a_names called_a quick_is own_is in_order_bytes out_of_order P hex digit of place number groups utf8 characters character completes sized name remaining lookup rows table known known_kind contents subsections payload judge_names answer asked entry entries all_entries thinned functions_part markers_of unless_long first_fault lists_fault last_not_above first_with from_marker quick
questions_hold = refl
