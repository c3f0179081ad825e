-- K8: wrong tools that make markers: one that marks every fifteenth entry or every seventeenth, or not the first; that gives the offset of a name, or counts from where the subsection begins; that gives the length of the payload, or where the last marker stands, as the end, or none for an empty map; that makes markers of a payload that is refused further on; that writes into one list where the other is short, or behind the markers, or gives the length of a list with refusal 13. And wrong tools that ask with them: one that reads a seventeenth entry; that begins at the marker before the right one, or at the first where all are above; that ends at a greater index or at the next marker; that answers an entry past the end, or an index with no name behind it, or passes over a number that is too large; that looks at text; that gives the last of two entries with one index; that takes the length of the payload for an end outside it; that checks the order before the lengths or the end, one list before the other, or not the last position. Ruled out by tables of inputs, each with what every result must say that meets the promise.
use Rattle.std.specs.Prelude.{ℕ, zero, suc, ◌+◌, ◌*◌, List, [], ◌∷◌}
use Rattle.std.proofs.Math.Option.{Option, none, some}
use Rattle.format.specs.Examples.{hex}
use Rattle.format.specs.Markers.{made, made_as, indices_of, offsets_of, quick as quickly}
use Rattle.format.specs.Outputs.{over}
use Rattle.format.specs.Questions.{as_place}
use Rattle.format.specs.Reading.{Judged, accepted, refused, map_judged}
use Rattle.format.specs.declared.Place.{Place}
use Rattle.promises.specs.RuledOut.{Row, ◌demands◌}

-- the functions 0, 1, 2 .. all called a, in entries of three bytes: the first stands at 3
abbrev pub a_names : (first n : ℕ) → List ℕ
a_names first zero = []
a_names first (suc n) = first ∷ 1 ∷ 0x61 ∷ a_names (suc first) n

abbrev pub called_a : ℕ → List ℕ
called_a n = 1 ∷ (1 + 3 * n) ∷ n ∷ a_names 0 n

-- an end and a number of markers, or a name's offset and length
abbrev pub place : (offset length : ℕ) → Judged (Option Place)
place offset length = accepted (some (record { offset = record { 0 = offset }; length = length }))

-- MAKING. What is lent, a payload and two lists; what is said, and what both lists hold afterwards
abbrev pub Lent : Type 0
Lent = List ℕ × List ℕ × List ℕ

abbrev pub Said : Type 0
Said = Judged (Option Place) × List ℕ × List ℕ

-- sixteen names, seventeen and thirty_three; too little room in one list, and in the other; between other subsections; an empty map, and none; refused behind the map, and without room
abbrev pub making_rows : List (Row Lent Said)
making_rows =
    (called_a 16, 7 ∷ 8 ∷ [], 7 ∷ 8 ∷ []) demands (place 51 1, 0 ∷ 8 ∷ [], 3 ∷ 8 ∷ []) ∷
    (called_a 17, 7 ∷ 8 ∷ 9 ∷ [], 7 ∷ 8 ∷ []) demands (place 54 2, 0 ∷ 16 ∷ 9 ∷ [], 3 ∷ 51 ∷ []) ∷
    (called_a 33, 7 ∷ 8 ∷ 9 ∷ [], 7 ∷ 8 ∷ 9 ∷ []) demands (place 102 3, 0 ∷ 16 ∷ 32 ∷ [], 3 ∷ 51 ∷ 99 ∷ []) ∷
    (called_a 17, 7 ∷ [], 7 ∷ 8 ∷ 9 ∷ []) demands (refused 13 2, 7 ∷ [], 7 ∷ 8 ∷ 9 ∷ []) ∷
    (called_a 17, 7 ∷ 8 ∷ 9 ∷ [], 7 ∷ []) demands (refused 13 2, 7 ∷ 8 ∷ 9 ∷ [], 7 ∷ []) ∷
    (hex "00 02 01 6D 01 07 02 05 01 61 08 01 62 02 01 00", 7 ∷ [], 7 ∷ []) demands (place 13 1, 5 ∷ [], 7 ∷ []) ∷
    (hex "01 01 00", 7 ∷ [], []) demands (place 3 0, 7 ∷ [], []) ∷
    (hex "02 01 00", 7 ∷ [], 7 ∷ []) demands (place 0 0, 7 ∷ [], 7 ∷ []) ∷
    (hex "01 04 01 05 01 61 01 00", 7 ∷ [], 7 ∷ []) demands (refused 9 6, 7 ∷ [], 7 ∷ []) ∷
    (hex "01 07 02 03 01 62 03 01 61", [], []) demands (refused 11 6, [], []) ∷
    []

abbrev pub making : Lent → Said
making x = (map_judged made_as (made x.0 x.1 x.2), over (map_judged indices_of (made x.0 x.1 x.2)) x.1, over (map_judged offsets_of (made x.0 x.1 x.2)) x.2)

-- THE QUICK QUESTION. What is lent: a payload, two lists, an end and the function asked
abbrev pub Asked : Type 0
Asked = List ℕ × List ℕ × List ℕ × ℕ × ℕ

-- the functions 0 and 3; 5 and 3, which are out of order
abbrev pub in_order_bytes : List ℕ
in_order_bytes = hex "01 07 02 00 01 61 03 01 62"

abbrev pub out_of_order : List ℕ
out_of_order = hex "01 07 02 05 01 61 03 01 62"

abbrev pub quick_rows : List (Row Asked (Judged (Option Place)))
quick_rows =
    -- the seventeenth entry from the right marker, and from the one before it, which reads sixteen
    (called_a 17, 0 ∷ 16 ∷ [], 3 ∷ 51 ∷ [], 54, 16) demands place 53 1 ∷
    (called_a 17, 0 ∷ 16 ∷ [], 3 ∷ 51 ∷ [], 54, 15) demands place 50 1 ∷
    (called_a 17, 0 ∷ [], 3 ∷ [], 54, 15) demands place 50 1 ∷
    (called_a 17, 0 ∷ [], 3 ∷ [], 54, 16) demands accepted none ∷
    -- a greater index does not end it, nor does the next marker; the first of two answers
    (out_of_order, 3 ∷ [], 3 ∷ [], 9, 3) demands place 8 1 ∷
    (out_of_order, 3 ∷ 4 ∷ [], 3 ∷ 6 ∷ [], 9, 3) demands place 8 1 ∷
    (hex "01 07 02 03 01 61 03 01 62", 3 ∷ [], 3 ∷ [], 9, 3) demands place 5 1 ∷
    -- below the first marker
    (out_of_order, 6 ∷ [], 3 ∷ [], 9, 5) demands accepted none ∷
    -- an end that is the payload's length; one in the text, the length and before the index of the second entry
    (in_order_bytes, 0 ∷ [], 3 ∷ [], 9, 3) demands place 8 1 ∷
    (in_order_bytes, 0 ∷ [], 3 ∷ [], 8, 3) demands accepted none ∷
    (in_order_bytes, 0 ∷ [], 3 ∷ [], 7, 3) demands accepted none ∷
    (in_order_bytes, 0 ∷ [], 3 ∷ [], 6, 3) demands accepted none ∷
    (in_order_bytes, 0 ∷ [], 3 ∷ [], 8, 0) demands place 5 1 ∷
    -- a number that is too large, before the entry that is asked; text that is none
    (hex "01 0A 02 FF FF FF FF 1F 00 03 01 62", 0 ∷ [], 3 ∷ [], 12, 3) demands accepted none ∷
    (hex "01 04 01 05 01 FF", 5 ∷ [], 3 ∷ [], 6, 5) demands place 5 1 ∷
    -- the markers of another payload: what stands there is read as entries
    (hex "00 02 01 6D 01 07 02 00 01 61 03 01 62", 0 ∷ [], 3 ∷ [], 9, 109) demands place 5 1 ∷
    (hex "00 02 01 6D 01 07 02 00 01 61 03 01 62", 0 ∷ [], 3 ∷ [], 9, 0) demands accepted none ∷
    -- 22 for unequal lists, at the shorter's length, before the end and the order
    (in_order_bytes, 0 ∷ 3 ∷ [], 3 ∷ [], 9, 0) demands refused 22 1 ∷
    (in_order_bytes, 0 ∷ [], 3 ∷ 6 ∷ [], 9, 0) demands refused 22 1 ∷
    (in_order_bytes, 3 ∷ 0 ∷ 0 ∷ [], 6 ∷ 3 ∷ [], 10, 0) demands refused 22 2 ∷
    -- for an end one past the payload, at the lists' length, before the order
    (in_order_bytes, 0 ∷ [], 3 ∷ [], 10, 0) demands refused 22 1 ∷
    (in_order_bytes, 3 ∷ 0 ∷ [], 6 ∷ 3 ∷ [], 10, 0) demands refused 22 2 ∷
    -- at the first position at fault: an index, an offset, an offset not below the end; in both lists; the last position
    (in_order_bytes, 3 ∷ 3 ∷ [], 3 ∷ 6 ∷ [], 9, 0) demands refused 22 1 ∷
    (in_order_bytes, 0 ∷ 3 ∷ [], 3 ∷ 3 ∷ [], 9, 0) demands refused 22 1 ∷
    (in_order_bytes, 0 ∷ [], 9 ∷ [], 9, 0) demands refused 22 0 ∷
    (in_order_bytes, 2 ∷ 1 ∷ 3 ∷ [], 3 ∷ 4 ∷ 4 ∷ [], 9, 0) demands refused 22 1 ∷
    (in_order_bytes, 1 ∷ 2 ∷ 2 ∷ [], 3 ∷ 3 ∷ 4 ∷ [], 9, 0) demands refused 22 1 ∷
    (in_order_bytes, 1 ∷ 2 ∷ 2 ∷ [], 3 ∷ 4 ∷ 5 ∷ [], 9, 0) demands refused 22 2 ∷
    []

abbrev pub asking : Asked → Judged (Option Place)
asking x = as_place (quickly x.0 x.1 x.2 x.3 (record { 0 = x.4 }))
