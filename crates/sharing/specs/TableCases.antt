-- K12. Cases of the shared table (docs/RULES.md), each a history from the start: what its calls answer, with the lent buffers, and what table and store are then. Computed by the checker. Assumes nothing.
use Rattle.std.specs.Prelude.{ℕ, suc, ◌+◌, ◌-◌, ◌*◌, ltb, cond, List, [], ◌∷◌, ◌++◌, ◌≡◌, refl, length, replicate, set}
use Rattle.format.specs.Bytes.{same}
use Rattle.format.specs.Canonical.{write_part, write_rows, write_table, unless_empty, keep_rows, bare, write_content, write_subsections, rewrite_names, canonical_names}
use Rattle.format.specs.Examples.{digit, hex}
use Rattle.format.specs.Names.{known, known_kind, contents, subsections, payload, judge_names}
use Rattle.format.specs.Numbers.{number, groups, shortest, fewest}
use Rattle.format.specs.Parts.{sized, name, remaining}
use Rattle.format.specs.Questions.{answer, asked, ask_at, ask, as_told}
use Rattle.format.specs.Tables.{lookup, size, map_table, rows, table}
use Rattle.format.specs.Text.{utf8, characters, character, completes}
use Rattle.sharing.specs.Blocks.{need, extra, words, little_endian, check, right, are_all_right, body, seal, scatter_in, scatter, cut, join, bodies, gather}
use Rattle.sharing.specs.Model.{Call, opening, asking, closing, Answer, refusal, granted, nothing, found, closed, over, desk, after, first_true, with_hold, with_work, front, replied, reply}
use Rattle.sharing.specs.Named.{names, function_name, name_in}
use Rattle.sharing.specs.Step.{After, leaves, unused, joined, released, leading, newly, placed, opened_in, judged, asked_at, closed_at, fitting, lent, step}
use Rattle.sharing.specs.Table.{Mark, Table, started, length_fits, blocks, rows_right, find, reach, taken, starts_free, first_run, paste}

-- what happens to table and store: a call; or somebody else writes a byte of the store
pub data Happening : Type 0 where
  call : Call → Happening
  written : (at byte : ℕ) → Happening

abbrev pub behind : Happening → Table → List ℕ → After
behind (call c) t s = step names t s c
behind (written at byte) t s = leaves t (set s at byte) closed

-- the payloads that stand in the store: first block, users and length
abbrev pub row_at : ℕ → Mark → List (ℕ × ℕ × ℕ) → List (ℕ × ℕ × ℕ)
row_at block m rest = cond (ltb 0 m.users) ((block, m.users, m.size) ∷ rest) rest

abbrev pub rows_from : ℕ → List Mark → List (ℕ × ℕ × ℕ)
rows_from block [] = []
rows_from block (m ∷ ms) = row_at block m (rows_from (suc block) ms)

-- the answers up to here, and what table and store are
pub record Told : Type 0 where
  pub answers : List Answer
  pub table : Table
  pub store : List ℕ

abbrev pub answered : Happening → After → List Answer → Told
answered (call c) x before = record { answers = before ++ (x.answer ∷ []); table = x.table; store = x.store }
answered (written at byte) x before = record { answers = before; table = x.table; store = x.store }

abbrev pub tells_from : Told → List Happening → Told
tells_from r [] = r
tells_from r (h ∷ hs) = tells_from (answered h (behind h r.table r.store) r.answers) hs

abbrev pub over_a_store : ℕ → List ℕ → Told
over_a_store n s = record { answers = []; table = started n; store = s }

-- what is told in the end: the answers, the payloads that stand in the store, and the store
abbrev pub End : Type 0
End = List Answer × List (ℕ × ℕ × ℕ) × List ℕ

abbrev pub ending : Told → End
ending r = (r.answers, rows_from 0 r.table.marks, r.store)

-- from a start over so many bytes; over those of the store that is lent
abbrev pub started_with : ℕ → List ℕ → List Happening → End
started_with n s hs = ending (tells_from (over_a_store n s) hs)

abbrev pub tells : List ℕ → List Happening → End
tells s hs = started_with (length s) s hs

-- Payloads: function 0 called a, and the same padded; called b; called c; with an empty name; and a kept subsection of so many bytes
abbrev pub one : List ℕ
one = hex "01 04 01 00 01 61"

abbrev pub padded : List ℕ
padded = hex "01 85 00 01 80 00 01 61"

-- and with a local called x
abbrev with_local : List ℕ
with_local = hex "01 04 01 00 01 61 02 06 01 00 01 00 01 78"

abbrev pub two : List ℕ
two = hex "01 04 01 00 01 62"

abbrev pub three : List ℕ
three = hex "01 04 01 00 01 63"

abbrev pub unnamed : List ℕ
unnamed = hex "01 03 01 00 00"

unfoldable pub kept_of : ℕ → List ℕ
kept_of n = 0x63 ∷ (shortest n ++ replicate n 5)

-- Stores: so many blocks of zeros; a block of bytes, zeros and a check
abbrev pub free : ℕ → List ℕ
free n = replicate (n * 512) 0

unfoldable pub block_of : List ℕ → List ℕ → List ℕ
block_of bytes sum = bytes ++ (replicate (508 - length bytes) 0 ++ sum)

abbrev pub block_one : List ℕ
block_one = block_of one (hex "02 65 01 00")

abbrev pub block_two : List ℕ
block_two = block_of two (hex "02 66 01 00")

-- Calls
abbrev pub opens : ℕ → List ℕ → List ℕ → Happening
opens customer payload work = call (opening customer payload work)

abbrev pub asks : ℕ → ℕ → ℕ → List ℕ → Happening
asks customer hold index out = call (asking customer hold index out)

abbrev pub shuts : ℕ → ℕ → Happening
shuts customer hold = call (closing customer hold)

-- six bytes of a work buffer, and one of an output
abbrev pub work : List ℕ
work = replicate 6 9

abbrev pub out : List ℕ
out = 7 ∷ []

abbrev eight_holds : List Happening
eight_holds = opens 2 [] [] ∷ opens 2 [] [] ∷ opens 2 [] [] ∷ opens 2 [] [] ∷ opens 2 [] [] ∷ opens 2 [] [] ∷ opens 2 [] [] ∷ opens 2 [] [] ∷ []

abbrev eight_granted : List Answer
eight_granted = granted 0 [] ∷ granted 1 [] ∷ granted 2 [] ∷ granted 3 [] ∷ granted 4 [] ∷ granted 5 [] ∷ granted 6 [] ∷ granted 7 [] ∷ []

-- the open of another, a question and a close behind a damage
abbrev three_calls : List Happening
three_calls = opens 1 two work ∷ asks 0 0 0 out ∷ shuts 0 0 ∷ []

abbrev pub is : List Answer → List (ℕ × ℕ × ℕ) → List ℕ → End
is answers rows store = (answers, rows, store)

-- a payload of no bytes takes a block; one byte is refused; 508 take one block, 509 two, 1,016 two
sizes : (tells (replicate 512 255) (opens 3 [] [] ∷ []) ≡ is (granted 0 [] ∷ []) ((0, 1, 0) ∷ []) (free 1))
    × (tells (replicate 512 255) (opens 3 (1 ∷ []) out ∷ []) ≡ is (refusal 2 1 out ∷ []) [] (replicate 512 255))
    × (tells (replicate 1536 255) (opens 0 (kept_of 505) (replicate 508 9) ∷ opens 1 (kept_of 506) (replicate 509 9) ∷ []) ≡ is (granted 0 (kept_of 505) ∷ granted 0 (kept_of 506) ∷ []) ((0, 1, 508) ∷ (1, 1, 509) ∷ []) (block_of (hex "63 F9 03" ++ replicate 505 5) (hex "D9 71 7C 7D") ++ (block_of (hex "63 FA 03" ++ replicate 505 5) (hex "D9 72 7C 7D") ++ block_of (5 ∷ []) (hex "05 00 00 00"))))
    × (tells (free 2) (opens 0 (kept_of 1013) (replicate 1016 9) ∷ []) ≡ is (granted 0 (kept_of 1013) ∷ []) ((0, 1, 1016) ∷ []) (block_of (hex "63 F5 07" ++ replicate 505 5) (hex "D9 6D 80 7D") ++ block_of (replicate 508 5) (hex "7B 7D 7D 7D")))
unfolding kept_of block_of hex digit number groups shortest fewest utf8 characters character completes sized name remaining lookup size map_table rows table known known_kind contents subsections payload judge_names write_part write_rows write_table unless_empty keep_rows bare write_content write_subsections rewrite_names canonical_names answer asked ask_at ask as_told need extra words little_endian check right are_all_right body seal scatter_in scatter cut join bodies gather over desk after first_true with_hold with_work front replied reply names function_name name_in unused joined released leading newly placed opened_in judged asked_at closed_at fitting lent step started length_fits blocks rows_right find reach taken starts_free first_run paste same
sizes = (refl, refl, refl, refl)

-- two encodings of one payload by two customers
encodings : tells (free 1) (opens 0 one work ∷ opens 1 padded (replicate 8 9) ∷ asks 0 0 0 out ∷ asks 1 0 0 out ∷ []) ≡ is (granted 0 one ∷ granted 0 (one ++ (9 ∷ 9 ∷ [])) ∷ found 1 (0x61 ∷ []) ∷ found 1 (0x61 ∷ []) ∷ []) ((0, 2, 6) ∷ []) block_one
unfolding kept_of block_of hex digit number groups shortest fewest utf8 characters character completes sized name remaining lookup size map_table rows table known known_kind contents subsections payload judge_names write_part write_rows write_table unless_empty keep_rows bare write_content write_subsections rewrite_names canonical_names answer asked ask_at ask as_told need extra words little_endian check right are_all_right body seal scatter_in scatter cut join bodies gather over desk after first_true with_hold with_work front replied reply names function_name name_in unused joined released leading newly placed opened_in judged asked_at closed_at fitting lent step started length_fits blocks rows_right find reach taken starts_free first_run paste same
encodings = refl

-- equal function names and other locals: two payloads
alike : tells (free 2) (opens 0 one work ∷ opens 1 with_local (replicate 14 9) ∷ asks 0 0 0 out ∷ asks 1 0 0 out ∷ []) ≡ is (granted 0 one ∷ granted 0 with_local ∷ found 1 (0x61 ∷ []) ∷ found 1 (0x61 ∷ []) ∷ []) ((0, 1, 6) ∷ (1, 1, 14) ∷ []) (block_one ++ block_of with_local (hex "04 DD 04 06"))
unfolding kept_of block_of hex digit number groups shortest fewest utf8 characters character completes sized name remaining lookup size map_table rows table known known_kind contents subsections payload judge_names write_part write_rows write_table unless_empty keep_rows bare write_content write_subsections rewrite_names canonical_names answer asked ask_at ask as_told need extra words little_endian check right are_all_right body seal scatter_in scatter cut join bodies gather over desk after first_true with_hold with_work front replied reply names function_name name_in unused joined released leading newly placed opened_in judged asked_at closed_at fitting lent step started length_fits blocks rows_right find reach taken starts_free first_run paste same
alike = refl

-- the eighth hold and the ninth, whose work buffer is judged before; closed and opened again
holds : (tells (free 1) (eight_holds ++ (opens 2 one work ∷ opens 2 one (replicate 5 9) ∷ [])) ≡ is (eight_granted ++ (refusal 25 0 work ∷ refusal 13 6 (replicate 5 9) ∷ [])) ((0, 8, 0) ∷ []) (free 1))
    × (tells (free 2) (opens 0 [] [] ∷ opens 0 one work ∷ shuts 0 0 ∷ opens 0 one work ∷ []) ≡ is (granted 0 [] ∷ granted 1 one ∷ closed ∷ granted 0 one ∷ []) ((1, 2, 6) ∷ []) (free 1 ++ block_one))
unfolding kept_of block_of hex digit number groups shortest fewest utf8 characters character completes sized name remaining lookup size map_table rows table known known_kind contents subsections payload judge_names write_part write_rows write_table unless_empty keep_rows bare write_content write_subsections rewrite_names canonical_names answer asked ask_at ask as_told need extra words little_endian check right are_all_right body seal scatter_in scatter cut join bodies gather over desk after first_true with_hold with_work front replied reply names function_name name_in unused joined released leading newly placed opened_in judged asked_at closed_at fitting lent step started length_fits blocks rows_right find reach taken starts_free first_run paste same
holds = (refl, refl)

-- the hold of another customer
strangers : tells (free 1) (opens 0 one work ∷ shuts 1 0 ∷ asks 1 0 0 out ∷ asks 0 0 0 out ∷ []) ≡ is (granted 0 one ∷ refusal 24 0 [] ∷ refusal 24 0 out ∷ found 1 (0x61 ∷ []) ∷ []) ((0, 1, 6) ∷ []) block_one
unfolding kept_of block_of hex digit number groups shortest fewest utf8 characters character completes sized name remaining lookup size map_table rows table known known_kind contents subsections payload judge_names write_part write_rows write_table unless_empty keep_rows bare write_content write_subsections rewrite_names canonical_names answer asked ask_at ask as_told need extra words little_endian check right are_all_right body seal scatter_in scatter cut join bodies gather over desk after first_true with_hold with_work front replied reply names function_name name_in unused joined released leading newly placed opened_in judged asked_at closed_at fitting lent step started length_fits blocks rows_right find reach taken starts_free first_run paste same
strangers = refl

-- users: one of two closes; the last closes, and the block is used again
users : (tells (free 1) (opens 0 one work ∷ opens 1 one work ∷ shuts 0 0 ∷ asks 1 0 0 out ∷ []) ≡ is (granted 0 one ∷ granted 0 one ∷ closed ∷ found 1 (0x61 ∷ []) ∷ []) ((0, 1, 6) ∷ []) block_one)
    × (tells (free 1) (opens 0 one work ∷ opens 1 one work ∷ shuts 0 0 ∷ shuts 1 0 ∷ opens 2 two work ∷ []) ≡ is (granted 0 one ∷ granted 0 one ∷ closed ∷ closed ∷ granted 0 two ∷ []) ((0, 1, 6) ∷ []) block_two)
unfolding kept_of block_of hex digit number groups shortest fewest utf8 characters character completes sized name remaining lookup size map_table rows table known known_kind contents subsections payload judge_names write_part write_rows write_table unless_empty keep_rows bare write_content write_subsections rewrite_names canonical_names answer asked ask_at ask as_told need extra words little_endian check right are_all_right body seal scatter_in scatter cut join bodies gather over desk after first_true with_hold with_work front replied reply names function_name name_in unused joined released leading newly placed opened_in judged asked_at closed_at fitting lent step started length_fits blocks rows_right find reach taken starts_free first_run paste same
users = (refl, refl)

-- the first run of free blocks that is long enough; three blocks are free, but not in a row
runs : tells (free 5) (opens 0 one work ∷ opens 1 (kept_of 506) (replicate 509 9) ∷ opens 2 two work ∷ shuts 1 0 ∷ opens 1 (kept_of 1014) (replicate 1017 9) ∷ opens 3 three work ∷ []) ≡ is (granted 0 one ∷ granted 0 (kept_of 506) ∷ granted 0 two ∷ closed ∷ refusal 26 0 (kept_of 1014) ∷ granted 0 three ∷ []) ((0, 1, 6) ∷ (1, 1, 6) ∷ (3, 1, 6) ∷ []) (block_one ++ (block_of three (hex "02 67 01 00") ++ (block_of (5 ∷ []) (hex "05 00 00 00") ++ (block_two ++ free 1))))
unfolding kept_of block_of hex digit number groups shortest fewest utf8 characters character completes sized name remaining lookup size map_table rows table known known_kind contents subsections payload judge_names write_part write_rows write_table unless_empty keep_rows bare write_content write_subsections rewrite_names canonical_names answer asked ask_at ask as_told need extra words little_endian check right are_all_right body seal scatter_in scatter cut join bodies gather over desk after first_true with_hold with_work front replied reply names function_name name_in unused joined released leading newly placed opened_in judged asked_at closed_at fitting lent step started length_fits blocks rows_right find reach taken starts_free first_run paste same
runs = refl

-- damage: in the payload, in the zeros behind it, in the check: seen by an open and by a question, and not by a close
damaged : (tells (free 1) (opens 0 one work ∷ written 5 0x62 ∷ three_calls) ≡ is (granted 0 one ∷ refusal 27 0 two ∷ refusal 27 0 out ∷ closed ∷ []) [] (set block_one 5 0x62))
    × (tells (free 1) (opens 0 one work ∷ written 100 1 ∷ three_calls) ≡ is (granted 0 one ∷ refusal 27 0 two ∷ refusal 27 0 out ∷ closed ∷ []) [] (set block_one 100 1))
    × (tells (free 1) (opens 0 one work ∷ written 508 3 ∷ three_calls) ≡ is (granted 0 one ∷ refusal 27 0 two ∷ refusal 27 0 out ∷ closed ∷ []) [] (set block_one 508 3))
unfolding kept_of block_of hex digit number groups shortest fewest utf8 characters character completes sized name remaining lookup size map_table rows table known known_kind contents subsections payload judge_names write_part write_rows write_table unless_empty keep_rows bare write_content write_subsections rewrite_names canonical_names answer asked ask_at ask as_told need extra words little_endian check right are_all_right body seal scatter_in scatter cut join bodies gather over desk after first_true with_hold with_work front replied reply names function_name name_in unused joined released leading newly placed opened_in judged asked_at closed_at fitting lent step started length_fits blocks rows_right find reach taken starts_free first_run paste same
damaged = (refl, refl, refl)

-- in a free block nobody sees it; in a payload of another an open does, and a question does not; once that is closed nobody does
others_damaged : (tells (free 2) (opens 0 one work ∷ written 515 1 ∷ opens 1 two work ∷ asks 0 0 0 out ∷ []) ≡ is (granted 0 one ∷ granted 0 two ∷ found 1 (0x61 ∷ []) ∷ []) ((0, 1, 6) ∷ (1, 1, 6) ∷ []) (block_one ++ block_two))
    × (tells (free 3) (opens 0 one work ∷ opens 1 two work ∷ written 512 3 ∷ asks 0 0 0 out ∷ asks 1 0 0 out ∷ opens 2 three work ∷ shuts 1 0 ∷ opens 2 three work ∷ []) ≡ is (granted 0 one ∷ granted 0 two ∷ found 1 (0x61 ∷ []) ∷ refusal 27 0 out ∷ refusal 27 0 three ∷ closed ∷ granted 0 three ∷ []) ((0, 1, 6) ∷ (1, 1, 6) ∷ []) (block_one ++ (block_of three (hex "02 67 01 00") ++ free 1)))
unfolding kept_of block_of hex digit number groups shortest fewest utf8 characters character completes sized name remaining lookup size map_table rows table known known_kind contents subsections payload judge_names write_part write_rows write_table unless_empty keep_rows bare write_content write_subsections rewrite_names canonical_names answer asked ask_at ask as_told need extra words little_endian check right are_all_right body seal scatter_in scatter cut join bodies gather over desk after first_true with_hold with_work front replied reply names function_name name_in unused joined released leading newly placed opened_in judged asked_at closed_at fitting lent step started length_fits blocks rows_right find reach taken starts_free first_run paste same
others_damaged = (refl, refl)

-- damage that the check does not show: a question answers from the bytes as they stand, 27 where they are refused, and an open stores anew
hidden : (tells (free 2) (opens 0 one work ∷ written 5 0x62 ∷ written 9 255 ∷ written 10 255 ∷ written 11 255 ∷ asks 0 0 0 out ∷ opens 1 one work ∷ []) ≡ is (granted 0 one ∷ found 1 (0x62 ∷ []) ∷ granted 0 one ∷ []) ((0, 1, 6) ∷ (1, 1, 6) ∷ []) (block_of (hex "01 04 01 00 01 62 00 00 00 FF FF FF") (hex "02 65 01 00") ++ block_one))
    × (tells (free 1) (opens 0 one work ∷ written 4 2 ∷ written 8 255 ∷ written 9 255 ∷ written 10 255 ∷ written 11 255 ∷ asks 0 0 0 out ∷ asks 0 0 0 [] ∷ []) ≡ is (granted 0 one ∷ refusal 27 0 out ∷ refusal 27 0 [] ∷ []) ((0, 1, 6) ∷ []) (block_of (hex "01 04 01 00 02 61 00 00 FF FF FF FF") (hex "02 65 01 00")))
unfolding kept_of block_of hex digit number groups shortest fewest utf8 characters character completes sized name remaining lookup size map_table rows table known known_kind contents subsections payload judge_names write_part write_rows write_table unless_empty keep_rows bare write_content write_subsections rewrite_names canonical_names answer asked ask_at ask as_told need extra words little_endian check right are_all_right body seal scatter_in scatter cut join bodies gather over desk after first_true with_hold with_work front replied reply names function_name name_in unused joined released leading newly placed opened_in judged asked_at closed_at fitting lent step started length_fits blocks rows_right find reach taken starts_free first_run paste same
hidden = (refl, refl)

-- another store than at the start; no block, a part of one, 129; the length in 64 bits
lengths : (started_with 512 (free 2) (opens 16 one work ∷ asks 0 8 0 out ∷ shuts 0 8 ∷ []) ≡ is (refusal 30 0 work ∷ refusal 30 0 out ∷ refusal 30 0 [] ∷ []) [] (free 2))
    × (tells [] (opens 0 [] [] ∷ []) ≡ is (refusal 30 0 [] ∷ []) [] [])
    × (tells (replicate 513 0) (opens 0 [] [] ∷ []) ≡ is (refusal 30 0 [] ∷ []) [] (replicate 513 0))
    × (started_with (4294967296 + 512) (free 1) (opens 0 [] [] ∷ []) ≡ is (refusal 30 0 [] ∷ []) [] (free 1))
unfolding kept_of block_of hex digit number groups shortest fewest utf8 characters character completes sized name remaining lookup size map_table rows table known known_kind contents subsections payload judge_names write_part write_rows write_table unless_empty keep_rows bare write_content write_subsections rewrite_names canonical_names answer asked ask_at ask as_told need extra words little_endian check right are_all_right body seal scatter_in scatter cut join bodies gather over desk after first_true with_hold with_work front replied reply names function_name name_in unused joined released leading newly placed opened_in judged asked_at closed_at fitting lent step started length_fits blocks rows_right find reach taken starts_free first_run paste same
lengths = (refl, refl, refl, refl)

-- no customer 16, before all else but the store; no hold 8, and none that is not open
nobody : (tells (free 1) (opens 16 (1 ∷ []) out ∷ asks 16 8 0 out ∷ shuts 16 8 ∷ []) ≡ is (refusal 23 0 out ∷ refusal 23 0 out ∷ refusal 23 0 [] ∷ []) [] (free 1))
    × (tells (free 1) (asks 15 8 0 out ∷ asks 15 0 0 out ∷ shuts 15 8 ∷ shuts 15 7 ∷ []) ≡ is (refusal 24 0 out ∷ refusal 24 0 out ∷ refusal 24 0 [] ∷ refusal 24 0 [] ∷ []) [] (free 1))
unfolding kept_of block_of hex digit number groups shortest fewest utf8 characters character completes sized name remaining lookup size map_table rows table known known_kind contents subsections payload judge_names write_part write_rows write_table unless_empty keep_rows bare write_content write_subsections rewrite_names canonical_names answer asked ask_at ask as_told need extra words little_endian check right are_all_right body seal scatter_in scatter cut join bodies gather over desk after first_true with_hold with_work front replied reply names function_name name_in unused joined released leading newly placed opened_in judged asked_at closed_at fitting lent step started length_fits blocks rows_right find reach taken starts_free first_run paste same
nobody = (refl, refl)

-- a question: no name, an empty one, too little room, and a longer output, whose other bytes stay
asked_so : tells (free 2) (opens 0 one work ∷ opens 0 unnamed work ∷ asks 0 0 1 out ∷ asks 0 1 0 out ∷ asks 0 0 0 [] ∷ asks 0 0 0 (7 ∷ 8 ∷ []) ∷ []) ≡ is (granted 0 one ∷ granted 1 (unnamed ++ (9 ∷ [])) ∷ nothing out ∷ found 0 out ∷ refusal 13 1 [] ∷ found 1 (0x61 ∷ 8 ∷ []) ∷ []) ((0, 1, 6) ∷ (1, 1, 5) ∷ []) (block_one ++ block_of unnamed (hex "01 03 01 00"))
unfolding kept_of block_of hex digit number groups shortest fewest utf8 characters character completes sized name remaining lookup size map_table rows table known known_kind contents subsections payload judge_names write_part write_rows write_table unless_empty keep_rows bare write_content write_subsections rewrite_names canonical_names answer asked ask_at ask as_told need extra words little_endian check right are_all_right body seal scatter_in scatter cut join bodies gather over desk after first_true with_hold with_work front replied reply names function_name name_in unused joined released leading newly placed opened_in judged asked_at closed_at fitting lent step started length_fits blocks rows_right find reach taken starts_free first_run paste same
asked_so = refl

-- 25 before 27, 27 before 26, and 27 before 13
in_order : tells (free 1) (eight_holds ++ (written 508 1 ∷ opens 2 one work ∷ opens 3 one work ∷ asks 2 0 0 [] ∷ [])) ≡ is (eight_granted ++ (refusal 25 0 work ∷ refusal 27 0 one ∷ refusal 27 0 [] ∷ [])) ((0, 8, 0) ∷ []) (set (free 1) 508 1)
unfolding kept_of block_of hex digit number groups shortest fewest utf8 characters character completes sized name remaining lookup size map_table rows table known known_kind contents subsections payload judge_names write_part write_rows write_table unless_empty keep_rows bare write_content write_subsections rewrite_names canonical_names answer asked ask_at ask as_told need extra words little_endian check right are_all_right body seal scatter_in scatter cut join bodies gather over desk after first_true with_hold with_work front replied reply names function_name name_in unused joined released leading newly placed opened_in judged asked_at closed_at fitting lent step started length_fits blocks rows_right find reach taken starts_free first_run paste same
in_order = refl

-- As many bytes as 128 blocks keep, and one more: 26, behind which the work buffer begins with the payload; a store of 129 blocks
fullest : (step names (started 65536) (free 128) (opening 0 (kept_of 65020) (replicate 65024 9))).answer ≡ granted 0 (kept_of 65020)
unfolding kept_of hex digit number groups shortest fewest utf8 characters character completes sized name remaining lookup size map_table rows table known known_kind contents subsections payload judge_names write_part write_rows write_table unless_empty keep_rows bare write_content write_subsections rewrite_names canonical_names answer asked ask_at ask as_told need extra words little_endian check right are_all_right body seal scatter_in scatter cut join bodies gather over desk after first_true with_hold with_work front replied reply names function_name name_in unused joined released leading newly placed opened_in judged asked_at closed_at fitting lent step started length_fits blocks rows_right find reach taken starts_free first_run paste same
fullest = refl

too_long : (step names (started 65536) (free 128) (opening 0 (kept_of 65021) (replicate 65025 9))).answer ≡ refusal 26 0 (kept_of 65021)
unfolding kept_of hex digit number groups shortest fewest utf8 characters character completes sized name remaining lookup size map_table rows table known known_kind contents subsections payload judge_names write_part write_rows write_table unless_empty keep_rows bare write_content write_subsections rewrite_names canonical_names answer asked ask_at ask as_told need extra words little_endian check right are_all_right body seal scatter_in scatter cut join bodies gather over desk after first_true with_hold with_work front replied reply names function_name name_in unused joined released leading newly placed opened_in judged asked_at closed_at fitting lent step started length_fits blocks rows_right find reach taken starts_free first_run paste same
too_long = refl

too_many : (step names (started 66048) (free 129) (opening 0 [] [])).answer ≡ refusal 30 0 []
unfolding kept_of hex digit number groups shortest fewest utf8 characters character completes sized name remaining lookup size map_table rows table known known_kind contents subsections payload judge_names write_part write_rows write_table unless_empty keep_rows bare write_content write_subsections rewrite_names canonical_names answer asked ask_at ask as_told need extra words little_endian check right are_all_right body seal scatter_in scatter cut join bodies gather over desk after first_true with_hold with_work front replied reply names function_name name_in unused joined released leading newly placed opened_in judged asked_at closed_at fitting lent step started length_fits blocks rows_right find reach taken starts_free first_run paste same
too_many = refl
