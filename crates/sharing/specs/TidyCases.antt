-- K13. Cases of the step that closes the gaps, each a history from the start as in TableCases.antt: what its calls answer, and what rows and store are then. Computed by the checker. Assumes nothing.
use Rattle.std.specs.Prelude.{ℕ, List, [], ◌∷◌, ◌++◌, ◌≡◌, refl, replicate, set}
use Rattle.format.specs.Bytes.{same}
use Rattle.format.specs.Canonical.{write_part, write_rows, write_table, unless_empty, keep_rows, bare, write_content, write_subsections, rewrite_names, canonical_names}
use Rattle.format.specs.Examples.{digit, hex}
use Rattle.format.specs.Names.{known, known_kind, contents, subsections, payload, judge_names}
use Rattle.format.specs.Numbers.{number, groups, shortest, fewest}
use Rattle.format.specs.Parts.{sized, name, remaining}
use Rattle.format.specs.Questions.{answer, asked, ask_at, ask, as_told}
use Rattle.format.specs.Tables.{lookup, size, map_table, rows, table}
use Rattle.format.specs.Text.{utf8, characters, character, completes}
use Rattle.sharing.specs.Blocks.{need, extra, words, little_endian, check, right, are_all_right, body, seal, scatter_in, scatter, cut, join, bodies, gather}
use Rattle.sharing.specs.Model.{tidying, refusal, granted, nothing, found, closed, tidied, over, desk, after, first_true, with_hold, with_work, front, replied, reply}
use Rattle.sharing.specs.Named.{names, function_name, name_in}
use Rattle.sharing.specs.Step.{leaves, unused, joined, released, leading, newly, placed, opened_in, judged, asked_at, closed_at, tidy, fitting, lent, step}
use Rattle.sharing.specs.Table.{Mark, mark, blank, Table, table as table_with, started, length_fits, blocks, rows_right, find, reach, taken, starts_free, first_run, paste}
use Rattle.sharing.specs.TableCases.{Happening, call, written, started_with, tells, one, two, three, kept_of, free, block_of, block_one, block_two, opens, asks, shuts, work, out, is}
use Rattle.sharing.specs.Tidy.{pack, rank, moved, packed_blocks, packed_marks, tidied_table}

abbrev tidies : Happening
tidies = call tidying

abbrev block_three : List ℕ
block_three = block_of three (hex "02 67 01 00")

-- nothing is stored: nothing is moved
nothing_stored : tells (replicate 1024 255) (tidies ∷ []) ≡ is (tidied ∷ []) [] (replicate 1024 255)
unfolding kept_of block_of hex digit number groups shortest fewest utf8 characters character completes sized name remaining lookup size map_table rows table known known_kind contents subsections payload judge_names write_part write_rows write_table unless_empty keep_rows bare write_content write_subsections rewrite_names canonical_names answer asked ask_at ask as_told need extra words little_endian check right are_all_right body seal scatter_in scatter cut join bodies gather over desk after first_true with_hold with_work front replied reply names function_name name_in unused joined released leading newly placed opened_in judged asked_at closed_at fitting lent step started length_fits blocks rows_right find reach taken starts_free first_run paste same pack rank moved packed_blocks packed_marks tidied_table tidy
nothing_stored = refl

-- no gap: in front of all that is free; and in the whole store
no_gap : (tells (free 3) (opens 0 one work ∷ opens 1 two work ∷ tidies ∷ asks 1 0 0 out ∷ []) ≡ is (granted 0 one ∷ granted 0 two ∷ tidied ∷ found 1 (0x62 ∷ []) ∷ []) ((0, 1, 6) ∷ (1, 1, 6) ∷ []) (block_one ++ (block_two ++ free 1)))
    × (tells (free 1) (opens 0 one work ∷ tidies ∷ asks 0 0 0 out ∷ []) ≡ is (granted 0 one ∷ tidied ∷ found 1 (0x61 ∷ []) ∷ []) ((0, 1, 6) ∷ []) (block_one))
unfolding kept_of block_of hex digit number groups shortest fewest utf8 characters character completes sized name remaining lookup size map_table rows table known known_kind contents subsections payload judge_names write_part write_rows write_table unless_empty keep_rows bare write_content write_subsections rewrite_names canonical_names answer asked ask_at ask as_told need extra words little_endian check right are_all_right body seal scatter_in scatter cut join bodies gather over desk after first_true with_hold with_work front replied reply names function_name name_in unused joined released leading newly placed opened_in judged asked_at closed_at fitting lent step started length_fits blocks rows_right find reach taken starts_free first_run paste same pack rank moved packed_blocks packed_marks tidied_table tidy
no_gap = (refl, refl)

-- a gap at the front; the hold of each of two users follows, and what stood behind stays
front_gap : tells (free 3) (opens 0 one work ∷ opens 1 two work ∷ opens 2 two work ∷ shuts 0 0 ∷ tidies ∷ asks 1 0 0 out ∷ asks 2 0 0 out ∷ asks 0 0 0 out ∷ []) ≡ is (granted 0 one ∷ granted 0 two ∷ granted 0 two ∷ closed ∷ tidied ∷ found 1 (0x62 ∷ []) ∷ found 1 (0x62 ∷ []) ∷ refusal 24 0 out ∷ []) ((0, 2, 6) ∷ []) (block_two ++ (block_two ++ free 1))
unfolding kept_of block_of hex digit number groups shortest fewest utf8 characters character completes sized name remaining lookup size map_table rows table known known_kind contents subsections payload judge_names write_part write_rows write_table unless_empty keep_rows bare write_content write_subsections rewrite_names canonical_names answer asked ask_at ask as_told need extra words little_endian check right are_all_right body seal scatter_in scatter cut join bodies gather over desk after first_true with_hold with_work front replied reply names function_name name_in unused joined released leading newly placed opened_in judged asked_at closed_at fitting lent step started length_fits blocks rows_right find reach taken starts_free first_run paste same pack rank moved packed_blocks packed_marks tidied_table tidy
front_gap = refl

-- a gap in the middle: the order stays
middle_gap : tells (free 4) (opens 0 one work ∷ opens 1 two work ∷ opens 2 three work ∷ shuts 1 0 ∷ tidies ∷ asks 0 0 0 out ∷ asks 2 0 0 out ∷ []) ≡ is (granted 0 one ∷ granted 0 two ∷ granted 0 three ∷ closed ∷ tidied ∷ found 1 (0x61 ∷ []) ∷ found 1 (0x63 ∷ []) ∷ []) ((0, 1, 6) ∷ (1, 1, 6) ∷ []) (block_one ++ (block_three ++ (block_three ++ free 1)))
unfolding kept_of block_of hex digit number groups shortest fewest utf8 characters character completes sized name remaining lookup size map_table rows table known known_kind contents subsections payload judge_names write_part write_rows write_table unless_empty keep_rows bare write_content write_subsections rewrite_names canonical_names answer asked ask_at ask as_told need extra words little_endian check right are_all_right body seal scatter_in scatter cut join bodies gather over desk after first_true with_hold with_work front replied reply names function_name name_in unused joined released leading newly placed opened_in judged asked_at closed_at fitting lent step started length_fits blocks rows_right find reach taken starts_free first_run paste same pack rank moved packed_blocks packed_marks tidied_table tidy
middle_gap = refl

-- blocks 1 and 3 of 4 in use end as old 1, old 3, old 2, old 3
two_gaps : tells (free 4) (opens 0 one work ∷ opens 1 two work ∷ opens 2 three work ∷ opens 3 [] [] ∷ shuts 0 0 ∷ shuts 2 0 ∷ tidies ∷ asks 1 0 0 out ∷ asks 3 0 0 out ∷ []) ≡ is (granted 0 one ∷ granted 0 two ∷ granted 0 three ∷ granted 0 [] ∷ closed ∷ closed ∷ tidied ∷ found 1 (0x62 ∷ []) ∷ nothing out ∷ []) ((0, 1, 6) ∷ (1, 1, 0) ∷ []) (block_two ++ (free 1 ++ (block_three ++ free 1)))
unfolding kept_of block_of hex digit number groups shortest fewest utf8 characters character completes sized name remaining lookup size map_table rows table known known_kind contents subsections payload judge_names write_part write_rows write_table unless_empty keep_rows bare write_content write_subsections rewrite_names canonical_names answer asked ask_at ask as_told need extra words little_endian check right are_all_right body seal scatter_in scatter cut join bodies gather over desk after first_true with_hold with_work front replied reply names function_name name_in unused joined released leading newly placed opened_in judged asked_at closed_at fitting lent step started length_fits blocks rows_right find reach taken starts_free first_run paste same pack rank moved packed_blocks packed_marks tidied_table tidy
two_gaps = refl

-- a gap of three blocks, and the last block in use
wide_gap : tells (free 5) (opens 0 one work ∷ opens 1 (kept_of 1014) (replicate 1017 9) ∷ opens 2 two work ∷ shuts 1 0 ∷ tidies ∷ asks 2 0 0 out ∷ []) ≡ is (granted 0 one ∷ granted 0 (kept_of 1014) ∷ granted 0 two ∷ closed ∷ tidied ∷ found 1 (0x62 ∷ []) ∷ []) ((0, 1, 6) ∷ (1, 1, 6) ∷ []) (block_one ++ (block_two ++ (block_of (replicate 508 5) (hex "7B 7D 7D 7D") ++ (block_of (5 ∷ []) (hex "05 00 00 00") ++ block_two))))
unfolding kept_of block_of hex digit number groups shortest fewest utf8 characters character completes sized name remaining lookup size map_table rows table known known_kind contents subsections payload judge_names write_part write_rows write_table unless_empty keep_rows bare write_content write_subsections rewrite_names canonical_names answer asked ask_at ask as_told need extra words little_endian check right are_all_right body seal scatter_in scatter cut join bodies gather over desk after first_true with_hold with_work front replied reply names function_name name_in unused joined released leading newly placed opened_in judged asked_at closed_at fitting lent step started length_fits blocks rows_right find reach taken starts_free first_run paste same pack rank moved packed_blocks packed_marks tidied_table tidy
wide_gap = refl

-- a payload of two blocks at the end of the store moves by one
wide_payload : tells (free 4) (opens 1 two work ∷ opens 0 one work ∷ opens 2 (kept_of 506) (replicate 509 9) ∷ shuts 1 0 ∷ tidies ∷ asks 0 0 0 out ∷ []) ≡ is (granted 0 two ∷ granted 0 one ∷ granted 0 (kept_of 506) ∷ closed ∷ tidied ∷ found 1 (0x61 ∷ []) ∷ []) ((0, 1, 6) ∷ (1, 1, 509) ∷ []) (block_one ++ (block_of (hex "63 FA 03" ++ replicate 505 5) (hex "D9 72 7C 7D") ++ (block_of (5 ∷ []) (hex "05 00 00 00") ++ block_of (5 ∷ []) (hex "05 00 00 00"))))
unfolding kept_of block_of hex digit number groups shortest fewest utf8 characters character completes sized name remaining lookup size map_table rows table known known_kind contents subsections payload judge_names write_part write_rows write_table unless_empty keep_rows bare write_content write_subsections rewrite_names canonical_names answer asked ask_at ask as_told need extra words little_endian check right are_all_right body seal scatter_in scatter cut join bodies gather over desk after first_true with_hold with_work front replied reply names function_name name_in unused joined released leading newly placed opened_in judged asked_at closed_at fitting lent step started length_fits blocks rows_right find reach taken starts_free first_run paste same pack rank moved packed_blocks packed_marks tidied_table tidy
wide_payload = refl

-- damage: in a block that would stay where it is, nothing is moved; where no block would be moved; in one that would be moved; and in a free one, which is not looked at
damaged : (tells (free 3) (opens 0 one work ∷ opens 1 two work ∷ opens 2 three work ∷ shuts 1 0 ∷ written 5 0x62 ∷ tidies ∷ []) ≡ is (granted 0 one ∷ granted 0 two ∷ granted 0 three ∷ closed ∷ refusal 27 0 [] ∷ []) ((0, 1, 6) ∷ (2, 1, 6) ∷ []) (set (block_one ++ (block_two ++ block_three)) 5 0x62))
    × (tells (free 1) (opens 0 one work ∷ written 508 3 ∷ tidies ∷ []) ≡ is (granted 0 one ∷ refusal 27 0 [] ∷ []) ((0, 1, 6) ∷ []) (set block_one 508 3))
    × (tells (free 2) (opens 0 one work ∷ opens 1 two work ∷ shuts 0 0 ∷ written 612 1 ∷ tidies ∷ []) ≡ is (granted 0 one ∷ granted 0 two ∷ closed ∷ refusal 27 0 [] ∷ []) ((1, 1, 6) ∷ []) (set (block_one ++ block_two) 612 1))
    × (tells (free 2) (opens 0 one work ∷ opens 1 two work ∷ shuts 0 0 ∷ written 5 0x62 ∷ tidies ∷ []) ≡ is (granted 0 one ∷ granted 0 two ∷ closed ∷ tidied ∷ []) ((0, 1, 6) ∷ []) (block_two ++ block_two))
unfolding kept_of block_of hex digit number groups shortest fewest utf8 characters character completes sized name remaining lookup size map_table rows table known known_kind contents subsections payload judge_names write_part write_rows write_table unless_empty keep_rows bare write_content write_subsections rewrite_names canonical_names answer asked ask_at ask as_told need extra words little_endian check right are_all_right body seal scatter_in scatter cut join bodies gather over desk after first_true with_hold with_work front replied reply names function_name name_in unused joined released leading newly placed opened_in judged asked_at closed_at fitting lent step started length_fits blocks rows_right find reach taken starts_free first_run paste same pack rank moved packed_blocks packed_marks tidied_table tidy
damaged = (refl, refl, refl, refl)

-- a payload that needs two gaps together: 26 before the step, and granted after it
room : (tells (free 4) (opens 0 one work ∷ opens 1 two work ∷ opens 2 three work ∷ shuts 1 0 ∷ opens 3 (kept_of 506) (replicate 509 9) ∷ tidies ∷ opens 3 (kept_of 506) (replicate 509 9) ∷ asks 2 0 0 out ∷ []) ≡ is (granted 0 one ∷ granted 0 two ∷ granted 0 three ∷ closed ∷ refusal 26 0 (kept_of 506) ∷ tidied ∷ granted 0 (kept_of 506) ∷ found 1 (0x63 ∷ []) ∷ []) ((0, 1, 6) ∷ (1, 1, 6) ∷ (2, 1, 509) ∷ []) (block_one ++ (block_three ++ (block_of (hex "63 FA 03" ++ replicate 505 5) (hex "D9 72 7C 7D") ++ block_of (5 ∷ []) (hex "05 00 00 00")))))
    × (tells (free 3) (opens 0 one work ∷ opens 1 two work ∷ opens 2 three work ∷ shuts 1 0 ∷ tidies ∷ opens 3 (kept_of 506) (replicate 509 9) ∷ opens 3 three work ∷ []) ≡ is (granted 0 one ∷ granted 0 two ∷ granted 0 three ∷ closed ∷ tidied ∷ refusal 26 0 (kept_of 506) ∷ granted 0 three ∷ []) ((0, 1, 6) ∷ (1, 2, 6) ∷ []) (block_one ++ (block_three ++ block_three)))
unfolding kept_of block_of hex digit number groups shortest fewest utf8 characters character completes sized name remaining lookup size map_table rows table known known_kind contents subsections payload judge_names write_part write_rows write_table unless_empty keep_rows bare write_content write_subsections rewrite_names canonical_names answer asked ask_at ask as_told need extra words little_endian check right are_all_right body seal scatter_in scatter cut join bodies gather over desk after first_true with_hold with_work front replied reply names function_name name_in unused joined released leading newly placed opened_in judged asked_at closed_at fitting lent step started length_fits blocks rows_right find reach taken starts_free first_run paste same pack rank moved packed_blocks packed_marks tidied_table tidy
room = (refl, refl)

-- the step twice: the second finds no gap
twice : tells (free 3) (opens 0 one work ∷ opens 1 two work ∷ shuts 0 0 ∷ tidies ∷ tidies ∷ asks 1 0 0 out ∷ []) ≡ is (granted 0 one ∷ granted 0 two ∷ closed ∷ tidied ∷ tidied ∷ found 1 (0x62 ∷ []) ∷ []) ((0, 1, 6) ∷ []) (block_two ++ (block_two ++ free 1))
unfolding kept_of block_of hex digit number groups shortest fewest utf8 characters character completes sized name remaining lookup size map_table rows table known known_kind contents subsections payload judge_names write_part write_rows write_table unless_empty keep_rows bare write_content write_subsections rewrite_names canonical_names answer asked ask_at ask as_told need extra words little_endian check right are_all_right body seal scatter_in scatter cut join bodies gather over desk after first_true with_hold with_work front replied reply names function_name name_in unused joined released leading newly placed opened_in judged asked_at closed_at fitting lent step started length_fits blocks rows_right find reach taken starts_free first_run paste same pack rank moved packed_blocks packed_marks tidied_table tidy
twice = refl

-- a store of another length, or of none; 30 before 27
other_store : (started_with 1024 (free 1) (tidies ∷ []) ≡ is (refusal 30 0 [] ∷ []) [] (free 1))
    × (tells ([]) (tidies ∷ []) ≡ is (refusal 30 0 [] ∷ []) [] ([]))
    × (tells (replicate 513 7) (tidies ∷ []) ≡ is (refusal 30 0 [] ∷ []) [] (replicate 513 7))
    × (step names (table_with 1024 (replicate 128 0) (mark 1 6 ∷ replicate 127 blank)) (replicate 512 7) tidying ≡ leaves (table_with 1024 (replicate 128 0) (mark 1 6 ∷ replicate 127 blank)) (replicate 512 7) (refusal 30 0 []))
unfolding kept_of block_of hex digit number groups shortest fewest utf8 characters character completes sized name remaining lookup size map_table rows table known known_kind contents subsections payload judge_names write_part write_rows write_table unless_empty keep_rows bare write_content write_subsections rewrite_names canonical_names answer asked ask_at ask as_told need extra words little_endian check right are_all_right body seal scatter_in scatter cut join bodies gather over desk after first_true with_hold with_work front replied reply names function_name name_in unused joined released leading newly placed opened_in judged asked_at closed_at fitting lent step started length_fits blocks rows_right find reach taken starts_free first_run paste same pack rank moved packed_blocks packed_marks tidied_table tidy
other_store = (refl, refl, refl, refl)

-- A table that nobody started: holds that lead nowhere, past the store too; rows past the store, which stay; and a row that runs past its end
abbrev is_made_up : Mark → Table
is_made_up m = table_with 1024 (255 ∷ 2 ∷ 1 ∷ 0 ∷ []) (blank ∷ mark 1 6 ∷ m ∷ [])

-- of two blocks the second is used: all holds behind the first lead to what follows it
made_up : (step names (is_made_up (mark 3 9)) (free 1 ++ block_two) tidying ≡ leaves (table_with 1024 (2 ∷ 1 ∷ 1 ∷ 0 ∷ []) (mark 1 6 ∷ blank ∷ mark 3 9 ∷ [])) (block_two ++ block_two) tidied)
    × (step names (table_with 1024 [] (blank ∷ mark 1 509 ∷ [])) (free 1 ++ block_two) tidying ≡ leaves (table_with 1024 [] (blank ∷ mark 1 509 ∷ [])) (free 1 ++ block_two) (refusal 27 0 []))
unfolding kept_of block_of hex digit number groups shortest fewest utf8 characters character completes sized name remaining lookup size map_table rows table known known_kind contents subsections payload judge_names write_part write_rows write_table unless_empty keep_rows bare write_content write_subsections rewrite_names canonical_names answer asked ask_at ask as_told need extra words little_endian check right are_all_right body seal scatter_in scatter cut join bodies gather over desk after first_true with_hold with_work front replied reply names function_name name_in unused joined released leading newly placed opened_in judged asked_at closed_at fitting lent step started length_fits blocks rows_right find reach taken starts_free first_run paste same pack rank moved packed_blocks packed_marks tidied_table tidy
made_up = (refl, refl)
