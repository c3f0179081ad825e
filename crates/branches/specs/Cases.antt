-- K6. Cases of hints on branches (docs/RULES.md). Computed by the checker. Assumes nothing.
use Rattle.std.specs.Prelude.{ℕ, List, [], ◌∷◌, ◌++◌, map, ◌≡◌, refl}
use Prim.Native.String.{String}
use Rattle.format.specs.Bytes.{ascii, same}
use Rattle.format.specs.Numbers.{number, groups, shortest, fewest}
use Rattle.format.specs.Text.{utf8, characters, character, completes}
use Rattle.format.specs.Parts.{sized, name, remaining}
use Rattle.format.specs.Tables.{rows, table}
use Rattle.format.specs.Walk.{preamble, begins, greatest_id, is_custom, is_code, is_data, rank, custom, is_called, name_section, hint_section, nothing, seeing, id_rules, name_rules, section, sections, framing, walk, payload_of, payload_in, custom_payload}
use Rattle.format.specs.Metadata.{hint_of, hint_item, metadata, judge_metadata}
use Rattle.format.specs.Canonical.{write_part}
use Rattle.format.specs.Older.{times, vector}
use Rattle.format.specs.Examples.{digit, hex, Result, is_accepted, refusal, of, Example, ◌gives◌, computed, stated}
use Rattle.instructions.specs.Immediates.{is_value_type, is_block_type, is_last_of32, is_last_of64, byte_of, bytes, indices, signed, labels, indirect, memory, immediates, instruction}
use Rattle.instructions.specs.Locals.{local_groups, locals}
use Rattle.instructions.specs.Opcodes.{opcodes, among, shape_of}
use Rattle.branches.specs.Imports.{byte, bounds, limits, table_type, global_type, description, kind_byte, import_kind, import_entry, import_entries, import_list, imports}
use Rattle.branches.specs.Bodies.{bodies, body_of, is_branch, seat_within, seat_from, seat_in}
use Rattle.branches.specs.Hints.{placed_row, placed_rows, function_hints, all_hints}
use Rattle.branches.specs.Branches.{contents_in, contents_of, imported_functions, function_bodies, seat_judged, each_hint, one_function, each_function, hints_checked, payload_on_branches, hints_on_branches}

-- A body and the offset of a hint in it: accepted, or 20 or 21
hint_in : String → ℕ → Result
hint_in body offset = of (λ _. is_accepted) (seat_judged 0 (seat_in (record { at = 0; bytes = hex body }) offset))

pub in_bodies : List Example
in_bodies =
    -- br_if and if, also as the body's last byte; br is not one of them
    hint_in "00 0D 00 0B" 1 gives is_accepted ∷
    hint_in "00 04 40 0B 0B" 1 gives is_accepted ∷
    hint_in "00 04" 1 gives is_accepted ∷
    hint_in "00 0C 00 0B" 1 gives refusal 21 0 ∷
    hint_in "00 02 40 0B 0B" 1 gives refusal 21 0 ∷
    -- else and end are stepped over like others; a block that is open, an else without if
    hint_in "00 05 0B 0D 00" 3 gives is_accepted ∷
    hint_in "00 0B 0B 0D 00" 3 gives is_accepted ∷
    hint_in "00 03 40 0D 00" 3 gives is_accepted ∷
    -- a shape of immediates each, with a hint behind it
    hint_in "00 00 0D 00" 2 gives is_accepted ∷
    hint_in "00 1B 0D 00" 2 gives is_accepted ∷
    hint_in "00 BF 0D 00" 2 gives is_accepted ∷
    hint_in "00 02 40 0D 00" 3 gives is_accepted ∷
    hint_in "00 02 7C 0D 00" 3 gives is_accepted ∷
    hint_in "00 02 7B 0D 00" 3 gives refusal 20 0 ∷
    hint_in "00 10 80 01 0D 00" 4 gives is_accepted ∷
    hint_in "00 24 FF FF FF FF 1F 0D 00" 7 gives refusal 20 0 ∷
    hint_in "00 11 00 00 0D 00" 4 gives is_accepted ∷
    hint_in "00 11 00 01 0D 00" 4 gives refusal 20 0 ∷
    hint_in "00 11 00 80 80 80 80 00 0D 00" 8 gives refusal 20 0 ∷
    hint_in "00 28 02 00 0D 00" 4 gives is_accepted ∷
    hint_in "00 3E 7F 80 01 0D 00" 5 gives is_accepted ∷
    hint_in "00 3F 00 0D 00" 3 gives is_accepted ∷
    hint_in "00 40 01 0D 00" 3 gives refusal 20 0 ∷
    hint_in "00 43 00 00 00 00 0D 00" 6 gives is_accepted ∷
    hint_in "00 44 00 00 00 00 00 00 00 00 0D 00" 10 gives is_accepted ∷
    -- br_table: its default is a label of its own, also without any other
    hint_in "00 0E 02 00 01 00 0D 00" 6 gives is_accepted ∷
    hint_in "00 0E 00 0D 0D 00" 4 gives is_accepted ∷
    hint_in "00 0E 00 0D 0D 00" 3 gives refusal 21 0 ∷
    hint_in "00 0E 01 0D" 4 gives refusal 20 0 ∷
    -- the fifth byte of i32.const and the tenth of i64.const; one byte more
    hint_in "00 41 7F 0D 00" 3 gives is_accepted ∷
    hint_in "00 41 FF FF FF FF 07 0D 00" 7 gives is_accepted ∷
    hint_in "00 41 FF FF FF FF 0F 0D 00" 7 gives refusal 20 0 ∷
    hint_in "00 41 80 80 80 80 78 0D 00" 7 gives is_accepted ∷
    hint_in "00 41 80 80 80 80 70 0D 00" 7 gives refusal 20 0 ∷
    hint_in "00 41 80 80 80 80 80 00 0D 00" 8 gives refusal 20 0 ∷
    hint_in "00 42 80 80 80 80 80 80 80 80 80 7F 0D 00" 12 gives is_accepted ∷
    hint_in "00 42 80 80 80 80 80 80 80 80 80 00 0D 00" 12 gives is_accepted ∷
    hint_in "00 42 80 80 80 80 80 80 80 80 80 01 0D 00" 12 gives refusal 20 0 ∷
    hint_in "00 42 80 80 80 80 80 80 80 80 80 80 00 0D 00" 13 gives refusal 20 0 ∷
    -- inside an immediate, at the body's end and behind it
    hint_in "00 41 0D 0B" 2 gives refusal 21 0 ∷
    hint_in "00 0D 00 0B" 2 gives refusal 21 0 ∷
    hint_in "00 0D 00 0B" 4 gives refusal 21 0 ∷
    hint_in "00 0D 00 0B" 9 gives refusal 21 0 ∷
    -- an instruction that runs past the body's end starts before the hint
    hint_in "00 43 00 0D" 3 gives refusal 20 0 ∷
    hint_in "00 41" 2 gives refusal 20 0 ∷
    -- an opcode that version 1.0 lacks: before, at and behind the hinted place
    hint_in "00 C0 0D 00 0B" 2 gives refusal 20 0 ∷
    hint_in "00 C0 0D 00 0B" 1 gives refusal 21 0 ∷
    hint_in "00 0D 00 C0 0B" 1 gives is_accepted ∷
    hint_in "00 06 0D 00" 2 gives refusal 20 0 ∷
    hint_in "00 0A 0D 00" 2 gives refusal 20 0 ∷
    hint_in "00 12 0D 00" 2 gives refusal 20 0 ∷
    hint_in "00 19 0D 00" 2 gives refusal 20 0 ∷
    hint_in "00 1C 0D 00" 2 gives refusal 20 0 ∷
    hint_in "00 1F 0D 00" 2 gives refusal 20 0 ∷
    hint_in "00 25 0D 00" 2 gives refusal 20 0 ∷
    hint_in "00 27 0D 00" 2 gives refusal 20 0 ∷
    hint_in "00 FF 0D 00" 2 gives refusal 20 0 ∷
    -- the locals are one piece: a hint in them, and behind them
    hint_in "02 01 7F 04 7C 0D 00" 5 gives is_accepted ∷
    hint_in "02 01 7F 04 7C 0D 00" 3 gives refusal 21 0 ∷
    hint_in "02 01 7F 04 7C 0D 00" 0 gives refusal 21 0 ∷
    -- where they cannot be read it is 20 for every hint: a type, a sum of 2^32, a body without any byte
    hint_in "01 01 7B 0B" 0 gives refusal 20 0 ∷
    hint_in "01 01 80 0D 00" 3 gives refusal 20 0 ∷
    hint_in "02 FF FF FF FF 0F 7F 00 7E 0D 00" 9 gives is_accepted ∷
    hint_in "02 FF FF FF FF 0F 7F 01 7E 0D 00" 9 gives refusal 20 0 ∷
    hint_in "" 0 gives refusal 20 0 ∷
    []

pub bodies_hold : map computed in_bodies ≡ map stated in_bodies
unfolding in_bodies computed stated hint_in hex digit of number groups is_value_type is_block_type is_last_of32 is_last_of64 byte_of bytes indices signed labels indirect memory immediates instruction local_groups locals opcodes among shape_of is_branch seat_within seat_from seat_in
bodies_hold = refl

-- A module: sections with the hints among them
ordinary : ℕ → String → List ℕ
ordinary id contents = id ∷ write_part (hex contents)

-- the payload begins 28 bytes behind the section's own beginning
the_hints : String → List ℕ
the_hints payload = 0 ∷ write_part (write_part (ascii "metadata.code.branch_hint") ++ hex payload)

check_is : List ℕ → Result
check_is ss = of (λ _. is_accepted) (hints_on_branches (preamble ++ ss))

-- the hints at 8, their payload at 36; behind a payload of 6 bytes the code at 42, and its contents at 44
branching : String → String → Result
branching payload code = check_is (the_hints payload ++ ordinary 10 code)

-- the imports at 8, their contents at 10
importing : String → String → String → Result
importing imports payload code = check_is (ordinary 2 imports ++ the_hints payload ++ ordinary 10 code)

pub over_modules : List Example
over_modules =
    branching "01 00 01 01 01 00" "01 04 00 0D 00 0B" gives is_accepted ∷
    branching "01 00 01 02 01 00" "01 04 00 0D 00 0B" gives refusal 21 39 ∷
    branching "01 00 01 01 01 00" "01 04 00 C0 00 0B" gives refusal 21 39 ∷
    branching "01 00 01 02 01 00" "01 04 00 C0 0D 0B" gives refusal 20 39 ∷
    -- offsets count from the locals, not from the first instruction
    branching "01 00 01 03 01 00" "01 06 01 01 7F 0D 00 0B" gives is_accepted ∷
    branching "01 00 01 00 01 00" "01 06 01 01 7F 0D 00 0B" gives refusal 21 39 ∷
    -- no body: none at all, one too few
    check_is (the_hints "01 00 01 01 01 00") gives refusal 19 37 ∷
    branching "01 00 01 01 01 00" "00" gives refusal 19 37 ∷
    branching "01 01 01 01 01 00" "01 04 00 0D 00 0B" gives refusal 19 37 ∷
    -- a function without hints is not looked for
    branching "01 09 00" "00" gives is_accepted ∷
    -- two hints of one function, and the second one at fault
    branching "01 00 02 01 01 00 03 01 01" "01 07 00 0D 00 04 40 0B 0B" gives is_accepted ∷
    branching "01 00 02 01 01 00 04 01 01" "01 07 00 0D 00 04 40 0B 0B" gives refusal 21 42 ∷
    -- a body without hints is not read
    branching "02 00 01 01 01 00 02 01 01 01 00" "03 04 00 0D 00 0B 01 FF 04 00 0D 00 0B" gives is_accepted ∷
    -- hints go one by one: 21 of function 0 before 19 of function 9, and 19 before 21 of a later one
    branching "02 00 01 02 01 00 09 01 00 01 00" "01 04 00 0D 00 0B" gives refusal 21 39 ∷
    branching "02 00 01 01 01 00 09 01 00 01 00" "01 04 00 0D 00 0B" gives refusal 19 42 ∷
    -- imported functions shift indices, and have no body; what else is imported does not
    importing "01 01 61 01 62 00 00" "01 01 01 01 01 00" "01 04 00 0D 00 0B" gives is_accepted ∷
    importing "01 01 61 01 62 00 00" "01 00 01 01 01 00" "01 04 00 0D 00 0B" gives refusal 19 46 ∷
    importing "02 00 00 00 00 00 00 00 05" "01 02 01 01 01 00" "01 04 00 0D 00 0B" gives is_accepted ∷
    importing "01 01 61 01 62 03 7F 00" "01 00 01 01 01 00" "01 04 00 0D 00 0B" gives is_accepted ∷
    -- limits with flags 0, 1 and 2, of a memory and of a table, whose type byte goes unchecked
    importing "01 00 00 02 00 01" "01 00 01 01 01 00" "01 04 00 0D 00 0B" gives is_accepted ∷
    importing "01 00 00 02 01 01 02" "01 00 01 01 01 00" "01 04 00 0D 00 0B" gives is_accepted ∷
    importing "01 00 00 02 02 01 02" "01 00 01 01 01 00" "01 04 00 0D 00 0B" gives refusal 29 14 ∷
    importing "01 00 00 01 FF 01 00 00" "01 00 01 01 01 00" "01 04 00 0D 00 0B" gives is_accepted ∷
    importing "01 00 00 01 70 02 00 00" "01 00 01 01 01 00" "01 04 00 0D 00 0B" gives refusal 29 15 ∷
    -- faults of the import list: a kind above 3, a missing kind, flag, type and global's byte, a name, a number, what is left over, no count
    importing "01 00 00 04 00" "01 00 01 01 01 00" "00" gives refusal 29 13 ∷
    importing "01 00 00" "01 00 01 01 01 00" "00" gives refusal 2 13 ∷
    importing "01 00 00 02" "01 00 01 01 01 00" "00" gives refusal 2 14 ∷
    importing "01 00 00 01" "01 00 01 01 01 00" "00" gives refusal 2 14 ∷
    importing "01 00 00 03 7F" "01 00 01 01 01 00" "00" gives refusal 2 15 ∷
    importing "01 01 FF 00 00 00" "01 00 01 01 01 00" "00" gives refusal 4 12 ∷
    importing "01 00 00 00 FF FF FF FF 1F" "01 00 01 01 01 00" "00" gives refusal 3 14 ∷
    importing "01 00 00 02 01 01" "01 00 01 01 01 00" "00" gives refusal 2 16 ∷
    importing "00 00" "01 00 01 01 01 00" "00" gives refusal 10 11 ∷
    importing "" "01 00 01 01 01 00" "00" gives refusal 2 10 ∷
    -- faults of the list of bodies: one short, past its end, left over, no count; the import list comes first
    branching "01 00 01 01 01 00" "02 04 00 0D 00 0B" gives refusal 2 50 ∷
    branching "01 00 01 01 01 00" "01 05 00 0D 00 0B" gives refusal 2 45 ∷
    branching "01 00 01 01 01 00" "01 04 00 0D 00 0B 00" gives refusal 10 50 ∷
    branching "01 00 01 01 01 00" "" gives refusal 2 44 ∷
    importing "00 00" "01 00 01 01 01 00" "" gives refusal 10 11 ∷
    -- before them come the walk and the payload
    check_is (ordinary 2 "" ++ (2 ∷ [])) gives refusal 6 10 ∷
    importing "00 00" "01 00 01 01 02 00" "" gives refusal 2 44 ∷
    importing "00 00" "01 00 01 01 01 02" "" gives refusal 12 44 ∷
    -- without hints in the section both lists are still judged; without the section neither is read
    importing "00 00" "00" "00" gives refusal 10 11 ∷
    branching "00" "01" gives refusal 2 40 ∷
    branching "00" "00" gives is_accepted ∷
    check_is (ordinary 2 "01 00 00 04" ++ ordinary 10 "01") gives is_accepted ∷
    check_is [] gives is_accepted ∷
    []

pub modules_hold : map computed over_modules ≡ map stated over_modules
unfolding over_modules computed stated ordinary the_hints check_is branching importing hex digit of ascii same number groups shortest fewest utf8 characters character completes sized name remaining rows table preamble begins greatest_id is_custom is_code is_data rank custom is_called name_section hint_section nothing seeing id_rules name_rules section sections framing walk payload_of payload_in custom_payload hint_of hint_item metadata judge_metadata write_part times vector is_value_type is_block_type is_last_of32 is_last_of64 byte_of bytes indices signed labels indirect memory immediates instruction local_groups locals opcodes among shape_of byte bounds limits table_type global_type description kind_byte import_kind import_entry import_entries import_list imports bodies body_of is_branch seat_within seat_from seat_in placed_row placed_rows function_hints all_hints contents_in contents_of imported_functions function_bodies each_hint one_function each_function hints_checked payload_on_branches hints_on_branches
modules_hold = refl
