-- K6: wrong checks of hints on branches: one that does not count imported functions, or gives an imported one a body; one that takes br for br_if, or counts offsets from the first instruction; one that reads br_table without its default, or a constant as unsigned; one that reads the instruction at the place, or locals only up to it, or takes what it cannot read before it for another place; one that looks for the bodies of all functions first, or for that of a function before the hints of an earlier one are judged; one that judges hints before the import list or the list of bodies, or reads these without a hint section. Ruled out by a table of modules, each with what every result must say that meets the promise.
use Rattle.std.specs.Prelude.{ℕ, List, map, ◌≡◌, refl, length}
use Rattle.std.proofs.Common.{ap, ◌∙◌}
use Rattle.format.specs.Examples.{digit, hex}
use Rattle.format.specs.Reading.{Judged}
use Rattle.format.specs.Verdicts.{verdict_of}
use Rattle.format.specs.Bytes.{ascii, same}
use Rattle.format.specs.Numbers.{number, groups, shortest, fewest}
use Rattle.format.specs.Text.{utf8, characters, character, completes}
use Rattle.format.specs.Parts.{sized, name, remaining}
use Rattle.format.specs.Tables.{rows, table}
use Rattle.format.specs.Walk.{preamble, begins, greatest_id, is_custom, is_code, is_data, rank, custom, is_called, name_section, hint_section, nothing, seeing, id_rules, name_rules, section, sections, framing, walk, payload_of, payload_in, custom_payload}
use Rattle.format.specs.Metadata.{hint_of, hint_item, metadata, judge_metadata}
use Rattle.format.specs.Canonical.{write_part}
use Rattle.format.specs.Older.{times, vector}
use Rattle.instructions.specs.Immediates.{is_value_type, is_block_type, is_last_of32, is_last_of64, byte_of, bytes, indices, signed, labels, indirect, memory, immediates, instruction}
use Rattle.instructions.specs.Locals.{local_groups, locals}
use Rattle.instructions.specs.Opcodes.{opcodes, among, shape_of}
use Rattle.branches.specs.Imports.{byte, bounds, limits, table_type, global_type, description, kind_byte, import_kind, import_entry, import_entries, import_list, imports}
use Rattle.branches.specs.Bodies.{bodies, body_of, is_branch, seat_within, seat_from, seat_in}
use Rattle.branches.specs.Hints.{placed_row, placed_rows, function_hints, all_hints}
use Rattle.branches.specs.Branches.{contents_in, contents_of, imported_functions, function_bodies, each_hint, one_function, each_function, hints_checked, payload_on_branches, hints_on_branches}
use Rattle.branches.specs.Promises.{BranchesHintsOnBranches}
use Rattle.wakemiono.specs.Calls as call
use Rattle.promises.specs.Answers.{says_verdict, verdict_said}
use Rattle.promises.specs.RuledOut.{Row, Demanded, by_table}
use Rattle.promises.specs.Branching.{module_rows}

modules_computed : map (λ (row : Row (List ℕ) (Judged (Unit {0}))). hints_on_branches row.input) module_rows ≡ map (λ row. row.verdict) module_rows
unfolding hex digit ascii same number groups shortest fewest utf8 characters character completes sized name remaining rows table preamble begins greatest_id is_custom is_code is_data rank custom is_called name_section hint_section nothing seeing id_rules name_rules section sections framing walk payload_of payload_in custom_payload hint_of hint_item metadata judge_metadata write_part times vector is_value_type is_block_type is_last_of32 is_last_of64 byte_of bytes indices signed labels indirect memory immediates instruction local_groups locals opcodes among shape_of byte bounds limits table_type global_type description kind_byte import_kind import_entry import_entries import_list imports bodies body_of is_branch seat_within seat_from seat_in placed_row placed_rows function_hints all_hints contents_in contents_of imported_functions function_bodies each_hint one_function each_function hints_checked payload_on_branches hints_on_branches
modules_computed = refl

pub hints_on_branches_lem : Demanded BranchesHintsOnBranches verdict_of module_rows
hints_on_branches_lem = by_table (λ m r meets. meets) module_rows modules_computed

pub wm_hints_on_branches : Demanded (λ m a. call.WmHintsOnBranches m a) says_verdict module_rows
wm_hints_on_branches = by_table (λ m a meets. ap says_verdict meets ∙ verdict_said (length m) (hints_on_branches m)) module_rows modules_computed
