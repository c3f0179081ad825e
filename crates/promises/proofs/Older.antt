-- K2: wrong readers and writers of the older edition's hints: one that asks for order, or refuses a pair that stands twice; one whose last hint answers; one that reads the kind as a byte, or judges it after the offset is read; one that takes a padded byte for zero; one that asks one edition's section for the other's hints; one that keeps shadowed hints, two entries of a function, or an entry without hints; one that lists a pair twice, or with its last hint, out of order, or into a list that is too short. Ruled out by tables of inputs, each with what every result must say that meets the promise.
use Rattle.std.specs.Prelude.{ℕ, List, map, ◌≡◌, refl, length}
use Rattle.std.proofs.Math.Option.{none, some}
use Rattle.std.proofs.Common.{ap, ◌∙◌}
use Rattle.format.specs.Bytes.{ascii, same}
use Rattle.format.specs.Canonical.{write_part, write_rows, write_table}
use Rattle.format.specs.Entries.{rows_under, group_rows, older_rows, fit_each, fitting_rows, over_each, rows_found}
use Rattle.format.specs.Examples.{hex, digit}
use Rattle.format.specs.Metadata.{hint_of, hint_item, metadata, judge_metadata, item_at, ask_metadata, hint_in, ask_hint}
use Rattle.format.specs.Numbers.{number, groups, shortest, fewest}
use Rattle.format.specs.Older.{times, vector, zero_byte, older_kind, older_hint, older_entry, judge_older, first_at, first_in, ask_older, put_first, amend, with_hints, sorted_from, write_older_hints, write_older, not_too_long, canonical_older}
use Rattle.format.specs.Options.{map_some}
use Rattle.format.specs.Outputs.{fitting, write_answer, output_after, written_as}
use Rattle.format.specs.Parts.{sized, name, remaining}
use Rattle.format.specs.Questions.{answered}
use Rattle.format.specs.Reading.{Judged, accepted, refused, verdict, map_judged}
use Rattle.format.specs.Tables.{lookup, size, rows, table}
use Rattle.format.specs.Text.{utf8, characters, character, completes}
use Rattle.format.specs.Through.{through, ask_hint_through, ask_older_through}
use Rattle.format.specs.Walk.{preamble, begins, greatest_id, is_custom, is_code, is_data, rank, custom, is_called, name_section, hint_section, nothing, seeing, id_rules, name_rules, section, sections, framing, walk, payload_of, payload_in, custom_payload}
use Rattle.format.specs.Verdicts.{verdict_of}
use Rattle.format.specs.Returned.{Answer}
use Rattle.format.specs.declared.CodeOffset.{CodeOffset}
use Rattle.format.specs.declared.FunctionIndex.{FunctionIndex}
use Rattle.format.specs.declared.Hint.TheVariants.{Unlikely, Likely}
use Rattle.format.specs.declared.InstructionOffset.{InstructionOffset}
use Rattle.reordering.specs.Promises as list
use Rattle.wakemiono.specs.Calls as call
use Rattle.wakemiono.specs.declared.WmAnswer.{WmAnswer}
use Rattle.promises.specs.Answers.{says_verdict, verdict_said, says_place, place_said, says_count}
use Rattle.promises.specs.RuledOut.{Row, Demanded, by_table}
use Rattle.promises.specs.Stopping.{HintsDemanded, hints_demanded}
use Rattle.promises.specs.Writing.{promised, WmPromised, wrote, written_told, wm_written_told}
use Rattle.promises.specs.Older.{judged_rows, asked_rows, older_section, newer_section, apart_rows, written_rows, Lent, Said, listed_rows, listing}

judged_computed : map (λ (row : Row (List ℕ) (Judged (Unit {0}))). verdict (judge_older 0 row.input)) judged_rows ≡ map (λ row. row.verdict) judged_rows
unfolding hex digit number groups times vector zero_byte older_kind older_hint older_entry judge_older
judged_computed = refl

pub older_judge : Demanded (λ p r. verdict_of r ≡ verdict (judge_older 0 p)) verdict_of judged_rows
older_judge = by_table (λ p r meets. meets) judged_rows judged_computed

pub wm_old_hints_judge : Demanded (λ p a. call.WmOldHintsJudge p a) says_verdict judged_rows
wm_old_hints_judge = by_table (λ p a meets. ap says_verdict meets ∙ verdict_said (length p) (verdict (judge_older 0 p))) judged_rows judged_computed

pub is_older_hint : HintsDemanded (λ (x : List ℕ × FunctionIndex × InstructionOffset). ask_older x.1 x.2 0 x.0) asked_rows
unfolding hex digit number groups times vector zero_byte older_kind older_hint older_entry judge_older first_at first_in ask_older
is_older_hint = hints_demanded _ asked_rows refl

pub older_through : HintsDemanded (λ (x : List ℕ × FunctionIndex × InstructionOffset). ask_older_through x.1 x.2 x.0) (apart_rows (record { 0 = 5 }) (accepted (some Unlikely)) (accepted none) (accepted (some Unlikely)) (refused 17 24))
unfolding older_section newer_section write_part shortest fewest ascii same preamble begins greatest_id is_custom is_code is_data rank custom is_called name_section hint_section nothing seeing id_rules name_rules section sections framing walk payload_of payload_in custom_payload through ask_older_through hex digit number groups utf8 characters character completes sized name remaining times vector zero_byte older_kind older_hint older_entry judge_older first_at first_in ask_older
older_through = hints_demanded _ (apart_rows (record { 0 = 5 }) (accepted (some Unlikely)) (accepted none) (accepted (some Unlikely)) (refused 17 24)) refl

pub newer_through : HintsDemanded (λ (x : List ℕ × FunctionIndex × CodeOffset). ask_hint_through x.1 x.2 x.0) (apart_rows (record { 0 = 5 }) (accepted none) (accepted (some Likely)) (accepted (some Likely)) (accepted none))
unfolding older_section newer_section write_part shortest fewest ascii same preamble begins greatest_id is_custom is_code is_data rank custom is_called name_section hint_section nothing seeing id_rules name_rules section sections framing walk payload_of payload_in custom_payload through ask_hint_through hex digit number groups utf8 characters character completes sized name remaining lookup rows table hint_of hint_item metadata judge_metadata item_at ask_metadata hint_in ask_hint
newer_through = hints_demanded _ (apart_rows (record { 0 = 5 }) (accepted none) (accepted (some Likely)) (accepted (some Likely)) (accepted none)) refl

pub rewrite_older : Demanded (promised canonical_older) (λ r. wrote (written_as r.0) r.1) written_rows
unfolding same hex digit number groups shortest fewest size write_rows write_table times vector zero_byte older_kind older_hint older_entry judge_older put_first amend with_hints sorted_from write_older_hints write_older not_too_long canonical_older fitting write_answer output_after
rewrite_older = by_table (written_told canonical_older) written_rows refl

pub wm_old_hints_canonical : Demanded (WmPromised canonical_older) (λ a. wrote (says_count a.0) a.1) written_rows
unfolding same hex digit number groups shortest fewest size write_rows write_table times vector zero_byte older_kind older_hint older_entry judge_older put_first amend with_hints sorted_from write_older_hints write_older not_too_long canonical_older fitting write_answer output_after
wm_old_hints_canonical = by_table (wm_written_told canonical_older) written_rows refl

listed_computed : map (λ (row : Row Lent Said). listing row.input) listed_rows ≡ map (λ row. row.verdict) listed_rows
unfolding hex digit number groups times vector zero_byte older_kind older_hint older_entry judge_older put_first amend with_hints sorted_from rows_under group_rows older_rows fit_each fitting_rows over_each
listed_computed = refl

pub reordering_list : Demanded (λ (x : Lent) (r : Answer × List (List ℕ)). list.ReorderingList x.0 x.1 r.1 r.0) (λ r. (answered r.0, r.1)) listed_rows
reordering_list = by_table (λ x r meets. let one = meets.says in let two = meets.leaves in λ i. (one i, two i)) listed_rows listed_computed

pub wm_old_hints_list : Demanded (λ (x : Lent) (r : WmAnswer × List (List ℕ)). call.WmOldHintsList x.0 x.1 r.1 r.0) (λ r. (says_place r.0, r.1)) listed_rows
wm_old_hints_list = by_table (λ x r meets. let one = ap says_place meets.says ∙ place_said (map_judged (map_some rows_found) (fitting_rows x.1 (older_rows x.0))) in let two = meets.leaves in λ i. (one i, two i)) listed_rows listed_computed
