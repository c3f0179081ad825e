-- The wrong reader that checks a map's first entry and waves the others through. Of each kind of list: a payload whose first entry is fine by itself, and payloads whose second one is not above the first, is not text, or runs past its part. Every result that meets the promise says so of them.
use Rattle.std.specs.Prelude.{ℕ, List, [], ◌∷◌, map, ◌++◌, ◌≡◌, refl, length}
use Rattle.std.proofs.Common.{ap, ◌∙◌}
use Rattle.wakemiono.specs.Boundary.{WmWrites}
use Rattle.wakemiono.specs.declared.WmAnswer.{WmAnswer}
use Rattle.format.specs.Returned.{Written}
use Rattle.format.specs.Outputs.{fitting, write_answer, output_after, written_as, Writes}
use Rattle.format.specs.Canonical.{write_part, write_rows, write_table, unless_empty, keep_rows, bare, write_content, write_subsections, rewrite_names, canonical_names, rewrite_metadata, canonical_of, canonical_metadata, canonical_hints}
use Rattle.format.specs.Bytes.{ascii, same}
use Rattle.format.specs.Examples.{hex, digit}
use Rattle.format.specs.Metadata.{hint_of, any_item, hint_item, metadata, judge_metadata}
use Rattle.format.specs.Names.{known, known_kind, wider, wider_kind, contents, subsections, payload, judge_names}
use Rattle.format.specs.Numbers.{number, groups, shortest, fewest}
use Rattle.format.specs.Older.{times, vector, zero_byte, older_kind, older_hint, older_entry, judge_older, put_first, amend, with_hints, sorted_from, write_older_hints, write_older, not_too_long, canonical_older}
use Rattle.format.specs.Parts.{sized, name, remaining}
use Rattle.format.specs.Reading.{Judged, accepted, refused, verdict}
use Rattle.format.specs.Tables.{lookup, rows, table, size, map_table}
use Rattle.format.specs.Text.{utf8, characters, character, completes}
use Rattle.format.specs.Walk.{preamble, begins, greatest_id, is_custom, is_code, is_data, rank, custom, is_called, name_section, hint_section, nothing, seeing, id_rules, name_rules, section, sections, framing, walk, section_count}
use Rattle.format.specs.Verdicts.{verdict_of}
use Rattle.walk.specs.Surveys.{counted}
use Rattle.wakemiono.specs.Calls as call
use Rattle.promises.specs.Answers.{says_verdict, verdict_said, says_count, count_said}
use Rattle.promises.specs.RuledOut.{Row, ◌demands◌, Demanded, by_table}

-- Names
abbrev pub name_rows : List (Row (List ℕ) (Judged (Unit {0})))
name_rows =
    -- the function names; the type and tag names under 04 and 0B
    hex "01 04 01 03 01 62" demands accepted tt ∷
    hex "01 07 02 03 01 62 03 01 61" demands refused 11 6 ∷
    hex "01 07 02 03 01 62 04 01 FF" demands refused 4 8 ∷
    hex "01 07 02 03 01 62 04 02 61" demands refused 2 7 ∷
    hex "04 07 02 03 01 62 03 01 61" demands refused 11 6 ∷
    hex "0B 07 02 03 01 62 03 01 61" demands refused 11 6 ∷
    -- the local names: the second group, and the first group's second entry; the field names under 0A
    hex "02 06 01 03 01 00 01 78" demands accepted tt ∷
    hex "02 0B 02 03 01 00 01 78 03 01 00 01 79" demands refused 11 8 ∷
    hex "02 0B 02 03 01 00 01 78 04 01 00 01 FF" demands refused 4 12 ∷
    hex "02 0B 02 03 01 00 01 78 04 01 00 02 79" demands refused 2 11 ∷
    hex "02 09 01 03 02 00 01 78 00 01 79" demands refused 11 8 ∷
    hex "0A 0B 02 03 01 00 01 78 03 01 00 01 79" demands refused 11 8 ∷
    hex "0A 09 01 03 02 00 01 78 00 01 79" demands refused 11 8 ∷
    -- the second subsection
    hex "01 04 01 03 01 62 01 04 01 03 01 62" demands refused 9 6 ∷
    []

names_computed : map (λ (row : Row (List ℕ) (Judged (Unit {0}))). verdict (judge_names known_kind 0 row.input)) name_rows ≡ map (λ row. row.verdict) name_rows
unfolding hex digit number groups utf8 characters character completes sized name remaining lookup rows table known known_kind contents subsections payload judge_names
names_computed = refl

pub names_judge : Demanded (λ p r. verdict_of r ≡ verdict (judge_names known_kind 0 p)) verdict_of name_rows
names_judge = by_table (λ p r meets. meets) name_rows names_computed

pub wm_names_judge : Demanded (λ p a. call.WmNamesJudge p a) says_verdict name_rows
wm_names_judge = by_table (λ p a meets. ap says_verdict meets ∙ verdict_said (length p) (verdict (judge_names known_kind 0 p))) name_rows names_computed

-- The same by the wider edition, and its own: tables, memories, globals, segments, and labels as locals
abbrev pub wide_rows : List (Row (List ℕ) (Judged (Unit {0})))
wide_rows = name_rows ++ (
    hex "05 07 02 03 01 62 03 01 61" demands refused 11 6 ∷
    hex "06 07 02 03 01 62 04 01 FF" demands refused 4 8 ∷
    hex "07 07 02 03 01 62 04 02 61" demands refused 2 7 ∷
    hex "08 07 02 03 01 62 03 01 61" demands refused 11 6 ∷
    hex "09 07 02 03 01 62 03 01 61" demands refused 11 6 ∷
    hex "03 06 01 03 01 00 01 78" demands accepted tt ∷
    hex "03 0B 02 03 01 00 01 78 03 01 00 01 79" demands refused 11 8 ∷
    hex "03 09 01 03 02 00 01 78 00 01 79" demands refused 11 8 ∷
    [])

wide_computed : map (λ (row : Row (List ℕ) (Judged (Unit {0}))). verdict (judge_names wider_kind 0 row.input)) wide_rows ≡ map (λ row. row.verdict) wide_rows
unfolding hex digit number groups utf8 characters character completes sized name remaining lookup rows table wider wider_kind contents subsections payload judge_names
wide_computed = refl

pub wm_wide_names_judge : Demanded (λ p a. call.WmWideNamesJudge p a) says_verdict wide_rows
wm_wide_names_judge = by_table (λ p a meets. ap says_verdict meets ∙ verdict_said (length p) (verdict (judge_names wider_kind 0 p))) wide_rows wide_computed

-- Code metadata: the second function, and the first function's second item
abbrev pub metadata_rows : List (Row (List ℕ) (Judged (Unit {0})))
metadata_rows =
    hex "01 02 01 05 01 41" demands accepted tt ∷
    hex "02 02 01 05 01 41 02 00" demands refused 11 6 ∷
    hex "02 02 01 05 01 41 03 01 05 02 41" demands refused 2 9 ∷
    hex "01 02 02 05 01 41 05 01 41" demands refused 11 6 ∷
    hex "01 02 02 05 01 41 06 02 41" demands refused 2 7 ∷
    []

metadata_computed : map (λ (row : Row (List ℕ) (Judged (Unit {0}))). verdict (judge_metadata any_item 0 row.input)) metadata_rows ≡ map (λ row. row.verdict) metadata_rows
unfolding hex digit number groups sized rows table any_item metadata judge_metadata
metadata_computed = refl

pub metadata_judge : Demanded (λ p r. verdict_of r ≡ verdict (judge_metadata any_item 0 p)) verdict_of metadata_rows
metadata_judge = by_table (λ p r meets. meets) metadata_rows metadata_computed

pub wm_metadata_judge : Demanded (λ p a. call.WmMetadataJudge p a) says_verdict metadata_rows
wm_metadata_judge = by_table (λ p a meets. ap says_verdict meets ∙ verdict_said (length p) (verdict (judge_metadata any_item 0 p))) metadata_rows metadata_computed

-- Hints: the same, and a second hint that is none
abbrev pub hint_rows : List (Row (List ℕ) (Judged (Unit {0})))
hint_rows =
    hex "01 02 01 05 01 01" demands accepted tt ∷
    hex "02 02 01 05 01 01 02 00" demands refused 11 6 ∷
    hex "02 02 01 05 01 01 03 01 05 01 02" demands refused 12 9 ∷
    hex "01 02 02 05 01 01 05 01 01" demands refused 11 6 ∷
    hex "01 02 02 05 01 01 06 01 02" demands refused 12 7 ∷
    []

hints_computed : map (λ (row : Row (List ℕ) (Judged (Unit {0}))). verdict (judge_metadata hint_item 0 row.input)) hint_rows ≡ map (λ row. row.verdict) hint_rows
unfolding hex digit number groups sized rows table hint_of hint_item metadata judge_metadata
hints_computed = refl

pub metadata_judge_hints : Demanded (λ p r. verdict_of r ≡ verdict (judge_metadata hint_item 0 p)) verdict_of hint_rows
metadata_judge_hints = by_table (λ p r meets. meets) hint_rows hints_computed

pub wm_hints_judge : Demanded (λ p a. call.WmHintsJudge p a) says_verdict hint_rows
wm_hints_judge = by_table (λ p a meets. ap says_verdict meets ∙ verdict_said (length p) (verdict (judge_metadata hint_item 0 p))) hint_rows hints_computed

-- Hints of the older edition: the second entry, and the first entry's second hint
abbrev pub older_rows : List (Row (List ℕ) (Judged (Unit {0})))
older_rows =
    hex "01 02 00 01 01 05" demands accepted tt ∷
    hex "02 02 00 01 01 05 02 00 00" demands accepted tt ∷
    hex "02 02 00 01 01 05 02 80 00 00" demands refused 17 7 ∷
    hex "02 02 00 01 01 05 02" demands refused 2 7 ∷
    hex "02 02 00 01 01 05 03 00 01 02" demands refused 12 9 ∷
    hex "01 02 00 02 01 05 01 05" demands accepted tt ∷
    hex "01 02 00 02 01 05 02" demands refused 12 6 ∷
    hex "01 02 00 02 01 05 01" demands refused 2 7 ∷
    []

older_computed : map (λ (row : Row (List ℕ) (Judged (Unit {0}))). verdict (judge_older 0 row.input)) older_rows ≡ map (λ row. row.verdict) older_rows
unfolding hex digit number groups times vector zero_byte older_kind older_hint older_entry judge_older
older_computed = refl

pub older_judge : Demanded (λ p r. verdict_of r ≡ verdict (judge_older 0 p)) verdict_of older_rows
older_judge = by_table (λ p r meets. meets) older_rows older_computed

pub wm_old_hints_judge : Demanded (λ p a. call.WmOldHintsJudge p a) says_verdict older_rows
wm_old_hints_judge = by_table (λ p a meets. ap says_verdict meets ∙ verdict_said (length p) (verdict (judge_older 0 p))) older_rows older_computed

-- Sections: the second one repeated, unknown, past the module; a second `name`, and data after it; a second `branchHints`, and one after the code, and beside the newer edition's (K2)
abbrev pub section_rows : List (Row (List ℕ) (Judged ℕ))
section_rows =
    hex "00 61 73 6D 01 00 00 00 01 00" demands accepted 1 ∷
    hex "00 61 73 6D 01 00 00 00 01 00 01 00" demands refused 6 10 ∷
    hex "00 61 73 6D 01 00 00 00 01 00 FF 00" demands refused 5 10 ∷
    hex "00 61 73 6D 01 00 00 00 01 00 02 01" demands refused 2 11 ∷
    hex "00 61 73 6D 01 00 00 00 00 05 04 6E 61 6D 65" demands accepted 1 ∷
    hex "00 61 73 6D 01 00 00 00 00 05 04 6E 61 6D 65 00 05 04 6E 61 6D 65" demands refused 7 15 ∷
    hex "00 61 73 6D 01 00 00 00 00 05 04 6E 61 6D 65 0B 00" demands refused 8 15 ∷
    hex "00 61 73 6D 01 00 00 00 00 0C 0B 62 72 61 6E 63 68 48 69 6E 74 73" demands accepted 1 ∷
    hex "00 61 73 6D 01 00 00 00 00 0C 0B 62 72 61 6E 63 68 48 69 6E 74 73 00 0C 0B 62 72 61 6E 63 68 48 69 6E 74 73" demands refused 7 22 ∷
    hex "00 61 73 6D 01 00 00 00 0A 00 00 0C 0B 62 72 61 6E 63 68 48 69 6E 74 73" demands refused 8 10 ∷
    hex "00 61 73 6D 01 00 00 00 00 0C 0B 62 72 61 6E 63 68 48 69 6E 74 73 00 1A 19 6D 65 74 61 64 61 74 61 2E 63 6F 64 65 2E 62 72 61 6E 63 68 5F 68 69 6E 74" demands accepted 2 ∷
    []

sections_computed : map (λ (row : Row (List ℕ) (Judged ℕ)). section_count row.input) section_rows ≡ map (λ row. row.verdict) section_rows
unfolding hex digit ascii same preamble begins greatest_id is_custom is_code is_data rank custom is_called name_section hint_section nothing seeing id_rules name_rules section sections framing walk section_count number groups utf8 characters character completes sized name remaining
sections_computed = refl

pub walk_count : Demanded (λ m r. counted r ≡ section_count m) counted section_rows
walk_count = by_table (λ m r meets. meets) section_rows sections_computed

pub wm_walk : Demanded (λ m a. call.WmWalk m a) says_count section_rows
wm_walk = by_table (λ m a meets. ap says_count meets ∙ count_said (section_count m)) section_rows sections_computed

-- The rewritings refuse what the judgement refuses, and write the others: put into an output as long as the payload
abbrev itself : Row (List ℕ) (Judged (Unit {0})) → Row (List ℕ × List ℕ) (Judged (Unit {0}))
itself row = (row.input, row.input) demands row.verdict

module _ (wanted : List ℕ → Judged (List ℕ)) (rows : List (Row (List ℕ) (Judged (Unit {0})))) where
  pub record RewritesSo : Type 0 where
    pub call : Demanded (λ (x : List ℕ × List ℕ) (r : Written × List ℕ). Writes (wanted x.0) x.1 r.1 r.0) (λ r. verdict (written_as r.0)) (map itself rows)
    pub c_call : Demanded (λ (x : List ℕ × List ℕ) (a : WmAnswer × List ℕ). WmWrites (wanted x.0) x.1 a.1 a.0) (λ a. verdict (says_count a.0)) (map itself rows)

  rewrites_so : map (λ (row : Row (List ℕ × List ℕ) (Judged (Unit {0}))). verdict (write_answer (length row.input.1) (wanted row.input.0))) (map itself rows) ≡ map (λ row. row.verdict) (map itself rows) → RewritesSo
  rewrites_so e = record {
    call = by_table (λ x r meets. ap verdict meets.says) (map itself rows) e;
    c_call = by_table (λ x a meets. ap verdict (ap says_count meets.says ∙ count_said (write_answer (length x.1) (wanted x.0)))) (map itself rows) e;
  }

pub rewrite_names_lem : RewritesSo (canonical_names known_kind) name_rows
unfolding same hex digit number groups shortest fewest utf8 characters character completes sized name remaining lookup size map_table rows table known known_kind contents subsections payload judge_names write_part write_rows write_table unless_empty keep_rows bare write_content write_subsections rewrite_names canonical_names fitting write_answer output_after
rewrite_names_lem = rewrites_so (canonical_names known_kind) name_rows refl

pub rewrite_wide_names : RewritesSo (canonical_names wider_kind) wide_rows
unfolding same hex digit number groups shortest fewest utf8 characters character completes sized name remaining lookup size map_table rows table wider wider_kind contents subsections payload judge_names write_part write_rows write_table unless_empty keep_rows bare write_content write_subsections rewrite_names canonical_names fitting write_answer output_after
rewrite_wide_names = rewrites_so (canonical_names wider_kind) wide_rows refl

pub rewrite_metadata_lem : RewritesSo canonical_metadata metadata_rows
unfolding same hex digit number groups shortest fewest sized size map_table rows table any_item metadata judge_metadata write_part write_rows write_table unless_empty keep_rows rewrite_metadata canonical_of canonical_metadata fitting write_answer output_after
rewrite_metadata_lem = rewrites_so canonical_metadata metadata_rows refl

pub rewrite_hints : RewritesSo canonical_hints hint_rows
unfolding same hex digit number groups shortest fewest sized size map_table rows table hint_of hint_item metadata judge_metadata write_part write_rows write_table unless_empty keep_rows rewrite_metadata canonical_of canonical_hints fitting write_answer output_after
rewrite_hints = rewrites_so canonical_hints hint_rows refl

pub rewrite_older : RewritesSo canonical_older older_rows
unfolding same hex digit number groups shortest fewest size write_rows write_table times vector zero_byte older_kind older_hint older_entry judge_older put_first amend with_hints sorted_from write_older_hints write_older not_too_long canonical_older fitting write_answer output_after
rewrite_older = rewrites_so canonical_older older_rows refl
