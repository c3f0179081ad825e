-- The proofs of the three demands in `Demands.antt`, and of the requests, by their names.
use Rattle.std.specs.Prelude.{ℕ, ◌≤◌, ◌<◌, List, [], ◌∷◌, ◌↔◌, ◌≡◌, refl, take, drop}
use Rattle.std.proofs.Math.Logic.Iff
use Rattle.std.proofs.Math.Option.{Option, none, some}
use Rattle.std.proofs.Common.{sym, ap, ◌∙◌}
use Rattle.std.proofs.Math.ListN.{length}
use Rattle.wakemiono.specs.declared.WmAnswer.{WmAnswer}
use Rattle.wakemiono.specs.Boundary.{wm_refused}
use Rattle.grammar.specs.Faults.Older.{OlderFault}
use Rattle.grammar.specs.Numbers.{Grammar}
use Rattle.grammar.specs.Names.{NamePayload}
use Rattle.grammar.specs.Metadata.{CodeMetadata, Unknown, BranchHint}
use Rattle.format.specs.Entries.{older_columns}
use Rattle.format.specs.Tables.{Table}
use Rattle.format.specs.Names.{Content}
use Rattle.format.specs.Why.{TrueOfFunction, TrueOfLocal, why_function, why_local}
use Rattle.format.specs.declared.Edition.{Edition}
use Rattle.format.specs.declared.FunctionIndex.{FunctionIndex}
use Rattle.format.specs.declared.LocalIndex.{LocalIndex}
use Rattle.format.specs.declared.Edition.TheVariants.{First, Wider}
use Rattle.format.specs.declared.Question.{Question}
use Rattle.format.specs.declared.Question.TheVariants.{ModuleName, FunctionName, LocalName, LabelName, TypeName, TableName, MemoryName, GlobalName, ElementName, DataName, FieldName, TagName, KeptContents}
use Rattle.format.proofs.Theorems.{ItemQuestion}
use Rattle.format.specs.Canonical.{rewrite_names, rewrite_metadata, canonical_names, canonical_of, canonical_metadata, canonical_hints}
use Rattle.format.specs.Metadata.{any_item, hint_item, judge_metadata, ask_metadata, ask_hint}
use Rattle.format.specs.Names.{Kind, known_kind, wider_kind, kind_in, judge_names}
use Rattle.format.specs.Questions.{AllowedBy, as_place, ask}
use Rattle.format.specs.Lists.{function_names}
use Rattle.format.specs.Markers.{made, quick}
use Rattle.format.specs.Older.{first_in, judge_older, ask_older, canonical_older}
use Rattle.format.specs.Options.{map_some}
use Rattle.format.specs.Reading.{map_judged, verdict}
use Rattle.format.specs.Telling.{is_its_rewriting, names_are_canonical, items_are_canonical, older_is_canonical}
use Rattle.format.specs.Bytes.{Bytes}
use Rattle.format.specs.Through.{metadata_section, ask_through, ask_metadata_through, ask_hint_through, ask_older_through}
use Rattle.format.specs.Walk.{name_section, hint_section, older_hint_section, section_count, section_at, custom_payload}
use Rattle.wakemiono.specs.Boundary.{wm_count, wm_section, wm_place, wm_judged, wm_hint, wm_yes, WmWrites}
use Rattle.walk.specs.Surveys.{section_place}
use Rattle.format.proofs.Theorems.{Rewrites as AnyRewrites, questions_answered, hints_answered as all_hints_answered, any_metadata_answered, edition_rewritten, any_metadata_rewritten, hints_rewritten, older_rewritten, edition_shortest, any_metadata_shortest, hints_shortest, older_shortest, functions_why, locals_why}
use Rattle.format.specs.Canonical.{bare, bare_items}
use Rattle.format.specs.Holding.{HasWithin, Holds}
use Rattle.format.specs.Laws.Outcomes.{not_accepted, refused_exactly}
use Rattle.format.specs.Outputs.{write_answer}
use Rattle.format.specs.Parts.{Part}
use Rattle.format.specs.Reading.{Judged, accepted, refused, Accepted}
use Rattle.format.specs.Walk.{Section as AnySection, walk}
use Rattle.format.specs.declared.Hint.{Hint}
use Rattle.format.specs.declared.Hint.TheVariants.{Unlikely, Likely}
use Rattle.format.specs.Questions.{id_of, query_of}
use Rattle.format.specs.Tables.{map_table}
use Rattle.grammar.specs.Faults.Names.{NamePayloadFault}
use Rattle.grammar.specs.Faults.Metadata.{AnyItemFault, HintFault, MetadataFault}
use Rattle.grammar.specs.Faults.Modules.{ModuleFault}
use Rattle.grammar.specs.Faults.Writing.{lists_disagree, not_above_lem, not_text, subsection_too_large}
use Rattle.grammar.proofs.Refusing.{ids_refused, names_refused, wider_names_refused, metadata_refused, hints_refused, older_refused as older_hints_refused, modules_refused, lists_refused as all_lists_refused}
use Rattle.grammar.specs.Forgetting.{bare_sections}
use Rattle.grammar.proofs.Grammar.{Accepts, ids_exact, metadata_exact, hints_exact, older_exact, modules_exact}
use Rattle.grammar.proofs.Laws.Metadata.{any_exact, metadata_complete}
use Rattle.grammar.proofs.Laws.Names.{SameIds, source_ids, wider_ids, names_complete}
use Rattle.promises.specs.Laws.Arriving.{as_walk, as_name, as_hints, as_older, no_place, same_state, total_is, is_taken, is_too_large, late_part, late_finish, part_stays, finish_stays}
use Rattle.promises.specs.Laws.Judging.{found_grammar, refused_grammar}
use Rattle.promises.specs.Laws.Listing.{lists_accepted, lists_read_back, lists_rest}
use Rattle.promises.specs.Laws.Lists.{lists_fine, fine_written}
use Rattle.promises.specs.Laws.Lookups.{tells_as, asked_tells, asked_refused, likely_held, unlikely_held, no_hint_held, hint_refused, name_held, contents_held, entry_held, inner_held, within_held}
use Rattle.promises.specs.Laws.Outputs.{wrote_leaves, wrote_short, wrote_again}
use Rattle.promises.specs.Laws.Editions.{none_kept, within_one_edition, accepted_by_both, answered_alike}
use Rattle.promises.proofs.Laws.Exactly.{RefusedBy, JudgedThrough, walk_refused, payload_refused, JudgedOrShort, name_in_exactly, metadata_in_exactly, hint_in_exactly, older_in_exactly, written_exactly, rewritten_exactly}
use Rattle.promises.proofs.Laws.Entries.{lists_names, lists_metadata, lists_hints}
use Rattle.promises.proofs.Laws.ListsRefused.{lists_refused}
use Rattle.promises.proofs.Laws.Faults.{answers_otherwise, writes_otherwise, faults, or_short, older_or_short, through_faults, format_faults}
use Rattle.promises.specs.Laws.Rows.{rows_answered, came_rows}
use Rattle.promises.proofs.Laws.OldLists.{rows as older_listed, older_came, functions_listed, offsets_listed, likely_listed, row_told, every_row, no_row, rows_risen}
use Rattle.promises.proofs.Laws.Older.{older_likely, older_unlikely, older_none, older_hint_refused, older_refused, older_never_15, older_ordered, sections_apart, never_empty}
use Rattle.promises.specs.Laws.Refusing.{Numbered, FairlyJudged, names_fair, any_fair, hint_fair, item_of_fair, items_fair, older_fair, older_fair_by, walk_fair}
use Rattle.promises.specs.Laws.Rewriting.{WhereWritten, always_written, Asked, names_asked, metadata_asked, hints_asked, older_asked, names_written, metadata_written, hints_written, names_first_judged, metadata_first_judged, hints_first_judged, rewritten_same, rewritten_accepted, rewritten_alike, rewritten_shorter, rewritten_rests, rewritten_fits, rewriting_refused, names_refuse, metadata_refuse, hints_refuse, older_refuse, older_written}
use Rattle.promises.specs.Laws.Saying.{Verdict as Says, judged_said, judged_whole, refused_said, hint_refused_said}
use Rattle.promises.specs.Laws.Shortest.{longer, least, other_names, other_wide_names, other_metadata, other_hints, other_old_hints}
use Rattle.promises.specs.Laws.Telling.{number_told, else_zero, yes_told}
use Rattle.promises.specs.Laws.Through.{name_through, hint_through, older_through, metadata_through, hint_data_through}
use Rattle.promises.specs.Laws.Why.{function_in_1, local_in_2, says_why_lem}
use Rattle.promises.specs.Laws.Branching.{imports_numbered, bodies_numbered, branches_fair}
use Rattle.promises.proofs.Laws.Compacting.{stepped, room_after, nobodys_call, compact_elsewhere, compact_damaged, compact_granted}
use Rattle.promises.proofs.Laws.Sharing.{open_replies, ask_replies, close_replies, table_users, table_used, table_kept, table_once, isolated_customer, shown_name, never_refused, open_refused, ask_refused, close_refused}
use Rattle.promises.specs.Laws.FunctionNames.{function_names_lem}
use Rattle.promises.proofs.Laws.Markers.{made_reply, markers_refused, markers_numbered, indices_left, offsets_left, markers_marked, own_answers, rule_followed, quick_refused, quick_numbered}
use Rattle.promises.specs.Laws.Pairs.{asks_pairs, hands_back}
use Rattle.promises.proofs.Laws.Joins.{joins_pairs}
use Rattle.promises.specs.Laws.Walking.{walked, walk_counts, section_found, section_first, section_none, section_refused, custom_tells, custom_refused}
use Rattle.wakemiono.specs.Calls.{WmWalk, WmMetadataJudge, WmHintsJudge, WmMetadataCanonical, WmHintsCanonical, WmFunctionNamesWrite, WmOldHintsJudge, WmOldHintsCanonical, WmHintsOnBranches}
use Rattle.promises.specs.Demands.{Verdict, Reply, SectionReply, HintReply, Answers, RefusedThrough, RefusedOrShort, ListsRefused, NeedsRoom, Writing, Demand1, HoldsName, HoldsData, JudgesExactly, AnswersNames, AnswersMetadata, AnswersHints, Walks, Demand2, SameAnswer, Rewritten, Rewrites, Demand3, yes, no, reply_none, reply_found, reply_refused, section_none_lem, section_found_lem, section_refused_lem, hint_none, hint_unlikely, hint_likely, hint_refused_lem, by_aFault, too_short, Faulty, lists_fault, output_too_short, TellsCanonical, K10, K9, OlderRefused, AnswersOlder, K2, OldHintsListed, older_fault, older_too_long, older_too_short, K11, K7, K8, K3, K5, K6, K12, K13, EveryEntry}
use Rattle.branches.specs.Branches.{hints_on_branches}
use Rattle.branches.proofs.Theorems.{module_exactly, module_refused_exactly, without_hints}
use Rattle.promises.specs.Answers.{says_verdict, verdict_said}

-- Demand 1
judged_verdict : (n : ℕ) (j : Judged (Unit {0})) → Verdict (wm_judged n j)
judged_verdict n (accepted v) = yes n
judged_verdict n (refused m at) = no m at

count_verdict : (j : Judged ℕ) → Verdict (wm_count j)
count_verdict (accepted n) = yes n
count_verdict (refused m at) = no m at

place_reply : (j : Judged (Option Part)) → Reply (wm_place (as_place j))
unfolding as_place
place_reply (accepted none) = reply_none
place_reply (accepted (some p)) = reply_found p.at (length p.bytes)
place_reply (refused m at) = reply_refused m at

section_reply : (j : Judged (Option AnySection)) → SectionReply (wm_section (map_judged (map_some section_place) j))
section_reply (accepted none) = section_none_lem
section_reply (accepted (some s)) = section_found_lem s.id s.at (length s.contents.bytes)
section_reply (refused m at) = section_refused_lem m at

hint_reply : (j : Judged (Option Hint)) → HintReply (wm_hint j)
hint_reply (accepted none) = hint_none
hint_reply (accepted (some Unlikely)) = hint_unlikely
hint_reply (accepted (some Likely)) = hint_likely
hint_reply (refused m at) = hint_refused_lem m at

-- by a judgement whose numbers are known
answers_as : {A : Type 0} {Forms : WmAnswer → Type 0} {a : WmAnswer} {j : Judged A} → FairlyJudged j → Forms a → ((n at : ℕ) → (a ≡ wm_refused n at) ↔ (j ≡ refused n at)) → Answers Forms (RefusedBy j) a
answers_as fair forms exactly = record { answers = forms; refuses = exactly; numbered = λ n at e. fair.numbered n at ((exactly n at).0 e) }

-- by the judging call, which refuses alike
alike : {A : Type 0} {a j : WmAnswer} {judged : Judged A} → Says j judged → ((n at : ℕ) → (a ≡ wm_refused n at) ↔ (j ≡ wm_refused n at)) → (n at : ℕ) → (a ≡ wm_refused n at) ↔ (judged ≡ refused n at)
alike says same n at = Iff.trans (same n at) (says.refusal n at)

module _ {A : Type 0} {section : List ℕ} {judgement : ℕ → List ℕ → Judged A} (fair : (at : ℕ) (p : List ℕ) → FairlyJudged (judgement at p)) {m : List ℕ} where
  through_numbered : {n at : ℕ} → JudgedThrough section judgement m n at → Numbered n
  through_numbered {n} {at} (walk_refused e) = (walk_fair m).numbered n at e
  through_numbered {n} {at} (payload_refused c found k e) = (fair c.offset (take c.length (drop c.offset m))).numbered n at e

  answers_through : {Forms : WmAnswer → Type 0} {a : WmAnswer} → Forms a → ((n at : ℕ) → (a ≡ wm_refused n at) ↔ JudgedThrough section judgement m n at) → Answers Forms (JudgedThrough section judgement m) a
  answers_through forms exactly = record { answers = forms; refuses = exactly; numbered = λ n at e. through_numbered ((exactly n at).0 e) }

short_numbered : {A : Type 0} {j : Judged A} {needed : A → ℕ} {room n at : ℕ} → FairlyJudged j → JudgedOrShort j needed room n at → Numbered n
short_numbered {n = n} {at = at} fair (by_aFault e) = fair.numbered n at e
short_numbered fair (too_short e short) = refl

lists_numbered : {is ns text : List ℕ} {room n at : ℕ} → ListsRefused is ns text room n at → Numbered n
lists_numbered (lists_fault (lists_disagree _)) = refl
lists_numbered (lists_fault (not_above_lem k _ _)) = refl
lists_numbered (lists_fault (not_text k _ _ _)) = refl
lists_numbered (lists_fault (subsection_too_large _ _)) = refl
lists_numbered (output_too_short _ _ _) = refl

written_verdict : (wanted : Judged (List ℕ)) (old new : List ℕ) (a : WmAnswer) → WmWrites wanted old new a → Verdict a
written_verdict wanted old new a w = rw w.says (count_verdict (write_answer (length old) wanted))

needs_room : (wanted : Judged (List ℕ)) → NeedsRoom (λ old new a. WmWrites wanted old new a)
needs_room wanted old new old' new' a b v w k = (wrote_short v w k, wrote_again v w k)

writes_as : {A : Type 0} (f : A → List ℕ) (j : Judged A) → FairlyJudged j → Writing (JudgedOrShort j (λ v. length (f v))) (λ old new a. WmWrites (map_judged f j) old new a)
writes_as f j fair = record {
  answers = λ old new a w. record {
    answers = written_verdict (map_judged f j) old new a w;
    refuses = rewritten_exactly f j w;
    numbered = λ n at e. short_numbered fair ((rewritten_exactly f j w n at).0 e);
  };
  leaves = wrote_leaves (map_judged f j);
  needs_room = needs_room (map_judged f j);
}

-- names, over any table of ids
module _ {Ids : ℕ → Kind → Type 0} {kind_of : ℕ → Kind} (ids : SameIds Ids kind_of) where
  names_faults : (p : List ℕ) → Bytes p → (n at : ℕ) → RefusedBy (judge_names kind_of 0 p) n at ↔ NamePayloadFault Ids p n at
  names_faults p h = faults (ids_refused ids 0) p h

  judges_names : (p : List ℕ) (a : WmAnswer) → Bytes p → a ≡ wm_judged (length p) (verdict (judge_names kind_of 0 p)) → Answers Verdict (NamePayloadFault Ids p) a
  judges_names p a h e = answers_otherwise (answers_as (names_fair kind_of 0 p) (rw e (judged_verdict (length p) (verdict (judge_names kind_of 0 p)))) (judged_said (length p) (judge_names kind_of 0 p) e).refusal) (names_faults p h)

  asks_names : (q : Question) (p : List ℕ) (a : WmAnswer) → Bytes p → a ≡ wm_place (as_place (ask kind_of q p)) → Answers Reply (NamePayloadFault Ids p) a
  asks_names q p a h e = answers_otherwise (answers_as (names_fair kind_of 0 p) (rw e (place_reply (ask kind_of q p))) (rw e (λ n at. Iff.trans (refused_said (ask kind_of q p) n at) ((questions_answered kind_of).refuses q p n at)))) (names_faults p h)

  asks_names_in : (q : Question) (m : List ℕ) (a : WmAnswer) → Bytes m → a ≡ wm_place (as_place (ask_through kind_of q m)) → Answers Reply (RefusedThrough name_section (NamePayloadFault Ids) m) a
  asks_names_in q m a h e = answers_otherwise (answers_through (names_fair kind_of) (rw e (place_reply (ask_through kind_of q m))) (name_in_exactly kind_of q m a e)) (through_faults (λ at. (ids_refused ids at).refused_exactly) name_section m h)

  writes_names : (p : List ℕ) → Bytes p → Writing (RefusedOrShort (NamePayloadFault Ids p) (judge_names kind_of 0 p) (λ t. length (rewrite_names t))) (λ old new a. WmWrites (canonical_names kind_of p) old new a)
  unfolding canonical_names
  writes_names p h = writes_otherwise (writes_as rewrite_names (judge_names kind_of 0 p) (names_fair kind_of 0 p)) (or_short (judge_names kind_of 0 p) (λ t. length (rewrite_names t)) (names_faults p h))

module_faults : (m : List ℕ) → Bytes m → (n at : ℕ) → RefusedBy (walk m) n at ↔ ModuleFault m n at
module_faults m h = faults modules_refused m h

any_faults : (p : List ℕ) → Bytes p → (n at : ℕ) → RefusedBy (judge_metadata any_item 0 p) n at ↔ MetadataFault Unknown AnyItemFault p n at
any_faults p h = faults (metadata_refused 0) p h

hint_faults : (p : List ℕ) → Bytes p → (n at : ℕ) → RefusedBy (judge_metadata hint_item 0 p) n at ↔ MetadataFault BranchHint HintFault p n at
hint_faults p h = faults (hints_refused 0) p h

writes_metadata : (p : List ℕ) → Bytes p → Writing (RefusedOrShort (MetadataFault Unknown AnyItemFault p) (judge_metadata any_item 0 p) (λ t. length (rewrite_metadata t))) (WmMetadataCanonical p)
unfolding canonical_metadata canonical_of
writes_metadata p h = writes_otherwise (writes_as rewrite_metadata (judge_metadata any_item 0 p) (items_fair any_fair 0 p)) (or_short (judge_metadata any_item 0 p) (λ t. length (rewrite_metadata t)) (any_faults p h))

writes_hints : (p : List ℕ) → Bytes p → Writing (RefusedOrShort (MetadataFault BranchHint HintFault p) (judge_metadata hint_item 0 p) (λ t. length (rewrite_metadata t))) (WmHintsCanonical p)
unfolding canonical_hints canonical_of
writes_hints p h = writes_otherwise (writes_as rewrite_metadata (judge_metadata hint_item 0 p) (items_fair hint_fair 0 p)) (or_short (judge_metadata hint_item 0 p) (λ t. length (rewrite_metadata t)) (hint_faults p h))

writes_lists : (is ns text : List ℕ) → Writing (ListsRefused is ns text) (WmFunctionNamesWrite is ns text)
writes_lists is ns text = record {
  answers = λ old new a w. record {
    answers = written_verdict (function_names is ns text) old new a w;
    refuses = exactly w;
    numbered = λ n at e. lists_numbered ((exactly w n at).0 e);
  };
  leaves = wrote_leaves (function_names is ns text);
  needs_room = needs_room (function_names is ns text);
}
  where
    exactly : {old new : List ℕ} {a : WmAnswer} → WmWrites (function_names is ns text) old new a → (n at : ℕ) → (a ≡ wm_refused n at) ↔ ListsRefused is ns text (length old) n at
    exactly {old} w n at = Iff.trans (written_exactly (function_names is ns text) w n at) (lists_refused is ns text (length old) n at)

faulty : Faulty
faulty = record {
  modules = modules_refused;
  names = names_refused;
  wide_names = wider_names_refused;
  metadata = metadata_refused;
  hints = hints_refused;
  older_hints = older_hints_refused;
  lists = all_lists_refused;
}

pub demand_1 : Demand1
demand_1 = record {
  walk = λ m a h e. answers_otherwise (answers_as (walk_fair m) (rw e (count_verdict (section_count m))) (walked m e).refusal) (module_faults m h);
  section = λ i m a h e. answers_otherwise (answers_as (walk_fair m) (rw e (section_reply (section_at i m))) (alike (walked m refl) (section_refused i m a (wm_count (section_count m)) e refl))) (module_faults m h);
  custom = λ x m a h e. answers_otherwise (answers_as (walk_fair m) (rw e (place_reply (custom_payload x m))) (alike (walked m refl) (custom_refused x m a (wm_count (section_count m)) e refl))) (module_faults m h);
  names_judge = judges_names source_ids;
  name = asks_names source_ids;
  metadata_judge = λ p a h e. answers_otherwise (answers_as (items_fair any_fair 0 p) (rw e (judged_verdict (length p) (verdict (judge_metadata any_item 0 p)))) (judged_said (length p) (judge_metadata any_item 0 p) e).refusal) (any_faults p h);
  metadata = λ f o p a h e. answers_otherwise (answers_as (items_fair any_fair 0 p) (rw e (place_reply (ask_metadata any_item (record { 0 = f }) (record { 0 = o }) 0 p))) (rw e (λ n at. Iff.trans (refused_said (ask_metadata any_item (record { 0 = f }) (record { 0 = o }) 0 p) n at) (any_metadata_answered.refuses (record { 0 = f }, record { 0 = o }) p n at)))) (any_faults p h);
  hints_judge = λ p a h e. answers_otherwise (answers_as (items_fair hint_fair 0 p) (rw e (judged_verdict (length p) (verdict (judge_metadata hint_item 0 p)))) (judged_said (length p) (judge_metadata hint_item 0 p) e).refusal) (hint_faults p h);
  hint = λ f o p a h e. answers_otherwise (answers_as (items_fair hint_fair 0 p) (rw e (hint_reply (ask_hint (record { 0 = f }) (record { 0 = o }) 0 p))) (rw e (λ n at. Iff.trans (hint_refused_said (ask_hint (record { 0 = f }) (record { 0 = o }) 0 p) n at) (all_hints_answered.refuses (record { 0 = f }) (record { 0 = o }) p n at)))) (hint_faults p h);
  name_in = asks_names_in source_ids;
  metadata_in = λ x f o m a h e. answers_otherwise (answers_through (items_fair (item_of_fair x)) (rw e (place_reply (ask_metadata_through x (record { 0 = f }) (record { 0 = o }) m))) (metadata_in_exactly x (record { 0 = f }) (record { 0 = o }) m a e)) (through_faults (format_faults x) (metadata_section x) m h);
  hint_in = λ f o m a h e. answers_otherwise (answers_through (items_fair hint_fair) (rw e (hint_reply (ask_hint_through (record { 0 = f }) (record { 0 = o }) m))) (hint_in_exactly (record { 0 = f }) (record { 0 = o }) m a e)) (through_faults (λ at. (hints_refused at).refused_exactly) hint_section m h);
  names_canonical = writes_names source_ids;
  metadata_canonical = writes_metadata;
  hints_canonical = writes_hints;
  function_names_write = writes_lists;
  faults = faulty;
}

-- Demand 2
judges : {A B : Type 0} (judgement : List ℕ → Judged A) (plain : A → B) (judging : List ℕ → WmAnswer → Type 0) {grammar : Grammar B} → Accepts (λ p. map_judged plain (judgement p)) grammar → ((p : List ℕ) (a : WmAnswer) → judging p a → Says a (judgement p)) → JudgesExactly judging grammar
judges judgement plain judging exact says = record {
  found_exactly = λ p a b e. found_grammar judgement plain exact b (says p a e);
  refused_exactly = λ p a b e. refused_grammar judgement plain exact b (says p a e);
  one_meaning = exact.one_meaning;
}

names_judged : {Ids : ℕ → Kind → Type 0} {kind_of : ℕ → Kind} → SameIds Ids kind_of → JudgesExactly (λ p a. a ≡ wm_judged (length p) (verdict (judge_names kind_of 0 p))) (NamePayload Ids)
names_judged {kind_of = kind_of} ids = judges (judge_names kind_of 0) (map_table bare) (λ p a. a ≡ wm_judged (length p) (verdict (judge_names kind_of 0 p))) (ids_exact ids 0) (λ p a e. judged_said (length p) (judge_names kind_of 0 p) e)

metadata_judged : JudgesExactly WmMetadataJudge (CodeMetadata Unknown)
metadata_judged = judges (judge_metadata any_item 0) (λ t. bare_items t) WmMetadataJudge (metadata_exact 0) (λ p a e. judged_said (length p) (judge_metadata any_item 0 p) e)

hints_judged : JudgesExactly WmHintsJudge (CodeMetadata BranchHint)
hints_judged = judges (judge_metadata hint_item 0) (λ t. bare_items t) WmHintsJudge (hints_exact 0) (λ p a e. judged_said (length p) (judge_metadata hint_item 0 p) e)

held : (q : Question) (m : Table (Content (List ℕ))) (x : List ℕ) → Holds (id_of q) (query_of q) m x ↔ HoldsName m x q
held ModuleName m x = name_held 0
held (FunctionName k) m x = entry_held 1 k.0
held (LocalName k j) m x = inner_held 2 k.0 j.0
held (LabelName k j) m x = inner_held 3 k.0 j.0
held (TypeName k) m x = entry_held 4 k.0
held (TableName k) m x = entry_held 5 k.0
held (MemoryName k) m x = entry_held 6 k.0
held (GlobalName k) m x = entry_held 7 k.0
held (ElementName k) m x = entry_held 8 k.0
held (DataName k) m x = entry_held 9 k.0
held (FieldName k j) m x = inner_held 10 k.0 j.0
held (TagName k) m x = entry_held 11 k.0
held (KeptContents id) m x = contents_held id

-- over any table of ids
names_answered : {Ids : ℕ → Kind → Type 0} {kind_of : ℕ → Kind} → SameIds Ids kind_of → AnswersNames Ids (λ p j. j ≡ wm_judged (length p) (verdict (judge_names kind_of 0 p))) (λ q p a. a ≡ wm_place (as_place (ask kind_of q p)))
names_answered {kind_of = kind_of} ids = record {
  tells = λ q p m a g e. tells_as p a (λ x. Holds (id_of q) (query_of q) m x) (λ x. HoldsName m x q) (held q m) (asked_tells (λ m q x. Holds (id_of q) (query_of q) m x) (questions_answered kind_of) q p a e m (names_complete ids 0 p m g));
  refuses = λ q p a j e says. asked_refused (λ m q x. Holds (id_of q) (query_of q) m x) (questions_answered kind_of) q p a e (judged_said (length p) (judge_names kind_of 0 p) says);
}

metadata_answered : AnswersMetadata
metadata_answered = record {
  tells = λ f o p m a g e. tells_as p a (λ x. HasWithin f o x m) (λ x. HoldsData f o m x) (λ x. within_held) (asked_tells {Q = ItemQuestion} (λ m q x. HasWithin q.0.0 q.1.0 x m) any_metadata_answered (record { 0 = f }, record { 0 = o }) p a e m (metadata_complete any_exact 0 p m g));
  refuses = λ f o p a j e says. asked_refused {Q = ItemQuestion} (λ m q x. HasWithin q.0.0 q.1.0 x m) any_metadata_answered (record { 0 = f }, record { 0 = o }) p a e (judged_said (length p) (judge_metadata any_item 0 p) says);
}

hints_answered : AnswersHints
hints_answered = record {
  likely = λ f o p m a g e. Iff.trans (likely_held (record { 0 = f }) (record { 0 = o }) p a e m g) within_held;
  unlikely = λ f o p m a g e. Iff.trans (unlikely_held (record { 0 = f }) (record { 0 = o }) p a e m g) within_held;
  none = λ f o p m a g e. no_hint_held (record { 0 = f }) (record { 0 = o }) p a e m g;
  refuses = λ f o p a j e says. hint_refused (record { 0 = f }) (record { 0 = o }) p a e (judged_said (length p) (judge_metadata hint_item 0 p) says);
}

walks : Walks
walks = record {
  counts = walk_counts;
  section = section_found;
  first = section_first;
  past_the_last = section_none;
  custom = custom_tells;
  section_refuses = section_refused;
  custom_refuses = custom_refused;
}

pub demand_2 : Demand2
demand_2 = record {
  names_judged = names_judged source_ids;
  metadata_judged = metadata_judged;
  hints_judged = hints_judged;
  modules_judged = judges walk (λ ss. bare_sections ss) WmWalk modules_exact (λ p a e. walked p e);
  names_whole = λ p a. judged_whole (length p) (verdict (judge_names known_kind 0 p));
  metadata_whole = λ p a. judged_whole (length p) (verdict (judge_metadata any_item 0 p));
  hints_whole = λ p a. judged_whole (length p) (verdict (judge_metadata hint_item 0 p));
  names = names_answered source_ids;
  metadata = metadata_answered;
  hints = hints_answered;
  walks = walks;
  through_modules = record { names = name_through known_kind; hints = λ f o. hint_through (record { 0 = f }) (record { 0 = o }); metadata = λ x n f o. metadata_through x n (record { 0 = f }) (record { 0 = o }); hint_data = λ f o. hint_data_through (record { 0 = f }) (record { 0 = o }) };
  written_fine = lists_fine;
  fine_written = fine_written;
  lists = λ is ns text old new a l w k. record { is_accepted = lists_accepted is ns text old new a l w k; reads_back = lists_read_back is ns text old new a l w k; is_canonical = lists_rest is ns text old new a l w k };
}

-- Demand 3
module _ {A Q R : Type 0} {judgement : List ℕ → Judged A} {rewriting : List ℕ → Judged (List ℕ)} {answer : Q → List ℕ → R} {Allowed : Q → Type 0} (rewrites : WhereWritten judgement rewriting answer Allowed)
    (refuse : (p : List ℕ) (n at : ℕ) → judgement p ≡ refused n at → rewriting p ≡ refused n at)
    {asking : Q → List ℕ → WmAnswer → Type 0} {Same : (x y : List ℕ) (a b : WmAnswer) → Type 0} (asked : Asked judgement answer asking Same) where
  rewritten : Rewritten (λ p j. j ≡ wm_judged (length p) (verdict (judgement p))) asking Allowed Same (λ p old new a. WmWrites (rewriting p) old new a)
  rewritten = record {
    same_exactly = rewritten_same rewrites asked;
    is_accepted = λ p old new a w k j e. rewritten_accepted rewrites asked p old new a w k j (judged_said _ (judgement (take a.length new)) e);
    answers_alike = rewritten_alike rewrites asked;
    never_longer = rewritten_shorter rewrites asked;
    comes_to_rest = rewritten_rests rewrites asked;
    refuses = λ p old new a j e. rewriting_refused rewriting refuse p old new a j (judged_said (length p) (judgement p) e);
  }

  fits : (p old new : List ℕ) (a j : WmAnswer) → (Accepted judgement p → (bytes : List ℕ) × (rewriting p ≡ accepted bytes)) → j ≡ wm_judged (length p) (verdict (judgement p)) → j.kind ≡ 1 → length p ≤ length old → WmWrites (rewriting p) old new a → a.kind ≡ 1
  fits p old new a j has e = rewritten_fits rewrites asked p old new a j has (judged_said (length p) (judgement p) e)

  -- where every accepted payload has one
  rewritten_always : ((p : List ℕ) → Accepted judgement p → (bytes : List ℕ) × (rewriting p ≡ accepted bytes)) → Rewrites (λ p j. j ≡ wm_judged (length p) (verdict (judgement p))) asking Allowed Same (λ p old new a. WmWrites (rewriting p) old new a)
  rewritten_always has = record { written = rewritten; room_enough = λ p old new a j. fits p old new a j (has p) }

-- of an edition
names_rewritten : (edition : Edition) → Rewrites (λ p j. j ≡ wm_judged (length p) (verdict (judge_names (kind_in edition) 0 p))) (λ q p a. a ≡ wm_place (as_place (ask (kind_in edition) q p))) (AllowedBy (kind_in edition)) SameAnswer (λ p old new a. WmWrites (canonical_names (kind_in edition) p) old new a)
names_rewritten edition = let rewrites = edition_rewritten edition in rewritten_always (names_written edition) (names_refuse (kind_in edition)) (names_asked (kind_in edition)) (λ p a. rewrites.accepts a)

pub demand_3 : Demand3
demand_3 = record {
  names = names_rewritten First;
  metadata = rewritten_always metadata_written metadata_refuse metadata_asked (λ p a. any_metadata_rewritten.accepts a);
  hints = rewritten_always hints_written hints_refuse hints_asked (λ p a. hints_rewritten.accepts a);
}

-- K10
module _ {A Q R : Type 0} {judgement : List ℕ → Judged A} {rewriting : List ℕ → Judged (List ℕ)} {answer : Q → List ℕ → R} {Allowed : Q → Type 0} (rewrites : WhereWritten judgement rewriting answer Allowed)
    (filled : (p : List ℕ) → Accepted judgement p → (n at : ℕ) → rewriting p ≡ refused n at → 0 < length p) where
  told : TellsCanonical (λ p j. j ≡ wm_judged (length p) (verdict (judgement p))) (λ p old new a. WmWrites (rewriting p) old new a) (λ p y. y ≡ wm_yes (is_its_rewriting (rewriting p) p))
  told = record {
    yes_exactly = yes_told judgement rewriting (λ p bytes c. rewrites.first_judged p c) (λ p bytes c. (rewrites.rewritten p c).never_longer) filled;
    no_else = λ p y. else_zero (is_its_rewriting (rewriting p) p);
  }

-- where every accepted payload has a rewriting
told_always : {A Q R : Type 0} {judgement : List ℕ → Judged A} {rewriting : List ℕ → Judged (List ℕ)} {answer : Q → List ℕ → R} {Allowed : Q → Type 0} → AnyRewrites judgement rewriting answer Allowed → ((p bytes : List ℕ) → rewriting p ≡ accepted bytes → Accepted judgement p) → TellsCanonical (λ p j. j ≡ wm_judged (length p) (verdict (judgement p))) (λ p old new a. WmWrites (rewriting p) old new a) (λ p y. y ≡ wm_yes (is_its_rewriting (rewriting p) p))
told_always rewrites first_judged = told (always_written rewrites first_judged) (λ p a n at e. absurd (not_accepted (sym e ∙ (rewrites.accepts a).1)))

names_told : (edition : Edition) → TellsCanonical (λ p j. j ≡ wm_judged (length p) (verdict (judge_names (kind_in edition) 0 p))) (λ p old new a. WmWrites (canonical_names (kind_in edition) p) old new a) (λ p y. y ≡ wm_yes (names_are_canonical (kind_in edition) p))
unfolding names_are_canonical canonical_names
names_told edition = told_always (edition_rewritten edition) (names_first_judged (kind_in edition))

pub k10 : K10
unfolding names_are_canonical items_are_canonical canonical_names canonical_metadata canonical_hints canonical_of
k10 = record {
  numbers = number_told;
  names = names_told First;
  metadata = told_always any_metadata_rewritten metadata_first_judged;
  hints = told_always hints_rewritten hints_first_judged;
}

pub k9 : K9
k9 = record {
  names_judge = judges_names wider_ids;
  name = asks_names wider_ids;
  name_in = asks_names_in wider_ids;
  names_canonical = writes_names wider_ids;
  names_judged = names_judged wider_ids;
  names_whole = λ p a. judged_whole (length p) (verdict (judge_names wider_kind 0 p));
  names = names_answered wider_ids;
  through_modules = name_through wider_kind;
  rewritten = names_rewritten Wider;
  told = names_told Wider;
  none_kept = none_kept;
  within_one_edition = within_one_edition;
  accepted_by_both = accepted_by_both;
  answered_alike = answered_alike;
}

-- K2
older_refused_numbered : {p : List ℕ} {room n at : ℕ} → OlderRefused (RefusedBy (judge_older 0 p)) p room n at → Numbered n
older_refused_numbered {p} {n = n} {at = at} (older_fault e) = (older_fair 0 p).numbered n at e
older_refused_numbered (older_too_long e long) = refl
older_refused_numbered (older_too_short e small short) = refl

writes_older : (p : List ℕ) → Writing (OlderRefused (RefusedBy (judge_older 0 p)) p) (WmOldHintsCanonical p)
writes_older p = record {
  answers = λ old new a w. record {
    answers = written_verdict (canonical_older p) old new a w;
    refuses = exactly w;
    numbered = λ n at e. older_refused_numbered ((exactly w n at).0 e);
  };
  leaves = wrote_leaves (canonical_older p);
  needs_room = needs_room (canonical_older p);
}
  where
    exactly : {old new : List ℕ} {a : WmAnswer} → WmWrites (canonical_older p) old new a → (n at : ℕ) → (a ≡ wm_refused n at) ↔ OlderRefused (RefusedBy (judge_older 0 p)) p (length old) n at
    exactly {old} w n at = Iff.trans (written_exactly (canonical_older p) w n at) (older_refused p (length old) n at)

older_answered : AnswersOlder
older_answered = record {
  likely = λ f o p m a g e. older_likely (record { 0 = f }) (record { 0 = o }) p a e m g;
  unlikely = λ f o p m a g e. older_unlikely (record { 0 = f }) (record { 0 = o }) p a e m g;
  none = λ f o p m a g e. older_none (record { 0 = f }) (record { 0 = o }) p a e m g;
  refuses = λ f o p a j e says. older_hint_refused (record { 0 = f }) (record { 0 = o }) p a e (judged_said (length p) (judge_older 0 p) says);
}

pub k2 : K2
unfolding ask_older older_is_canonical
k2 = record {
  judge = λ p a h e. answers_otherwise (answers_as (older_fair 0 p) (rw e (judged_verdict (length p) (verdict (judge_older 0 p)))) (judged_said (length p) (judge_older 0 p) e).refusal) (faults (older_hints_refused 0) p h);
  numbered = λ p a e n at is. (older_fair_by 0 p).numbered n at (((judged_said (length p) (judge_older 0 p) e).refusal n at).0 is);
  hint = λ f o p a h e. answers_otherwise (answers_as (older_fair 0 p) (rw e (hint_reply (ask_older (record { 0 = f }) (record { 0 = o }) 0 p))) (rw e (λ n at. Iff.trans (hint_refused_said (ask_older (record { 0 = f }) (record { 0 = o }) 0 p) n at) (refused_exactly (first_in f o) (judge_older 0 p))))) (faults (older_hints_refused 0) p h);
  hint_in = λ f o m a h e. answers_otherwise (answers_through older_fair (rw e (hint_reply (ask_older_through (record { 0 = f }) (record { 0 = o }) m))) (older_in_exactly (record { 0 = f }) (record { 0 = o }) m a e)) (through_faults (λ at. (older_hints_refused at).refused_exactly) older_hint_section m h);
  canonical = λ p h. writes_otherwise (writes_older p) (older_or_short p (faults (older_hints_refused 0) p h));
  judged = judges (judge_older 0) (λ es. es) WmOldHintsJudge (older_exact 0) (λ p a e. judged_said (length p) (judge_older 0 p) e);
  whole = λ p a. judged_whole (length p) (verdict (judge_older 0 p));
  hints = older_answered;
  through_modules = λ f o. older_through (record { 0 = f }) (record { 0 = o });
  newer_through_modules = λ f o. hint_through (record { 0 = f }) (record { 0 = o });
  apart = sections_apart;
  rewritten = rewritten older_written older_refuse older_asked;
  never_15 = older_never_15;
  room_enough = λ p old new a j l. fits older_written older_refuse older_asked p old new a j (λ acc. older_rewritten.accepts acc l);
  in_order = older_ordered;
  told = told older_written never_empty;
}

pub old_hints_listed : OldHintsListed
old_hints_listed = λ p fs os ks fs' os' ks' a. record {
  answers = λ b w.
      let c = older_came p fs os ks fs' os' ks' a w in
      rows_answered older_columns (λ es. some (older_listed es)) (judge_older 0 p) (fs ∷ os ∷ ks ∷ []) (fs' ∷ os' ∷ ks' ∷ []) a c (OlderFault p) (faults (older_hints_refused 0) p b) (older_fair 0 p).numbered (came_rows older_listed (judge_older 0 p) c);
  functions_left = functions_listed p fs os ks fs' os' ks' a;
  offsets_left = offsets_listed p fs os ks fs' os' ks' a;
  likely_left = likely_listed p fs os ks fs' os' ks' a;
  told = row_told p fs os ks fs' os' ks' a;
  every = every_row p fs os ks fs' os' ks' a;
  no_other = no_row p fs os ks fs' os' ks' a;
  rise = rows_risen p fs os ks fs' os' ks' a;
}

pub k11 : K11
k11 = record {
  names = longer (names_written First) (names_asked known_kind) (edition_shortest First);
  wide_names = longer (names_written Wider) (names_asked wider_kind) (edition_shortest Wider);
  metadata = longer metadata_written metadata_asked any_metadata_shortest;
  hints = longer hints_written hints_asked hints_shortest;
  old_hints = least older_written older_asked older_shortest;
  other_names = other_names;
  other_wide_names = other_wide_names;
  other_metadata = other_metadata;
  other_hints = other_hints;
  other_old_hints = other_old_hints;
}

-- the answer says the verdict, and the verdict is said by it alone
branches_said : (m : List ℕ) (a : WmAnswer) → WmHintsOnBranches m a → (j : Judged (Unit {0})) → (a ≡ wm_judged (length m) j) ↔ (hints_on_branches m ≡ j)
branches_said m a e j = (λ is. sym (verdict_said (length m) (hints_on_branches m)) ∙ ap says_verdict (sym e ∙ is) ∙ verdict_said (length m) j, λ is. e ∙ ap (wm_judged (length m)) is)

pub k6 : K6
k6 = record {
  judge = λ m a h e. answers_otherwise (answers_as (branches_fair m) (rw e (judged_verdict (length m) (hints_on_branches m))) (λ n at. branches_said m a e (refused n at))) (module_refused_exactly m h);
  accepts = λ m a e. branches_said m a e (accepted tt);
  without_hints = without_hints;
  exactly = λ m b first parts fs. module_exactly m b;
  refused_exactly = module_refused_exactly;
  imports_numbered = imports_numbered;
  bodies_numbered = bodies_numbered;
}

pub k7 : K7
k7 = record {
  functions = λ f. says_why_lem 1 FunctionName why_function (λ k. TrueOfFunction k.0) functions_why (λ _ _ _ _. function_in_1) (record { 0 = f });
  locals = λ f j. says_why_lem {Q = FunctionIndex × LocalIndex} 2 (λ q. LocalName q.0 q.1) (λ q. why_local q.0 q.1) (λ q. TrueOfLocal q.0.0 q.1.0) locals_why (λ _ _ _ _. local_in_2) (record { 0 = f }, record { 0 = j });
}

pub k8 : K8
k8 = record {
  markers = λ p is os is' os' a b w.
      let exactly = markers_refused p is os b w.says in
      record { answers = rw w.says (made_reply (made p is os)); refuses = exactly; numbered = λ n at e. markers_numbered b ((exactly n at).0 e) };
  quick = λ p is os end f a e. rw e (record {
    answers = place_reply (quick p is os end (record { 0 = f }));
    refuses = quick_refused p is os end f;
    numbered = λ n at is_refused. quick_numbered ((quick_refused p is os end f n at).0 is_refused);
  });
  indices = indices_left;
  offsets = offsets_left;
  function_names_lem = function_names_lem;
  marked = λ p is os is' os' entries n begin end a f w. markers_marked p is os is' os' a w entries n begin end f;
  own = λ p is os is' os' a w k f b c e g. e ∙ ap (λ j. wm_place (as_place j)) (own_answers p is os is' os' a w k f) ∙ sym g;
  rule = λ p is os end f a e. rw e (rule_followed p is os end f);
}

pub k3 : K3
k3 = record {
  asks = asks_pairs known_kind;
  wide_asks = asks_pairs wider_kind;
  hands_back = hands_back First;
  wide_hands_back = hands_back Wider;
  joins = joins_pairs First;
  wide_joins = joins_pairs Wider;
}

pub k5 : K5
k5 = record {
  walk = λ ps s t a c b f. as_walk ps s t a b f c;
  name = λ ps s t a c b f k. as_name ps s t a b f k c;
  hints = λ ps s t a c b f k. as_hints ps s t a b f k c;
  older = λ ps s t a c b f k. as_older ps s t a b f k c;
  none_told = no_place;
  however_cut = same_state;
  counted = total_is;
  taken = λ ps s t p a b c. is_taken ps s b t p a c;
  too_large = λ ps s t p a b c. is_too_large ps s b t p a c;
  part_late = λ s t u a p c f g. late_part s t a f u p c g;
  finish_late = λ s t u a c f g. late_finish s t a f u c g;
  part_unchanged = part_stays;
  finish_unchanged = λ s t u a c f g. finish_stays s t a f u c g;
}

pub k12 : K12
k12 = record {
  opens = open_replies;
  asks = ask_replies;
  closes = close_replies;
  users = λ es t s. table_users;
  used = λ es t s. table_used;
  kept = λ es t s. table_kept;
  once = λ es t s. table_once;
  isolation = isolated_customer;
  shown = shown_name;
  never = never_refused;
  open_elsewhere = open_refused;
  ask_elsewhere = ask_refused;
  close_elsewhere = close_refused;
}

pub k13 : K13
k13 = record {
  step = stepped;
  room = room_after;
  nobodys = nobodys_call;
  elsewhere = compact_elsewhere;
  damaged = compact_damaged;
  granted = compact_granted;
}

pub every_entry : EveryEntry
every_entry = record { names = lists_names source_ids; wide_names = lists_names wider_ids; metadata = lists_metadata; hints = lists_hints }
