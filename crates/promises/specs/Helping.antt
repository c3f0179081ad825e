-- Wrong programs in the place of the public functions that the calls stand on: one that gives the same whatever it is given, one that never refuses, one that always does. Each promise rules them out.
use Rattle.std.specs.Prelude.{ℕ, Bool, true, false, ◌||◌, List, [], ◌∷◌, ◌≡◌, refl, eqb, ltb, length, Err, Some, None}
use Rattle.std.proofs.Math.Option.{some}
use Rattle.std.proofs.Common.{ap}
use Rattle.format.specs.Names.{Kind, one_name, name_map, indirect_map, kept, known, known_kind, wider, wider_kind, kind_in}
use Rattle.format.specs.Numbers.{fewest, shortest}
use Rattle.format.specs.Questions.{id_of}
use Rattle.format.specs.declared.Question.TheVariants.{ModuleName, KeptContents}
use Rattle.format.specs.Reading.{Outcome, got, stop, Judged, accepted, refused}
use Rattle.format.specs.Refusals.{number_of}
use Rattle.format.specs.Tables.{lookup}
use Rattle.format.specs.Walk.{greatest_id, is_custom, is_data, rank, name_row, is_row, id_rules, name_rules}
use Rattle.format.specs.declared.Reason.TheVariants.{NoPreamble, PastItsPart}
use Rattle.names.specs.Contents.{kind_meant}
use Rattle.format.specs.Verdicts.{refusal_in}
use Rattle.format.specs.Returned.{Verdict}
use Rattle.format.specs.declared.Edition.{Edition}
use Rattle.format.specs.declared.Edition.TheVariants.{First, Wider}
use Rattle.tables.specs.Telling.{is_filled}
use Rattle.tables.specs.Returned.{Tidy}
use Rattle.reading.specs.Cursors.{over_all}
use Rattle.sorting.specs.Order.{code}
use Rattle.reading.specs.declared.Cursor.{Cursor}
use Rattle.walk.specs.Sections.{bit, seen_of, ruling, IdRuled, row_called, NameRuled, Sees}
use Rattle.walk.specs.Returned.{Called}
use Rattle.walk.specs.declared.rules.Seen.{Seen}
use Rattle.walk.specs.Returned.{Ruling}
use Rattle.promises.specs.RuledOut.{RuledOut, Refuses, Accepts, Tells, by_input, by_two_inputs}

-- format: one number for every reason
pub reason_number : (n : ℕ) → RuledOut (λ reason r. r ≡ number_of reason) (λ _ r. r ≡ n)
reason_number n = by_two_inputs {says = λ r. r} (λ reason r meets. meets) (λ r. some r) (eqb 1) NoPreamble PastItsPart refl refl refl refl n

-- format: one subsection for every question
pub question_id : (id : ℕ) → RuledOut (λ q r. r ≡ id_of q) (λ _ r. r ≡ id)
question_id id = by_two_inputs {says = λ r. r} (λ q r meets. meets) (λ r. some r) (eqb 0) ModuleName (KeptContents 3) refl refl refl refl id

-- format: every refusal at one offset
abbrev refused_at : ℕ → Verdict
refused_at at = Err (record { reason = PastItsPart; offset = record { 0 = at } })

pub refusal_of : (at : ℕ) → RuledOut (λ verdict r. r ≡ refusal_in verdict) (λ _ r. r.offset.0 ≡ at)
refusal_of at = by_two_inputs {says = λ r. r.offset.0} (λ verdict r meets. ap (λ r. r.offset.0) meets) (λ o. some o) (eqb 0) (refused_at 0) (refused_at 1) refl refl refl refl at

-- reading: one number for every byte
pub wide : (n : ℕ) → RuledOut (λ (x : ℕ) r. r ≡ x) (λ _ r. r ≡ n)
wide n = by_two_inputs {says = λ r. r} (λ x r meets. meets) (λ r. some r) (eqb 0) 0 1 refl refl refl refl n

-- reading: one cursor whatever is lent
pub over : (end : ℕ) → RuledOut (λ (s : List ℕ) r. r ≡ over_all s) (λ _ r. r.end ≡ end)
over end = by_two_inputs {says = λ (r : Cursor). r.end} (λ s r meets. ap (λ (r : Cursor). r.end) meets) (λ n. some n) (eqb 0) [] (0 ∷ []) {k = 0} {l = 1} refl refl refl refl end

-- writing: one length for every number. 128 takes two bytes
pub number_length : (n : ℕ) → RuledOut (λ (v : ℕ) r. r ≡ length (shortest v)) (λ _ r. r ≡ n)
unfolding shortest fewest
number_length n = by_two_inputs {says = λ r. r} (λ v r meets. meets) (λ r. some r) (eqb 1) 127 128 {k = 1} {l = 2} refl refl refl refl n

-- names: one kind for every id. The contents under 3 are kept, the module's name is not
abbrev is_kept : Kind → Bool
is_kept one_name = false
is_kept name_map = false
is_kept indirect_map = false
is_kept kept = true

pub kind_of : (edition : Edition) (kind : Kind) → RuledOut (λ id r. kind_meant r ≡ kind_in edition id) (λ _ r. kind_meant r ≡ kind)
unfolding known known_kind wider wider_kind lookup
kind_of First kind = by_two_inputs {says = kind_meant} (λ id r meets. meets) (λ k. some k) is_kept 3 0 refl refl refl refl kind
kind_of Wider kind = by_two_inputs {says = kind_meant} (λ id r meets. meets) (λ k. some k) is_kept 12 0 refl refl refl refl kind

-- names: both editions have one table. Id 7 is kept by the first alone
pub one_table : (kind : Kind) → RuledOut (λ (edition : Edition) r. kind_meant r ≡ kind_in edition 7) (λ _ r. kind_meant r ≡ kind)
unfolding known known_kind wider wider_kind lookup
one_table kind = by_two_inputs {says = kind_meant} (λ edition r meets. meets) (λ k. some k) is_kept First Wider refl refl refl refl kind

-- tables: always filled, or never
abbrev front : Cursor
front = record { at = 2; end = 3 }

pub is_filled_lem : (wrong : Bool) → RuledOut (λ (read : Tidy) r. r ≡ is_filled read) (λ _ r. r ≡ wrong)
is_filled_lem wrong = by_two_inputs {says = λ r. r} (λ read r meets. meets) (λ b. some b) (λ b. b) (Some (record { at = 1; end = 1 })) (Some front) refl refl refl refl wrong

-- walk: never against an id, or always. 255 is no section; 1 may be the first
abbrev came_out : Outcome (Unit {0}) → Judged (Unit {0})
came_out (got v o bs) = accepted v
came_out (stop n at) = refused n at

abbrev ruled : Ruling → Judged (Unit {0})
ruled v = came_out (ruling v 0 0 [])

abbrev nothing_seen : Seen
nothing_seen = record { rank = 0; code = false; there = 0 }

id_told : Tells (λ (x : Seen × ℕ) v. IdRuled x.0 x.1 v) ruled (λ x. came_out (id_rules (seen_of x.0) 0 x.1 0 []))
id_told x v meets = ap came_out (meets.says 0 0 [])

pub judge_id_refuses : RuledOut (λ (x : Seen × ℕ) v. IdRuled x.0 x.1 v) (λ _ v. Refuses (ruled v))
unfolding greatest_id is_custom is_data rank id_rules
judge_id_refuses = by_input id_told (λ j. Refuses j) (nothing_seen, 1) (λ h. h)

pub judge_id_accepts : RuledOut (λ (x : Seen × ℕ) v. IdRuled x.0 x.1 v) (λ _ v. Accepts (ruled v))
unfolding greatest_id is_custom is_data rank id_rules
judge_id_accepts = by_input id_told (λ j. Accepts j) (nothing_seen, 255) (λ h. h)

-- walk: never against a name, or always. A second section called name is one too many
name_told : Tells (λ (x : Seen × Called) v. NameRuled x.0 x.1 v) ruled (λ x. came_out (name_rules (seen_of x.0) 0 (row_called x.1) 0 []))
name_told x v meets = ap came_out (meets.says 0 0 [])

pub judge_name_refuses : RuledOut (λ (x : Seen × Called) v. NameRuled x.0 x.1 v) (λ _ v. Refuses (ruled v))
unfolding name_rules
judge_name_refuses = by_input name_told (λ j. Refuses j) (nothing_seen, Some name_row) (λ h. h)

pub judge_name_accepts : RuledOut (λ (x : Seen × Called) v. NameRuled x.0 x.1 v) (λ _ v. Accepts (ruled v))
unfolding name_rules
judge_name_accepts = by_input name_told (λ j. Accepts j) (record { rank = 0; code = false; there = 1 }, Some name_row) (λ h. h)

-- walk: the name section is never seen, or always
pub see : (seen : Bool) → RuledOut (λ (x : Seen × ℕ × Called) r. Sees x.0 x.1 x.2 r) (λ _ r. bit r.there name_row ≡ seen)
see seen = by_two_inputs {says = λ r. bit r.there name_row} {wanted = λ x. bit x.0.there name_row || is_row (row_called x.2) name_row} (λ x r meets. meets.there_is.says name_row) (λ b. some b) (λ b. b) (nothing_seen, 0, Some name_row) (nothing_seen, 0, None) refl refl refl refl seen

-- sorting: always below, or never
pub is_below : (wrong : Bool) → RuledOut (λ (x : ℕ × ℕ × ℕ × ℕ) r. r ≡ ltb (code x.0 x.1) (code x.2 x.3)) (λ _ r. r ≡ wrong)
is_below wrong = by_two_inputs {says = λ r. r} (λ x r meets. meets) (λ b. some b) (λ b. b) (0, 9, 1, 0) (1, 0, 0, 9) refl refl refl refl wrong
