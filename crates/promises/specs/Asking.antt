-- Wrong lookups: one that refuses everything, one that always says none, one that takes an empty name for none, one that never refuses, one that gives every length or every refusal's offset as one number. Each question's promise rules them out, and so does that of its C call.
use Rattle.std.specs.Prelude.{ℕ, ◌+◌, Bool, true, false, List, [], ◌∷◌, ◌++◌, map, ◌≡◌, refl, eqb, length}
use Prim.Native.String.{String}
use Rattle.std.proofs.Math.Option.{Option, some}
use Rattle.std.proofs.Common.{ap, subst, ◌∙◌}
use Rattle.format.specs.Bytes.{ascii, same}
use Rattle.format.specs.Canonical.{write_part}
use Rattle.format.specs.Examples.{hex, digit}
use Rattle.format.specs.Metadata.{hint_of, any_item, hint_item, metadata, judge_metadata, item_at, ask_metadata, hint_in, ask_hint, hint_answered}
use Rattle.format.specs.Names.{known, known_kind, wider, wider_kind, contents, subsections, payload, judge_names}
use Rattle.format.specs.Numbers.{number, groups, shortest, fewest}
use Rattle.format.specs.Options.{map_some}
use Rattle.format.specs.Older.{times, vector, zero_byte, older_kind, older_hint, older_entry, judge_older, first_at, first_in, ask_older}
use Rattle.format.specs.Parts.{Part, sized, name, remaining}
use Rattle.format.specs.Questions.{answer, asked, ask_at, ask, as_place, answered}
use Rattle.format.specs.declared.Question.{Question}
use Rattle.format.specs.declared.Question.TheVariants.{ModuleName, FunctionName, LocalName, LabelName, TypeName, TableName, MemoryName, GlobalName, ElementName, DataName, FieldName, TagName, KeptContents}
use Rattle.format.specs.Reading.{Judged, accepted, refused}
use Rattle.format.specs.Tables.{lookup, rows, table}
use Rattle.format.specs.Text.{utf8, characters, character, completes}
use Rattle.format.specs.Through.{through, ask_through, metadata_section, item_of, ask_metadata_through, ask_hint_through, ask_older_through}
use Rattle.format.specs.Walk.{preamble, begins, greatest_id, is_custom, is_code, is_data, rank, custom, is_called, name_section, hint_section, older_hint_section, nothing, seeing, id_rules, name_rules, section, sections, framing, walk, payload_of, payload_in, custom_payload}
use Rattle.format.specs.declared.CodeOffset.{CodeOffset}
use Rattle.format.specs.declared.FunctionIndex.{FunctionIndex}
use Rattle.format.specs.declared.InstructionOffset.{InstructionOffset}
use Rattle.format.specs.declared.Hint.{Hint}
use Rattle.format.specs.declared.Hint.TheVariants.{Unlikely, Likely}
use Rattle.format.specs.declared.Place.{Place}
use Rattle.wakemiono.specs.Boundary.{wm_place, wm_hint}
use Rattle.promises.specs.Answers.{says_place, place_said, says_hint, hint_said}
use Rattle.promises.specs.Judging.{JudgesRightly, judges_rightly}
use Rattle.promises.specs.RuledOut.{RuledOut, Refuses, NeverFinds, Never, Always, found_in, Finding, finds, Refusing, refuses, Tells, by_input, by_two_inputs}

-- `size` is what is told of a thing that is found: its length, or which hint it is. An empty name has the size `least`
module _ {Lent Result A C : Type 0} (promise : Lent → Result → Type 0) (says : Result → Judged (Option A)) (size : A → C) (least : C) where
  pub record AnswersRightly : Type 0 where
    -- refuses everything; never refuses; gives every refusal at one offset
    pub judges : JudgesRightly promise says
    -- never finds anything
    pub always_none : RuledOut promise (λ _ r. NeverFinds (says r))
    -- never finds anything empty
    pub empty_as_none : RuledOut promise (λ _ r. Never least (map_some size (found_in (says r))))
    -- whatever it finds has one length
    pub one_size : (n : C) → RuledOut promise (λ _ r. Always n (map_some size (found_in (says r))))

-- Shown by an input where something empty is found, one where something else is, and two that are refused at different offsets
module _ {Lent A C : Type 0} (wanted : Lent → Judged (Option A)) (size : A → C) (least : C) (is_least : C → Bool) where
  pub record Answers : Type 0 where
    pub empty : Finding Lent A
    pub more : Finding Lent A
    pub bad : Refusing Lent
    pub worse : Refusing Lent
    pub is_empty : wanted empty.input ≡ accepted (some empty.found)
    pub is_more : wanted more.input ≡ accepted (some more.found)
    pub is_bad : wanted bad.input ≡ refused bad.number bad.offset
    pub is_worse : wanted worse.input ≡ refused worse.number worse.offset
    pub size_empty : size empty.found ≡ least
    pub test_empty : is_least (size empty.found) ≡ true
    pub test_more : is_least (size more.found) ≡ false
    pub apart : eqb bad.offset worse.offset ≡ false

module _ {Lent Result A C : Type 0} {promise : Lent → Result → Type 0} {says : Result → Judged (Option A)} {wanted : Lent → Judged (Option A)} (tells : Tells promise says wanted) {size : A → C} {least : C} {is_least : C → Bool} where
  pub answers_rightly : Answers wanted size least is_least → AnswersRightly promise says size least
  answers_rightly v =
      let sized : Judged (Option A) → Option C = λ j. map_some size (found_in j) in
      record {
        judges = judges_rightly tells (record { fine = v.empty.input; bad = v.bad; worse = v.worse; is_fine = λ h. subst (λ j. Refuses j) v.is_empty h; is_bad = v.is_bad; is_worse = v.is_worse; apart = v.apart });
        always_none = by_input tells (λ j. NeverFinds j) v.empty.input (λ h. subst (λ j. NeverFinds j) v.is_empty h);
        empty_as_none = by_input tells (λ j. Never least (sized j)) v.empty.input (λ h. subst (λ j. Never least (sized j)) v.is_empty h v.size_empty);
        one_size = by_two_inputs tells sized is_least v.empty.input v.more.input (ap sized v.is_empty) (ap sized v.is_more) v.test_empty v.test_more;
      }

-- A call that answers with a place, and its C call
abbrev place : (offset length : ℕ) → Place
place offset length = record { offset = record { 0 = offset }; length = length }

module _ {Lent : Type 0} (wanted : Lent → Judged (Option Place)) where
  pub record PlaceCalls : Type 0 where
    pub call : AnswersRightly (λ x r. answered r ≡ wanted x) answered (λ p. p.length) 0
    pub c_call : AnswersRightly (λ x a. a ≡ wm_place (wanted x)) says_place (λ p. p.length) 0

  -- what is empty is found at an offset, and so is what has one byte
  pub place_answers : (empty one : Finding Lent ℕ) (bad worse : Refusing Lent) → wanted empty.input ≡ accepted (some (place empty.found 0)) → wanted one.input ≡ accepted (some (place one.found 1)) → wanted bad.input ≡ refused bad.number bad.offset → wanted worse.input ≡ refused worse.number worse.offset → eqb bad.offset worse.offset ≡ false → Answers wanted (λ p. p.length) 0 (eqb 0)
  place_answers empty one bad worse e m b w a = record {
    empty = finds empty.input (place empty.found 0);
    more = finds one.input (place one.found 1);
    bad = bad;
    worse = worse;
    is_empty = e;
    is_more = m;
    is_bad = b;
    is_worse = w;
    size_empty = refl;
    test_empty = refl;
    test_more = refl;
    apart = a;
  }

  pub place_calls : Answers wanted (λ p. p.length) 0 (eqb 0) → PlaceCalls
  place_calls answers = record {
    call = answers_rightly (λ x r meets. meets) answers;
    c_call = answers_rightly (λ x a meets. ap says_place meets ∙ place_said (wanted x)) answers;
  }

-- One row a question to a name payload: payloads in which what is asked for is empty, and has one byte, both at `at`; one in which that byte stands behind a padded length, one further on; and two that are refused. The first of these is damaged behind what is asked for: in a later subsection, in a map's second entry, in an indirect map's second group
pub record Tried : Type 0 where
  pub question : Question
  pub at : ℕ
  pub empty : String
  pub one : String
  pub padded : String
  pub byte : ℕ
  pub bad : Refusing String
  pub worse : Refusing String

-- those of both editions
abbrev pub tried_in_both : List Tried
tried_in_both =
    record {
      question = ModuleName;
      at = 3;
      empty = "00 01 00";
      one = "00 02 01 6D";
      padded = "00 03 81 00 6D";
      byte = 0x6D;
      bad = refuses "00 02 01 6D 01 00" 2 6;
      worse = refuses "00" 2 1;
    } ∷
    record {
      question = FunctionName (record { 0 = 7 });
      at = 5;
      empty = "01 03 01 07 00";
      one = "01 04 01 07 01 61";
      padded = "01 05 01 07 81 00 61";
      byte = 0x61;
      bad = refuses "01 07 02 07 01 61 07 01 62" 11 6;
      worse = refuses "01 07 02 07 01 61 08 01 FF" 4 8;
    } ∷
    record {
      question = TypeName (record { 0 = 7 });
      at = 5;
      empty = "04 03 01 07 00";
      one = "04 04 01 07 01 61";
      padded = "04 05 01 07 81 00 61";
      byte = 0x61;
      bad = refuses "04 07 02 07 01 61 07 01 62" 11 6;
      worse = refuses "04 07 02 07 01 61 08 01 FF" 4 8;
    } ∷
    record {
      question = TagName (record { 0 = 7 });
      at = 5;
      empty = "0B 03 01 07 00";
      one = "0B 04 01 07 01 61";
      padded = "0B 05 01 07 81 00 61";
      byte = 0x61;
      bad = refuses "0B 07 02 07 01 61 07 01 62" 11 6;
      worse = refuses "0B 07 02 07 01 61 08 01 FF" 4 8;
    } ∷
    record {
      question = LocalName (record { 0 = 3 }) (record { 0 = 0 });
      at = 7;
      empty = "02 05 01 03 01 00 00";
      one = "02 06 01 03 01 00 01 78";
      padded = "02 07 01 03 01 00 81 00 78";
      byte = 0x78;
      bad = refuses "02 0B 02 03 01 00 01 78 03 01 00 01 79" 11 8;
      worse = refuses "02 0B 02 03 01 00 01 78 04 01 00 01 FF" 4 12;
    } ∷
    record {
      question = FieldName (record { 0 = 3 }) (record { 0 = 0 });
      at = 7;
      empty = "0A 05 01 03 01 00 00";
      one = "0A 06 01 03 01 00 01 78";
      padded = "0A 07 01 03 01 00 81 00 78";
      byte = 0x78;
      bad = refuses "0A 0B 02 03 01 00 01 78 03 01 00 01 79" 11 8;
      worse = refuses "0A 0B 02 03 01 00 01 78 04 01 00 01 FF" 4 12;
    } ∷
    []

-- the first edition's, with contents that it keeps
abbrev pub tried : List Tried
tried = tried_in_both ++ (
    record {
      question = KeptContents 3;
      at = 2;
      empty = "03 00";
      one = "03 01 FF";
      padded = "03 81 00 FF";
      byte = 0xFF;
      bad = refuses "03 01 FF 03 00" 9 3;
      worse = refuses "03 02 FF" 2 1;
    } ∷
    [])

-- the wider edition's, with its six
abbrev pub wide_tried : List Tried
wide_tried = tried_in_both ++ (
    record {
      question = LabelName (record { 0 = 3 }) (record { 0 = 0 });
      at = 7;
      empty = "03 05 01 03 01 00 00";
      one = "03 06 01 03 01 00 01 78";
      padded = "03 07 01 03 01 00 81 00 78";
      byte = 0x78;
      bad = refuses "03 0B 02 03 01 00 01 78 03 01 00 01 79" 11 8;
      worse = refuses "03 0B 02 03 01 00 01 78 04 01 00 01 FF" 4 12;
    } ∷
    record {
      question = TableName (record { 0 = 7 });
      at = 5;
      empty = "05 03 01 07 00";
      one = "05 04 01 07 01 61";
      padded = "05 05 01 07 81 00 61";
      byte = 0x61;
      bad = refuses "05 07 02 07 01 61 07 01 62" 11 6;
      worse = refuses "05 07 02 07 01 61 08 01 FF" 4 8;
    } ∷
    record {
      question = MemoryName (record { 0 = 7 });
      at = 5;
      empty = "06 03 01 07 00";
      one = "06 04 01 07 01 61";
      padded = "06 05 01 07 81 00 61";
      byte = 0x61;
      bad = refuses "06 07 02 07 01 61 07 01 62" 11 6;
      worse = refuses "06 07 02 07 01 61 08 01 FF" 4 8;
    } ∷
    record {
      question = GlobalName (record { 0 = 7 });
      at = 5;
      empty = "07 03 01 07 00";
      one = "07 04 01 07 01 61";
      padded = "07 05 01 07 81 00 61";
      byte = 0x61;
      bad = refuses "07 07 02 07 01 61 07 01 62" 11 6;
      worse = refuses "07 07 02 07 01 61 08 01 FF" 4 8;
    } ∷
    record {
      question = ElementName (record { 0 = 7 });
      at = 5;
      empty = "08 03 01 07 00";
      one = "08 04 01 07 01 61";
      padded = "08 05 01 07 81 00 61";
      byte = 0x61;
      bad = refuses "08 07 02 07 01 61 07 01 62" 11 6;
      worse = refuses "08 07 02 07 01 61 08 01 FF" 4 8;
    } ∷
    record {
      question = DataName (record { 0 = 7 });
      at = 5;
      empty = "09 03 01 07 00";
      one = "09 04 01 07 01 61";
      padded = "09 05 01 07 81 00 61";
      byte = 0x61;
      bad = refuses "09 07 02 07 01 61 07 01 62" 11 6;
      worse = refuses "09 07 02 07 01 61 08 01 FF" 4 8;
    } ∷
    record {
      question = KeptContents 12;
      at = 2;
      empty = "0C 00";
      one = "0C 01 FF";
      padded = "0C 81 00 FF";
      byte = 0xFF;
      bad = refuses "0C 01 FF 0C 00" 9 3;
      worse = refuses "0C 02 FF" 2 1;
    } ∷
    [])

-- What is demanded of each question of a table, and that the table shows it
pub data Each (Demanded : Question → Type 0) : List Tried → Type 0 where
  no_more : Each Demanded []
  and_question : {row : Tried} {rows : List Tried} → Demanded row.question → Each Demanded rows → Each Demanded (row ∷ rows)

-- `lend` makes what is lent of a payload, which then begins `ahead` bytes further on
module _ (answer : Question → List ℕ → Judged (Option Part)) (lend : String → List ℕ) (ahead : ℕ) where
  abbrev pub Asked : Question → Type 0
  Asked q = PlaceCalls (λ p. as_place (answer q p))

  abbrev told : Tried → List (Judged (Option Place))
  told row =
      as_place (answer row.question (lend row.empty)) ∷
      as_place (answer row.question (lend row.one)) ∷
      as_place (answer row.question (lend row.bad.input)) ∷
      as_place (answer row.question (lend row.worse.input)) ∷
      []

  abbrev stated : Tried → List (Judged (Option Place))
  stated row =
      accepted (some (place (ahead + row.at) 0)) ∷
      accepted (some (place (ahead + row.at) 1)) ∷
      refused row.bad.number (ahead + row.bad.offset) ∷
      refused row.worse.number (ahead + row.worse.offset) ∷
      []

  abbrev apart : Tried → Bool
  apart row = eqb (ahead + row.bad.offset) (ahead + row.worse.offset)

  each_asked : (rows : List Tried) → map told rows ≡ map stated rows → map apart rows ≡ map (λ _. false) rows → Each Asked rows
  each_asked [] e a = no_more
  each_asked (row ∷ rows) e a =
      and_question {row = row} (place_calls (λ p. as_place (answer row.question p)) (place_answers (λ p. as_place (answer row.question p))
      (finds (lend row.empty) (ahead + row.at))
      (finds (lend row.one) (ahead + row.at))
      (refuses (lend row.bad.input) row.bad.number (ahead + row.bad.offset))
      (refuses (lend row.worse.input) row.worse.number (ahead + row.worse.offset))
      (cc) (cc) (cc) (cc) (cc))) (each_asked rows (cc) (cc))

pub name_questions : Each (Asked (ask known_kind) hex 0) tried
unfolding hex digit number groups utf8 characters character completes sized name remaining lookup rows table known known_kind contents subsections payload judge_names answer asked ask_at ask as_place
name_questions = each_asked (ask known_kind) hex 0 tried refl refl

pub wide_name_questions : Each (Asked (ask wider_kind) hex 0) wide_tried
unfolding hex digit number groups utf8 characters character completes sized name remaining lookup rows table wider wider_kind contents subsections payload judge_names answer asked ask_at ask as_place
wide_name_questions = each_asked (ask wider_kind) hex 0 wide_tried refl refl

-- The same through a module whose only section is `name`, with the payload from offset 15 on
unfoldable pub with_names : String → List ℕ
with_names s = preamble ++ (0 ∷ write_part (write_part name_section ++ hex s))

pub name_questions_through : Each (Asked (ask_through known_kind) with_names 15) tried
unfolding with_names write_part shortest fewest ascii same preamble begins greatest_id is_custom is_code is_data rank custom is_called name_section hint_section nothing seeing id_rules name_rules section sections framing walk payload_of payload_in custom_payload through ask_through hex digit number groups utf8 characters character completes sized name remaining lookup rows table known known_kind contents subsections payload judge_names answer asked ask_at as_place
name_questions_through = each_asked (ask_through known_kind) with_names 15 tried refl refl

pub wide_name_questions_through : Each (Asked (ask_through wider_kind) with_names 15) wide_tried
unfolding with_names write_part shortest fewest ascii same preamble begins greatest_id is_custom is_code is_data rank custom is_called name_section hint_section nothing seeing id_rules name_rules section sections framing walk payload_of payload_in custom_payload through ask_through hex digit number groups utf8 characters character completes sized name remaining lookup rows table wider wider_kind contents subsections payload judge_names answer asked ask_at as_place
wide_name_questions_through = each_asked (ask_through wider_kind) with_names 15 wide_tried refl refl

-- The question for code metadata: the second function, or the second item, is damaged. Through a module it is put to `metadata.code.x`, whose payload begins at 26
unfoldable pub with_data : String → List ℕ
with_data s = preamble ++ (0 ∷ write_part (write_part (metadata_section (ascii "x")) ++ hex s))

pub record MetadataQuestions : Type 0 where
  pub find : PlaceCalls (λ (x : List ℕ × FunctionIndex × CodeOffset). as_place (ask_metadata any_item x.1 x.2 0 x.0))
  pub find_through : PlaceCalls (λ (x : List ℕ × List ℕ × FunctionIndex × CodeOffset). as_place (ask_metadata_through x.1 x.2 x.3 x.0))

pub metadata_questions : MetadataQuestions
unfolding with_data write_part shortest fewest ascii same preamble begins greatest_id is_custom is_code is_data rank custom is_called name_section hint_section nothing seeing id_rules name_rules section sections framing walk payload_of payload_in custom_payload through metadata_section item_of ask_metadata_through hex digit number groups utf8 characters character completes sized name remaining lookup rows table any_item metadata judge_metadata item_at ask_metadata as_place
metadata_questions = record {
  find = place_calls _ (place_answers _
      (finds (hex "01 02 01 05 00", record { 0 = 2 }, record { 0 = 5 }) 5)
      (finds (hex "01 02 01 05 01 41", record { 0 = 2 }, record { 0 = 5 }) 5)
      (refuses (hex "02 02 01 05 01 41 02 00", record { 0 = 2 }, record { 0 = 5 }) 11 6)
      (refuses (hex "01 02 02 05 01 41 06 02 41", record { 0 = 2 }, record { 0 = 5 }) 2 7)
      refl refl refl refl refl);
  find_through = place_calls _ (place_answers _
      (finds (with_data "01 02 01 05 00", ascii "x", record { 0 = 2 }, record { 0 = 5 }) 31)
      (finds (with_data "01 02 01 05 01 41", ascii "x", record { 0 = 2 }, record { 0 = 5 }) 31)
      (refuses (with_data "02 02 01 05 01 41 02 00", ascii "x", record { 0 = 2 }, record { 0 = 5 }) 11 32)
      (refuses (with_data "01 02 02 05 01 41 06 02 41", ascii "x", record { 0 = 2 }, record { 0 = 5 }) 2 33)
      refl refl refl refl refl);
}

-- The question for a hint: unlikely is not none, and not every hint is the same
abbrev is_unlikely : Hint → Bool
is_unlikely Unlikely = true
is_unlikely Likely = false

module _ {Lent : Type 0} (wanted : Lent → Judged (Option Hint)) where
  pub record HintCalls : Type 0 where
    pub call : AnswersRightly (λ x r. hint_answered r ≡ wanted x) hint_answered (λ h. h) Unlikely
    pub c_call : AnswersRightly (λ x a. a ≡ wm_hint (wanted x)) says_hint (λ h. h) Unlikely

  hint_calls : Answers wanted (λ h. h) Unlikely is_unlikely → HintCalls
  hint_calls answers = record {
    call = answers_rightly (λ x r meets. meets) answers;
    c_call = answers_rightly (λ x a meets. ap says_hint meets ∙ hint_said (wanted x)) answers;
  }

  hint_answers : (unlikely likely : Lent) (bad worse : Refusing Lent) → wanted unlikely ≡ accepted (some Unlikely) → wanted likely ≡ accepted (some Likely) → wanted bad.input ≡ refused bad.number bad.offset → wanted worse.input ≡ refused worse.number worse.offset → eqb bad.offset worse.offset ≡ false → Answers wanted (λ h. h) Unlikely is_unlikely
  hint_answers unlikely likely bad worse e m b w a = record {
    empty = finds unlikely Unlikely;
    more = finds likely Likely;
    bad = bad;
    worse = worse;
    is_empty = e;
    is_more = m;
    is_bad = b;
    is_worse = w;
    size_empty = refl;
    test_empty = refl;
    test_more = refl;
    apart = a;
  }

with_hints : String → List ℕ
with_hints s = preamble ++ (0 ∷ write_part (write_part hint_section ++ hex s))

pub record HintQuestions : Type 0 where
  pub hint : HintCalls (λ (x : List ℕ × FunctionIndex × CodeOffset). ask_hint x.1 x.2 0 x.0)
  pub hint_through : HintCalls (λ (x : List ℕ × FunctionIndex × CodeOffset). ask_hint_through x.1 x.2 x.0)

pub hint_questions : HintQuestions
unfolding with_hints write_part shortest fewest ascii same preamble begins greatest_id is_custom is_code is_data rank custom is_called name_section hint_section nothing seeing id_rules name_rules section sections framing walk payload_of payload_in custom_payload through ask_hint_through hex digit number groups utf8 characters character completes sized name remaining lookup rows table hint_of hint_item metadata judge_metadata item_at ask_metadata hint_in ask_hint
hint_questions = record {
  hint = hint_calls _ (hint_answers _
      (hex "01 02 01 05 01 00", record { 0 = 2 }, record { 0 = 5 })
      (hex "01 02 01 05 01 01", record { 0 = 2 }, record { 0 = 5 })
      (refuses (hex "01 02 02 05 01 01 06 01 02", record { 0 = 2 }, record { 0 = 5 }) 12 7)
      (refuses (hex "02 02 01 05 01 01 02 00", record { 0 = 2 }, record { 0 = 5 }) 11 6)
      refl refl refl refl refl);
  hint_through = hint_calls _ (hint_answers _
      (with_hints "01 02 01 05 01 00", record { 0 = 2 }, record { 0 = 5 })
      (with_hints "01 02 01 05 01 01", record { 0 = 2 }, record { 0 = 5 })
      (refuses (with_hints "01 02 02 05 01 01 06 01 02", record { 0 = 2 }, record { 0 = 5 }) 12 43)
      (refuses (with_hints "02 02 01 05 01 01 02 00", record { 0 = 2 }, record { 0 = 5 }) 11 42)
      refl refl refl refl refl);
}

-- The same of the older edition, whose payload begins at 22 of such a module
unfoldable pub with_older : String → List ℕ
with_older s = preamble ++ (0 ∷ write_part (write_part older_hint_section ++ hex s))

pub record OlderQuestions : Type 0 where
  pub hint : HintCalls (λ (x : List ℕ × FunctionIndex × InstructionOffset). ask_older x.1 x.2 0 x.0)
  pub hint_through : HintCalls (λ (x : List ℕ × FunctionIndex × InstructionOffset). ask_older_through x.1 x.2 x.0)

pub older_questions : OlderQuestions
unfolding with_older write_part shortest fewest ascii same preamble begins greatest_id is_custom is_code is_data rank custom is_called name_section hint_section nothing seeing id_rules name_rules section sections framing walk payload_of payload_in custom_payload through ask_older_through hex digit number groups utf8 characters character completes sized name remaining times vector zero_byte older_kind older_hint older_entry judge_older first_at first_in ask_older
older_questions = record {
  hint = hint_calls _ (hint_answers _
      (hex "01 02 00 01 00 05", record { 0 = 2 }, record { 0 = 5 })
      (hex "01 02 00 01 01 05", record { 0 = 2 }, record { 0 = 5 })
      (refuses (hex "01 02 00 02 01 05 02 06", record { 0 = 2 }, record { 0 = 5 }) 12 6)
      (refuses (hex "02 02 00 01 01 05 02 01", record { 0 = 2 }, record { 0 = 5 }) 17 7)
      refl refl refl refl refl);
  hint_through = hint_calls _ (hint_answers _
      (with_older "01 02 00 01 00 05", record { 0 = 2 }, record { 0 = 5 })
      (with_older "01 02 00 01 01 05", record { 0 = 2 }, record { 0 = 5 })
      (refuses (with_older "01 02 00 02 01 05 02 06", record { 0 = 2 }, record { 0 = 5 }) 12 28)
      (refuses (with_older "02 02 00 01 01 05 02 01", record { 0 = 2 }, record { 0 = 5 }) 17 29)
      refl refl refl refl refl);
}
