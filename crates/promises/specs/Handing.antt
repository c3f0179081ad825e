-- Wrong second calls: one that hands back one fixed part, or always the empty one; one that takes its part always from the same place of what was lent. Each promise of a call that hands back bytes rules them out.
use Prim.Native.Nat.{ℕ, ◌+◌}
use Prim.Native.String.{String}
use Rattle.std.specs.Prelude.{map, List, [], ◌∷◌, ◌≡◌, eqb, Ok, Some, None}
use Rattle.std.proofs.Math.Option.{Option, some}
use Rattle.std.proofs.Math.Path.{refl, ap}
use Rattle.std.proofs.Common.{sym, ◌∙◌, arith}
use borrow.Author.Tests.{eqb-false, eqb-true}
use Rattle.format.specs.Bytes.{ascii, same}
use Rattle.format.specs.Canonical.{write_part}
use Rattle.format.specs.Examples.{hex, digit}
use Rattle.format.specs.Laws.Outcomes.{by_test}
use Rattle.format.specs.Metadata.{any_item, metadata, judge_metadata, item_at, ask_metadata}
use Rattle.format.specs.Names.{known, known_kind, wider, wider_kind, contents, subsections, payload, judge_names}
use Rattle.format.specs.Numbers.{number, groups, shortest, fewest}
use Rattle.format.specs.Parts.{Part, sized, name, remaining}
use Rattle.format.specs.Questions.{answer, asked, ask_at, ask, as_bytes, start_of}
use Rattle.format.specs.declared.Question.{Question}
use Rattle.format.specs.Reading.{Judged, accepted}
use Rattle.format.specs.Tables.{lookup, rows, table}
use Rattle.format.specs.Text.{utf8, characters, character, completes}
use Rattle.format.specs.Through.{through, ask_through, metadata_section, item_of, ask_metadata_through}
use Rattle.format.specs.Walk.{preamble, begins, greatest_id, is_custom, is_code, is_data, rank, custom, is_called, name_section, hint_section, nothing, seeing, id_rules, name_rules, section, sections, framing, walk, payload_of, payload_in, custom_payload}
use Rattle.format.specs.Returned.{Answer}
use Rattle.format.specs.declared.CodeOffset.{CodeOffset}
use Rattle.format.specs.declared.FunctionIndex.{FunctionIndex}
use Rattle.reading.specs.Taken.{taken_of, Takes}
use Rattle.promises.specs.Asking.{Tried, tried, wide_tried, Each, no_more, and_question, with_names, with_data}
use Rattle.promises.specs.RuledOut.{RuledOut, by_two_inputs}

-- A question, the bytes that are lent, and where in memory they begin. What comes back is bytes, and where they begin
module _ {Asked : Type 0} (answer : Asked → List ℕ → Judged (Option Part)) where
  abbrev pub hands : Asked × List ℕ × (ℕ × ℕ) → List ℕ × (ℕ × ℕ) → Type 0
  hands x r = (r.0 ≡ as_bytes (answer x.0 x.1)) × (r.1 ≡ (x.2.0, start_of (answer x.0 x.1) + x.2.1))

  pub record HandsRightly : Type 0 where
    pub one_part : (y : List ℕ) → RuledOut hands (λ _ r. r.0 ≡ y)
    pub one_start : (n : ℕ) → RuledOut hands (λ x r. r.1 ≡ (x.2.0, n + x.2.1))

  -- shown by two payloads, with the empty part at `at`, and one byte behind a padded length, one further on
  pub hands_rightly : (question : Asked) (empty padded : List ℕ) (at b : ℕ)
      → answer question empty ≡ accepted (some (record { at = at; bytes = [] })) → answer question padded ≡ accepted (some (record { at = at + 1; bytes = b ∷ [] }))
      → HandsRightly
  unfolding as_bytes start_of same
  hands_rightly question empty padded at b e p = record {
    one_part = by_two_inputs {says = λ r. r.0} (λ x r meets. meets.0) (λ part. some part) (same []) (question, empty, (0, 0)) (question, padded, (0, 0)) (ap (λ j. some (as_bytes j)) e) (ap (λ j. some (as_bytes j)) p) refl refl;
    one_start = λ n. by_test (eqb at n)
        (λ t. record {
          input = (question, padded, (0, 0));
          otherwise = λ r meets there. let same_start : start_of (answer question padded) + 0 ≡ n + 0 = ap (λ (x : ℕ × ℕ). x.1) (sym meets.1 ∙ there) in omega (arith, ap start_of p, same_start, eqb-true at n t);
        })
        (λ t. record {
          input = (question, empty, (0, 0));
          otherwise = λ r meets there. let same_start : start_of (answer question empty) + 0 ≡ n + 0 = ap (λ (x : ℕ × ℕ). x.1) (sym meets.1 ∙ there) in eqb-false at n t (omega (arith, ap start_of e, same_start));
        });
  }

-- The names' bytes, for each question of the table: of a payload, and through a module
module _ (answer : Question → List ℕ → Judged (Option Part)) (lend : String → List ℕ) (ahead : ℕ) where
  abbrev pub Hands : Question → Type 0
  Hands q = HandsRightly {Asked = Unit {0}} (λ _ p. answer q p)

  abbrev told : Tried → List (Judged (Option Part))
  told row = answer row.question (lend row.empty) ∷ answer row.question (lend row.padded) ∷ []

  abbrev stated : Tried → List (Judged (Option Part))
  stated row = accepted (some (record { at = ahead + row.at; bytes = [] })) ∷ accepted (some (record { at = ahead + row.at + 1; bytes = row.byte ∷ [] })) ∷ []

  each_hands : (rows : List Tried) → map told rows ≡ map stated rows → Each Hands rows
  each_hands [] e = no_more
  each_hands (row ∷ rows) e = and_question {row = row} (hands_rightly {Asked = Unit {0}} (λ _ p. answer row.question p) tt (lend row.empty) (lend row.padded) (ahead + row.at) row.byte (cc) (cc)) (each_hands rows (cc))

pub name_bytes : Each (Hands (ask known_kind) hex 0) tried
unfolding hex digit number groups utf8 characters character completes sized name remaining lookup rows table known known_kind contents subsections payload judge_names answer asked ask_at ask
name_bytes = each_hands (ask known_kind) hex 0 tried refl

pub wide_name_bytes : Each (Hands (ask wider_kind) hex 0) wide_tried
unfolding hex digit number groups utf8 characters character completes sized name remaining lookup rows table wider wider_kind contents subsections payload judge_names answer asked ask_at ask
wide_name_bytes = each_hands (ask wider_kind) hex 0 wide_tried refl

pub name_bytes_through : Each (Hands (ask_through known_kind) with_names 15) tried
unfolding with_names write_part shortest fewest ascii same preamble begins greatest_id is_custom is_code is_data rank custom is_called name_section hint_section nothing seeing id_rules name_rules section sections framing walk payload_of payload_in custom_payload through ask_through hex digit number groups utf8 characters character completes sized name remaining lookup rows table known known_kind contents subsections payload judge_names answer asked ask_at ask
name_bytes_through = each_hands (ask_through known_kind) with_names 15 tried refl

pub wide_name_bytes_through : Each (Hands (ask_through wider_kind) with_names 15) wide_tried
unfolding with_names write_part shortest fewest ascii same preamble begins greatest_id is_custom is_code is_data rank custom is_called name_section hint_section nothing seeing id_rules name_rules section sections framing walk payload_of payload_in custom_payload through ask_through hex digit number groups utf8 characters character completes sized name remaining lookup rows table wider wider_kind contents subsections payload judge_names answer asked ask_at ask
wide_name_bytes_through = each_hands (ask_through wider_kind) with_names 15 wide_tried refl

-- The data's bytes, of a payload and through a module
pub record MetadataBytes : Type 0 where
  pub find_bytes : HandsRightly (λ (k : FunctionIndex × CodeOffset) p. ask_metadata any_item k.0 k.1 0 p)
  pub metadata_bytes : HandsRightly (λ (k : List ℕ × FunctionIndex × CodeOffset) m. ask_metadata_through k.0 k.1 k.2 m)

pub metadata_bytes : MetadataBytes
unfolding with_data write_part shortest fewest ascii same preamble begins greatest_id is_custom is_code is_data rank custom is_called name_section hint_section nothing seeing id_rules name_rules section sections framing walk payload_of payload_in custom_payload through metadata_section item_of ask_metadata_through hex digit number groups utf8 characters character completes sized name remaining lookup rows table any_item metadata judge_metadata item_at ask_metadata
metadata_bytes = record {
  find_bytes = hands_rightly _ (record { 0 = 2 }, record { 0 = 5 }) (hex "01 02 01 05 00") (hex "01 02 01 05 81 00 41") 5 0x41 refl refl;
  metadata_bytes = hands_rightly _ (ascii "x", record { 0 = 2 }, record { 0 = 5 }) (with_data "01 02 01 05 00") (with_data "01 02 01 05 81 00 41") 31 0x41 refl refl;
}

-- An answer's part of any bytes
pub taken : (y : List ℕ) → RuledOut (λ (x : List ℕ × (ℕ × ℕ) × Answer) (r : List ℕ × (ℕ × ℕ)). Takes x.0 x.1 x.2 r.0 r.1) (λ _ r. r.0 ≡ y)
unfolding taken_of same
taken y = by_two_inputs {says = λ r. r.0} (λ x r meets. meets.bytes_are) (λ part. some part) (same []) (0x61 ∷ [], (0, 0), (Ok None)) (0x61 ∷ [], (0, 0), Ok (Some (record { offset = record { 0 = 0 }; length = 1 }))) refl refl refl refl y
