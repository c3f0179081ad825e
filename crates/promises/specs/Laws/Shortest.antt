-- K11: what was written of a payload, against every other payload that says the same.
use Rattle.std.specs.Prelude.{ℕ, zero, suc, Bool, true, false, ◌&&◌, List, [], ◌∷◌, ◌≡◌, refl, ltb, length}
use Rattle.std.proofs.Common.{sym, ap, ◌∙◌, arith, ltb-true}
use Rattle.format.specs.Bytes.{Bytes, same}
use Rattle.format.specs.Examples.{digit, hex}
use Rattle.format.specs.Laws.Bytes.{same_self}
use Rattle.format.specs.Laws.Outcomes.{accepted_is, on_both}
use Rattle.format.specs.Numbers.{number, groups, shortest, fewest}
use Rattle.format.specs.Text.{utf8, characters, character, completes}
use Rattle.format.specs.Parts.{sized, name, remaining}
use Rattle.format.specs.Tables.{lookup, size, map_table, rows, table}
use Rattle.format.specs.Names.{known, known_kind, wider, wider_kind, contents, subsections, payload, judge_names}
use Rattle.format.specs.Metadata.{hint_of, any_item, hint_item, metadata, judge_metadata}
use Rattle.format.specs.Older.{times, vector, zero_byte, older_kind, older_hint, older_entry, judge_older, put_first, amend, with_hints, sorted_from, write_older_hints, write_older, not_too_long, canonical_older}
use Rattle.format.specs.Canonical.{write_part, write_rows, write_table, unless_empty, keep_rows, bare, write_content, write_subsections, rewrite_names, canonical_names, rewrite_metadata, canonical_of, canonical_metadata, canonical_hints}
use Rattle.format.specs.Questions.{AllowedBy}
use Rattle.format.specs.Reading.{Judged, accepted, verdict, Accepted}
use Rattle.format.proofs.Theorems.{OthersLonger as AnyOthersLonger, NoneShorter as AnyNoneShorter, ItemInRange, OlderInRange}
use Rattle.format.specs.declared.Edition.TheVariants.{First, Wider}
use Rattle.wakemiono.specs.Boundary.{wm_judged, WmWrites}
use Rattle.wakemiono.specs.Calls.{WmNamesJudge, WmName, WmNamesCanonical, WmWideNamesJudge, WmWideName, WmWideNamesCanonical, WmMetadataJudge, WmMetadata, WmMetadataCanonical, WmHintsJudge, WmHint, WmHintsCanonical, WmOldHintsJudge, WmOldHint, WmOldHintsCanonical}
use Rattle.wakemiono.specs.declared.WmAnswer.{WmAnswer}
use Rattle.promises.specs.Demands.{SameAnswer, SaysTheSame, OthersLonger, NoneShorter, Another}
use Rattle.promises.specs.Laws.Outputs.{wrote, wrote_first, wrote_long}
use Rattle.promises.specs.Laws.Rewriting.{WhereWritten, Asked, alike_exactly, names_written, names_asked, metadata_written, metadata_asked, hints_written, hints_asked, older_written, older_asked}
use Rattle.promises.specs.Laws.Saying.{judged_said}
use Rattle.promises.specs.RuledOut.{not_both}

-- an example's bytes
unfoldable are_bytes : List ℕ → Bool
are_bytes [] = true
are_bytes (b ∷ bs) = ltb b 256 && are_bytes bs

all_bytes : (bs : List ℕ) → are_bytes bs ≡ true → Bytes bs
unfolding are_bytes
all_bytes [] e i = omega arith
all_bytes (b ∷ bs) e zero = on_both (ltb b 256) (are_bytes bs) e λ s t. ltb-true b 256 s
all_bytes (b ∷ bs) e (suc i) = on_both (ltb b 256) (are_bytes bs) e λ s t. all_bytes bs t i

module _ {A Q R : Type 0} {judgement : List ℕ → Judged A} {rewriting : List ℕ → Judged (List ℕ)} {answer : Q → List ℕ → R} {Allowed : Q → Type 0} (rewrites : WhereWritten judgement rewriting answer Allowed)
    {asking : Q → List ℕ → WmAnswer → Type 0} {Same : (x y : List ℕ) (a b : WmAnswer) → Type 0} (asked : Asked judgement answer asking Same) where
  abbrev judging : List ℕ → WmAnswer → Type 0
  judging p j = j ≡ wm_judged (length p) (verdict (judgement p))

  abbrev writing : (p old new : List ℕ) → WmAnswer → Type 0
  writing p old new a = WmWrites (rewriting p) old new a

  another_accepted : {x y : List ℕ} → SaysTheSame judging asking Allowed Same writing x y → Accepted judgement y
  another_accepted {y = y} s = let (v, e) = (judged_said (length y) (judgement y) refl).found.0 (s.is_accepted (wm_judged (length y) (verdict (judgement y))) refl) in record { value = v; judged = e }

  pub longer : AnyOthersLonger judgement rewriting answer Allowed → OthersLonger judging asking Allowed Same writing
  longer others x y old new a bx writes k s other =
      let w = wrote (rewriting x) writes k in
      let ax = rewrites.first_judged x w.wants in
      let ay = another_accepted s in
      let less = others x w.bytes y bx s.are_bytes_lem ax w.wants ay ((alike_exactly asked ax ay).1 s.answers_alike) (λ e. other (e ∙ sym (wrote_first w))) in
      omega (arith, wrote_long w, less)

  pub least : AnyNoneShorter judgement rewriting answer Allowed → NoneShorter judging asking Allowed Same writing
  least none x y old new a writes k s =
      let w = wrote (rewriting x) writes k in
      let ay = another_accepted s in
      let short = none x w.bytes y w.wants ay ((alike_exactly asked (rewrites.first_judged x w.wants) ay).1 s.answers_alike) in
      omega (arith, wrote_long w, short)

  -- two payloads whose rewriting is the first of them
  another : {x y : List ℕ} → are_bytes x ≡ true → are_bytes y ≡ true → rewriting x ≡ accepted x → rewriting y ≡ accepted x → same y x ≡ false → Another judging asking Allowed Same writing x y (length x) (length y)
  another {x} {y} bx by c d other =
      let ax = rewrites.first_judged x c in
      let ay = rewrites.first_judged y d in
      record {
        lengths = (refl, refl);
        is_canonical = λ old new a w k. let v = wrote (rewriting x) w k in wrote_first v ∙ accepted_is (sym v.wants ∙ c);
        differs = λ e. not_both (sym (ap (λ z. same z x) e ∙ same_self x) ∙ other);
        says_the_same = record {
          are_bytes_lem = all_bytes y by;
          is_accepted = λ j e. (judged_said (length y) (judgement y) e).found.1 (ay.value, ay.judged);
          answers_alike = (alike_exactly asked ax ay).0 ((rewrites.same_exactly x y (all_bytes x bx) (all_bytes y by) c d).0 refl);
        };
      }

-- THE EXAMPLES
pub other_names : Another WmNamesJudge WmName (AllowedBy known_kind) SameAnswer WmNamesCanonical (hex "01 04 01 00 01 61") (hex "01 84 00 01 00 01 61") 6 7
unfolding hex digit are_bytes same number groups shortest fewest utf8 characters character completes sized name remaining lookup size map_table rows table known known_kind contents subsections payload judge_names write_part write_rows write_table unless_empty keep_rows bare write_content write_subsections rewrite_names canonical_names
other_names = another (names_written First) (names_asked known_kind) refl refl refl refl refl

pub other_wide_names : Another WmWideNamesJudge WmWideName (AllowedBy wider_kind) SameAnswer WmWideNamesCanonical (hex "07 04 01 00 01 61") (hex "05 01 00 07 04 01 00 01 61") 6 9
unfolding hex digit are_bytes same number groups shortest fewest utf8 characters character completes sized name remaining lookup size map_table rows table wider wider_kind contents subsections payload judge_names write_part write_rows write_table unless_empty keep_rows bare write_content write_subsections rewrite_names canonical_names
other_wide_names = another (names_written Wider) (names_asked wider_kind) refl refl refl refl refl

pub other_metadata : Another WmMetadataJudge (λ q. WmMetadata q.0.0 q.1.0) ItemInRange SameAnswer WmMetadataCanonical (hex "01 02 01 05 01 FF") (hex "02 02 01 05 01 FF 03 00") 6 8
unfolding hex digit are_bytes same number groups shortest fewest sized lookup size map_table rows table any_item metadata judge_metadata write_part write_rows write_table unless_empty keep_rows rewrite_metadata canonical_of canonical_metadata
other_metadata = another metadata_written metadata_asked refl refl refl refl refl

pub other_hints : Another WmHintsJudge (λ q. WmHint q.0.0 q.1.0) ItemInRange (λ _ _ a b. a ≡ b) WmHintsCanonical (hex "01 02 01 05 01 01") (hex "01 02 01 05 81 00 01") 6 7
unfolding hex digit are_bytes same number groups shortest fewest sized lookup size map_table rows table hint_of hint_item metadata judge_metadata write_part write_rows write_table unless_empty keep_rows rewrite_metadata canonical_of canonical_hints
other_hints = another hints_written hints_asked refl refl refl refl refl

pub other_old_hints : Another WmOldHintsJudge (λ q. WmOldHint q.0.0 q.1.0) OlderInRange (λ _ _ a b. a ≡ b) WmOldHintsCanonical (hex "02 00 00 01 01 05 03 00 01 00 07") (hex "02 03 00 01 00 07 00 00 01 01 05") 11 11
unfolding hex digit are_bytes same number groups shortest fewest size write_rows write_table times vector zero_byte older_kind older_hint older_entry judge_older put_first amend with_hints sorted_from write_older_hints write_older not_too_long canonical_older
other_old_hints = another older_written older_asked refl refl refl refl refl
