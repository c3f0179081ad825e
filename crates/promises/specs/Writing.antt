-- Wrong writers: one that refuses everything, one that never refuses, one that writes nothing, one that writes one fixed payload, one that copies its input as a rewriting. Each promise of a rewriting and of the writer from lists rules them out, and so does that of its C call. What comes back is the answer and the output's bytes.
use Rattle.std.specs.Prelude.{ℕ, false, List, [], ◌∷◌, ◌≡◌, refl, eqb, length, take, drop}
use Rattle.std.proofs.Math.Option.{some}
use Rattle.std.proofs.Common.{ap, sym, subst, ◌∙◌, arith, take_at}
use Rattle.format.specs.Laws.Bytes.{same_self}
use Rattle.format.specs.Bytes.{ascii, same}
use Rattle.format.specs.Canonical.{write_part, write_rows, write_table, unless_empty, keep_rows, bare, write_content, write_subsections, rewrite_names, canonical_names, rewrite_metadata, canonical_of, canonical_metadata, canonical_hints}
use Rattle.format.specs.Examples.{hex, digit}
use Rattle.format.specs.Listing.{digits, decimal, piece, line, section_lines, payload_line, printed, greatest_input, listing}
use Rattle.format.specs.Lists.{sum, listed, unsorted_at, bad_text_at, subsection, function_names}
use Rattle.format.specs.Metadata.{hint_of, any_item, hint_item, metadata, judge_metadata}
use Rattle.format.specs.Names.{known, known_kind, wider, wider_kind, contents, subsections, payload, judge_names}
use Rattle.format.specs.Numbers.{number, groups, shortest, fewest}
use Rattle.format.specs.Older.{times, vector, zero_byte, older_kind, older_hint, older_entry, judge_older, put_first, amend, with_hints, sorted_from, write_older_hints, write_older, not_too_long, canonical_older}
use Rattle.format.specs.Outputs.{fitting, write_answer, output_after, written_as, Writes}
use Rattle.format.specs.Parts.{sized, name, remaining}
use Rattle.format.specs.Reading.{Judged, accepted, refused, map_judged}
use Rattle.format.specs.Tables.{lookup, size, map_table, rows, table}
use Rattle.format.specs.Text.{utf8, characters, character, completes}
use Rattle.format.specs.Walk.{preamble, begins, name_section, hint_section, nothing, sections, framing, walk, payload_in}
use Rattle.format.specs.Returned.{Written}
use Rattle.wakemiono.specs.Boundary.{WmWrites}
use Rattle.wakemiono.specs.declared.WmAnswer.{WmAnswer}
use Rattle.writing.specs.Wrote.{Wrote}
use Rattle.promises.specs.Answers.{says_count, count_said}
use Rattle.promises.specs.Judging.{JudgesRightly, judges_rightly}
use Rattle.promises.specs.RuledOut.{RuledOut, Refuses, Always, accepted_in, finds, Finding, Refusing, refuses, Tells, not_both, by_two_inputs}

-- What a call wrote: the first bytes of the output, as many as it says; or its refusal
abbrev pub wrote : Judged ℕ → List ℕ → Judged (List ℕ)
wrote answer new = map_judged (λ n. take n new) answer

-- `Lent` is what is lent beside the output
module _ {Lent Result : Type 0} (promise : Lent × List ℕ → Result × List ℕ → Type 0) (counts : Result → Judged ℕ) where
  pub record WritesRightly : Type 0 where
    pub judges : JudgesRightly promise (λ r. wrote (counts r.0) r.1)
    -- the output stays as it was, whatever is lent
    pub writes_nothing : RuledOut promise (λ x r. r.1 ≡ x.1)
    -- one payload, also the empty one, whenever it does not refuse
    pub one_payload : (y : List ℕ) → RuledOut promise (λ _ r. Always y (accepted_in (wrote (counts r.0) r.1)))

-- of a rewriting, whose input is a payload
module _ {Result : Type 0} (promise : List ℕ × List ℕ → Result × List ℕ → Type 0) (counts : Result → Judged ℕ) where
  pub record RewritesRightly : Type 0 where
    pub writes : WritesRightly promise counts
    -- the input itself, whenever it does not refuse
    pub copies_input : RuledOut promise (λ x r. Always x.0 (accepted_in (wrote (counts r.0) r.1)))

-- Shown by two inputs for which different bytes are to be written, the first of them other than what stood in the output, and two that are refused at different offsets
module _ {Lent : Type 0} (wanted : Lent → Judged (List ℕ)) where
  -- what is to be written of what is lent, with an output
  abbrev pub to_write : Lent × List ℕ → Judged (List ℕ)
  to_write x = wrote (write_answer (length x.1) (wanted x.0)) (output_after (wanted x.0) x.1)

  pub record Writings : Type 0 where
    pub one : Finding (Lent × List ℕ) (List ℕ)
    pub another : Finding (Lent × List ℕ) (List ℕ)
    pub bad : Refusing (Lent × List ℕ)
    pub worse : Refusing (Lent × List ℕ)
    pub is_one : to_write one.input ≡ accepted one.found
    pub is_another : to_write another.input ≡ accepted another.found
    pub is_bad : to_write bad.input ≡ refused bad.number bad.offset
    pub is_worse : to_write worse.input ≡ refused worse.number worse.offset
    pub two : same one.found another.found ≡ false
    pub changed : same one.input.1 (output_after (wanted one.input.0) one.input.1) ≡ false
    pub apart : eqb bad.offset worse.offset ≡ false

differ : (x y : List ℕ) → same x y ≡ false → y ≡ x → ⊥
differ x y e is = not_both (sym (same_self x) ∙ ap (same x) (sym is) ∙ e)

module _ {Lent Result : Type 0} {wanted : Lent → Judged (List ℕ)} {promise : Lent × List ℕ → Result × List ℕ → Type 0} {counts : Result → Judged ℕ} (tells : Tells promise (λ r. wrote (counts r.0) r.1) (to_write wanted)) (v : Writings wanted) where
  pub writes_rightly : Tells promise (λ r. r.1) (λ x. output_after (wanted x.0) x.1) → WritesRightly promise counts
  writes_rightly leaves = record {
    judges = judges_rightly tells (record { fine = v.one.input; bad = v.bad; worse = v.worse; is_fine = λ h. subst (λ j. Refuses j) v.is_one h; is_bad = v.is_bad; is_worse = v.is_worse; apart = v.apart });
    writes_nothing = record {
      input = v.one.input;
      otherwise = λ r meets unchanged. differ v.one.input.1 (output_after (wanted v.one.input.0) v.one.input.1) v.changed (sym (leaves v.one.input r meets) ∙ unchanged);
    };
    one_payload = by_two_inputs tells (λ j. accepted_in j) (same v.one.found) v.one.input v.another.input (ap (λ j. accepted_in j) v.is_one) (ap (λ j. accepted_in j) v.is_another) (same_self v.one.found) v.two;
  }

-- what is to be written of the first input is not that input
module _ {Result : Type 0} {wanted : List ℕ → Judged (List ℕ)} {promise : List ℕ × List ℕ → Result × List ℕ → Type 0} {counts : Result → Judged ℕ} (tells : Tells promise (λ r. wrote (counts r.0) r.1) (to_write wanted)) (v : Writings wanted) where
  pub rewrites_rightly : same v.one.input.0 v.one.found ≡ false → Tells promise (λ r. r.1) (λ x. output_after (wanted x.0) x.1) → RewritesRightly promise counts
  rewrites_rightly rewritten leaves = record {
    writes = writes_rightly tells v leaves;
    copies_input = record {
      input = v.one.input;
      otherwise = λ r meets copied. differ v.one.input.0 v.one.found rewritten (subst (λ j. Always v.one.input.0 (accepted_in j)) (tells v.one.input r meets ∙ v.is_one) copied);
    };
  }

-- A call that writes, and its C call
module _ {Lent : Type 0} (wanted : Lent → Judged (List ℕ)) where
  abbrev pub promised : Lent × List ℕ → Written × List ℕ → Type 0
  promised x r = Writes (wanted x.0) x.1 r.1 r.0

  abbrev pub WmPromised : Lent × List ℕ → WmAnswer × List ℕ → Type 0
  WmPromised x a = WmWrites (wanted x.0) x.1 a.1 a.0

  pub record WriteCalls : Type 0 where
    pub call : WritesRightly promised written_as
    pub c_call : WritesRightly WmPromised says_count

  pub written_told : Tells promised (λ r. wrote (written_as r.0) r.1) (to_write wanted)
  written_told x r meets = λ i. wrote (meets.says i) (meets.leaves i)

  pub wm_written_told : Tells WmPromised (λ a. wrote (says_count a.0) a.1) (to_write wanted)
  wm_written_told x a meets = let answer = ap says_count meets.says ∙ count_said (write_answer (length x.1) (wanted x.0)) in λ i. wrote (answer i) (meets.leaves i)

  pub write_calls : Writings wanted → WriteCalls
  write_calls v = record {
    call = writes_rightly written_told v (λ x r meets. meets.leaves);
    c_call = writes_rightly wm_written_told v (λ x a meets. meets.leaves);
  }

module _ (wanted : List ℕ → Judged (List ℕ)) where
  pub record RewriteCalls : Type 0 where
    pub call : RewritesRightly (promised wanted) written_as
    pub c_call : RewritesRightly (WmPromised wanted) says_count

  pub rewrite_calls : (v : Writings wanted) → same v.one.input.0 v.one.found ≡ false → RewriteCalls
  rewrite_calls v rewritten = record {
    call = rewrites_rightly (written_told wanted) v rewritten (λ x r meets. meets.leaves);
    c_call = rewrites_rightly (wm_written_told wanted) v rewritten (λ x a meets. meets.leaves);
  }

-- A padded function name; nothing but an empty map; a map's second entry damaged; an output that is too short
pub rewrite_names_lem : RewriteCalls (canonical_names known_kind)
unfolding same hex digit number groups shortest fewest utf8 characters character completes sized name remaining lookup size map_table rows table known known_kind contents subsections payload judge_names write_part write_rows write_table unless_empty keep_rows bare write_content write_subsections rewrite_names canonical_names fitting write_answer output_after
rewrite_names_lem = rewrite_calls (canonical_names known_kind) (record {
  one = finds (hex "01 85 00 01 00 81 00 61", hex "AA AA AA AA AA AA AA") (hex "01 04 01 00 01 61");
  another = finds (hex "01 01 00", hex "AA") [];
  bad = refuses (hex "01 07 02 03 01 62 03 01 61", hex "AA AA AA AA AA AA AA AA AA") 11 6;
  worse = refuses (hex "00 01 00", hex "AA AA") 13 3;
  is_one = refl;
  is_another = refl;
  is_bad = refl;
  is_worse = refl;
  two = refl;
  changed = refl;
  apart = refl;
}) refl

-- By the wider edition: a padded name of a global; nothing but an empty map of globals; a map's second entry damaged; an output that is too short
pub rewrite_wide_names : RewriteCalls (canonical_names wider_kind)
unfolding same hex digit number groups shortest fewest utf8 characters character completes sized name remaining lookup size map_table rows table wider wider_kind contents subsections payload judge_names write_part write_rows write_table unless_empty keep_rows bare write_content write_subsections rewrite_names canonical_names fitting write_answer output_after
rewrite_wide_names = rewrite_calls (canonical_names wider_kind) (record {
  one = finds (hex "07 85 00 01 00 81 00 61", hex "AA AA AA AA AA AA AA") (hex "07 04 01 00 01 61");
  another = finds (hex "07 01 00", hex "AA") [];
  bad = refuses (hex "07 07 02 03 01 62 03 01 61", hex "AA AA AA AA AA AA AA AA AA") 11 6;
  worse = refuses (hex "00 01 00", hex "AA AA") 13 3;
  is_one = refl;
  is_another = refl;
  is_bad = refl;
  is_worse = refl;
  two = refl;
  changed = refl;
  apart = refl;
}) refl

-- A padded size and count; no function; the second function damaged; an output that is too short
pub rewrite_metadata_lem : RewriteCalls canonical_metadata
unfolding same hex digit number groups shortest fewest sized size map_table rows table any_item metadata judge_metadata write_part write_rows write_table unless_empty keep_rows rewrite_metadata canonical_of canonical_metadata fitting write_answer output_after
rewrite_metadata_lem = rewrite_calls canonical_metadata (record {
  one = finds (hex "01 02 81 00 05 80 00", hex "AA AA AA AA AA AA") (hex "01 02 01 05 00");
  another = finds (hex "01 02 00", hex "AA") (hex "00");
  bad = refuses (hex "02 02 01 05 01 41 02 00", hex "AA AA AA AA AA AA AA AA") 11 6;
  worse = refuses (hex "00", []) 13 1;
  is_one = refl;
  is_another = refl;
  is_bad = refl;
  is_worse = refl;
  two = refl;
  changed = refl;
  apart = refl;
}) refl

-- A function without items; nothing but one; the second hint damaged; an output that is too short
pub rewrite_hints : RewriteCalls canonical_hints
unfolding same hex digit number groups shortest fewest sized size map_table rows table hint_of hint_item metadata judge_metadata write_part write_rows write_table unless_empty keep_rows rewrite_metadata canonical_of canonical_hints fitting write_answer output_after
rewrite_hints = rewrite_calls canonical_hints (record {
  one = finds (hex "02 02 00 03 01 05 01 01", hex "AA AA AA AA AA AA AA") (hex "01 03 01 05 01 01");
  another = finds (hex "01 02 00", hex "AA") (hex "00");
  bad = refuses (hex "01 02 02 05 01 01 06 01 02", hex "AA AA AA AA AA AA AA AA AA") 12 7;
  worse = refuses (hex "00", []) 13 1;
  is_one = refl;
  is_another = refl;
  is_bad = refl;
  is_worse = refl;
  two = refl;
  changed = refl;
  apart = refl;
}) refl

-- Of the older edition: a pair twice; nothing but entries without hints; the second hint damaged; an output that is too short
pub rewrite_older : RewriteCalls canonical_older
unfolding same hex digit number groups shortest fewest size write_rows write_table times vector zero_byte older_kind older_hint older_entry judge_older put_first amend with_hints sorted_from write_older_hints write_older not_too_long canonical_older fitting write_answer output_after
rewrite_older = rewrite_calls canonical_older (record {
  one = finds (hex "01 00 00 02 01 05 01 05", hex "AA AA AA AA AA AA AA") (hex "01 00 00 01 01 05");
  another = finds (hex "02 00 00 00 07 00 00", hex "AA") (hex "00");
  bad = refuses (hex "01 02 00 02 01 05 02 06", hex "AA AA AA AA AA AA AA AA") 12 6;
  worse = refuses (hex "00", []) 13 1;
  is_one = refl;
  is_another = refl;
  is_bad = refl;
  is_worse = refl;
  two = refl;
  changed = refl;
  apart = refl;
}) refl

-- From lists: one name; none; lists that disagree; a second index that is not above the first
pub function_names_lem : WriteCalls (λ (x : List ℕ × List ℕ × List ℕ). function_names x.0 x.1 x.2)
unfolding same hex digit shortest fewest utf8 characters character completes size write_part write_rows write_table unless_empty keep_rows write_content write_subsections sum listed unsorted_at bad_text_at subsection function_names fitting write_answer output_after
function_names_lem = write_calls _ (record {
  one = finds ((0 ∷ [], 1 ∷ [], hex "61"), hex "AA AA AA AA AA AA AA") (hex "01 04 01 00 01 61");
  another = finds (([], [], []), hex "AA") [];
  bad = refuses ((0 ∷ [], [], []), hex "AA") 14 0;
  worse = refuses ((3 ∷ 3 ∷ [], 1 ∷ 1 ∷ [], hex "61 62"), hex "AA") 11 1;
  is_one = refl;
  is_another = refl;
  is_bad = refl;
  is_worse = refl;
  two = refl;
  changed = refl;
  apart = refl;
})

-- The program's listing, into any output: one listing for every module
listing_told : (old : List ℕ) → Tells (λ m (r : ℕ × List ℕ). Wrote old r.1 0 r.0 (listing m)) (λ r. take r.0 r.1) listing
listing_told old m r meets = ap (take r.0) meets.written ∙ take_at (listing m) (drop r.0 old) r.0 (omega (arith, meets.next_is))

pub list : (old y : List ℕ) → RuledOut (λ m (r : ℕ × List ℕ). Wrote old r.1 0 r.0 (listing m)) (λ _ r. take r.0 r.1 ≡ y)
unfolding same ascii preamble begins nothing sections framing walk payload_in name_section hint_section digits decimal piece line section_lines payload_line printed greatest_input listing
list old y = by_two_inputs (listing_told old) (λ x. some x) (same (ascii "refused 1 0\n")) [] preamble {k = ascii "refused 1 0\n"} {l = ascii "sections 0\nname none\nhints none\n"} refl refl refl refl y
