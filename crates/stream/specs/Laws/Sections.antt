-- A section that the walk reads at once comes to what it comes to byte by byte, from its id byte on.
use Rattle.std.specs.Prelude.{ℕ, zero, suc, ◌+◌, Bool, true, false, cond, not, ◌&&◌, ◌||◌, List, [], ◌∷◌, ◌≡◌, refl, ltb, leb, length, take, drop}
use Rattle.std.proofs.Math.Option.{Option, none, some}
use Rattle.std.proofs.Common.{sym, ap, ◌∙◌, arith}
use Rattle.format.specs.Reading.{◌>>=◌, ◌>>◌, Outcome, got, stop, Reader, return, checked, Judged, accepted, refused, judge, map_judged}
use Rattle.format.specs.Options.{map_some, or_else}
use Rattle.format.specs.Numbers.{number}
use Rattle.format.specs.Parts.{Part, place_of, sized, go_on, inside}
use Rattle.format.specs.Walk as Walk
use Rattle.format.specs.Walk.{name_section, hint_section, older_hint_section, greatest_id, is_custom, is_data, is_code, rank, name_row, before_code, Custom, is_called, row_of, is_row, Section, Seen, seeing, id_rules, name_rules, section, sections, payload_of, payload_in}
use Rattle.format.specs.Laws.Outcomes.{by_test, by_outcome}
use Rattle.format.proofs.Laws.Walk.{step_goes_on, step_refuses}
use Rattle.format.specs.declared.Place.{Place}
use Rattle.format.specs.declared.Reason.{Reason}
use Rattle.format.specs.declared.Reason.TheVariants.{SectionUnknown, SectionOrder, SectionTwice, SectionTooLate}
use Rattle.stream.specs.Counting.{fresh}
use Rattle.stream.specs.Contents.{sizing}
use Rattle.stream.specs.Stream.{Summary, Done, there_in, seen_in, called_done, custom_done, admit, opening}
use Rattle.stream.specs.Walked.{summary}
use Rattle.stream.specs.Laws.Window.{within}
use Rattle.stream.specs.Laws.Counting.{counting_first}
use Rattle.stream.specs.Laws.Naming.{row_named}
use Rattle.stream.specs.Laws.Contents.{content_then}
use Rattle.stream.specs.Laws.Customs.{custom_read, custom_reads, called_by, custom_found}
use Rattle.stream.specs.Laws.Rows.{leaves, name_there, hints_there, older_there, beyond_there, name_placed, hints_placed, older_placed}
use Rattle.stream.specs.Laws.Resuming.{joined, after_done, after_verdict, skip_then, custom_then, enter_then, size_then, after}

-- The sections behind us, with one more of the walk's

abbrev pub walked_done : Done → Section → Done
walked_done d s = record {
  rank = cond (is_custom s.id) d.rank (rank s.id);
  code = d.code || is_code s.id;
  told = record {
    count = suc d.told.count;
    name = leaves name_section d.told.name s.custom;
    hints = leaves hint_section d.told.hints s.custom;
    older = leaves older_hint_section d.told.older s.custom;
  };
}

-- what the rules know behind it
there_after : (d : Done) (s : Section) (row : ℕ) → (there_in d.told row || is_row (row_of s.custom) row) ≡ there_in (walked_done d s).told row
there_after d s zero = sym (name_there d.told.name s.custom)
there_after d s (suc zero) = sym (hints_there d.told.hints s.custom)
there_after d s (suc (suc zero)) = sym (older_there d.told.older s.custom)
there_after d s (suc (suc (suc k))) = sym (beyond_there s.custom k)

seen_after : (d : Done) (s : Section) → seeing (seen_in d) s ≡ seen_in (walked_done d s)
unfolding seeing
seen_after d s = λ i. record { rank = (walked_done d s).rank; code = (walked_done d s).code; there = λ row. there_after d s row i }

abbrev pub on_from : Done → Outcome Section → Judged Summary
on_from d (got s o bs) = after_done (walked_done d s) o bs
on_from d (stop n at) = refused n at

or_joined : (x : Option Place) (y z : Option Part) → or_else x (map_some place_of (or_else y z)) ≡ or_else (or_else x (map_some place_of y)) (map_some place_of z)
or_joined (some p) y z = refl
or_joined none none z = refl
or_joined none (some q) z = refl

joined_one : (d : Done) (s : Section) (ss : List Section) → joined d.told (summary (s ∷ ss)) ≡ joined (walked_done d s).told (summary ss)
unfolding payload_in
joined_one d s ss =
    let p : d.told.count + suc (length ss) ≡ suc d.told.count + length ss = omega arith in
    λ i. record {
      count = p i;
      name = or_joined d.told.name (payload_of name_section s.custom) (payload_in name_section ss) i;
      hints = or_joined d.told.hints (payload_of hint_section s.custom) (payload_in hint_section ss) i;
      older = or_joined d.told.older (payload_of older_hint_section s.custom) (payload_in older_hint_section ss) i;
    }

joined_all : (d : Done) (s : Section) (j : Judged (List Section)) → map_judged (λ ss. joined d.told (summary ss)) (map_judged (λ more. s ∷ more) j) ≡ map_judged (λ ss. joined (walked_done d s).told (summary ss)) j
joined_all d s (accepted ss) = ap accepted (joined_one d s ss)
joined_all d s (refused n at) = refl

stepped : (seen : Seen) (o id : ℕ) (bs : List ℕ) {s : Section} {o₁ : ℕ} {r₁ : List ℕ} → section seen o id (suc o) bs ≡ got s o₁ r₁ → Walk.step seen o (id ∷ bs) ≡ got (some s) o₁ r₁
unfolding Walk.step
stepped seen o id bs e = rw e

not_stepped : (seen : Seen) (o id : ℕ) (bs : List ℕ) {n at : ℕ} → section seen o id (suc o) bs ≡ stop n at → Walk.step seen o (id ∷ bs) ≡ stop n at
unfolding Walk.step
not_stepped seen o id bs e = rw e

done_section : (d : Done) (o id : ℕ) (bs : List ℕ) → after_done d o (id ∷ bs) ≡ on_from d (section (seen_in d) o id (suc o) bs)
unfolding after_done
done_section d o id bs =
    by_outcome (section (seen_in d) o id (suc o) bs)
    (λ s o₁ r₁ e. rw (e, step_goes_on (seen_in d) o (id ∷ bs) (stepped (seen_in d) o id bs e))
    (joined_all d s (judge (sections (length r₁) (seeing (seen_in d) s) o₁ r₁))
    ∙ ap (λ seen. map_judged (λ ss. joined (walked_done d s).told (summary ss)) (judge (sections (length r₁) seen o₁ r₁))) (seen_after d s)))
    (λ n at e. rw (e, step_refuses (seen_in d) o (id ∷ bs) (not_stepped (seen_in d) o id bs e)))

-- Rules look at no byte: they say the same wherever they are asked

abbrev Still : Reader (Unit {0}) → Type 0
Still r = (o : ℕ) (bs : List ℕ) → r o bs ≡ go_on (r 0 []) o bs

last_check : (b : Bool) (why : Reason) (at : ℕ) → Still (checked b why at)
last_check true why at o bs = refl
last_check false why at o bs = refl

then_check : (b : Bool) (why : Reason) (at : ℕ) (r : Reader (Unit {0})) → Still r → Still (checked b why at >> r)
then_check true why at r h o bs = h o bs
then_check false why at r h o bs = refl

id_anywhere : (seen : Seen) (at id : ℕ) → Still (id_rules seen at id)
unfolding id_rules
id_anywhere seen at id =
    then_check (leb id greatest_id) SectionUnknown at _
    (then_check (is_custom id || ltb seen.rank (rank id)) SectionOrder at _
    (last_check (not (is_data id && seen.there name_row)) SectionTooLate at))

name_anywhere : (seen : Seen) (at : ℕ) (row : Option ℕ) → Still (name_rules seen at row)
unfolding name_rules
name_anywhere seen at none o bs = refl
name_anywhere seen at (some row) o bs =
    then_check (not (seen.there row)) SectionTwice at _
    (last_check (not (before_code row && seen.code)) SectionTooLate at) o bs

-- Behind the id byte

unfoldable section_rest : Seen → ℕ → ℕ → Reader Section
section_rest seen at id = do
  part ← sized
  c ← inside (Walk.custom id) part
  name_rules seen at (row_of c)
  return (record { id = id; at = at; contents = part; custom = c })

-- a custom section is over
custom_done_lem : (d : Done) (at : ℕ) (part : Part) (c : Custom) → walked_done d (record { id = 0; at = at; contents = part; custom = some c }) ≡ called_done d (called_by c)
custom_done_lem d at part c = λ i. record {
  rank = (called_done d (called_by c)).rank;
  code = (called_done d (called_by c)).code;
  told = record {
    count = suc d.told.count;
    name = name_placed d.told.name c i;
    hints = hints_placed d.told.hints c i;
    older = older_placed d.told.older c i;
  };
}

row_called : (c : Custom) → row_of (some c) ≡ row_named c.name.bytes
unfolding is_called
row_called c = refl

custom_rest : (d : Done) (at o : ℕ) (part : Part) (bs : List ℕ)
    → on_from d ((inside (Walk.custom 0) part >>= λ c. name_rules (seen_in d) at (row_of c) >> return (record { id = 0; at = at; contents = part; custom = c })) o bs)
    ≡ after_verdict (custom_done d at (content_then (sizing part.at fresh) part.at part.bytes)) o bs
unfolding custom_done
custom_rest d at o part bs =
    rw (custom_reads part.at part.bytes, ← custom_found part.at part.bytes)
    (by_outcome (custom_read part.at part.bytes)
    (λ c o₁ r₁ e. rw (e, row_called c, name_anywhere (seen_in d) at (row_named c.name.bytes) o bs)
    (by_outcome (name_rules (seen_in d) at (row_named c.name.bytes) 0 [])
    (λ v o₂ r₂ f. rw (f, custom_done_lem d at part c))
    (λ n a f. rw f)))
    (λ n a e. rw e))

enter_rest : (d : Done) (id at n o : ℕ) (bs : List ℕ) → leb n (length bs) ≡ true
    → on_from d ((inside (Walk.custom id) (record { at = o; bytes = take n bs }) >>= λ c. name_rules (seen_in d) at (row_of c) >> return (record { id = id; at = at; contents = record { at = o; bytes = take n bs }; custom = c })) (o + n) (drop n bs))
    ≡ enter_then d id at n o bs
unfolding enter_then custom_then skip_then within Walk.custom name_rules is_called payload_of
enter_rest d zero at n o bs t = rw t (custom_rest d at (o + n) (record { at = o; bytes = take n bs }) (drop n bs))
enter_rest d (suc id) at n o bs t = rw t

enter_short : (d : Done) (id at n o : ℕ) (bs : List ℕ) → leb n (length bs) ≡ false → refused 2 (suc at) ≡ enter_then d id at n o bs
unfolding enter_then custom_then skip_then within
enter_short d zero at n o bs t = rw t
enter_short d (suc id) at n o bs t = rw t

size_rest : (d : Done) (id at : ℕ) (bs : List ℕ) → on_from d (section_rest (seen_in d) at id (suc at) bs) ≡ size_then d id at (number (suc at) bs)
unfolding section_rest sized size_then
size_rest d id at bs =
    by_outcome (number (suc at) bs)
    (λ n o₁ r₁ e. rw e (by_test (leb n (length r₁))
    (λ t. rw t (enter_rest d id at n o₁ r₁ t))
    (λ t. rw t (enter_short d id at n o₁ r₁ t))))
    (λ n a e. rw e)

section_rest_lem : (d : Done) (o id : ℕ) (bs : List ℕ) → on_from d (section (seen_in d) o id (suc o) bs) ≡ after (opening (accepted d) o id) (suc o) bs
unfolding section section_rest opening admit after
section_rest_lem d o id bs =
    rw (id_anywhere (seen_in d) o id (suc o) bs)
    (by_outcome (id_rules (seen_in d) o id 0 [])
    (λ v o₁ r₁ e. rw e (size_rest d id o bs ∙ ap (size_then d id o) (counting_first (suc o) bs)))
    (λ n a e. rw e))

-- an id byte opens a section as the walk does
pub opening_then : (j : Judged Done) (o id : ℕ) (bs : List ℕ) → after_verdict j o (id ∷ bs) ≡ after (opening j o id) (suc o) bs
unfolding opening after
opening_then (accepted d) o id bs = done_section d o id bs ∙ section_rest_lem d o id bs
opening_then (refused n at) o id bs = refl
