-- One subsection of a payload: judged, looked for, and listed where it lies.
use Rattle.std.specs.Prelude.{Ok, Err, Some, None}
use Prim.Native.Nat.{ℕ}
use mathlib.Core.List.{List}
use mathlib.Core.Option.{none, some}
use mathlib.Core.Path.{◌≡◌, refl, sym, ap, ◌∙◌}
use borrow.Author.Rules.{rules}
use lib.ListN.{length}
use Rattle.format.specs.Entries.{plain_rows, group_rows, name_rows, place_columns, Lists}
use Rattle.format.proofs.Laws.Entries.{lists_refused, lists_none}
use Rattle.format.specs.Laws.Outcomes.{accepted_is, judged, mapped}
use Rattle.format.specs.Names.{one_name, name_map, indirect_map, Content, single, names, names_by, kind_in, contents, subsections, payload, judge_names}
use Rattle.format.specs.Parts.{Part, sized, remaining}
use Rattle.format.specs.Reading.{accepted, judge, verdict}
use Rattle.format.specs.Tables.{Table, lookup, table}
use Rattle.format.specs.Verdicts.{verdict_of}
use Rattle.format.specs.Returned.{Answer}
use Rattle.format.specs.declared.Edition.{Edition}
use Rattle.format.specs.declared.Refusal.{Refusal}
use Rattle.format.specs.Returned.{Verdict}
use Rattle.format.proofs.Tags.{judged_refused, judged_accepted}
use Rattle.reading.specs.Cursors.{left, over_all, part_of}
use Rattle.reading.specs.Standing.{Known}
use Rattle.reading.specs.declared.Cursor.{Cursor}
use Rattle.reading.proofs.Laws.{left_all, over_inside}
use Rattle.reading.proofs.Standing.{one_value}
use Rattle.tables.specs.Returned.{Held}
use Rattle.names.specs.Contents.{kind_meant}
use Rattle.names.specs.Frames.{judge_frames, read_under}
use Rattle.names.specs.Places.{sub_of, Finds, Stands as LiesAt}
use Rattle.names.specs.declared.kinds.Kind.{Kind}
use Rattle.names.specs.declared.kinds.Kind.TheVariants.{OneName, NameMap, IndirectMap, Kept}
use Rattle.names.proofs.AskLaws.{all_framed}
use Rattle.names.proofs.ContentLaws.{Lax, one_stands, map_stands, indirect_stands}
use Rattle.names.proofs.FrameLaws.{subsections_lie}
use Rattle.entries.specs.Listing.{one_row, KnownAll, ListsRows, KnownContents, ListsContents}
use Rattle.entries.specs.Putting.{AnyPart}
use Rattle.entries.proofs.MapLaws.{any_held}

-- CONTENTS, by their kind
module _ {s : List ℕ} {part : Cursor} where
  its_one : (k : KnownContents one_name s part) → Lax sized single s part k.value
  its_one k = one_stands k.inside k.judged

  its_map : (k : KnownContents name_map s part) → Lax (table sized) names s part k.value
  its_map k = map_stands k.inside k.judged

  its_groups : (k : KnownContents indirect_map s part) → Lax (table (table sized)) names_by s part k.value
  its_groups k = indirect_stands k.inside k.judged

  module _ {kind : Kind} (k : KnownContents (kind_meant kind) s part) where
    pub one_known : kind ≡ OneName → Known sized s part
    one_known e = let l = its_one (rw e at k) in record { value = l.value; next = l.next; stands = l.stands }

    pub map_known : kind ≡ NameMap → Known (table sized) s part
    map_known e = let l = its_map (rw e at k) in record { value = l.value; next = l.next; stands = l.stands }

    pub groups_known : kind ≡ IndirectMap → KnownAll AnyPart s part
    groups_known e = let l = its_groups (rw e at k) in any_held (record { value = l.value; next = l.next; stands = l.stands })

    module _ {lists lists' : List (List ℕ)} {r : Answer} where
      pub one_contents : kind ≡ OneName → ListsRows sized one_row place_columns s part lists lists' r → ListsContents (kind_meant kind) s part lists lists' r
      one_contents e w =
          let here : KnownContents one_name s part = rw e at k in
          let l = its_one here in
          let same : here.value ≡ single w.value = sym l.is ∙ ap single (one_value l.stands w.stands) in
          rw e (record { value = single w.value; judged = here.judged ∙ ap accepted same; its_lists = w.its_lists })

      pub map_contents : kind ≡ NameMap → ListsRows (table sized) plain_rows place_columns s part lists lists' r → ListsContents (kind_meant kind) s part lists lists' r
      map_contents e w =
          let here : KnownContents name_map s part = rw e at k in
          let l = its_map here in
          let same : here.value ≡ names w.value = sym l.is ∙ ap names (one_value l.stands w.stands) in
          rw e (record { value = names w.value; judged = here.judged ∙ ap accepted same; its_lists = w.its_lists })

      pub groups_contents : kind ≡ IndirectMap → ListsRows (table (table sized)) group_rows place_columns s part lists lists' r → ListsContents (kind_meant kind) s part lists lists' r
      groups_contents e w =
          let here : KnownContents indirect_map s part = rw e at k in
          let l = its_groups here in
          let same : here.value ≡ names_by w.value = sym l.is ∙ ap names_by (one_value l.stands w.stands) in
          rw e (record { value = names_by w.value; judged = here.judged ∙ ap accepted same; its_lists = w.its_lists })

pub kept_contents : {s : List ℕ} {part : Cursor} {kind : Kind} {lists : List (List ℕ)} → kind ≡ Kept → ListsContents (kind_meant kind) s part lists lists (Ok None)
unfolding contents remaining
kept_contents e = rw e (record { value = _; judged = refl; its_lists = lists_none refl })

pub ruleset contents_listed = (one_known, map_known, groups_known, one_contents, map_contents, groups_contents, kept_contents, rules)

-- THE PAYLOAD
module _ (p : List ℕ) (edition : Edition) (id : ℕ) (v : Verdict) (says : verdict_of v ≡ verdict (judge_names (kind_in edition) 0 p)) where
  pub names_refused : {lists : List (List ℕ)} {r : Refusal} → v ≡ Err r → Lists place_columns (name_rows (kind_in edition) id p) lists lists (Err r)
  unfolding name_rows
  names_refused e = lists_refused (rw (judged_refused v (judge_names (kind_in edition) 0 p) says e) refl)

  module _ (h : v ≡ Ok tt) {c : Cursor} (over : c ≡ over_all p) {place : Held} (finds : Finds p c.at (left p c) id place) where
    -- what stands under the id, and where
    record There : Type 0 where
      value : Table (Content Part)
      accepts : judge_names (kind_in edition) 0 p ≡ accepted value
      lies : Table Part
      stands : LiesAt p place (lookup id lies)
      reads : accepted (lookup id value) ≡ read_under (kind_in edition id) (lookup id lies)

    there : There
    unfolding judge_names payload judge_frames
    there =
        let (t, e) = judged_accepted v (judge_names (kind_in edition) 0 p) says h in
        judged (subsections (kind_in edition) (length p) 0 0 p) e λ o rest r.
        let l = subsections_lie (kind_in edition) (length p) 0 0 p r in
        let found : Finds p 0 p id place = rw (over, left_all p) at finds in
        record { value = t; accepts = e; lies = l.table; stands = found.stands l.table (ap judge l.framed_so); reads = l.stands id }

    pub names_none : {lists : List (List ℕ)} → place ≡ None → Lists place_columns (name_rows (kind_in edition) id p) lists lists (Ok None)
    unfolding name_rows
    names_none q =
        let nowhere : lookup id there.lies ≡ none = sym there.stands.is ∙ ap (sub_of p) q in
        let nothing : lookup id there.value ≡ none = accepted_is (there.reads ∙ ap (read_under (kind_in edition id)) nowhere) in
        lists_none (rw (there.accepts, nothing))

    module _ {part : Cursor} (e : place ≡ Some part) (kind : Kind) (is : kind_meant kind ≡ kind_in edition id) where
      pub contents_there : KnownContents (kind_meant kind) p part
      contents_there =
          let lies : lookup id there.lies ≡ some (part_of p part) = sym there.stands.is ∙ ap (sub_of p) e in
          mapped some (judge (contents (kind_in edition id) part.at (left p part))) (sym (rw lies at there.reads)) λ x q _.
          rw is (record { value = x; inside = rw e at there.stands.inside; judged = q })

      pub names_there : {lists lists' : List (List ℕ)} {r : Answer} → ListsContents (kind_meant kind) p part lists lists' r → Lists place_columns (name_rows (kind_in edition) id p) lists lists' r
      unfolding name_rows
      names_there w =
          let lies : lookup id there.lies ≡ some (part_of p part) = sym there.stands.is ∙ ap (sub_of p) e in
          let reads : judge (contents (kind_in edition id) part.at (left p part)) ≡ accepted w.value = rw is at w.judged in
          let held : lookup id there.value ≡ some w.value = accepted_is (there.reads ∙ rw (lies, reads)) in
          rw (there.accepts, held) w.its_lists

pub ruleset names_listed = (names_refused, names_none, contents_there, names_there, all_framed, over_inside, rules)
