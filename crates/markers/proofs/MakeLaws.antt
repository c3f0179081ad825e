-- A whole payload: judged, then its markers made where its function names lie.
use Rattle.std.specs.Prelude.{Ok, Err, Some, None}
use Prim.Native.Nat.{ℕ, ◌≤◌, ◌<◌}
use mathlib.Core.List.{List, []}
use mathlib.Core.Option.{none, some}
use mathlib.Core.Path.{◌≡◌, refl, sym, ap, ◌∙◌}
use native.Mathlib.Omega.{arith}
use borrow.Author.Rules.{rules}
use borrow.Author.Tests.{lt-ltb}
use lib.ListN.{length}
use lib.Seq.{length-slice}
use Rattle.format.specs.Names.{Content, known_kind, known, contents, subsections, payload, judge_names}
use Rattle.format.specs.Numbers.{limit32}
use Rattle.format.specs.Parts.{Part, remaining, sized}
use Rattle.format.specs.Reading.{got, accepted, judge, verdict}
use Rattle.format.specs.Tables.{Table, lookup, table}
use Rattle.format.specs.Verdicts.{verdict_of}
use Rattle.format.specs.Markers.{Entry, all_entries, thinned, Markers, unknown, functions_part, markers_of, unless_long, fitting_both, made, Makes}
use Rattle.format.specs.Laws.Options.{not_some, some_is}
use Rattle.format.specs.Laws.Outcomes.{accepted_is, judged, mapped, got_value}
use Rattle.format.proofs.Laws.MarkerEntries.{all_read}
use Rattle.format.proofs.Laws.MarkerParts.{payload_kept, end_of, MarkersIn, no_functions, of_functions, markers_stand}
use Rattle.format.proofs.Laws.MarkersMade.{made_refused, made_long, made_fits}
use Rattle.format.specs.Returned.{Answer}
use Rattle.format.specs.declared.Query.TheVariants.{ItsContents}
use Rattle.format.specs.declared.Reason.TheVariants.{SubsectionTooLarge}
use Rattle.format.specs.declared.Refusal.{Refusal}
use Rattle.format.specs.Returned.{Verdict}
use Rattle.format.proofs.Tags.{judged_refused, judged_accepted}
use Rattle.reading.specs.Cursors.{left, over_all, part_of}
use Rattle.reading.specs.Standing.{Stands, Known}
use Rattle.reading.specs.declared.Cursor.{Cursor}
use Rattle.reading.proofs.Laws.{left_all, over_inside}
use Rattle.tables.specs.Returned.{Held}
use Rattle.names.specs.Contents.{asks_in}
use Rattle.names.specs.Frames.{judge_frames, read_under}
use Rattle.names.specs.Places.{sub_of, Finds, Stands as LiesAt}
use Rattle.names.proofs.AskLaws.{all_framed}
use Rattle.names.proofs.ContentLaws.{map_stands}
use Rattle.names.proofs.FrameLaws.{subsections_lie, asked_lies}
use Rattle.writing.proofs.Laws.{wrote_nothing}
use Rattle.markers.specs.Making.{Marks}
use Rattle.markers.proofs.MarkLaws.{makes_refused, makes_all}

-- what is kept of a place is its part
kept_part : (p : List ℕ) (place : Held) → asks_in (unknown 1) ItsContents (sub_of p place) ≡ accepted (sub_of p place)
unfolding contents remaining
kept_part p None = refl
kept_part p (Some part) = refl

-- the markers of the part that was found are the payload's
module _ {p : List ℕ} {t : Table (Content Part)} where
  none_marked : {m : Markers} → MarkersIn p t m → functions_part p ≡ accepted none → m ≡ record { marked = []; end = 0 }
  none_marked (no_functions part q) e = refl
  none_marked (of_functions f) e = absurd (not_some (accepted_is (sym e ∙ f.part)))

  marked_there : {part : Cursor} {m : Markers} {its : List Entry} {last : Cursor} → MarkersIn p t m → functions_part p ≡ accepted (some (part_of p part)) → Stands all_entries p part its last → m ≡ record { marked = thinned 0 its; end = part.end }
  marked_there (no_functions part q) e w = absurd (not_some (accepted_is (sym part ∙ e)))
  marked_there {part} {its = its} {last = last} (of_functions {p = q} f) e w =
      let same : q ≡ part_of p part = some_is (accepted_is (sym f.part ∙ e)) in
      let reads : all_entries q.at q.bytes ≡ got its last.at (left p last) = rw same w.reads in
      let entries : f.map.its.all ≡ its = got_value (sym (all_read f.map) ∙ reads) in
      let i = w.inside in
      let end : end_of q ≡ part.end = rw same (omega (arith, length-slice part.at part.end p i.within, i.ahead)) in
      λ j. record { marked = thinned 0 (entries j); end = end j }

module _ (p : List ℕ) (v : Verdict) (says : verdict_of v ≡ verdict (judge_names known_kind 0 p)) where
  pub make_refused : {is os : List ℕ} {r : Refusal} → v ≡ Err r → Makes (made p is os) is os is os (Err r)
  make_refused {is} {os} e = makes_refused (made_refused p is os (judged_refused v (judge_names known_kind 0 p) says e))

  -- an accepted one has markers
  module _ (h : v ≡ Ok tt) where
    record Holds : Type 0 where
      value : Table (Content Part)
      accepts : judge_names known_kind 0 p ≡ accepted value
      its : Markers
      own : markers_of p ≡ accepted its
      there_are : MarkersIn p value its

    holds : Holds
    holds =
        let (t, e) = judged_accepted v (judge_names known_kind 0 p) says h in
        let (m, q, i) = markers_stand p e in
        record { value = t; accepts = e; its = m; own = q; there_are = i }

    pub make_long : {is os : List ℕ} {r : Answer} → limit32 ≤ length p → r ≡ Err (record { reason = SubsectionTooLarge; offset = record { 0 = 0 } }) → Makes (made p is os) is os is os r
    make_long {is} {os} far e = rw e (makes_refused (made_long p is os holds.own far))

    -- those of a short one are put where both lists fit
    made_short : (is os : List ℕ) → length p < limit32 → made p is os ≡ fitting_both (length is) (length os) holds.its
    unfolding made unless_long
    made_short is os short = rw (holds.own, lt-ltb (length p) limit32 short)

    -- where the function names lie
    record There (place : Held) : Type 0 where
      lies : Table Part
      framed : judge_frames 0 p ≡ accepted lies
      stands : LiesAt p place (lookup 1 lies)
      reads : accepted (lookup 1 holds.value) ≡ read_under (known_kind 1) (lookup 1 lies)

    module _ {c : Cursor} (over : c ≡ over_all p) {place : Held} (finds : Finds p c.at (left p c) 1 place) where
      there : There place
      unfolding judge_names payload judge_frames
      there =
          judged (subsections known_kind (length p) 0 0 p) holds.accepts λ o rest r.
          let l = subsections_lie known_kind (length p) 0 0 p r in
          let found : Finds p 0 p 1 place = rw (over, left_all p) at finds in
          let framed = ap judge l.framed_so in
          record { lies = l.table; framed = framed; stands = found.stands l.table framed; reads = l.stands 1 }

      part_there : functions_part p ≡ accepted (sub_of p place)
      unfolding functions_part
      part_there =
          let (u, e, _) = payload_kept known_kind 0 p holds.accepts in
          asked_lies unknown 1 ItsContents 0 p e there.framed ∙ ap (asks_in (unknown 1) ItsContents) (sym there.stands.is) ∙ kept_part p place

      pub make_none : {is os : List ℕ} → place ≡ None → length p < limit32 → Makes (made p is os) is os is os (Ok (Some (record { offset = record { 0 = 0 }; length = 0 })))
      make_none {is} {os} q short =
          let nothing : functions_part p ≡ accepted none = part_there ∙ ap (λ x. accepted (sub_of p x)) q in
          let own = holds.own ∙ ap accepted (none_marked holds.there_are nothing) in
          makes_all (made_fits p is os own short (omega arith) (omega arith)) (wrote_nothing (omega arith)) (wrote_nothing (omega arith))

      module _ {part : Cursor} (e : place ≡ Some part) where
        pub map_there : Known (table sized) p part
        unfolding known_kind known lookup
        map_there =
            let lies : lookup 1 there.lies ≡ some (part_of p part) = sym there.stands.is ∙ ap (sub_of p) e in
            mapped some (judge (contents (known_kind 1) part.at (left p part))) (sym (rw lies at there.reads)) λ x q is.
            let l = map_stands (rw e at there.stands.inside) q in
            record { value = l.value; next = l.next; stands = l.stands }

        pub make_there : {is os is' os' : List ℕ} {r : Answer} → length p < limit32 → Marks p part is os is' os' r → Makes (made p is os) is os is' os' r
        make_there {is} {os} short m =
            let found : functions_part p ≡ accepted (some (part_of p part)) = part_there ∙ ap (λ x. accepted (sub_of p x)) e in
            rw (made_short is os short, marked_there holds.there_are found m.stands) m.makes

pub ruleset making = (make_refused, make_long, make_none, map_there, make_there, all_framed, over_inside, rules)
