-- A whole payload: judged, then asked where its subsection lies.
use Rattle.std.specs.Prelude.{Ok, Err, Some, None}
use Prim.Native.Nat.{ℕ}
use mathlib.Core.List.{List}
use mathlib.Core.Option.{none, some}
use mathlib.Core.Path.{◌≡◌, sym, ap, ◌∙◌}
use borrow.Author.Rules.{rules}
use lib.ListN.{length}
use Rattle.format.specs.Names.{Content, names, names_by, known, known_kind, contents, subsections, payload, judge_names}
use Rattle.format.specs.Parts.{Part, sized}
use Rattle.format.specs.Reading.{accepted, judge, map_judged, verdict, Accepted as IsAccepted}
use Rattle.format.specs.Tables.{Table, lookup, table}
use Rattle.format.specs.Verdicts.{verdict_of}
use Rattle.format.specs.Why.{Why as AnyWhy, function_in, local_in, why_function, why_local}
use Rattle.format.specs.Laws.Outcomes.{accepted_is, judged, mapped, refused_exactly}
use Rattle.format.specs.declared.FunctionIndex.{FunctionIndex}
use Rattle.format.specs.declared.LocalIndex.{LocalIndex}
use Rattle.format.specs.declared.Refusal.{Refusal}
use Rattle.format.specs.Returned.{Verdict}
use Rattle.format.proofs.Tags.{judged_refused, judged_accepted}
use Rattle.reading.specs.Cursors.{Inside, left, over_all}
use Rattle.reading.specs.Standing.{Known}
use Rattle.reading.specs.declared.Cursor.{Cursor}
use Rattle.reading.proofs.Laws.{left_all, over_inside}
use Rattle.reading.proofs.Standing.{one_value}
use Rattle.tables.specs.Returned.{Held}
use Rattle.names.specs.Frames.{judge_frames, read_under}
use Rattle.names.specs.Places.{sub_of, Stands, Finds}
use Rattle.names.proofs.AskLaws.{all_framed}
use Rattle.names.proofs.ContentLaws.{Lax, map_stands, indirect_stands}
use Rattle.names.proofs.FrameLaws.{subsections_lie}
use Rattle.neighbours.specs.Maps.{why_meant, SaysInMap, SaysInGroup}
use Rattle.neighbours.specs.declared.Why.{Why}
use Rattle.neighbours.specs.declared.Why.TheVariants.{NoSubsection}

-- A payload that is not accepted, whatever was to be said of one that is
module _ (p : List ℕ) (v : Verdict) (says : verdict_of v ≡ verdict (judge_names known_kind 0 p)) where
  refused_as : (f : Table (Content Part) → AnyWhy) {r : Refusal} → v ≡ Err r → why_meant (Err r) ≡ map_judged f (judge_names known_kind 0 p)
  refused_as f e = sym ((refused_exactly f (judge_names known_kind 0 p)).1 (judged_refused v (judge_names known_kind 0 p) says e))

  pub function_refused : (f : FunctionIndex) {r : Refusal} → v ≡ Err r → why_meant (Err r) ≡ why_function f p
  unfolding why_function
  function_refused f e = refused_as (λ t. function_in f.0 (lookup 1 t)) e

  pub local_refused : (f : FunctionIndex) (j : LocalIndex) {r : Refusal} → v ≡ Err r → why_meant (Err r) ≡ why_local f j p
  unfolding why_local
  local_refused f j e = refused_as (λ t. local_in f.0 j.0 (lookup 2 t)) e

  -- One that is: under an id stands what is read where it lies
  module _ (h : v ≡ Ok tt) where
    holds : IsAccepted (judge_names known_kind 0) p
    holds = let (t, e) = judged_accepted v (judge_names known_kind 0 p) says h in record { value = t; judged = e }

    record There (id : ℕ) (place : Held) : Type 0 where
      lies : Table Part
      stands : Stands p place (lookup id lies)
      reads : accepted (lookup id holds.value) ≡ read_under (known_kind id) (lookup id lies)

    module _ {c : Cursor} (over : c ≡ over_all p) where
      there : {id : ℕ} {place : Held} → Finds p c.at (left p c) id place → There id place
      unfolding judge_names payload judge_frames
      there {id} finds =
          judged (subsections known_kind (length p) 0 0 p) holds.judged λ o rest r.
          let l = subsections_lie known_kind (length p) 0 0 p r in
          let found : Finds p 0 p id _ = rw (over, left_all p) at finds in
          record { lies = l.table; stands = found.stands l.table (ap judge l.framed_so); reads = l.stands id }

      -- nothing lies there
      module _ {place : Held} (none_there : place ≡ None) where
        nothing_under : {id : ℕ} → Finds p c.at (left p c) id place → lookup id holds.value ≡ none
        nothing_under {id} finds =
            let t = there finds in
            let nothing : lookup id t.lies ≡ none = sym t.stands.is ∙ ap (sub_of p) none_there in
            accepted_is (rw nothing at t.reads)

        pub no_functions : (f : FunctionIndex) → Finds p c.at (left p c) 1 place → why_meant (Ok NoSubsection) ≡ why_function f p
        unfolding why_function
        no_functions f finds = rw (holds.judged, nothing_under finds)

        pub no_locals : (f : FunctionIndex) (j : LocalIndex) → Finds p c.at (left p c) 2 place → why_meant (Ok NoSubsection) ≡ why_local f j p
        unfolding why_local
        no_locals f j finds = rw (holds.judged, nothing_under finds)

      -- a map lies there, or groups
      module _ {place : Held} {part : Cursor} (e : place ≡ Some part) where
        record Read (id : ℕ) : Type 0 where
          content : Content Part
          inside : Inside p part
          reads : judge (contents (known_kind id) part.at (left p part)) ≡ accepted content
          held : lookup id holds.value ≡ some content

        read_there : {id : ℕ} → Finds p c.at (left p c) id place → Read id
        read_there {id} finds =
            let t = there finds in
            let lies : lookup id t.lies ≡ some _ = sym t.stands.is ∙ ap (sub_of p) e in
            mapped some (judge (contents (known_kind id) part.at (left p part))) (sym (rw lies at t.reads)) λ v q is.
            record { content = v; inside = rw e at t.stands.inside; reads = q; held = accepted_is (t.reads ∙ rw (lies, q)) }

        functions_lie : Finds p c.at (left p c) 1 place → (r : Read 1) × Lax (table sized) names p part r.content
        unfolding known_kind known lookup
        functions_lie finds = let r = read_there finds in (r, map_stands r.inside r.reads)

        locals_lie : Finds p c.at (left p c) 2 place → (r : Read 2) × Lax (table (table sized)) names_by p part r.content
        unfolding known_kind known lookup
        locals_lie finds = let r = read_there finds in (r, indirect_stands r.inside r.reads)

        pub functions_known : Finds p c.at (left p c) 1 place → Known (table sized) p part
        functions_known finds = let (r, l) = functions_lie finds in record { value = l.value; next = l.next; stands = l.stands }

        pub locals_known : Finds p c.at (left p c) 2 place → Known (table (table sized)) p part
        locals_known finds = let (r, l) = locals_lie finds in record { value = l.value; next = l.next; stands = l.stands }

        pub function_said : (f : FunctionIndex) {y : Why} → Finds p c.at (left p c) 1 place → SaysInMap 1 f.0 p part y → why_meant (Ok y) ≡ why_function f p
        unfolding why_function
        function_said f finds says =
            let (r, l) = functions_lie finds in
            let same : says.value ≡ l.value = one_value says.stands l.stands in
            rw (holds.judged, r.held, ← l.is, ← same, says.says)

        pub local_said : (f : FunctionIndex) (j : LocalIndex) {y : Why} → Finds p c.at (left p c) 2 place → SaysInGroup f.0 j.0 p part y → why_meant (Ok y) ≡ why_local f j p
        unfolding why_local
        local_said f j finds says =
            let (r, l) = locals_lie finds in
            let same : says.value ≡ l.value = one_value says.stands l.stands in
            rw (holds.judged, r.held, ← l.is, ← same, says.says)

pub ruleset whole = (function_refused, local_refused, no_functions, no_locals, functions_known, locals_known, function_said, local_said, all_framed, over_inside, rules)
