-- The check over a module: the payload, the imports, the bodies, and then hint by hint.
use Rattle.std.specs.Prelude.{Option, Ok, Err, Some, None}
use Prim.Native.Nat.{ℕ, ◌+◌, ◌^◌, ◌≤◌, ◌<◌}
use mathlib.Core.List.{List, []}
use mathlib.Core.Option.{none, some}
use mathlib.Core.Path.{◌≡◌, refl, sym, ap, subst, ◌∙◌}
use native.Mathlib.Omega.{arith}
use borrow.Author.Rules.{rules}
use lib.ListN.{length}
use Rattle.format.specs.Metadata.{hint_item, judge_metadata}
use Rattle.format.specs.Numbers.{limit32}
use Rattle.format.specs.Older.{times}
use Rattle.format.specs.Parts.{Part}
use Rattle.format.specs.Questions.{answered, as_place}
use Rattle.format.specs.Reading.{accepted, verdict}
use Rattle.format.specs.Verdicts.{verdict_of}
use Rattle.format.specs.Walk.{hint_section, custom_payload, walk, payload_in}
use Rattle.format.proofs.Laws.Answers.{place_none, place_found, place_refused}
use Rattle.format.proofs.Laws.Found.{payload_lies}
use Rattle.format.specs.Laws.Outcomes.{mapped}
use Rattle.format.proofs.Laws.Places.{lies_inside, lies_slice}
use Rattle.format.specs.Returned.{Answer, Verdict}
use Rattle.format.specs.declared.Place.{Place}
use Rattle.format.specs.declared.Refusal.{Refusal}
use Rattle.format.proofs.Tags.{judged_refused, judged_accepted}
use Rattle.reading.specs.Cursors.{Inside, left, part_of}
use Rattle.reading.specs.declared.Cursor.{Cursor}
use Rattle.reading.proofs.Standing.{Passable, stand, one_value}
use Rattle.branches.specs.Branches.{contents_of, imported_functions, function_bodies, hints_checked, payload_on_branches, hints_on_branches}
use Rattle.branches.specs.Functions.{Listed, Checks}
use Rattle.branches.specs.Hints.{placed_rows, function_hints, all_hints}
use Rattle.branches.specs.Laws.Hints.{read_again}
use Rattle.branches.specs.Lists.{Standing, JudgesBodies, AllBodies, Kept}
use Rattle.branches.specs.Reads.{counted, Counts}
use Rattle.branches.specs.Sections.{Walked, Finds}
use Rattle.branches.specs.Returned.{BodiesRead, Counted}
use Rattle.branches.proofs.RowLaws.{sized_passable, rows_passable}

-- the bytes that the code has are those of the section's name
pub sought : (m : List ℕ) (r : Answer) (x name : List ℕ) → x ≡ name → answered r ≡ as_place (custom_payload x m) → answered r ≡ as_place (custom_payload name m)
sought m r x name is e = rw (← is) e

pub ruleset hint_sections = (sought, rules)

-- a section's contents
module _ {m : List ℕ} {id : ℕ} {spot : Option Cursor} (f : Finds m id spot) where
  contents_none : spot ≡ None → contents_of id m ≡ accepted none
  contents_none e = sym (rw e at f.says)

  module _ {c : Cursor} (q : spot ≡ Some c) where
    contents_there : contents_of id m ≡ accepted (some (part_of m c))
    contents_there = sym (rw q at f.says)

    pub spot_inside : Inside m c
    spot_inside = rw q at f.inside

-- the imports
module _ {m : List ℕ} {spot : Option Cursor} (f : Finds m 2 spot) where
  pub imports_none : spot ≡ None → counted (Ok 0) ≡ imported_functions m
  unfolding imported_functions
  imports_none e = rw (contents_none f e)

  pub imports_there : {c : Cursor} {y : Counted} → spot ≡ Some c → Counts m c y → counted y ≡ imported_functions m
  unfolding imported_functions
  imports_there q g = g.says ∙ rw (contents_there f q)

pub ruleset imported_steps = (imports_none, imports_there, spot_inside, rules)

-- the bodies
module _ {m : List ℕ} {spot : Option Cursor} (f : Finds m 10 spot) where
  pub bodies_none : spot ≡ None → AllBodies m (Ok (record { at = 0; end = 0 }, 0))
  unfolding function_bodies times
  bodies_none e =
      let here : Inside m (record { at = 0; end = 0 }) = record { ahead = omega arith; within = omega arith } in
      record { says = record { parts = []; last = record { at = 0; end = 0 }; are = rw (contents_none f e); stand = record { inside = here; reads = refl; behind = here; same_end = refl } } }

  pub bodies_there : {c : Cursor} (y : BodiesRead) → spot ≡ Some c → JudgesBodies m c y → AllBodies m y
  unfolding function_bodies
  bodies_there (Ok (next, n)) q g =
      let w = g.says in
      record { says = record { parts = w.parts; last = w.last; are = rw (contents_there f q) w.are; stand = w.stand } }
  bodies_there (Err r) q g = record { says = rw (contents_there f q) g.says }

pub ruleset bodies_found = (bodies_none, bodies_there, spot_inside, rules)

-- then hint by hint
module _ (m : List ℕ) (payload : Cursor) {x : Counted} (says : counted x ≡ imported_functions m) where
  pub check_no_imports : {r : Refusal} → x ≡ Err r → verdict_of (Err r) ≡ hints_checked m (part_of m payload)
  unfolding hints_checked
  check_no_imports e = rw (← rw e at says)

  module _ {first : ℕ} (e : x ≡ Ok first) where
    pub check_no_bodies : {r : Refusal} → AllBodies m (Err r) → verdict_of (Err r) ≡ hints_checked m (part_of m payload)
    unfolding hints_checked
    check_no_bodies b = rw (← rw e at says, b.says)

    module _ {next : Cursor} {more : ℕ} (b : AllBodies m (Ok (next, more))) where
      standing : Standing m (function_bodies m) next more
      standing = b.says

      pub check_kept : first < limit32 → more < limit32 → Kept m (record { first = first; next = next; more = more })
      check_kept h k = let w = standing in record { parts = w.parts; last = w.last; stand = w.stand; few = omega arith }

      pub check_hints : {z : Verdict} → Checks m payload (record { first = first; next = next; more = more }) z → verdict_of z ≡ hints_checked m (part_of m payload)
      unfolding hints_checked
      check_hints {z} g =
          let w = standing in
          let same = one_value w.stand g.kept.stand in
          let are : function_bodies m ≡ accepted g.kept.parts = w.are ∙ ap accepted same in
          g.says ∙ rw (← rw e at says, are, g.listed.stand.reads)

pub ruleset check_steps = (check_no_imports, check_no_bodies, check_kept, check_hints, rules)

-- the payload first
hints_passable : Passable all_hints
unfolding all_hints function_hints placed_rows
hints_passable = rows_passable (rows_passable sized_passable)

module _ (m : List ℕ) (payload : Cursor) (v : Verdict) (says : verdict_of v ≡ verdict (judge_metadata hint_item payload.at (left m payload))) where
  pub payload_refused : {r : Refusal} → v ≡ Err r → verdict_of (Err r) ≡ payload_on_branches m (part_of m payload)
  unfolding payload_on_branches
  payload_refused e = rw (judged_refused v (judge_metadata hint_item payload.at (left m payload)) says e)

  pub payload_listed : Inside m payload → v ≡ Ok tt → Listed m payload
  payload_listed i e =
      let (table, is) = judged_accepted v (judge_metadata hint_item payload.at (left m payload)) says e in
      let again = read_again payload.at (left m payload) is in
      record { functions = again.functions; last = _; stand = stand hints_passable i again.reads; rising = again.rising }

  pub payload_checked : (r : Verdict) → v ≡ Ok tt → verdict_of r ≡ hints_checked m (part_of m payload) → verdict_of r ≡ payload_on_branches m (part_of m payload)
  unfolding payload_on_branches
  payload_checked r q e =
      let (table, is) = judged_accepted v (judge_metadata hint_item payload.at (left m payload)) says q in
      e ∙ rw is

pub ruleset payload_steps = (payload_refused, payload_listed, payload_checked, rules)

-- and the walk before it
abbrev cursor_over : Place → Cursor
cursor_over p = record { at = p.offset.0; end = p.offset.0 + p.length }

found_hints : (m : List ℕ) (p : Part) → custom_payload hint_section m ≡ accepted (some p) → payload_on_branches m p ≡ hints_on_branches m
unfolding hints_on_branches
found_hints m p found = rw found

module _ (m : List ℕ) (a : Answer) (e : answered a ≡ as_place (custom_payload hint_section m)) where
  pub walk_refused : {r : Refusal} → a ≡ Err r → verdict_of (Err r) ≡ hints_on_branches m
  unfolding hints_on_branches
  walk_refused is = rw (place_refused (custom_payload hint_section m) (rw is at e))

  pub no_hints : a ≡ Ok None → verdict_of (Ok tt) ≡ hints_on_branches m
  unfolding hints_on_branches
  no_hints is = rw (place_none (custom_payload hint_section m) (rw is at e))

  module _ {place : Place} (is : a ≡ Ok (Some place)) where
    pub walk_accepts : Walked m
    unfolding custom_payload
    walk_accepts =
        let (p, found, there) = place_found (custom_payload hint_section m) (rw is at e) in
        mapped (payload_in hint_section) (walk m) found λ ss are _. record { sections = ss; are = are }

    place_inside : place.offset.0 + place.length ≤ length m
    place_inside =
        let (p, found, there) = place_found (custom_payload hint_section m) (rw is at e) in
        subst (λ (q : Place). q.offset.0 + q.length ≤ length m) there (lies_inside (payload_lies hint_section m found))

    pub place_fits : length m < 2 ^ 64 → place.offset.0 + place.length < 2 ^ 64
    place_fits small = omega (arith, place_inside)

    pub hints_inside : Inside m (cursor_over place)
    hints_inside = record { ahead = omega arith; within = place_inside }

    pub hints_there : (r : Verdict) → verdict_of r ≡ payload_on_branches m (part_of m (cursor_over place)) → verdict_of r ≡ hints_on_branches m
    hints_there r says =
        let (p, found, there) = place_found (custom_payload hint_section m) (rw is at e) in
        let bytes = lies_slice (payload_lies hint_section m found) in
        let part : part_of m (cursor_over place) ≡ p = subst (λ (k : Place). part_of m (cursor_over k) ≡ p) there (λ i. record { at = p.at; bytes = bytes i }) in
        says ∙ ap (payload_on_branches m) part ∙ found_hints m p found

pub ruleset branch_checks = (walk_refused, no_hints, walk_accepts, place_fits, hints_inside, hints_there, rules)
