-- K6: the numbers that the check of hints on branches refuses with.
use Rattle.std.specs.Prelude.{ℕ, zero, suc, List, [], ◌∷◌, ◌≡◌, refl, true, leb}
use Rattle.std.proofs.Math.Option.{Option, none, some}
use Rattle.format.specs.Metadata.{hint_item, judge_metadata}
use Rattle.format.specs.Numbers.{number}
use Rattle.format.specs.Older.{vector}
use Rattle.format.specs.Parts.{Part, sized, name}
use Rattle.format.specs.Reading.{Reader, Judged, accepted, refused, judge, judged_then, map_judged}
use Rattle.format.specs.Walk.{hint_section, payload_in, custom_payload, walk}
use Rattle.format.specs.Laws.Outcomes.{refused_exactly, mapped}
use Rattle.branches.specs.Bodies.{bodies, body_of, Seat, on_branch_lem, not_readable, elsewhere, seat_in}
use Rattle.branches.specs.Branches.{contents_in, contents_of, imported_in, imported_functions, bodies_in, function_bodies, seat_judged, each_hint, hints_of, one_function, each_function, hints_checked, payload_on_branches, unless_none, hints_on_branches}
use Rattle.branches.specs.Hints.{Placed, placed_row, placed_rows, Hints, function_hints, all_hints}
use Rattle.branches.specs.Imports.{byte, bounds, limits, table_type, global_type, description, kind_byte, import_kind, import_entry, import_entries, import_list, imports}
use Rattle.branches.specs.Rule.{HasHints}
use Rattle.promises.specs.Demands.{import_numbers, body_numbers, is_among}
use Rattle.promises.specs.Laws.Refusing.{Numbered, FairBy, Fair, FairlyJudgedBy, FairlyJudged, fair_got, fair_stop, fair_then, fair_after, number_fair_by, sized_fair_by, name_fair_by, vector_fair, filling_fair_by, fairly_accepted, fairly_judged, among_all, hint_fair, items_fair, walk_fair}

-- The import list
abbrev ImportFair : {A : Type 0} → Reader A → Type 0
ImportFair read = (o : ℕ) (bs : List ℕ) → FairBy import_numbers (read o bs)

number_fair : ImportFair number
number_fair = number_fair_by refl refl

byte_fair : ImportFair byte
unfolding byte
byte_fair o [] = fair_stop refl
byte_fair o (b ∷ bs) = fair_got

bounds_fair : (flag : ℕ) → ImportFair (bounds flag)
unfolding bounds
bounds_fair zero o bs = number_fair o bs
bounds_fair (suc flag) o bs = fair_then (number o bs) _ (number_fair o bs) λ n. number_fair

limits_fair : ImportFair limits
unfolding limits
limits_fair o bs = fair_then (byte o bs) _ (byte_fair o bs) λ flag o₁ r₁. fair_after (leb flag 1) _ _ _ _ _ refl (bounds_fair flag o₁ r₁)

description_fair : (kind : ℕ) → ImportFair (description kind)
unfolding description table_type global_type
description_fair zero o bs = number_fair o bs
description_fair (suc zero) o bs = fair_then (byte o bs) _ (byte_fair o bs) λ b. limits_fair
description_fair (suc (suc zero)) o bs = limits_fair o bs
description_fair (suc (suc (suc kind))) o bs = fair_then (byte o bs) _ (byte_fair o bs) λ b. byte_fair

kind_fair : ImportFair kind_byte
unfolding kind_byte
kind_fair o bs = fair_then (byte o bs) _ (byte_fair o bs) λ kind o₁ r₁. fair_after (leb kind 3) _ _ _ _ _ refl fair_got

name_fair : ImportFair name
name_fair = name_fair_by refl refl refl

entry_fair : ImportFair import_entry
unfolding import_entry import_kind
entry_fair o bs =
    fair_then (import_kind o bs) _
    (fair_then (name o bs) _ (name_fair o bs) λ p o₁ r₁. fair_then (name o₁ r₁) _ (name_fair o₁ r₁) λ q. kind_fair)
    λ kind o₁ r₁. fair_then (description kind o₁ r₁) _ (description_fair kind o₁ r₁) λ d o₂ r₂. fair_got

entries_fair : (n before : ℕ) → ImportFair (import_entries n before)
unfolding import_entries
entries_fair zero before o bs = fair_got
entries_fair (suc n) before o bs = fair_then (import_entry o bs) _ (entry_fair o bs) λ kind. entries_fair n _

imports_fair : ImportFair imports
unfolding imports import_list
imports_fair = filling_fair_by import_list refl (λ o bs. fair_then (number o bs) _ (number_fair o bs) λ n. entries_fair n 0)

-- The list of bodies
bodies_fair : (o : ℕ) (bs : List ℕ) → FairBy body_numbers (bodies o bs)
unfolding bodies
bodies_fair = filling_fair_by (vector sized) refl (vector_fair refl refl sized (sized_fair_by refl refl))

-- Judgements one after the other
module _ {listed : List ℕ} {A B : Type 0} where
  fairly_mapped : (f : A → B) (j : Judged A) → FairlyJudgedBy listed j → FairlyJudgedBy listed (map_judged f j)
  fairly_mapped f j h = record { numbered = λ n at e. h.numbered n at ((refused_exactly f j).0 e) }

  fairly_then : (f : A → Judged B) (j : Judged A) → FairlyJudgedBy listed j → ((v : A) → FairlyJudgedBy listed (f v)) → FairlyJudgedBy listed (judged_then j f)
  fairly_then f (accepted v) h k = k v
  fairly_then f (refused m o) h k = record { numbered = λ n at e. h.numbered n at (let c : m ≡ n = cc in let d : o ≡ at = cc in rw (c, d)) }

-- of a list that was walked to, the list's own numbers
imported_fair : (found : Option Part) → FairlyJudgedBy import_numbers (imported_in found)
imported_fair none = fairly_accepted
imported_fair (some p) = fairly_judged (imports p.at p.bytes) (imports_fair p.at p.bytes)

listed_fair : (found : Option Part) → FairlyJudgedBy body_numbers (bodies_in found)
listed_fair none = fairly_accepted
listed_fair (some p) = fairly_judged (bodies p.at p.bytes) (bodies_fair p.at p.bytes)

-- the walk was accepted, and so the section's contents are found or there are none
contents_accepted : (id : ℕ) (m : List ℕ) → HasHints m → (found : Option Part) × (contents_of id m ≡ accepted found)
unfolding contents_of custom_payload
contents_accepted id m has = mapped (payload_in hint_section) (walk m) has.found λ ss e₁ e₂. (contents_in id ss, rw e₁)

pub imports_numbered : (m : List ℕ) → HasHints m → (n at : ℕ) → imported_functions m ≡ refused n at → is_among import_numbers n ≡ true
unfolding imported_functions
imports_numbered m has n at e = let (found, is) = contents_accepted 2 m has in (imported_fair found).numbered n at (rw is at e)

pub bodies_numbered : (m : List ℕ) → HasHints m → (n at : ℕ) → function_bodies m ≡ refused n at → is_among body_numbers n ≡ true
unfolding function_bodies
bodies_numbered m has n at e = let (found, is) = contents_accepted 10 m has in (listed_fair found).numbered n at (rw is at e)

-- THE CHECK
contents_fair : (id : ℕ) (m : List ℕ) → FairlyJudged (contents_of id m)
unfolding contents_of
contents_fair id m = fairly_mapped (contents_in id) (walk m) (walk_fair m)

row_fair : {A : Type 0} (read : Reader A) → ((o : ℕ) (bs : List ℕ) → Fair (read o bs)) → (o : ℕ) (bs : List ℕ) → Fair (placed_row read o bs)
unfolding placed_row
row_fair read fair o bs = fair_then (number o bs) _ (number_fair_by refl refl o bs) λ n o₁ r₁. fair_then (read o₁ r₁) _ (fair o₁ r₁) λ v o₂ r₂. fair_got

hints_fair : (o : ℕ) (bs : List ℕ) → FairlyJudged (judge (all_hints o bs))
unfolding all_hints function_hints placed_rows
hints_fair o bs = fairly_judged (all_hints o bs) (vector_fair refl refl function_hints (row_fair (placed_rows sized) (vector_fair refl refl (placed_row sized) (row_fair sized (sized_fair_by refl refl)))) o bs)

refused_fair : {A : Type 0} {n at : ℕ} → Numbered n → FairlyJudged {A = A} (refused n at)
refused_fair {n = n} l = record { numbered = λ m at e. let q : n ≡ m = cc in rw (← q) l }

seat_fair : (at : ℕ) (s : Seat) → FairlyJudged (seat_judged at s)
seat_fair at on_branch_lem = fairly_accepted
seat_fair at not_readable = refused_fair refl
seat_fair at elsewhere = refused_fair refl

each_hint_fair : (seat : ℕ → Seat) (hs : Hints) → FairlyJudged (each_hint seat hs)
unfolding each_hint
each_hint_fair seat [] = fairly_accepted
each_hint_fair seat (h ∷ hs) = fairly_then _ (seat_judged h.at (seat h.number)) (seat_fair h.at (seat h.number)) (λ _. each_hint_fair seat hs)

hints_of_fair : (at : ℕ) (found : Option Part) (hs : Hints) → FairlyJudged (hints_of at found hs)
hints_of_fair at found [] = fairly_accepted
hints_of_fair at none (h ∷ hs) = refused_fair refl
hints_of_fair at (some body) (h ∷ hs) = each_hint_fair (seat_in body) (h ∷ hs)

functions_fair : (first : ℕ) (parts : List Part) (fs : List (Placed Hints)) → FairlyJudged (each_function first parts fs)
unfolding each_function one_function
functions_fair first parts [] = fairly_accepted
functions_fair first parts (f ∷ fs) = fairly_then _ (hints_of f.at (body_of first parts f.number) f.value) (hints_of_fair f.at (body_of first parts f.number) f.value) (λ _. functions_fair first parts fs)

among_imports : {A : Type 0} {j : Judged A} → FairlyJudgedBy import_numbers j → FairlyJudged j
among_imports h = record { numbered = λ n at e. among_all import_numbers refl n (h.numbered n at e) }

among_bodies : {A : Type 0} {j : Judged A} → FairlyJudgedBy body_numbers j → FairlyJudged j
among_bodies h = record { numbered = λ n at e. among_all body_numbers refl n (h.numbered n at e) }

checked_fair : (m : List ℕ) (p : Part) → FairlyJudged (hints_checked m p)
unfolding hints_checked imported_functions function_bodies
checked_fair m p =
    fairly_then _ (imported_functions m) (fairly_then _ (contents_of 2 m) (contents_fair 2 m) (λ found. among_imports (imported_fair found))) λ first.
    fairly_then _ (function_bodies m) (fairly_then _ (contents_of 10 m) (contents_fair 10 m) (λ found. among_bodies (listed_fair found))) λ parts.
    fairly_then _ (judge (all_hints p.at p.bytes)) (hints_fair p.at p.bytes) λ fs.
    functions_fair first parts fs

payload_fair : (m : List ℕ) (found : Option Part) → FairlyJudged (unless_none found (payload_on_branches m))
unfolding payload_on_branches
payload_fair m none = fairly_accepted
payload_fair m (some p) = fairly_then _ (judge_metadata hint_item p.at p.bytes) (items_fair hint_fair p.at p.bytes) (λ _. checked_fair m p)

pub branches_fair : (m : List ℕ) → FairlyJudged (hints_on_branches m)
unfolding hints_on_branches custom_payload
branches_fair m = fairly_then _ (custom_payload hint_section m) (fairly_mapped (payload_in hint_section) (walk m) (walk_fair m)) (payload_fair m)
