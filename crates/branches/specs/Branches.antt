-- Rules R15.1 to R15.3, R15.8 and R15.16 of docs/RULES.md.
-- K6. Hints that sit on a branch: "a check over the whole module: count imported functions, find each hinted body, step over its locals, then its instructions .., and accept when every hint's offset begins one of those two." Assumes nothing.
use Rattle.std.specs.Prelude.{ℕ, cond, List, [], ◌∷◌, eqb}
use Rattle.std.proofs.Math.Option.{Option, none, some}
use Rattle.format.specs.Reading.{Judged, accepted, refused, judge, judged_then, map_judged}
use Rattle.format.specs.Refusals.{number_of}
use Rattle.format.specs.Parts.{Part}
use Rattle.format.specs.Metadata.{hint_item, judge_metadata}
use Rattle.format.specs.Walk.{Section, hint_section, custom_payload, walk}
use Rattle.format.specs.declared.Reason.TheVariants.{NoBody, NotReadable, NotOnBranch}
use Rattle.branches.specs.Imports.{imports}
use Rattle.branches.specs.Bodies.{bodies, body_of, Seat, on_branch_lem, not_readable, elsewhere, seat_in}
use Rattle.branches.specs.Hints.{Placed, Hints, all_hints}

-- the contents of the section with an id, which occurs at most once
unfoldable pub contents_in : (id : ℕ) → List Section → Option Part
contents_in id [] = none
contents_in id (s ∷ ss) = cond (eqb s.id id) (some s.contents) (contents_in id ss)

unfoldable pub contents_of : (id : ℕ) → List ℕ → Judged (Option Part)
contents_of id m = map_judged (contents_in id) (walk m)

-- how many functions are imported: without an import section none
abbrev pub imported_in : Option Part → Judged ℕ
imported_in none = accepted 0
imported_in (some p) = judge (imports p.at p.bytes)

unfoldable pub imported_functions : List ℕ → Judged ℕ
imported_functions m = judged_then (contents_of 2 m) imported_in

-- the bodies: without a code section there is none
abbrev pub bodies_in : Option Part → Judged (List Part)
bodies_in none = accepted []
bodies_in (some p) = judge (bodies p.at p.bytes)

unfoldable pub function_bodies : List ℕ → Judged (List Part)
function_bodies m = judged_then (contents_of 10 m) bodies_in

-- "at the hint's offset number 20, the locals or an instruction starting before the hinted place can't be read by version 1.0, else 21, not on a branch"
abbrev pub seat_judged : (at : ℕ) → Seat → Judged (Unit {0})
seat_judged at on_branch_lem = accepted tt
seat_judged at not_readable = refused (number_of NotReadable) at
seat_judged at elsewhere = refused (number_of NotOnBranch) at

-- the hints of a function, by what stands at each offset of its body
unfoldable pub each_hint : (ℕ → Seat) → Hints → Judged (Unit {0})
each_hint seat [] = accepted tt
each_hint seat (h ∷ hs) = judged_then (seat_judged h.at (seat h.number)) (λ _. each_hint seat hs)

-- "per hint 19, no body for that function, at the function index": a function without hints is not looked for
abbrev pub hints_of : (at : ℕ) → Option Part → Hints → Judged (Unit {0})
hints_of at found [] = accepted tt
hints_of at none (h ∷ hs) = refused (number_of NoBody) at
hints_of at (some body) (h ∷ hs) = each_hint (seat_in body) (h ∷ hs)

unfoldable pub one_function : (first : ℕ) → List Part → Placed Hints → Judged (Unit {0})
one_function first parts f = hints_of f.at (body_of first parts f.number) f.value

-- "Hints go in section order."
unfoldable pub each_function : (first : ℕ) → List Part → List (Placed Hints) → Judged (Unit {0})
each_function first parts [] = accepted tt
each_function first parts (f ∷ fs) = judged_then (one_function first parts f) (λ _. each_function first parts fs)

-- "faults in the import list, then in the list of sized bodies ..; then per hint"
unfoldable pub hints_checked : List ℕ → Part → Judged (Unit {0})
hints_checked m p =
    judged_then (imported_functions m) λ first.
    judged_then (function_bodies m) λ parts.
    judged_then (judge (all_hints p.at p.bytes)) λ fs.
    each_function first parts fs

-- "Refusals, after all of document 01's for module and payload"
unfoldable pub payload_on_branches : List ℕ → Part → Judged (Unit {0})
payload_on_branches m p = judged_then (judge_metadata hint_item p.at p.bytes) (λ _. hints_checked m p)

-- "An accepted module without the hint section is accepted, imports unread."
abbrev pub unless_none : Option Part → (Part → Judged (Unit {0})) → Judged (Unit {0})
unless_none none check = accepted tt
unless_none (some p) check = check p

unfoldable pub hints_on_branches : List ℕ → Judged (Unit {0})
hints_on_branches m = judged_then (custom_payload hint_section m) (λ found. unless_none found (payload_on_branches m))
