-- One pass over a module.
use Rattle.std.specs.Prelude.{Option, Ok, Err, Some, None}
use Prim.Native.Nat.{ℕ, suc, ◌+◌, ◌-◌, ◌≤◌, ◌<◌}
use mathlib.Core.Bool.{Bool, true, false}
use mathlib.Core.List.{List, ◌∷◌}
use mathlib.Core.Path.{◌≡◌, refl, sym, ap, ◌∙◌}
use native.Mathlib.Numerals.{add-one}
use native.Mathlib.Omega.{arith}
use borrow.Author.Rules.{rules}
use lib.Dec.{eqb}
use lib.ListN.{length}
use lib.Seq.{length-slice}
use Rattle.format.specs.Bytes.{same}
use Rattle.format.specs.Reading.{Judged, accepted, refused, map_judged}
use Rattle.format.specs.Walk.{Section as AnySection, payload_of, walk, walk_from}
use Rattle.format.proofs.Laws.Walk.{walk_ended, walk_stepped, walk_refused, walk_begun, walk_not_begun}
use Rattle.format.specs.Returned.{Answer}
use Rattle.format.specs.declared.Place.{Place}
use Rattle.format.specs.declared.Refusal.{Refusal}
use Rattle.format.proofs.Nested.{nested}
use Rattle.reading.specs.Cursors.{Inside, left}
use Rattle.reading.specs.declared.Cursor.{Cursor}
use Rattle.walk.specs.Sections.{seen_of, section_of, CustomInside, SectionInside}
use Rattle.walk.specs.Steps.{Forward, Steps, Begins}
use Rattle.walk.specs.Surveys.{SectionKept, PayloadKept, Found, nothing_found, find_more, find_all, found_of, Tallies, SurveysFrom, Surveys}
use Rattle.walk.specs.Returned.{Custom}
use Rattle.walk.specs.declared.step.Section.{Section}
use Rattle.walk.specs.declared.step.Walk.{Walk}
use Rattle.walk.specs.Returned.{SectionAnswer}
use Rattle.walk.specs.declared.survey.SectionPlace.{SectionPlace}
use Rattle.walk.specs.Returned.{Surveyed}
use Rattle.walk.specs.declared.survey.Tally.{Tally}

-- the section at a position
module _ {m : List ℕ} {before : SectionAnswer} {here : Bool} {s : Section} where
  pub section_found : {p : SectionPlace} → before ≡ Ok (Some p) → SectionKept m before here s (Ok (Some p))
  section_found e = record { says = rw e }

  pub section_refused : {r : Refusal} → before ≡ Err r → SectionKept m before here s (Err r)
  section_refused e = record { says = rw e }

  module _ (n : before ≡ Ok None) where
    pub section_here : SectionInside m s → here ≡ true → SectionKept m before here s (Ok (Some (record { id = s.id; at = s.at; length = s.contents.end - s.contents.at })))
    section_here i t = record { says = rw (n, t, length-slice s.contents.at s.contents.end m i.contents.within) }

    pub section_elsewhere : here ≡ false → SectionKept m before here s (Ok None)
    section_elsewhere t = record { says = rw (n, t) }

pub ruleset sections_kept = (section_found, section_refused, section_here, section_elsewhere, rules)

-- the first payload of a name
module _ {m : List ℕ} {before : Answer} {c : Custom} {name : List ℕ} where
  pub payload_found : {p : Place} → before ≡ Ok (Some p) → PayloadKept m before c name (Ok (Some p))
  payload_found e = record { says = rw e }

  pub payload_refused : {r : Refusal} → before ≡ Err r → PayloadKept m before c name (Err r)
  payload_refused e = record { says = rw e }

  module _ (n : before ≡ Ok None) where
    pub payload_none : c ≡ None → PayloadKept m before c name (Ok None)
    unfolding payload_of
    payload_none h = record { says = rw (n, h) }

    module _ {called payload : Cursor} {b : Bool} (e : c ≡ Some (called, payload)) (q : b ≡ same name (left m called)) where
      pub payload_here : CustomInside m c → b ≡ true → PayloadKept m before c name (Ok (Some (record { offset = record { 0 = payload.at }; length = payload.end - payload.at })))
      unfolding payload_of
      payload_here i t = let both = rw e at i in record { says = rw (n, e, ← q, t, length-slice payload.at payload.end m both.1.within) }

      pub payload_elsewhere : b ≡ false → PayloadKept m before c name (Ok None)
      unfolding payload_of
      payload_elsewhere t = record { says = rw (n, e, ← q, t) }

module _ (m : List ℕ) {c : Custom} {called payload : Cursor} (e : c ≡ Some (called, payload)) (i : CustomInside m c) where
  pub called_inside : Inside m called
  called_inside = let both = rw e at i in both.0

  pub payload_ahead : payload.at ≤ payload.end
  payload_ahead = let both = rw e at i in both.1.ahead

pub ruleset payloads_kept = (payload_found, payload_refused, payload_none, payload_here, payload_elsewhere, called_inside, payload_ahead, nested, rules)

-- with one section more
pub tally_is : {m : List ℕ} {position : ℕ} {name : List ℕ} {t : Tally} {s : Section} {x : SectionAnswer} {y : Answer} → SectionKept m t.section (eqb t.count position) s x → PayloadKept m t.payload s.custom name y → Tallies m position name t s (record { count = t.count + 1; section = x; payload = y })
unfolding find_more
tally_is a b = record { says = rw (a.says, b.says, add-one) }

found_more : (position : ℕ) (name : List ℕ) (f : Found) (s : AnySection) (j : Judged (List AnySection)) → map_judged (find_all position name f) (map_judged (λ more. s ∷ more) j) ≡ map_judged (find_all position name (find_more position name f s)) j
unfolding find_all
found_more position name f s (accepted ss) = refl
found_more position name f s (refused n at) = refl

-- The loop: what was found, and what the rest of the module will add
pub record Turn (m : List ℕ) (position : ℕ) (name : List ℕ) (begun walk : Walk) (tally : Tally) : Type 0 where
  pub within : walk.at ≤ length m
  pub few : tally.count ≤ walk.at
  pub same : map_judged (find_all position name nothing_found) (walk_from m (seen_of begun.seen) begun.at) ≡ map_judged (find_all position name (found_of tally)) (walk_from m (seen_of walk.seen) walk.at)

pub turn_first : {m : List ℕ} {position : ℕ} {name : List ℕ} {begun : Walk} → begun.at ≤ length m → Turn m position name begun begun (record { count = 0; section = Ok None; payload = Ok None })
turn_first h = record { within = h; few = omega arith; same = refl }

module _ {m : List ℕ} {walk : Walk} {x : Option (Section × Walk)} (p : Steps m walk (Ok x)) where
  module _ {s : Section} {next : Walk} (e : x ≡ Some (s, next)) where
    forward : Forward m walk s next
    forward = rw e at p.forward

    pub step_inside : SectionInside m s
    step_inside = forward.inside

    pub step_shorter : length m - next.at < length m - walk.at
    step_shorter = let f = forward in omega (arith, f.moves, f.within)

    stepped : walk_from m (seen_of walk.seen) walk.at ≡ map_judged (λ more. section_of m s ∷ more) (walk_from m (seen_of next.seen) next.at)
    stepped = walk_stepped m (seen_of walk.seen) walk.at (sym (rw e at p.means)) ∙ ap (λ seen. map_judged (λ more. section_of m s ∷ more) (walk_from m seen next.at)) (sym (rw e at p.seen))

module _ {m : List ℕ} {walk : Walk} {position : ℕ} {name : List ℕ} {begun : Walk} {tally : Tally} (t : Turn m position name begun walk tally) where
  pub turn_refused : {r : Refusal} → Steps m walk (Err r) → SurveysFrom m position name begun (Err r)
  turn_refused p = record { says = sym (t.same ∙ ap (map_judged (find_all position name (found_of tally))) (walk_refused m (seen_of walk.seen) walk.at (sym p.means))) }

  module _ {x : Option (Section × Walk)} (p : Steps m walk (Ok x)) where
    pub turn_done : x ≡ None → SurveysFrom m position name begun (Ok tally)
    unfolding find_all
    turn_done e = record { says = sym (t.same ∙ ap (map_judged (find_all position name (found_of tally))) (walk_ended m (seen_of walk.seen) walk.at (sym (rw e at p.means)))) }

    module _ {s : Section} {next : Walk} (e : x ≡ Some (s, next)) where
      pub count_small : tally.count < length m
      count_small = let f = forward p e in omega (arith, f.moves, f.within, t.few)

      pub turn_next : {u : Tally} → Tallies m position name tally s u → Turn m position name begun next u
      unfolding find_all find_more
      turn_next {u} g =
          let f = forward p e in
          let counted : u.count ≡ suc tally.count = ap (λ (found : Found). found.count) g.says in
          record {
            within = f.within;
            few = omega (arith, f.moves, t.few);
            same = t.same
                ∙ ap (map_judged (find_all position name (found_of tally))) (stepped p e)
                ∙ found_more position name (found_of tally) (section_of m s) (walk_from m (seen_of next.seen) next.at)
                ∙ ap (λ found. map_judged (find_all position name found) (walk_from m (seen_of next.seen) next.at)) (sym g.says);
          }

pub ruleset survey_turns = (turn_first, turn_refused, turn_done, turn_next, step_inside, step_shorter, count_small, rules)

-- and from the preamble on
module _ {m : List ℕ} {position : ℕ} {name : List ℕ} where
  pub survey_refused : {r : Refusal} → Begins m (Err r) → Surveys m position name (Err r)
  survey_refused b = record { says = sym (ap (map_judged (find_all position name nothing_found)) (walk_not_begun m (sym b.means))) }

  module _ {begun : Walk} (b : Begins m (Ok begun)) where
    pub survey_goes_on : {r : Surveyed} → SurveysFrom m position name begun r → Surveys m position name r
    survey_goes_on f = record { says = f.says ∙ ap (map_judged (find_all position name nothing_found)) (ap (λ s. walk_from m s begun.at) b.seen.0 ∙ sym (walk_begun m (sym b.means))) }

pub begun_within : {m : List ℕ} {begun : Walk} → Begins m (Ok begun) → begun.at ≤ length m
begun_within b = b.seen.1

pub ruleset surveys = (survey_refused, survey_goes_on, begun_within, rules)
