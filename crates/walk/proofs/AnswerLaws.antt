-- What the pass found answers the questions to the walk.
use Rattle.std.specs.Prelude.{Ok, Err}
use Prim.Native.Nat.{ℕ, zero, suc, ◌+◌}
use mathlib.Core.Bool.{cond}
use mathlib.Core.List.{List, [], ◌∷◌}
use mathlib.Core.Option.{Option, none, some}
use mathlib.Core.Path.{◌≡◌, refl, sym, ap, ◌∙◌}
use native.Mathlib.Omega.{arith}
use borrow.Author.Rules.{rules}
use borrow.Author.Tests.{eq-eqb, ne_eqb}
use lib.Dec.{eqb}
use lib.ListN.{length, get_elem?}
use Rattle.format.specs.Reading.{Judged, accepted, refused, map_judged}
use Rattle.format.specs.Options.{map_some, or_else}
use Rattle.format.specs.Parts.{place_of}
use Rattle.format.specs.Questions.{answered, as_place}
use Rattle.format.specs.Walk.{Section, payload_of, payload_in, walk, section_count, section_at, custom_payload}
use Rattle.format.specs.Refusals.{number_of}
use Rattle.format.specs.Laws.Outcomes.{mapped, refused_exactly}
use Rattle.format.specs.declared.Refusal.{Refusal}
use Rattle.walk.specs.Surveys.{section_place, section_answered, or_found, Found, nothing_found, find_more, find_all, found_of, Surveys, counted}
use Rattle.walk.specs.declared.survey.SectionPlace.{SectionPlace}
use Rattle.walk.specs.declared.survey.Tally.{Tally}

or_found_lem : {A : Type 0} (j : Judged (Option A)) (x y : Option A) → or_found (or_found j x) y ≡ or_found j (or_else x y)
or_found_lem (accepted none) none y = refl
or_found_lem (accepted none) (some v) y = refl
or_found_lem (accepted (some v)) x y = refl
or_found_lem (refused n at) x y = refl

none_more : {A : Type 0} (j : Judged (Option A)) → j ≡ or_found j none
none_more (accepted none) = refl
none_more (accepted (some v)) = refl
none_more (refused n at) = refl

map_or_else : {A B : Type 0} (f : A → B) (x y : Option A) → map_some f (or_else x y) ≡ or_else (map_some f x) (map_some f y)
map_or_else f none y = refl
map_or_else f (some v) y = refl

module _ (position : ℕ) (name : List ℕ) where
  count_all : (f : Found) (ss : List Section) → (find_all position name f ss).count ≡ f.count + length ss
  unfolding find_all find_more
  count_all f [] = omega arith
  count_all f (s ∷ ss) = omega (arith, count_all (find_more position name f s) ss)

  payload_all : (f : Found) (ss : List Section) → (find_all position name f ss).payload ≡ or_found f.payload (map_some place_of (payload_in name ss))
  unfolding find_all find_more payload_in
  payload_all f [] = none_more f.payload
  payload_all f (s ∷ ss) =
      payload_all (find_more position name f s) ss
      ∙ or_found_lem f.payload (map_some place_of (payload_of name s.custom)) (map_some place_of (payload_in name ss))
      ∙ ap (or_found f.payload) (sym (map_or_else place_of (payload_of name s.custom) (payload_in name ss)))

  -- the section at the position, counted from k
  at_position : ℕ → List Section → Option SectionPlace
  at_position k [] = none
  at_position k (s ∷ ss) = or_else (cond (eqb k position) (some (section_place s)) none) (at_position (suc k) ss)

  section_all : (f : Found) (ss : List Section) → (find_all position name f ss).section ≡ or_found f.section (at_position f.count ss)
  unfolding find_all find_more at_position
  section_all f [] = none_more f.section
  section_all f (s ∷ ss) =
      section_all (find_more position name f s) ss
      ∙ or_found_lem f.section (cond (eqb f.count position) (some (section_place s)) none) (at_position (suc f.count) ss)

  position_is : (k d : ℕ) (ss : List Section) → position ≡ k + d → at_position k ss ≡ map_some section_place (get_elem? ss d)
  unfolding at_position
  position_is k d [] e = none_there d
    where
      none_there : (d : ℕ) → none ≡ map_some section_place (get_elem? [] d)
      none_there zero = refl
      none_there (suc d) = refl
  position_is k zero (s ∷ ss) e = rw (eq-eqb k position (omega arith))
  position_is k (suc d) (s ∷ ss) e = rw (ne_eqb k position (λ q. omega arith)) (position_is (suc k) d ss (omega arith))

-- so each question has its answer
module _ {m : List ℕ} {position : ℕ} {name : List ℕ} where
  survey_accepted : {t : Tally} → Surveys m position name (Ok t) → (ss : List Section) × (walk m ≡ accepted ss) × (find_all position name nothing_found ss ≡ found_of t)
  survey_accepted s = mapped (find_all position name nothing_found) (walk m) (sym s.says) λ ss e₁ e₂. (ss, e₁, e₂)

  survey_stopped : {r : Refusal} → Surveys m position name (Err r) → walk m ≡ refused (number_of r.reason) r.offset.0
  survey_stopped s = (refused_exactly (find_all position name nothing_found) (walk m)).0 (sym s.says)

  pub count_refused : {r : Refusal} → Surveys m position name (Err r) → counted (Err r) ≡ section_count m
  unfolding section_count
  count_refused s = rw (survey_stopped s)

  pub count_found : {t : Tally} → Surveys m position name (Ok t) → counted (Ok t.count) ≡ section_count m
  unfolding section_count
  count_found {t} s =
      let (ss, e₁, e₂) = survey_accepted s in
      let n : t.count ≡ length ss = sym (ap (λ (f : Found). f.count) e₂) ∙ count_all position name nothing_found ss ∙ omega arith in
      rw e₁ (ap accepted n)

  pub section_refused : {r : Refusal} → Surveys m position name (Err r) → section_answered (Err r) ≡ map_judged (map_some section_place) (section_at position m)
  unfolding section_at
  section_refused s = rw (survey_stopped s)

  pub section_found : {t : Tally} → Surveys m position name (Ok t) → section_answered t.section ≡ map_judged (map_some section_place) (section_at position m)
  unfolding section_at
  section_found {t} s =
      let (ss, e₁, e₂) = survey_accepted s in
      rw e₁ (sym (ap (λ (f : Found). f.section) e₂) ∙ section_all position name nothing_found ss ∙ ap accepted (position_is position name 0 position ss (omega arith)))

  pub custom_refused : {r : Refusal} → Surveys m position name (Err r) → answered (Err r) ≡ as_place (custom_payload name m)
  unfolding custom_payload as_place
  custom_refused s = rw (survey_stopped s)

  pub custom_found : {t : Tally} → Surveys m position name (Ok t) → answered t.payload ≡ as_place (custom_payload name m)
  unfolding custom_payload as_place
  custom_found {t} s =
      let (ss, e₁, e₂) = survey_accepted s in
      rw e₁ (sym (ap (λ (f : Found). f.payload) e₂) ∙ payload_all position name nothing_found ss)

pub ruleset walk_answers = (count_refused, count_found, section_refused, section_found, custom_refused, custom_found, rules)
