-- What an answer at the C boundary says: the same as the answer that it was made of. Assumes nothing.
use Rattle.std.specs.Prelude.{ℕ, cond, ◌≡◌, refl, eqb}
use Rattle.std.proofs.Math.Option.{Option, none, some}
use Rattle.format.specs.Pairs.{Paired, agreed, refused_by, Supplied}
use Rattle.format.specs.Reading.{Judged, accepted, refused}
use Rattle.format.specs.Why.{Why, named, no_subsection, no_group, no_entry}
use Rattle.format.specs.declared.Hint.{Hint}
use Rattle.format.specs.declared.Hint.TheVariants.{Unlikely, Likely}
use Rattle.format.specs.declared.Place.{Place}
use Rattle.format.specs.declared.Whose.{Whose}
use Rattle.format.specs.declared.Whose.TheVariants.{Separate, Own}
use Rattle.walk.specs.declared.survey.SectionPlace.{SectionPlace}
use Rattle.wakemiono.specs.Boundary.{wm_place, wm_section, wm_count, wm_judged, wm_hint}
use Rattle.wakemiono.specs.Pairs.{wm_pair, wm_join}
use Rattle.wakemiono.specs.Why.{wm_why}
use Rattle.wakemiono.specs.declared.WmAnswer.{WmAnswer}
use Rattle.wakemiono.specs.declared.beside.WmPairAnswer.{WmPairAnswer}
use Rattle.wakemiono.specs.declared.why.WmWhy.{WmWhy}

-- kind 2 is a refusal; kind 0 is none
abbrev pub unless_refused : {A : Type 0} → (WmAnswer → A) → WmAnswer → Judged A
unless_refused read a = cond (eqb a.kind 2) (refused a.code a.offset) (accepted (read a))

abbrev pub unless_none : {A : Type 0} → (WmAnswer → A) → WmAnswer → Option A
unless_none read a = cond (eqb a.kind 0) none (some (read a))

abbrev pub says_place : WmAnswer → Judged (Option Place)
says_place = unless_refused (unless_none (λ a. record { offset = record { 0 = a.offset }; length = a.length }))

abbrev pub says_section : WmAnswer → Judged (Option SectionPlace)
says_section = unless_refused (unless_none (λ a. record { id = a.code; at = record { 0 = a.offset }; length = a.length }))

-- kind 3 is unlikely, kind 4 likely
abbrev pub says_hint : WmAnswer → Judged (Option Hint)
says_hint = unless_refused (unless_none (λ a. cond (eqb a.kind 3) Unlikely Likely))

abbrev pub says_count : WmAnswer → Judged ℕ
says_count = unless_refused (λ a. a.length)

abbrev pub says_verdict : WmAnswer → Judged (Unit {0})
says_verdict = unless_refused (λ a. tt)

pub place_said : (j : Judged (Option Place)) → says_place (wm_place j) ≡ j
place_said (accepted none) = refl
place_said (accepted (some p)) = refl
place_said (refused n at) = refl

pub section_said : (j : Judged (Option SectionPlace)) → says_section (wm_section j) ≡ j
section_said (accepted none) = refl
section_said (accepted (some s)) = refl
section_said (refused n at) = refl

pub hint_said : (j : Judged (Option Hint)) → says_hint (wm_hint j) ≡ j
hint_said (accepted none) = refl
hint_said (accepted (some Unlikely)) = refl
hint_said (accepted (some Likely)) = refl
hint_said (refused n at) = refl

pub count_said : (j : Judged ℕ) → says_count (wm_count j) ≡ j
count_said (accepted n) = refl
count_said (refused n at) = refl

pub verdict_said : (length : ℕ) (j : Judged (Unit {0})) → says_verdict (wm_judged length j) ≡ j
verdict_said length (accepted v) = refl
verdict_said length (refused n at) = refl

-- K7: kind 1 is a place, 5 and 6 are reasons alone, and what is left is no entry; a side is there where its first number is 1
abbrev says_side : (has index : ℕ) → Option ℕ
says_side has index = cond (eqb has 0) none (some index)

abbrev says_neighbours : WmWhy → Why
says_neighbours a = no_entry (says_side a.has_below a.below) (says_side a.has_above a.above)

abbrev pub says_why : WmWhy → Judged Why
says_why a = cond (eqb a.kind 2) (refused a.code a.offset) (accepted (cond (eqb a.kind 1) (named a.code a.position) (cond (eqb a.kind 5) no_subsection (cond (eqb a.kind 6) no_group (says_neighbours a)))))

pub why_said : (j : Judged Why) → says_why (wm_why j) ≡ j
why_said (accepted (named id n)) = refl
why_said (accepted no_subsection) = refl
why_said (accepted no_group) = refl
why_said (accepted (no_entry none none)) = refl
why_said (accepted (no_entry none (some a))) = refl
why_said (accepted (no_entry (some b) none)) = refl
why_said (accepted (no_entry (some b) (some a))) = refl
why_said (refused n at) = refl

-- K3: whose is 1 for the separate payload's and 2 for the own one's; a refusal of nobody's is one of the join
abbrev says_whose : ℕ → Whose
says_whose n = cond (eqb n 1) Separate Own

abbrev pub says_pair : WmPairAnswer → Paired (Option (Supplied Place))
says_pair a = cond (eqb a.kind 2) (refused_by (says_whose a.whose) a.code a.offset) (agreed (cond (eqb a.kind 0) none (some (record { whose = says_whose a.whose; value = record { offset = record { 0 = a.offset }; length = a.length } }))))

abbrev pub says_join : WmPairAnswer → Paired (Judged ℕ)
says_join a = cond (eqb a.kind 1) (agreed (accepted a.length)) (cond (eqb a.whose 0) (agreed (refused a.code a.offset)) (refused_by (says_whose a.whose) a.code a.offset))

pub pair_answer_said : (j : Paired (Option (Supplied Place))) → says_pair (wm_pair j) ≡ j
pair_answer_said (agreed none) = refl
pair_answer_said (agreed (some x)) = of_whose x.whose x.value
  where
    of_whose : (w : Whose) (p : Place) → says_pair (wm_pair (agreed (some (record { whose = w; value = p })))) ≡ agreed (some (record { whose = w; value = p }))
    of_whose Separate p = refl
    of_whose Own p = refl
pair_answer_said (refused_by Separate n at) = refl
pair_answer_said (refused_by Own n at) = refl

pub join_answer_said : (j : Paired (Judged ℕ)) → says_join (wm_join j) ≡ j
join_answer_said (agreed (accepted n)) = refl
join_answer_said (agreed (refused n at)) = refl
join_answer_said (refused_by Separate n at) = refl
join_answer_said (refused_by Own n at) = refl
