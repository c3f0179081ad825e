-- The C boundary says what the calls beneath it say.
use Rattle.std.specs.Prelude.{Ok, Err, Some, None}
use Prim.Native.Nat.{ℕ}
use mathlib.Core.List.{List}
use mathlib.Core.Option.{Option}
use mathlib.Core.Bool.{Bool}
use mathlib.Core.Path.{◌≡◌, refl, ap, ◌∙◌}
use native.Mathlib.Omega.{arith}
use borrow.Author.Rules.{rules}
use denote.Enum.Declared.{tag_of}
use Rattle.format.specs.Refusals.{number_of}
use Rattle.format.specs.Reading.{Judged as Judgement}
use Rattle.format.specs.Names.{Kind}
use Rattle.format.specs.Entries.{Listed, Lists}
use Rattle.format.specs.Markers.{Markers, Makes}
use Rattle.format.specs.Metadata.{hint_answered}
use Rattle.format.specs.Outputs.{written_as, Writes}
use Rattle.format.specs.Questions.{answered, ask, as_place}
use Rattle.format.specs.Through.{ask_through}
use Rattle.format.specs.Returned.{Answer}
use Rattle.format.specs.declared.Hint.{Hint}
use Rattle.format.specs.declared.Hint.TheVariants.{Unlikely, Likely}
use Rattle.format.specs.Returned.{HintAnswer}
use Rattle.format.specs.declared.Place.{Place}
use Rattle.format.specs.declared.Question.{Question}
use Rattle.format.specs.declared.Refusal.{Refusal}
use Rattle.format.specs.Returned.{Written}
use Rattle.format.specs.contracts.Hint as likelihood_type
use Rattle.format.specs.Verdicts.{verdict_of}
use Rattle.format.specs.Returned.{Verdict}
use Rattle.walk.specs.Surveys.{counted, section_answered}
use Rattle.walk.specs.Returned.{Counted}
use Rattle.walk.specs.Returned.{SectionAnswer}
use Rattle.walk.specs.declared.survey.SectionPlace.{SectionPlace}
use Rattle.wakemiono.specs.Boundary.{wm_none, wm_found, wm_refused, wm_place, wm_section, wm_count, wm_judged, wm_hinted, wm_hint, WmWrites, WmMakes, WmLists, wm_yes}
use Rattle.wakemiono.specs.declared.WmAnswer.{WmAnswer}

pub refusal_is : (r : Refusal) (n : ℕ) → n ≡ number_of r.reason → record { kind = 2; code = n; offset = r.offset.0; length = 0 } ≡ wm_refused (number_of r.reason) r.offset.0
refusal_is r n e = λ i. record { kind = 2; code = e i; offset = r.offset.0; length = 0 }

-- a count
module _ (c : Counted) where
  pub count_refused : (a : WmAnswer) (r : Refusal) → c ≡ Err r → a ≡ wm_refused (number_of r.reason) r.offset.0 → a ≡ wm_count (counted c)
  count_refused a r e q = rw e q

  pub count_is : (n : ℕ) → c ≡ Ok n → wm_found 0 0 n ≡ wm_count (counted c)
  count_is n e = rw e

-- a write
module _ (w : Written) where
  pub written_refused : (a : WmAnswer) (r : Refusal) → w ≡ Err r → a ≡ wm_refused (number_of r.reason) r.offset.0 → a ≡ wm_count (written_as w)
  written_refused a r e q = rw e q

  pub written_is : (a : WmAnswer) (n : ℕ) → w ≡ Ok n → a ≡ wm_found 0 0 n → a ≡ wm_count (written_as w)
  written_is a n e q = rw e q

-- a section
module _ (s : SectionAnswer) where
  pub section_none : s ≡ Ok None → wm_none ≡ wm_section (section_answered s)
  section_none h = rw h

  pub section_refused : (a : WmAnswer) (r : Refusal) → s ≡ Err r → a ≡ wm_refused (number_of r.reason) r.offset.0 → a ≡ wm_section (section_answered s)
  section_refused a r e q = rw e q

  pub section_is : (p : SectionPlace) → s ≡ Ok (Some p) → wm_found p.id p.at.0 p.length ≡ wm_section (section_answered s)
  section_is p e = rw e

-- a place
module _ (x : Answer) where
  pub place_none : x ≡ Ok None → wm_none ≡ wm_place (answered x)
  place_none h = rw h

  pub place_refused : (a : WmAnswer) (r : Refusal) → x ≡ Err r → a ≡ wm_refused (number_of r.reason) r.offset.0 → a ≡ wm_place (answered x)
  place_refused a r e q = rw e q

  pub place_is : (p : Place) → x ≡ Ok (Some p) → wm_found 0 p.offset.0 p.length ≡ wm_place (answered x)
  place_is p e = rw e

-- a judgement
module _ (j : Verdict) (n : ℕ) where
  pub judged_refused : (a : WmAnswer) (r : Refusal) → j ≡ Err r → a ≡ wm_refused (number_of r.reason) r.offset.0 → a ≡ wm_judged n (verdict_of j)
  judged_refused a r e q = rw e q

  pub judged_is : (a : WmAnswer) → j ≡ Ok tt → a ≡ wm_found 0 0 n → a ≡ wm_judged n (verdict_of j)
  judged_is a h e = rw h e

-- a yes or no
pub told_is : (b x : Bool) {a : ℕ} → a ≡ wm_yes b → b ≡ x → a ≡ wm_yes x
told_is b x e q = rw (← q) e

-- a hint
pub unlikely_is : (h : Hint) → tag_of likelihood_type.the_type h ≡ 0 → record { kind = 3; code = 0; offset = 0; length = 0 } ≡ wm_hinted h
unlikely_is Unlikely t = refl
unlikely_is Likely t = absurd (omega arith)

pub likely_is : (h : Hint) → tag_of likelihood_type.the_type h ≡ 1 → record { kind = 4; code = 0; offset = 0; length = 0 } ≡ wm_hinted h
likely_is Unlikely t = absurd (omega arith)
likely_is Likely t = refl

module _ (x : HintAnswer) where
  pub hint_none : x ≡ Ok None → wm_none ≡ wm_hint (hint_answered x)
  hint_none h = rw h

  pub hint_refused : (a : WmAnswer) (r : Refusal) → x ≡ Err r → a ≡ wm_refused (number_of r.reason) r.offset.0 → a ≡ wm_hint (hint_answered x)
  hint_refused a r e q = rw e q

  pub hint_is : (a : WmAnswer) (h : Hint) → x ≡ Ok (Some h) → a ≡ wm_hinted h → a ≡ wm_hint (hint_answered x)
  hint_is a h e q = rw e q

pub ruleset fields = (refusal_is, count_refused, count_is, written_refused, written_is, section_none, section_refused, section_is, place_none, place_refused, place_is, judged_refused, judged_is, told_is, unlikely_is, likely_is, hint_none, hint_refused, hint_is, rules)

-- and so does each call
pub says_count : (a : WmAnswer) (x y : Judgement ℕ) → a ≡ wm_count x → x ≡ y → a ≡ wm_count y
says_count a x y e q = e ∙ ap wm_count q

pub says_section : (a : WmAnswer) (x y : Judgement (Option SectionPlace)) → a ≡ wm_section x → x ≡ y → a ≡ wm_section y
says_section a x y e q = e ∙ ap wm_section q

pub says_place : (a : WmAnswer) (x y : Judgement (Option Place)) → a ≡ wm_place x → x ≡ y → a ≡ wm_place y
says_place a x y e q = e ∙ ap wm_place q

pub says_judged : (a : WmAnswer) (n : ℕ) (x y : Judgement (Unit {0})) → a ≡ wm_judged n x → x ≡ y → a ≡ wm_judged n y
says_judged a n x y e q = e ∙ ap (wm_judged n) q

pub says_hint : (a : WmAnswer) (x y : Judgement (Option Hint)) → a ≡ wm_hint x → x ≡ y → a ≡ wm_hint y
says_hint a x y e q = e ∙ ap wm_hint q

pub says_written : {wanted : Judgement (List ℕ)} {old new : List ℕ} {a : WmAnswer} (w : Written) → a ≡ wm_count (written_as w) → Writes wanted old new w → WmWrites wanted old new a
says_written w e h = record { says = e ∙ ap wm_count h.says; leaves = h.leaves }

pub says_made : {wanted : Judgement Markers} {is os is' os' : List ℕ} {a : WmAnswer} (r : Answer) → a ≡ wm_place (answered r) → Makes wanted is os is' os' r → WmMakes wanted is os is' os' a
says_made r e h = record { says = e ∙ ap wm_place h.says; indices = h.indices; offsets = h.offsets }

pub says_listed : {X : Type 0} {columns : List (Listed X → ℕ)} {found : Judgement (Option (List (Listed X)))} {lists lists' : List (List ℕ)} {a : WmAnswer} (r : Answer) → a ≡ wm_place (answered r) → Lists columns found lists lists' r → WmLists columns found lists lists' a
says_listed r e h = record { says = e ∙ ap wm_place h.says; leaves = h.leaves }

-- one question under two names
module _ (kind_of : ℕ → Kind) (bytes : List ℕ) (a : WmAnswer) {q r : Question} (e : q ≡ r) where
  pub asked_so : a ≡ wm_place (as_place (ask kind_of q bytes)) → a ≡ wm_place (as_place (ask kind_of r bytes))
  asked_so h = rw e at h

  pub asked_so_through : a ≡ wm_place (as_place (ask_through kind_of q bytes)) → a ≡ wm_place (as_place (ask_through kind_of r bytes))
  asked_so_through h = rw e at h

pub ruleset calls = (asked_so, asked_so_through, says_count, says_section, says_place, says_judged, says_hint, says_written, says_made, says_listed, rules)
