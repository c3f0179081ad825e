-- An arm of a match that binds nothing gives the tag alone: which case it is.
use Rattle.std.specs.Prelude.{Ok, Err}
use Prim.Native.Nat.{ℕ}
use mathlib.Core.List.{List, [], ◌∷◌}
use mathlib.Core.Path.{◌≡◌, refl, sym, ap, ◌∙◌}
use native.Mathlib.Omega.{arith}
use borrow.Author.Rules.{rules}
use denote.Enum.Declared.{tag_of}
use lib.ListN.{get_or}
use Rattle.format.specs.Refusals.{number_of}
use Rattle.format.specs.Reading.{Judged, accepted, refused, verdict}
use Rattle.format.specs.Verdicts.{verdict_of}
use Rattle.format.specs.Laws.Outcomes.{mapped, refused_exactly}
use Rattle.format.specs.declared.Reason.{Reason}
use Rattle.format.specs.declared.Reason.TheVariants.{NoPreamble, PastItsPart, NumberTooLarge, NotText, SectionUnknown, SectionOrder, SectionTwice, SectionTooLate, SubsectionOrder, LeftOver, NotAbove, NotHint, OutputTooShort, ListsDisagree, SubsectionTooLarge, InputTooLarge, NotZero, AfterFinish, NoBody, NotReadable, NotOnBranch, NotMarkers, NoCustomer, NotOpen, HoldsInUse, NoRoom, Damaged, TotalTooLarge, NotImport, NotTheStore}
use Rattle.format.specs.declared.Refusal.{Refusal}
use Rattle.format.specs.Returned.{Verdict}
use Rattle.format.specs.contracts.Reason as reason_type

-- the judgement that a verdict is of: refused so, or accepted
module _ {A : Type 0} (v : Verdict) (j : Judged A) (says : verdict_of v ≡ verdict j) where
  pub judged_refused : {r : Refusal} → v ≡ Err r → j ≡ refused (number_of r.reason) r.offset.0
  judged_refused e = (refused_exactly (λ _. tt) j).0 (sym says ∙ ap verdict_of e)

  pub judged_accepted : v ≡ Ok tt → (t : A) × (j ≡ accepted t)
  judged_accepted e = mapped (λ _. tt) j (sym says ∙ ap verdict_of e) λ t e _. (t, e)

-- the numbers that are given, in the order in which the reasons are declared
abbrev pub given : List ℕ
given = 1 ∷ 2 ∷ 3 ∷ 4 ∷ 5 ∷ 6 ∷ 7 ∷ 8 ∷ 9 ∷ 10 ∷ 11 ∷ 12 ∷ 13 ∷ 14 ∷ 15 ∷ 16 ∷ 17 ∷ 18 ∷ 19 ∷ 20 ∷ 21 ∷ 22 ∷ 23 ∷ 24 ∷ 25 ∷ 26 ∷ 27 ∷ 28 ∷ 29 ∷ 30 ∷ []

by_tag : (r : Reason) → number_of r ≡ get_or given (tag_of reason_type.the_type r) 0
by_tag NoPreamble = refl
by_tag PastItsPart = refl
by_tag NumberTooLarge = refl
by_tag NotText = refl
by_tag SectionUnknown = refl
by_tag SectionOrder = refl
by_tag SectionTwice = refl
by_tag SectionTooLate = refl
by_tag SubsectionOrder = refl
by_tag LeftOver = refl
by_tag NotAbove = refl
by_tag NotHint = refl
by_tag OutputTooShort = refl
by_tag ListsDisagree = refl
by_tag SubsectionTooLarge = refl
by_tag InputTooLarge = refl
by_tag NotZero = refl
by_tag AfterFinish = refl
by_tag NoBody = refl
by_tag NotReadable = refl
by_tag NotOnBranch = refl
by_tag NotMarkers = refl
by_tag NoCustomer = refl
by_tag NotOpen = refl
by_tag HoldsInUse = refl
by_tag NoRoom = refl
by_tag Damaged = refl
by_tag TotalTooLarge = refl
by_tag NotImport = refl
by_tag NotTheStore = refl

pub number_told : (r : Reason) (tag n : ℕ) → tag_of reason_type.the_type r ≡ tag → n ≡ get_or given tag 0 → n ≡ number_of r
number_told r tag n e is = is ∙ sym (by_tag r ∙ ap (λ t. get_or given t 0) e)

pub ruleset numbers_told = (number_told, rules)
