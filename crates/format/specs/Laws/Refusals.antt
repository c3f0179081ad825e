-- Refusal numbers tell reasons apart.
use Rattle.std.specs.Prelude.{ℕ, pred, ◌<◌, List, [], ◌∷◌, ◌≡◌, refl, get_or, Ok, Err}
use Rattle.std.proofs.Common.{sym, ap, ◌∙◌, arith}
use Rattle.format.specs.Refusals.{number_of}
use Rattle.format.specs.Reading.{Outcome, stop, Judged, refused}
use Rattle.format.specs.Verdicts.{verdict_of}
use Rattle.format.specs.Laws.Outcomes.{not_accepted}
use Rattle.format.specs.declared.Refusal.{Refusal}
use Rattle.format.specs.Returned.{Verdict}
use Rattle.format.specs.declared.Reason.{Reason}
use Rattle.format.specs.declared.Reason.TheVariants.{NoPreamble, PastItsPart, NumberTooLarge, NotText, SectionUnknown, SectionOrder, SectionTwice, SectionTooLate, SubsectionOrder, LeftOver, NotAbove, NotHint, OutputTooShort, ListsDisagree, SubsectionTooLarge, InputTooLarge, NotZero, AfterFinish, NoBody, NotReadable, NotOnBranch, NotMarkers, NoCustomer, NotOpen, HoldsInUse, NoRoom, Damaged, TotalTooLarge, NotImport, NotTheStore}

-- for numbers that are not given
not_given : Reason
not_given = NoPreamble

reasons : List Reason
reasons = NoPreamble ∷ PastItsPart ∷ NumberTooLarge ∷ NotText ∷ SectionUnknown ∷ SectionOrder ∷ SectionTwice ∷ SectionTooLate ∷ SubsectionOrder ∷ LeftOver ∷ NotAbove ∷ NotHint ∷ OutputTooShort ∷ ListsDisagree ∷ SubsectionTooLarge ∷ InputTooLarge ∷ NotZero ∷ AfterFinish ∷ NoBody ∷ NotReadable ∷ NotOnBranch ∷ NotMarkers ∷ NoCustomer ∷ NotOpen ∷ HoldsInUse ∷ NoRoom ∷ Damaged ∷ TotalTooLarge ∷ NotImport ∷ NotTheStore ∷ []

-- the reason with a number, counted from 1
numbered : ℕ → Reason
numbered n = get_or reasons (pred n) not_given

numbered_is : (r : Reason) → numbered (number_of r) ≡ r
unfolding numbered reasons
numbered_is NoPreamble = refl
numbered_is PastItsPart = refl
numbered_is NumberTooLarge = refl
numbered_is NotText = refl
numbered_is SectionUnknown = refl
numbered_is SectionOrder = refl
numbered_is SectionTwice = refl
numbered_is SectionTooLate = refl
numbered_is SubsectionOrder = refl
numbered_is LeftOver = refl
numbered_is NotAbove = refl
numbered_is NotHint = refl
numbered_is OutputTooShort = refl
numbered_is ListsDisagree = refl
numbered_is SubsectionTooLarge = refl
numbered_is InputTooLarge = refl
numbered_is NotZero = refl
numbered_is AfterFinish = refl
numbered_is NoBody = refl
numbered_is NotReadable = refl
numbered_is NotOnBranch = refl
numbered_is NotMarkers = refl
numbered_is NoCustomer = refl
numbered_is NotOpen = refl
numbered_is HoldsInUse = refl
numbered_is NoRoom = refl
numbered_is Damaged = refl
numbered_is TotalTooLarge = refl
numbered_is NotImport = refl
numbered_is NotTheStore = refl

-- a refusal's number is a byte
pub number_small : (r : Reason) → number_of r < 256
number_small NoPreamble = omega arith
number_small PastItsPart = omega arith
number_small NumberTooLarge = omega arith
number_small NotText = omega arith
number_small SectionUnknown = omega arith
number_small SectionOrder = omega arith
number_small SectionTwice = omega arith
number_small SectionTooLate = omega arith
number_small SubsectionOrder = omega arith
number_small LeftOver = omega arith
number_small NotAbove = omega arith
number_small NotHint = omega arith
number_small OutputTooShort = omega arith
number_small ListsDisagree = omega arith
number_small SubsectionTooLarge = omega arith
number_small InputTooLarge = omega arith
number_small NotZero = omega arith
number_small AfterFinish = omega arith
number_small NoBody = omega arith
number_small NotReadable = omega arith
number_small NotOnBranch = omega arith
number_small NotMarkers = omega arith
number_small NoCustomer = omega arith
number_small NotOpen = omega arith
number_small HoldsInUse = omega arith
number_small NoRoom = omega arith
number_small Damaged = omega arith
number_small TotalTooLarge = omega arith
number_small NotImport = omega arith
number_small NotTheStore = omega arith

pub told_apart : (r s : Reason) → number_of r ≡ number_of s → r ≡ s
told_apart r s e = sym (numbered_is r) ∙ ap numbered e ∙ numbered_is s

-- a refusal is told by its number and offset
pub same_refusal : (r s : Refusal) → number_of r.reason ≡ number_of s.reason → r.offset.0 ≡ s.offset.0 → r ≡ s
same_refusal r s e q = let w = told_apart r.reason s.reason e in λ i. record { reason = w i; offset = record { 0 = q i } }

module _ {A : Type 0} where
  pub same_judgement : {r s : Refusal} → ◌≡◌ {A = Judged A} (refused (number_of r.reason) r.offset.0) (refused (number_of s.reason) s.offset.0) → r ≡ s
  same_judgement {r} {s} e = same_refusal r s (cc) (cc)

  pub same_stop : {r s : Refusal} → ◌≡◌ {A = Outcome A} (stop (number_of r.reason) r.offset.0) (stop (number_of s.reason) s.offset.0) → r ≡ s
  same_stop {r} {s} e = same_refusal r s (cc) (cc)

pub same_verdict : (a b : Verdict) → verdict_of a ≡ verdict_of b → a ≡ b
same_verdict (Ok _) (Ok _) e = refl
same_verdict (Ok _) (Err r) e = absurd (not_accepted (sym e))
same_verdict (Err r) (Ok _) e = absurd (not_accepted e)
same_verdict (Err r) (Err s) e = ap Err (same_judgement e)
