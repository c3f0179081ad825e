-- Rules R14.6 to R14.10 of docs/RULES.md.
-- K5: a part and the finish, with what they refuse. "Refusals, offset 0 and state unchanged: 18, a part or a finish after the finish; then 28, a part that takes the total above 18,446,744,073,709,551,615 bytes." A state that nobody began and that the code cannot count with is answered as one that is over. Assumes nothing.
use Rattle.std.specs.Prelude.{ℕ, ◌+◌, Bool, true, false, cond, not, ◌&&◌, List, [], ◌∷◌, ◌++◌, ◌≡◌, leb, eqb, length, Ok, Err}
use Rattle.std.proofs.Math.Option.{Option, none, some}
use Rattle.format.specs.Refusals.{number_of}
use Rattle.format.specs.Reading.{Judged, accepted, refused}
use Rattle.format.specs.declared.Place.{Place}
use Rattle.format.specs.declared.Reason.{Reason}
use Rattle.format.specs.declared.Reason.TheVariants.{AfterFinish, TotalTooLarge}
use Rattle.stream.specs.Stream.{Summary, finish, steps}
use Rattle.stream.specs.Fields.{held, over, over_at, state_from}
use Rattle.stream.specs.Fits.{fits}
use Rattle.stream.specs.declared.Ended.{Ended}
use Rattle.stream.specs.declared.Ending.{Ending}
use Rattle.stream.specs.declared.Stream.{Stream}
use Rattle.stream.specs.declared.Taken.{Taken}
use Rattle.stream.specs.declared.Told.{Told}

-- what 64 bits hold
abbrev pub most : ℕ
most = 18_446_744_073_709_551_615

-- whether a stream takes parts, and its finish
abbrev pub is_open : Stream → Bool
is_open f = not (eqb f.phase over) && fits (state_from f)

-- A PART
abbrev pub untaken : Stream → Reason → Taken
untaken f why = record { stream = f; verdict = Err (record { reason = why; offset = record { 0 = 0 } }) }

unfoldable pub taken : Stream → List ℕ → Taken
taken f part =
    cond (is_open f)
    (cond (leb (f.total + length part) most)
    (record { stream = held (steps (state_from f) part); verdict = (Ok tt) })
    (untaken f TotalTooLarge))
    (untaken f AfterFinish)

-- THE FINISH, which says a refusal's number and offset, or the count and the places
abbrev pub told_of : Option Place → Told
told_of none = record { there = 0; offset = 0; length = 0 }
told_of (some p) = record { there = 1; offset = p.offset.0; length = p.length }

abbrev pub ending_of : Judged Summary → Ending
ending_of (accepted s) = record { accepted = true; refusal = 0; offset = 0; count = s.count; name = told_of s.name; hints = told_of s.hints; older = told_of s.older }
ending_of (refused number at) = record { accepted = false; refusal = number; offset = at; count = 0; name = told_of none; hints = told_of none; older = told_of none }

unfoldable pub ended : Stream → Ended
ended f =
    cond (is_open f)
    (record { stream = over_at f.total; ending = ending_of (finish (state_from f)) })
    (record { stream = f; ending = ending_of (refused (number_of AfterFinish) 0) })

-- PARTS ONE AFTER THE OTHER, each of them taken or refused, and those that were taken
pub data Parts : Stream → List (List ℕ) → Stream → Type 0 where
  no_part : {f : Stream} → Parts f [] f
  one_taken : {f g : Stream} (p : List ℕ) {ps : List (List ℕ)} → (taken f p).verdict ≡ (Ok tt) → Parts (taken f p).stream ps g → Parts f (p ∷ ps) g
  one_refused : {f g : Stream} (p : List ℕ) {ps : List (List ℕ)} → ((taken f p).verdict ≡ (Ok tt) → ⊥) → Parts (taken f p).stream ps g → Parts f ps g

unfoldable pub together : List (List ℕ) → List ℕ
together [] = []
together (p ∷ ps) = p ++ together ps
