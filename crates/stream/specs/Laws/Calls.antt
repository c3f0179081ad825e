-- What follows of parts one after the other: however they are cut, whatever was refused between them.
use Rattle.std.specs.Prelude.{ℕ, ◌+◌, ◌≤◌, ◌<◌, true, false, List, ◌≡◌, refl, leb, eqb, Ok}
use Rattle.std.proofs.Common.{sym, ap, ◌∙◌}
use borrow.Author.Tests.{le-leb, lt-leb}
use Rattle.std.proofs.Math.ListN.{length}
use Rattle.format.specs.Refusals.{number_of}
use Rattle.format.specs.Reading.{refused, accepted}
use Rattle.format.specs.Laws.Outcomes.{by_test, not_accepted}
use Rattle.format.specs.Verdicts.{verdict_of}
use Rattle.format.specs.declared.Reason.{Reason}
use Rattle.format.specs.declared.Reason.TheVariants.{AfterFinish, TotalTooLarge}
use Rattle.stream.specs.Contents.{sizing, naming, paying, failing}
use Rattle.stream.specs.Stream.{Phase, starting, settled, measuring, skipping, in_custom_lem, State, begin, finish, steps}
use Rattle.stream.specs.Walked.{walked}
use Rattle.stream.specs.Fields.{in_phase, held, over, over_at, state_from}
use Rattle.stream.specs.Fits.{fits}
use Rattle.stream.specs.Calls.{most, is_open, untaken, taken, ending_of, ended, Parts, no_part, one_taken, one_refused, together}
use Rattle.stream.specs.Laws.Resumed.{read_as_walked, steps_append}
use Rattle.stream.specs.Laws.Fields.{held_back}
use Rattle.stream.specs.Laws.Fits.{steps_fit, begin_fits}
use Rattle.stream.specs.declared.Stream.{Stream}

-- A state that bytes lead to is open

not_over : (o : ℕ) (p : Phase) → eqb (in_phase o p).phase over ≡ false
not_over o starting = refl
not_over o (settled (accepted d)) = refl
not_over o (settled (refused n at)) = refl
not_over o (measuring d id at n) = refl
not_over o (skipping d at left) = refl
not_over o (in_custom_lem d at left (sizing begins n)) = refl
not_over o (in_custom_lem d at left (naming begins text rest t m)) = refl
not_over o (in_custom_lem d at left (paying row payload)) = refl
not_over o (in_custom_lem d at left (failing n a)) = refl

pub held_open : (s : State) → fits s ≡ true → is_open (held s) ≡ true
unfolding held
held_open s f = rw (not_over s.total s.phase) (ap fits (held_back s) ∙ f)

pub over_shut : (total : ℕ) → is_open (over_at total) ≡ false
over_shut total = refl

-- A part is taken, or changes nothing

module _ (f : Stream) (p : List ℕ) where
  pub part_taken : is_open f ≡ true → f.total + length p ≤ most → taken f p ≡ record { stream = held (steps (state_from f) p); verdict = (Ok tt) }
  unfolding taken
  part_taken t h = rw (t, le-leb (f.total + length p) most h)

  pub part_too_large : is_open f ≡ true → most < f.total + length p → taken f p ≡ untaken f TotalTooLarge
  unfolding taken
  part_too_large t h = rw (t, lt-leb (f.total + length p) most h)

  pub part_too_late : is_open f ≡ false → taken f p ≡ untaken f AfterFinish
  unfolding taken
  part_too_late t = rw t

  not_both : (why : Reason) → (untaken f why).verdict ≡ (Ok tt) → ⊥
  not_both why e = not_accepted (ap verdict_of e)

  pub refused_stays : ((taken f p).verdict ≡ (Ok tt) → ⊥) → (taken f p).stream ≡ f
  unfolding taken
  refused_stays h =
      by_test (is_open f)
      (λ t. rw t (by_test (leb (f.total + length p) most)
      (λ u. absurd (h (rw (t, u))))
      (λ u. rw u)))
      (λ t. rw t)

  taken_steps : (taken f p).verdict ≡ (Ok tt) → (taken f p).stream ≡ held (steps (state_from f) p)
  unfolding taken
  taken_steps e =
      by_test (is_open f)
      (λ t. rw t (by_test (leb (f.total + length p) most)
      (λ u. rw u)
      (λ u. absurd (not_both TotalTooLarge (rw (t, u) at e)))))
      (λ t. absurd (not_both AfterFinish (rw t at e)))

-- Parts one after the other come to the bytes of those that were taken

parts_held : (s : State) {f g : Stream} {ps : List (List ℕ)} → Parts f ps g → f ≡ held s → g ≡ held (steps s (together ps))
unfolding together steps
parts_held s no_part e = e
parts_held s {f} (one_taken p {ps} t k) e =
    let next : (taken f p).stream ≡ held (steps s p) = taken_steps f p t ∙ ap (λ x. held (steps (state_from x) p)) e ∙ ap (λ x. held (steps x p)) (held_back s) in
    parts_held (steps s p) k next ∙ ap held (sym (steps_append s p (together ps)))
parts_held s {f} (one_refused p h k) e = parts_held s k (refused_stays f p h ∙ e)

pub parts_begun : {g : Stream} {ps : List (List ℕ)} → Parts (held begin) ps g → g ≡ held (steps begin (together ps))
parts_begun k = parts_held begin k refl

-- "Accepted parts that join to the same bytes leave the same state however cut"
pub however_cut : {g h : Stream} {ps qs : List (List ℕ)} → Parts (held begin) ps g → Parts (held begin) qs h → together ps ≡ together qs → g ≡ h
however_cut k l e = parts_begun k ∙ ap (λ bs. held (steps begin bs)) e ∙ sym (parts_begun l)

-- such a stream is open, and its finish answers as the walk on all of it joined
pub parts_open : {g : Stream} {ps : List (List ℕ)} → Parts (held begin) ps g → is_open g ≡ true
parts_open {ps = ps} k = ap is_open (parts_begun k) ∙ held_open (steps begin (together ps)) (steps_fit begin (together ps) begin_fits)

pub open_ends : (f : Stream) → is_open f ≡ true → ended f ≡ record { stream = over_at f.total; ending = ending_of (finish (state_from f)) }
unfolding ended
open_ends f t = rw t

pub parts_ended : {g : Stream} {ps : List (List ℕ)} → Parts (held begin) ps g → ended g ≡ record { stream = over_at g.total; ending = ending_of (walked (together ps)) }
parts_ended {g} {ps} k =
    open_ends g (parts_open k)
    ∙ ap (λ j. record { stream = over_at g.total; ending = ending_of j })
    (ap (λ x. finish (state_from x)) (parts_begun k) ∙ ap finish (held_back (steps begin (together ps))) ∙ read_as_walked (together ps))

-- after the finish nothing is taken, and there is no other
pub shut_ends : (f : Stream) → is_open f ≡ false → ended f ≡ record { stream = f; ending = ending_of (refused (number_of AfterFinish) 0) }
unfolding ended
shut_ends f t = rw t

pub ended_shut : (f : Stream) → is_open (ended f).stream ≡ false
ended_shut f =
    by_test (is_open f)
    (λ t. rw (open_ends f t) refl)
    (λ t. rw (shut_ends f t) t)

pub ended_again : (f : Stream) → ended (ended f).stream ≡ record { stream = (ended f).stream; ending = ending_of (refused (number_of AfterFinish) 0) }
ended_again f = shut_ends (ended f).stream (ended_shut f)

pub ended_part : (f : Stream) (p : List ℕ) → taken (ended f).stream p ≡ untaken (ended f).stream AfterFinish
ended_part f p = part_too_late (ended f).stream p (ended_shut f)
