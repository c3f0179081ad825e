-- Structs as states: what a struct in each phase is, and what follows of one that fits.
use Prim.Native.Nat.{ℕ, ◌-◌, ◌≤◌, ◌<◌}
use mathlib.Core.Bool.{true, ◌&&◌}
use mathlib.Core.Path.{◌≡◌, refl, sym, ap, ◌∙◌}
use native.Mathlib.Omega.{arith}
use borrow.Author.Tests.{leb-true, ltb-true, ne_eqb}
use lib.Dec.{ltb}
use Rattle.format.specs.Reading.{accepted, refused}
use Rattle.format.specs.Laws.Outcomes.{on_both}
use Rattle.stream.specs.Contents.{sizing, naming, paying, failing}
use Rattle.stream.specs.Stream.{Phase, starting, settled, measuring, skipping, in_custom_lem, State}
use Rattle.stream.specs.Fields.{done_from, number_from, text_from, names_from, first_row, contents_from, phase_from, state_from}
use Rattle.stream.specs.Fits.{contents_fit, done_fits, phase_fits, fits}
use Rattle.stream.specs.Phases.{Countable, Fit}
use Rattle.stream.specs.declared.Stream.{Stream}

abbrev pub at : (total : ℕ) → Phase → State
at total p = record { total = total; phase = p }

pub at_same : {o o' : ℕ} {p p' : Phase} → o ≡ o' → p ≡ p' → at o p ≡ at o' p'
at_same e q = λ i. record { total = e i; phase = q i }

module _ (f : Stream) where
  pub as_starting : f.phase ≡ 0 → state_from f ≡ at f.total starting
  unfolding state_from phase_from
  as_starting e = at_same refl (rw e)

  pub as_between : f.phase ≡ 1 → state_from f ≡ at f.total (settled (accepted (done_from f)))
  unfolding state_from phase_from
  as_between e = at_same refl (rw e)

  pub as_refused : f.phase ≡ 2 → state_from f ≡ at f.total (settled (refused f.refusal f.text))
  unfolding state_from phase_from
  as_refused e = at_same refl (rw e)

  pub as_measuring : f.phase ≡ 3 → state_from f ≡ at f.total (measuring (done_from f) f.id f.at (number_from f))
  unfolding state_from phase_from
  as_measuring e = at_same refl (rw e)

  pub as_skipping : f.phase ≡ 4 → state_from f ≡ at f.total (skipping (done_from f) f.at f.left)
  unfolding state_from phase_from
  as_skipping e = at_same refl (rw e)

  pub as_custom : 4 < f.phase → state_from f ≡ at f.total (in_custom_lem (done_from f) f.at f.left (contents_from f))
  unfolding state_from phase_from
  as_custom h =
      at_same refl (rw (ne_eqb f.phase 0 (λ e. omega arith), ne_eqb f.phase 1 (λ e. omega arith), ne_eqb f.phase 2 (λ e. omega arith), ne_eqb f.phase 3 (λ e. omega arith), ne_eqb f.phase 4 (λ e. omega arith)))

  pub as_sizing : f.phase ≡ 5 → contents_from f ≡ sizing f.begins (number_from f)
  unfolding contents_from
  as_sizing e = rw e

  pub as_naming : f.phase ≡ 6 → contents_from f ≡ naming f.begins f.text f.rest (text_from f) (names_from f)
  unfolding contents_from
  as_naming e = rw e

  pub as_paying : f.phase ≡ 7 → contents_from f ≡ paying (first_row f.row) f.text
  unfolding contents_from
  as_paying e = rw e

  pub as_failing : 7 < f.phase → contents_from f ≡ failing f.refusal f.text
  unfolding contents_from
  as_failing h = rw (ne_eqb f.phase 5 (λ e. omega arith), ne_eqb f.phase 6 (λ e. omega arith), ne_eqb f.phase 7 (λ e. omega arith))

-- what fits, phase by phase
module _ {f : Stream} (k : Fit f) where
  fit_at : {p : Phase} → state_from f ≡ at f.total p → phase_fits p f.total ≡ true
  unfolding fits
  fit_at e = sym (ap fits e) ∙ k.fits

  pub between_count : f.phase ≡ 1 → f.count ≤ f.total
  between_count e = leb-true f.count f.total (fit_at (as_between f e))

  module _ (e : f.phase ≡ 3) where
    pub measuring_count : f.count ≤ f.total
    measuring_count = on_both (done_fits (done_from f) f.total) _ (fit_at (as_measuring f e)) λ h r. leb-true f.count f.total h

    pub measuring_at : f.at < f.total
    measuring_at = on_both (done_fits (done_from f) f.total) _ (fit_at (as_measuring f e)) λ h r. on_both (ltb f.at f.total) _ r λ l s. ltb-true f.at f.total l

    pub measuring_number : Countable f.come f.low
    measuring_number = on_both (done_fits (done_from f) f.total) _ (fit_at (as_measuring f e)) λ h r. on_both (ltb f.at f.total) _ r λ l s. record { fits = s }

  pub skipping_left : f.phase ≡ 4 → 0 < f.left
  skipping_left e = on_both (done_fits (done_from f) f.total) _ (fit_at (as_skipping f e)) λ h r. on_both (ltb f.at f.total) _ r λ l s. ltb-true 0 f.left s

  pub skipping_at : f.phase ≡ 4 → f.at < f.total
  skipping_at e = on_both (done_fits (done_from f) f.total) _ (fit_at (as_skipping f e)) λ h r. on_both (ltb f.at f.total) _ r λ l s. ltb-true f.at f.total l

  module _ (h : 4 < f.phase) where
    pub custom_at : f.at < f.total
    custom_at = on_both (done_fits (done_from f) f.total) _ (fit_at (as_custom f h)) λ g r. on_both (ltb f.at f.total) _ r λ l s. ltb-true f.at f.total l

    pub custom_count : f.count ≤ f.total
    custom_count = on_both (done_fits (done_from f) f.total) _ (fit_at (as_custom f h)) λ g r. leb-true f.count f.total g

    custom_rest : (ltb 0 f.left && contents_fit (contents_from f) f.total) ≡ true
    custom_rest = on_both (done_fits (done_from f) f.total) _ (fit_at (as_custom f h)) λ g r. on_both (ltb f.at f.total) _ r λ l s. s

    pub custom_left : 0 < f.left
    custom_left = on_both (ltb 0 f.left) _ custom_rest λ l s. ltb-true 0 f.left l

    pub custom_contents : contents_fit (contents_from f) f.total ≡ true
    custom_contents = on_both (ltb 0 f.left) _ custom_rest λ l s. s
