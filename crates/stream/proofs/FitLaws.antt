-- Whether a state is one that the code can count with: one law for each way through the code.
use Prim.Native.Nat.{ℕ, zero, suc, ◌≤◌, ◌<◌}
use mathlib.Core.Bool.{Bool, true, false, ◌&&◌}
use mathlib.Core.Path.{◌≡◌, refl, sym, ap, ◌∙◌}
use native.Mathlib.Omega.{arith}
use borrow.Author.Rules.{rules}
use borrow.Author.Tests.{le-leb, lt-leb, lt-ltb, le-ltb, leb-true, leb-false, ne_eqb}
use lib.Dec.{ltb, leb}
use Rattle.format.specs.Laws.Outcomes.{by_test}
use Rattle.stream.specs.Counting.{weight, most_following}
use Rattle.stream.specs.Contents.{Contents}
use Rattle.stream.specs.Stream.{Phase}
use Rattle.stream.specs.Calls.{is_open}
use Rattle.stream.specs.Fields.{first_row, number_from, text_from, contents_from, state_from}
use Rattle.stream.specs.Fits.{is_number_fitting, point_limit, text_fits, row_fits, contents_fit, phase_fits, fits}
use Rattle.stream.specs.declared.Stream.{Stream}
use Rattle.stream.proofs.States.{at, as_starting, as_between, as_refused, as_measuring, as_skipping, as_custom, as_sizing, as_naming, as_paying}
use Rattle.stream.proofs.HoldLaws.{in_custom}

limit_none : (wanted : ℕ) → 4 ≤ wanted → point_limit wanted ≡ 0
limit_none zero h = absurd (omega arith)
limit_none (suc zero) h = absurd (omega arith)
limit_none (suc (suc zero)) h = absurd (omega arith)
limit_none (suc (suc (suc zero))) h = absurd (omega arith)
limit_none (suc (suc (suc (suc wanted)))) h = refl

pub point_long : (wanted point : ℕ) → 4 ≤ wanted → false ≡ ltb point (point_limit wanted)
point_long wanted point h = sym (ap (ltb point) (limit_none wanted h) ∙ le-ltb point 0 (omega arith))

module _ (f : Stream) where
  pub number_most : most_following < f.come → false ≡ is_number_fitting (number_from f)
  number_most h = rw (lt-leb f.come most_following h)

  pub number_low : {w : ℕ} → f.come ≤ most_following → w ≡ weight f.come → ltb f.low w ≡ is_number_fitting (number_from f)
  number_low h e = rw (le-leb f.come most_following h, e)

  row_known : (row : ℕ) → leb row 3 ≡ row_fits (first_row row)
  row_known zero = le-leb 0 3 (omega arith)
  row_known (suc row) =
      by_test (leb (suc row) 3)
      (λ t. t ∙ sym (lt-ltb row 3 (let h = leb-true (suc row) 3 t in omega arith)))
      (λ t. t ∙ sym (le-ltb row 3 (let h = leb-false (suc row) 3 t in omega arith)))

  contents_at : {c : Contents} → contents_from f ≡ c → contents_fit c f.total ≡ contents_fit (contents_from f) f.total
  contents_at e = ap (λ c. contents_fit c f.total) (sym e)

  pub paying_fits : f.phase ≡ 7 → (leb f.text f.total && leb f.row 3) ≡ contents_fit (contents_from f) f.total
  paying_fits p = ap (λ b. leb f.text f.total && b) (row_known f.row) ∙ contents_at (as_paying f p)

  pub sizing_fits : {b : Bool} → f.phase ≡ 5 → b ≡ is_number_fitting (number_from f) → b ≡ contents_fit (contents_from f) f.total
  sizing_fits p e = e ∙ contents_at (as_sizing f p)

  pub naming_fits : {b : Bool} → f.phase ≡ 6 → b ≡ text_fits (text_from f) → (ltb 0 f.rest && b) ≡ contents_fit (contents_from f) f.total
  naming_fits p e = ap (λ b. ltb 0 f.rest && b) e ∙ contents_at (as_naming f p)

  pub failing_fits : (f.phase ≡ 7 → ⊥) → (f.phase ≡ 5 → ⊥) → (f.phase ≡ 6 → ⊥) → true ≡ contents_fit (contents_from f) f.total
  unfolding contents_from
  failing_fits a b c = rw (ne_eqb f.phase 5 b, ne_eqb f.phase 6 c, ne_eqb f.phase 7 a)

pub ruleset parts_fit = (number_most, number_low, point_long, paying_fits, sizing_fits, naming_fits, failing_fits, rules)

module _ (f : Stream) where
  fits_at : {p : Phase} → state_from f ≡ at f.total p → phase_fits p f.total ≡ fits (state_from f)
  unfolding fits
  fits_at e = ap fits (sym e)

  pub starting_fits : f.phase ≡ 0 → true ≡ fits (state_from f)
  starting_fits p = fits_at (as_starting f p)

  pub between_fits : f.phase ≡ 1 → leb f.count f.total ≡ fits (state_from f)
  between_fits p = fits_at (as_between f p)

  pub refused_fits : f.phase ≡ 2 → true ≡ fits (state_from f)
  refused_fits p = fits_at (as_refused f p)

  pub skipping_fits : f.phase ≡ 4 → (leb f.count f.total && (ltb f.at f.total && ltb 0 f.left)) ≡ fits (state_from f)
  skipping_fits p = fits_at (as_skipping f p)

  pub measuring_fits : {b : Bool} → f.phase ≡ 3 → b ≡ is_number_fitting (number_from f) → (leb f.count f.total && (ltb f.at f.total && b)) ≡ fits (state_from f)
  measuring_fits p e = ap (λ b. leb f.count f.total && (ltb f.at f.total && b)) e ∙ fits_at (as_measuring f p)

  pub custom_fits : {b : Bool} → 4 < f.phase → b ≡ contents_fit (contents_from f) f.total → (leb f.count f.total && (ltb f.at f.total && (ltb 0 f.left && b))) ≡ fits (state_from f)
  custom_fits p e = ap (λ b. leb f.count f.total && (ltb f.at f.total && (ltb 0 f.left && b))) e ∙ fits_at (as_custom f p)

  pub over_shut : f.phase ≡ 9 → false ≡ is_open f
  over_shut p = rw p

  pub open_fits : {b : Bool} → (f.phase ≡ 9 → ⊥) → b ≡ fits (state_from f) → b ≡ is_open f
  open_fits n e = rw (ne_eqb f.phase 9 n) e

pub ruleset fitting = (starting_fits, between_fits, refused_fits, skipping_fits, measuring_fits, custom_fits, in_custom, over_shut, open_fits, rules)
