-- The contents of a custom section: one law for each way through the code.
use Rattle.std.specs.Prelude.{Result, Ok, Err}
use Prim.Native.Nat.{ℕ, zero, suc, ◌-◌, ◌≤◌, ◌<◌}
use mathlib.Core.Bool.{true, ◌&&◌}
use mathlib.Core.Path.{◌≡◌, refl, sym, ap, ◌∙◌}
use native.Mathlib.Omega.{arith}
use borrow.Author.Rules.{rules}
use borrow.Author.Tests.{eqb-true, eqb-false, leb-true, ltb-true}
use lib.Dec.{ltb, leb, eqb}
use lib.ListN.{length}
use Rattle.format.specs.Refusals.{number_of}
use Rattle.format.specs.Reading.{accepted, refused}
use Rattle.format.specs.Walk.{tracked}
use Rattle.format.specs.Laws.Outcomes.{by_test, on_both}
use Rattle.format.specs.declared.Reason.{Reason}
use Rattle.stream.specs.Contents.{Contents, naming, content_ends}
use Rattle.stream.specs.Stream.{custom_done, settled, custom}
use Rattle.stream.specs.Calls.{most}
use Rattle.stream.specs.Fields.{held, first_row, done_from, contents_from, state_from}
use Rattle.stream.specs.Fits.{row_fits, text_fits, contents_fit}
use Rattle.stream.specs.Phases.{Refuses, Closing, Closes}
use Rattle.stream.specs.Known.{done_of, known_in, between_at, called_so, judged_after, AfterCustom}
use Rattle.stream.specs.Laws.Fields.{held_back}
use Rattle.stream.specs.declared.Spot.{Spot}
use Rattle.stream.specs.declared.Stream.{Stream}
use Rattle.stream.specs.declared.known.Known.{Known}
use Rattle.stream.proofs.States.{at, at_same, as_custom, as_sizing, as_naming, as_paying, as_failing}
use Rattle.stream.proofs.SectionLaws.{limit64, custom_on}

-- THE END OF A PAYLOAD

module _ {f : Stream} (k : Closing f × (f.phase ≡ 7) × (f.left ≡ 0)) where
  in_payload : (leb f.text f.total && row_fits (first_row f.row)) ≡ true
  in_payload = sym (ap (λ c. contents_fit c f.total) (as_paying f k.1)) ∙ k.0.fits

  pub payload_behind : f.text ≤ f.total
  payload_behind = on_both (leb f.text f.total) _ in_payload λ h r. leb-true f.text f.total h

  row_most : (row : ℕ) → row_fits (first_row row) ≡ true → row ≤ 3
  row_most zero e = omega arith
  row_most (suc row) e = let h = ltb-true row (length tracked) e in omega arith

  pub payload_row : f.row ≤ 3
  payload_row = on_both (leb f.text f.total) _ in_payload λ h r. row_most f.row r

  -- a count below a total of 64 bits
  pub payload_room : {g : Known} → g ≡ known_in f 0 → f.total < limit64 → g.count < most
  payload_room e h = let b = k.0.behind in let c = ap (λ g. g.count) e in omega arith

  abbrev spot : Spot
  spot = record { offset = f.text; length = f.total - f.text }

  module _ {g : Known} {x : Result Known Reason} (s : g ≡ known_in f 0) (q : AfterCustom g f.row spot 0 x) where
    closed : custom (done_from f) f.at f.left (contents_from f) f.total ≡ settled (judged_after f.at x)
    unfolding custom content_ends
    closed =
        (λ i. custom (done_from f) f.at (k.2 i) (as_paying f k.1 i) f.total)
        ∙ ap settled (ap (λ g. custom_done (done_of g) f.at (accepted (called_so f.row spot))) (sym s) ∙ q.says f.at)

    pub pays_not : {why : Reason} {n : ℕ} {r : Stream} → x ≡ Err why → n ≡ number_of why → Refuses f n f.at r → Closes f r
    pays_not e n u = record { means = u.means ∙ at_same refl (ap (λ x. settled (refused x f.at)) n ∙ sym (closed ∙ ap (λ x. settled (judged_after f.at x)) e)) }

    pub pays : {next : Known} {r : Stream} → x ≡ Ok next → r ≡ between_at f.total next → Closes f r
    unfolding held
    pays {next} e u = record { means = ap state_from u ∙ held_back (at f.total (settled (accepted (done_of next)))) ∙ at_same refl (sym (closed ∙ ap (λ x. settled (judged_after f.at x)) e)) }

pub ruleset payloads = (payload_behind, payload_row, payload_room, pays_not, pays, rules)

-- THE END OF A SECTION

module _ {f : Stream} (k : Closing f) where
  pub closes_on : (f.left ≡ 0 → ⊥) → Closes f f
  closes_on h = record { means = as_custom f k.inside ∙ at_same refl (sym (custom_on (done_from f) f.at f.left (contents_from f) f.total h)) }

  ended_with : {c : Contents} → f.left ≡ 0 → contents_from f ≡ c → custom (done_from f) f.at f.left (contents_from f) f.total ≡ settled (custom_done (done_from f) f.at (content_ends c f.total))
  unfolding custom
  ended_with z e = λ i. custom (done_from f) f.at (z i) (e i) f.total

  name_short : (begins text rest : ℕ) (t : _) (m : _) → contents_fit (naming begins text rest t m) f.total ≡ true → content_ends (naming begins text rest t m) f.total ≡ refused 2 begins
  unfolding content_ends
  name_short begins text zero t m h = on_both (ltb 0 0) (text_fits t) h λ l _. let z = ltb-true 0 0 l in absurd (omega arith)
  name_short begins text (suc rest) t m h = refl

  short : f.phase < 7 → content_ends (contents_from f) f.total ≡ refused 2 f.begins
  unfolding content_ends
  short h =
      by_test (eqb f.phase 5)
      (λ t. ap (λ c. content_ends c f.total) (as_sizing f (eqb-true f.phase 5 t)))
      (λ t. let e : f.phase ≡ 6 = let i = k.inside in let n = eqb-false f.phase 5 t in omega arith in
      let q = as_naming f e in
      ap (λ c. content_ends c f.total) q ∙ name_short f.begins f.text f.rest _ _ (sym (ap (λ c. contents_fit c f.total) q) ∙ k.fits))

  pub closes_short : {r : Stream} → f.left ≡ 0 → f.phase < 7 → Refuses f 2 f.begins r → Closes f r
  unfolding custom_done
  closes_short z h u = record { means = u.means ∙ at_same refl (sym (ended_with z refl ∙ ap (λ j. settled (custom_done (done_from f) f.at j)) (short h))) }

  pub closes_failing : {r : Stream} → f.left ≡ 0 → 7 ≤ f.phase → (f.phase ≡ 7 → ⊥) → Refuses f f.refusal f.text r → Closes f r
  unfolding custom_done content_ends
  closes_failing z h n u = record { means = u.means ∙ at_same refl (sym (ended_with z (as_failing f (omega arith)))) }

pub ruleset closings = (closes_on, closes_short, closes_failing, rules)
