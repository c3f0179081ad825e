-- What a part begins in the middle of: one law for each way through the code.
use Rattle.std.specs.Prelude.{Result, Ok, Err, Some}
use Rattle.std.specs.Result.{result_ok}
use Prim.Native.Nat.{ℕ, zero, suc, ◌+◌, ◌-◌, ◌≤◌, ◌<◌}
use mathlib.Core.Bool.{Bool, true, ◌&&◌}
use mathlib.Core.List.{List}
use mathlib.Core.Path.{◌≡◌, refl, sym, ap, ◌∙◌}
use native.Mathlib.Omega.{arith}
use borrow.Author.Rules.{rules}
use borrow.Author.Tests.{leb-true, ltb-true}
use lib.Dec.{leb}
use lib.ListN.{length}
use lib.Seq.{slice, slice_empty, length-slice}
use Rattle.format.specs.Bytes.{same}
use Rattle.format.specs.Reading.{accepted}
use Rattle.format.specs.Walk.{preamble, tracked}
use Rattle.format.specs.Laws.Bytes.{same_true}
use Rattle.format.specs.Laws.Outcomes.{on_both}
use Rattle.format.specs.declared.Reason.{Reason}
use Rattle.reading.specs.Cursors.{left}
use Rattle.stream.specs.Contents.{paying, content_ends}
use Rattle.stream.specs.Stream.{nothing_done, custom_done, starting, settled, skip, custom, State, standing, start, start_byte, byte, step, steps}
use Rattle.stream.specs.Calls.{most}
use Rattle.stream.specs.Fields.{first_row, done_from, contents_from, state_from}
use Rattle.stream.specs.Fits.{row_fits, contents_fit}
use Rattle.stream.specs.Phases.{Feeding, blank_at}
use Rattle.stream.specs.Known.{done_of, known_in, called_so, AfterCustom, PayloadHere, Led, Leads}
use Rattle.stream.specs.Laws.Bulk.{skip_many, contents_many, paying_stays}
use Rattle.stream.specs.declared.Spot.{Spot}
use Rattle.stream.specs.declared.Stream.{Stream}
use Rattle.stream.specs.Returned.{Lead}
use Rattle.stream.specs.declared.known.Known.{Known}
use Rattle.stream.proofs.States.{at_same, as_starting, as_between, as_skipping, as_custom, as_paying, skipping_left, custom_count, custom_left, custom_contents}
use Rattle.stream.proofs.SectionLaws.{limit64, preamble_so, skip_on, custom_on}

-- THE PREAMBLE

preamble_steps : steps (standing 0 starting) preamble_so ≡ standing 8 (settled (accepted nothing_done))
unfolding steps step byte start_byte start preamble
preamble_steps = refl

pub preamble_led : {f : Stream} {part : List ℕ} {g : Known} {x : Stream} {is : Bool} → f.phase ≡ 0 → f.total ≡ 0 → 8 ≤ length part → is ≡ same preamble_so (slice 0 8 part) → is ≡ true → x ≡ blank_at 0 1 → g ≡ known_in x 8 → Leads f part (Some g)
preamble_led {f} {part} {g} {x} p z h s e b k =
    let is : preamble_so ≡ slice 0 8 part = same_true preamble_so (slice 0 8 part) (sym s ∙ e) in
    let known : g ≡ known_in (blank_at 0 1) 8 = k ∙ ap (λ x. known_in x 8) b in
    record {
      says = rw known (record {
        within = h;
        means =
            ap (λ n. standing (n + 8) (settled (accepted nothing_done))) z
            ∙ sym preamble_steps
            ∙ (λ j. steps (sym (as_starting f p ∙ ap (λ n. standing n starting) z) j) (is j));
      });
    }

pub ruleset preamble_leads = (preamble_led, rules)

-- BETWEEN TWO SECTIONS, OR IN CONTENTS THAT NOBODY READS

module _ {f : Stream} {part : List ℕ} (k : Feeding f part) where
  pub between_led : {g : Known} → f.phase ≡ 1 → g ≡ known_in f 0 → Leads f part (Some g)
  unfolding steps
  between_led p e =
      let none : f.total + 0 ≡ f.total = omega arith in
      record { says = rw e (record { within = omega arith; means = ap (λ n. standing n (settled (accepted (done_from f)))) none ∙ sym (ap (steps (state_from f)) (slice_empty 0 part) ∙ as_between f p) }) }

  pub skipping_led : {g : Known} → f.left ≤ length part → f.phase ≡ 4 → g ≡ known_in f f.left → Leads f part (Some g)
  unfolding skip
  skipping_led {g} h p e =
      let l = skipping_left k.fit p in
      let long : length (slice 0 f.left part) ≡ f.left = length-slice 0 f.left part h ∙ omega arith in
      let none : f.left - f.left ≡ 0 = omega arith in
      record {
        says = rw e (record {
          within = h;
          means = sym (
              ap (λ (s : State). steps s (slice 0 f.left part)) (as_skipping f p ∙ at_same refl (sym (skip_on (done_from f) f.at f.left (λ z. omega arith))))
              ∙ skip_many (done_from f) f.at f.left f.total (slice 0 f.left part) (omega arith)
              ∙ ap (λ n. standing (f.total + n) (skip (done_from f) f.at (f.left - n))) long
              ∙ ap (λ n. standing (f.total + f.left) (skip (done_from f) f.at n)) none);
        });
      }

  pub payload_here : f.left ≤ length part → f.phase ≡ 7 → PayloadHere f part
  payload_here h p = record { feeding = k; phase = p; left = h }

pub ruleset leads = (between_led, skipping_led, payload_here, rules)

-- A PAYLOAD

module _ {f : Stream} {part : List ℕ} (k : PayloadHere f part) where
  inside : 4 < f.phase
  inside = let p = k.phase in omega arith

  in_payload : (leb f.text f.total && row_fits (first_row f.row)) ≡ true
  in_payload = sym (ap (λ c. contents_fit c f.total) (as_paying f k.phase)) ∙ custom_contents k.feeding.fit inside

  text_behind : f.text ≤ f.total
  text_behind = on_both (leb f.text f.total) _ in_payload λ h r. leb-true f.text f.total h

  pub led_text : f.text ≤ f.total + f.left
  led_text = let h = text_behind in omega arith

  pub led_adds : f.total + f.left < limit64
  led_adds = let r = k.feeding.room in let l = k.left in omega arith

  row_most : (row : ℕ) → row_fits (first_row row) ≡ true → row ≤ 3
  row_most zero e = omega arith
  row_most (suc row) e = let h = ltb-true row (length tracked) e in omega arith

  pub led_row : f.row ≤ 3
  led_row = on_both (leb f.text f.total) _ in_payload λ h r. row_most f.row r

  pub led_count : {g : Known} → g ≡ known_in f 0 → g.count < most
  led_count e =
      let c = custom_count k.feeding.fit inside in let l = custom_left k.feeding.fit inside in let r = k.feeding.room in let w = k.left in
      let q = ap (λ g. g.count) e in
      omega arith

  abbrev spot : Spot
  spot = record { offset = f.text; length = (f.total + f.left) - f.text }

  payload_over : {g next : Known} → g ≡ known_in f 0 → AfterCustom g f.row spot f.left (Ok next) → Led f part next
  unfolding custom content_ends
  payload_over {g} {next} e q =
      let l = custom_left k.feeding.fit inside in
      let long : length (slice 0 f.left part) ≡ f.left = length-slice 0 f.left part k.left ∙ omega arith in
      let none : f.left - f.left ≡ 0 = omega arith in
      let a : next.at ≡ f.left = q.at next refl in
      let end : ℕ = f.total + f.left in
      record {
        within = let h = k.left in omega arith;
        means =
            ap (λ n. standing (f.total + n) (settled (accepted (done_of next)))) a
            ∙ sym (ap (λ n. steps (state_from f) (slice 0 n part)) a
            ∙ ap (λ (s : State). steps s (slice 0 f.left part)) (as_custom f inside ∙ at_same refl (sym (custom_on (done_from f) f.at f.left (contents_from f) f.total (λ z. omega arith)) ∙ ap (λ c. custom (done_from f) f.at f.left c f.total) (as_paying f k.phase)))
            ∙ contents_many (paying (first_row f.row) f.text) (paying_stays (first_row f.row) f.text) (done_from f) f.at f.left f.total (slice 0 f.left part) (omega arith)
            ∙ ap (λ n. standing (f.total + n) (custom (done_from f) f.at (f.left - n) (paying (first_row f.row) f.text) (f.total + n))) long
            ∙ ap (λ n. standing (f.total + f.left) (custom (done_from f) f.at n (paying (first_row f.row) f.text) (f.total + f.left))) none
            ∙ ap (λ j. standing (f.total + f.left) (settled j)) (ap (λ g. custom_done (done_of g) f.at (accepted (called_so f.row spot))) (sym e) ∙ q.says f.at));
      }

  pub payload_led : {g : Known} {x : Result Known Reason} {r : Lead} → g ≡ known_in f 0 → AfterCustom g f.row spot f.left x → r ≡ result_ok x → Leads f part r
  payload_led {x = Ok next} e q b = rw b (record { says = payload_over e q })
  payload_led {x = Err why} e q b = rw b (record { says = tt })

pub ruleset payload_leads = (led_text, led_adds, led_row, led_count, payload_led, rules)
