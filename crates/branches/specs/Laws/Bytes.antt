-- The bodies of a module lie in it, and so they are bytes where the module is.
use Rattle.std.specs.Prelude.{ℕ, zero, suc, ◌-◌, List, ◌++◌, ◌≡◌, refl, ltb, eqb}
use Rattle.std.proofs.Math.Option.{Option, none, some}
use Rattle.std.proofs.Common.{◌∙◌}
use Rattle.std.proofs.Math.ListN.{get_elem?}
use Rattle.format.specs.Bytes.{Bytes}
use Rattle.format.specs.Numbers.{number}
use Rattle.format.specs.Older.{times, vector}
use Rattle.format.specs.Parts.{Part, sized}
use Rattle.format.specs.Reading.{got, accepted}
use Rattle.format.specs.Walk.{Section, walk, custom_payload}
use Rattle.format.proofs.Laws.Found.{SectionIn, Each, no_more, one_more, walk_in, payload_lies}
use Rattle.format.specs.Laws.Options.{not_some, some_is}
use Rattle.format.specs.Laws.Outcomes.{got_value, accepted_is, by_test, in_turn, ended, judged, mapped, followed}
use Rattle.format.proofs.Laws.Passing.{number_passes}
use Rattle.format.proofs.Laws.Places.{Lies, lies_step, PartIn, sized_located}
use Rattle.format.specs.Laws.Tight.{bytes_before, bytes_after}
use Rattle.branches.specs.Bodies.{bodies, body_of}
use Rattle.branches.specs.Branches.{contents_in, contents_of, bodies_in, function_bodies}

lies_bytes : {all : List ℕ} {o : ℕ} {bs : List ℕ} → Lies all o bs → Bytes all → Bytes bs
lies_bytes {bs = bs} l h = bytes_before bs l.after (bytes_after l.before (bs ++ l.after) (rw l.joined at h))

-- the contents of a section
contents_in_lem : {m : List ℕ} (id : ℕ) {ss : List Section} → Each (SectionIn m) ss → {p : Part} → contents_in id ss ≡ some p → PartIn m p
unfolding contents_in
contents_in_lem id no_more e = absurd (not_some e)
contents_in_lem id (one_more {v = s} i more) e = by_test (eqb s.id id) (λ t. rw (← some_is (rw t at e)) i.contents) (λ t. contents_in_lem id more (rw t at e))

-- so many bodies, and the one at a position
times_in : {m : List ℕ} (n o : ℕ) (bs : List ℕ) {ps : List Part} {o' : ℕ} {rest : List ℕ} → Lies m o bs → times sized n o bs ≡ got ps o' rest → Each (PartIn m) ps
unfolding times
times_in zero o bs l e = rw (← got_value e) no_more
times_in {m} (suc n) o bs l e =
    in_turn (sized o bs) _ e λ p o₁ r₁ e₁ e₂. in_turn (times sized n o₁ r₁) _ e₂ λ ps o₂ r₂ e₃ e₄.
    rw (← got_value e₄) (one_more (sized_located.value m o bs l e₁) (times_in n o₁ r₁ (sized_located.after m o bs p o₁ r₁ l e₁) e₃))

bodies_in_lem : {m : List ℕ} (found : Option Part) {parts : List Part} → ((p : Part) → found ≡ some p → PartIn m p) → bodies_in found ≡ accepted parts → Each (PartIn m) parts
unfolding bodies vector
bodies_in_lem none h e = rw (← accepted_is e) no_more
bodies_in_lem {m} (some p) h e =
    judged (bodies p.at p.bytes) e λ o rest e₀. in_turn (vector sized p.at p.bytes) _ e₀ λ ps o₁ r₁ e₁ e₂. ended ps o₁ r₁ e₂ λ _ q.
    in_turn (number p.at p.bytes) _ e₁ λ n o₂ r₂ e₃ e₄.
    rw (← q) (times_in n o₂ r₂ (number_passes (Lies m) (lies_step m) p.at p.bytes n o₂ r₂ (h p refl) e₃) e₄)

at_position : {A : Type 0} {P : A → Type 0} {xs : List A} → Each P xs → (i : ℕ) {x : A} → get_elem? xs i ≡ some x → P x
at_position no_more i e = absurd (not_some e)
at_position (one_more p more) zero e = rw (← some_is e) p
at_position (one_more p more) (suc i) e = at_position more i e

pub body_bytes : (m : List ℕ) {parts : List Part} (first : ℕ) → Bytes m → function_bodies m ≡ accepted parts → (f : ℕ) (body : Part) → body_of first parts f ≡ some body → Bytes body.bytes
unfolding function_bodies contents_of body_of
body_bytes m {parts} first h e f body is =
    followed (contents_of 10 m) bodies_in e λ found e₁ e₂. mapped (contents_in 10) (walk m) e₁ λ ss e₃ e₄.
    let all = bodies_in_lem found (λ p q. contents_in_lem 10 (walk_in m e₃) (e₄ ∙ q)) e₂ in
    by_test (ltb f first)
    (λ t. absurd (not_some (rw t at is)))
    (λ t. lies_bytes (at_position all (f - first) (rw t at is)) h)

-- the contents of a section, and a payload
pub contents_bytes : (m : List ℕ) (id : ℕ) {p : Part} → Bytes m → contents_of id m ≡ accepted (some p) → Bytes p.bytes
unfolding contents_of
contents_bytes m id h e = mapped (contents_in id) (walk m) e λ ss e₁ e₂. lies_bytes (contents_in_lem id (walk_in m e₁) e₂) h

pub payload_bytes : (x m : List ℕ) {p : Part} → Bytes m → custom_payload x m ≡ accepted (some p) → Bytes p.bytes
payload_bytes x m h e = lies_bytes (payload_lies x m e) h
