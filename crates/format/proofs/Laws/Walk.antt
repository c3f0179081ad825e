-- The walk reads a module to its end, and its sections follow one another with nothing between them.
use Rattle.std.specs.Prelude.{ℕ, zero, suc, ◌+◌, ◌≤◌, List, [], ◌∷◌, ◌≡◌, refl, eqb, length, drop}
use Rattle.std.proofs.Math.Option.{none, some}
use Rattle.std.proofs.Common.{sym, ap, ◌∙◌, add-one, arith, length-drop, length-take-le, drop-drop}
use Rattle.format.specs.Reading.{Outcome, got, stop, and_then, return, accepted, refused, judge, map_judged}
use Rattle.format.specs.Parts.{Part, sized}
use Rattle.format.specs.Walk.{preamble, begins, Section, Seen, nothing, seeing, section, step, sections, framing, walk, walk_from}
use Rattle.format.specs.Holding.{Framed, Covers, at_the_end_lem, a_section}
use Rattle.format.specs.Laws.Outcomes.{not_got, got_value, got_next, got_rest, by_test, by_outcome, in_turn, judged, stop_refused}
use Rattle.format.specs.Laws.Options.{not_some, some_is}
use Rattle.format.specs.Laws.Turns.{in_sized, in_section, in_sections}
use Rattle.format.proofs.Laws.Passing.{Passes, number_passes, sized_passes, Reaches, reach, reach_step}
use Rattle.format.proofs.Laws.Codecs.{sized_codec}

-- what holds byte by byte holds after the preamble
pub begins_passes : (Holds : ℕ → List ℕ → Type 0) → ((o b : ℕ) (bs : List ℕ) → Holds o (b ∷ bs) → Holds (suc o) bs) → (xs : List ℕ) → Passes Holds (begins xs)
unfolding begins
begins_passes Holds step [] o bs v o' rest h e = rw (← got_next e, ← got_rest e) h
begins_passes Holds step (x ∷ xs) o [] v o' rest h e = absurd (not_got e)
begins_passes Holds step (x ∷ xs) o (b ∷ bs) v o' rest h e =
    by_test (eqb x b)
    (λ t. begins_passes Holds step xs (suc o) bs v o' rest (step o b bs h) (rw t at e))
    (λ t. absurd (not_got (rw t at e)))

-- the preamble is as long as it is
pub begins_far : (xs : List ℕ) (o : ℕ) (bs : List ℕ) {v : Unit {0}} {o' : ℕ} {rest : List ℕ} → begins xs o bs ≡ got v o' rest → o + length xs ≡ o'
unfolding begins
begins_far [] o bs e = omega (arith, got_next e)
begins_far (x ∷ xs) o [] e = absurd (not_got e)
begins_far (x ∷ xs) o (b ∷ bs) e =
    by_test (eqb x b)
    (λ t. let far = begins_far xs (suc o) bs (rw t at e) in omega arith)
    (λ t. absurd (not_got (rw t at e)))

-- a sized part ends where the reading goes on
sized_ends : (o : ℕ) (bs : List ℕ) {p : Part} {o' : ℕ} {rest : List ℕ} → sized o bs ≡ got p o' rest → p.at + length p.bytes ≡ o'
sized_ends o bs e = in_sized o bs e λ n o₁ r₁ e₁ fit part next left. rw (← part) (omega (arith, length-take-le n r₁ fit, next))

-- the bytes left are the module's from the offset on
abbrev pub Onward : List ℕ → ℕ → List ℕ → Type 0
Onward m o bs = bs ≡ drop o m

pub onward_step : (m : List ℕ) (o b : ℕ) (bs : List ℕ) → Onward m o (b ∷ bs) → Onward m (suc o) bs
onward_step m o b bs h = ap (drop 1) h ∙ drop-drop 1 o m ∙ ap (λ n. drop n m) (add-one o)

onward_far : (m : List ℕ) (o b : ℕ) (bs : List ℕ) → Onward m o (b ∷ bs) → o + suc (length bs) ≡ length m
onward_far m o b bs h = omega (arith, ap length h, length-drop o m)

at_the_end : (m : List ℕ) (o : ℕ) {ss : List Section} → o ≡ length m → [] ≡ ss → Covers m o ss
at_the_end m o far is = rw (far, ← is) at_the_end_lem

framed : (m : List ℕ) (s : Section) (bs : List ℕ) {o' : ℕ} {rest : List ℕ} → Onward m s.at (s.id ∷ bs) → sized (suc s.at) bs ≡ got s.contents o' rest → Framed m s
framed m s bs h e =
    let h₁ = onward_step m s.at s.id bs h in
    in_sized (suc s.at) bs e λ n o₁ r₁ e₁ fit part next left.
    let h₂ = number_passes (Onward m) (onward_step m) (suc s.at) bs n o₁ r₁ h₁ e₁ in
    let len = length-take-le n r₁ fit in
    let far = reach (λ end. number_passes (Reaches end) (reach_step end)) (suc s.at) bs e₁ in
    record {
      id_byte = rw (← h);
      size_number = rw (← part, len, ← h₁, ← h₂) e₁;
      contents = rw (← part, len, ← h₂);
      inside = rw (← part) (omega (arith, len, far, onward_far m s.at s.id bs h));
    }

sections_cover : (m : List ℕ) (most : ℕ) (seen : Seen) (o : ℕ) (bs : List ℕ) {ss : List Section} {o' : ℕ} {rest : List ℕ} → length bs ≤ most → Onward m o bs → Reaches (length m) o bs → sections most seen o bs ≡ got ss o' rest → Covers m o ss
unfolding sections
sections_cover m zero seen o [] f h r e = at_the_end m o (omega arith) (got_value e)
sections_cover m zero seen o (b ∷ bs) f h r e = absurd (omega arith)
sections_cover m (suc most) seen o [] f h r e = at_the_end m o (omega arith) (got_value e)
sections_cover m (suc most) seen o (id ∷ bs) f h r e =
    in_sections most seen o id bs e λ s o₁ r₁ more e₀ e₃ is. in_section seen o id bs e₀ λ o₂ r₂ is_id is_at e₁ e₂.
    let next = sized_passes (Onward m) (onward_step m) (suc o) bs s.contents o₁ r₁ (onward_step m o id bs h) e₁ in
    let reached = sized_passes (Reaches (length m)) (reach_step (length m)) (suc o) bs s.contents o₁ r₁ (reach_step (length m) o id bs r) e₁ in
    let covered = sections_cover m most (seeing seen s) o₁ r₁ (omega (arith, (sized_codec.sound (suc o) bs e₁).shorter)) next reached e₃ in
    rw (← is, ← is_at) (a_section {s = s} {ss = more} (framed m s bs {o' = o₁} {rest = r₁} (rw (is_id, is_at) h) (rw is_at e₁)) (rw (sized_ends (suc o) bs e₁) covered))

-- an accepted module is covered by its sections, from the preamble to its end
pub walk_covers : (m : List ℕ) {ss : List Section} → walk m ≡ accepted ss → Covers m (length preamble) ss
unfolding walk framing
walk_covers m {ss} e =
    judged (framing 0 m) e λ o rest e₁. in_turn (begins preamble 0 m) _ e₁ λ v o₁ r₁ e₂ e₃.
    let far : length preamble ≡ o₁ = omega (arith, begins_far preamble 0 m e₂) in
    let next = begins_passes (Onward m) (onward_step m) preamble 0 m v o₁ r₁ refl e₂ in
    let reached = begins_passes (Reaches (length m)) (reach_step (length m)) preamble 0 m v o₁ r₁ (omega arith) e₂ in
    rw far (sections_cover m (length m) nothing o₁ r₁ (omega arith) next reached e₃)

-- The walk as its steps make it
judge_row : (s : Section) (r : Outcome (List Section)) → judge (and_then r (λ more. return (s ∷ more))) ≡ map_judged (λ more. s ∷ more) (judge r)
judge_row s (got more o bs) = refl
judge_row s (stop n at) = refl

section_shorter : (seen : Seen) (o id : ℕ) (bs : List ℕ) {s : Section} {o₁ : ℕ} {r₁ : List ℕ} → section seen o id (suc o) bs ≡ got s o₁ r₁ → length r₁ ≤ length bs
section_shorter seen o id bs e = in_section seen o id bs e λ o₂ r₂ _ _ e₁ _. omega (arith, (sized_codec.sound (suc o) bs e₁).shorter)

-- more than enough is as good as enough
pub sections_enough : (most most' : ℕ) (seen : Seen) (o : ℕ) (bs : List ℕ) → length bs ≤ most → length bs ≤ most' → sections most seen o bs ≡ sections most' seen o bs
unfolding sections
sections_enough zero zero seen o bs h h' = refl
sections_enough zero (suc most') seen o [] h h' = refl
sections_enough zero (suc most') seen o (b ∷ bs) h h' = absurd (omega arith)
sections_enough (suc most) zero seen o [] h h' = refl
sections_enough (suc most) zero seen o (b ∷ bs) h h' = absurd (omega arith)
sections_enough (suc most) (suc most') seen o [] h h' = refl
sections_enough (suc most) (suc most') seen o (id ∷ bs) h h' =
    by_outcome (section seen o id (suc o) bs)
    (λ s o₁ r₁ e. let l = section_shorter seen o id bs e in rw (e, sections_enough most most' (seeing seen s) o₁ r₁ (omega arith) (omega arith)))
    (λ n at e. rw e)

-- so a walk is its first step and the walk from there
step_section : (seen : Seen) (o id : ℕ) (bs : List ℕ) {s : Section} {o₁ : ℕ} {r₁ : List ℕ} → step seen o (id ∷ bs) ≡ got (some s) o₁ r₁ → section seen o id (suc o) bs ≡ got s o₁ r₁
unfolding step
step_section seen o id bs e =
    in_turn (section seen o id (suc o) bs) _ e λ s o₁ r₁ e₁ e₂.
    rw (some_is (got_value e₂), got_next e₂, got_rest e₂) at e₁

pub step_goes_on : (seen : Seen) (o : ℕ) (bs : List ℕ) {s : Section} {o₁ : ℕ} {r₁ : List ℕ} → step seen o bs ≡ got (some s) o₁ r₁ → judge (sections (length bs) seen o bs) ≡ map_judged (λ more. s ∷ more) (judge (sections (length r₁) (seeing seen s) o₁ r₁))
unfolding step sections
step_goes_on seen o [] e = absurd (not_some (got_value e))
step_goes_on seen o (id ∷ bs) {s} {o₁} {r₁} e =
    let e₁ = step_section seen o id bs e in
    let l = section_shorter seen o id bs e₁ in
    rw e₁ (judge_row s (sections (length bs) (seeing seen s) o₁ r₁) ∙ ap (λ r. map_judged (λ more. s ∷ more) (judge r)) (sections_enough (length bs) (length r₁) (seeing seen s) o₁ r₁ l (omega arith)))

pub step_refuses : (seen : Seen) (o : ℕ) (bs : List ℕ) {n at : ℕ} → step seen o bs ≡ stop n at → judge (sections (length bs) seen o bs) ≡ refused n at
unfolding step sections
step_refuses seen o [] e = absurd (not_got (sym e))
step_refuses seen o (id ∷ bs) e =
    by_outcome (section seen o id (suc o) bs)
    (λ s o₁ r₁ e₁. absurd (not_got (sym (rw e₁ at e))))
    (λ n at e₁. rw e₁ (stop_refused (rw e₁ at e)))

step_ends : (seen : Seen) (o : ℕ) (bs : List ℕ) {o₁ : ℕ} {r₁ : List ℕ} → step seen o bs ≡ got none o₁ r₁ → bs ≡ []
unfolding step
step_ends seen o [] e = refl
step_ends seen o (id ∷ bs) e = in_turn (section seen o id (suc o) bs) _ e λ s o₂ r₂ e₁ e₂. absurd (not_some (sym (got_value e₂)))

module _ (m : List ℕ) (seen : Seen) (o : ℕ) where
  pub walk_ended : {o₁ : ℕ} {r₁ : List ℕ} → step seen o (drop o m) ≡ got none o₁ r₁ → walk_from m seen o ≡ accepted []
  unfolding walk_from sections
  walk_ended e = rw (step_ends seen o (drop o m) e)

  pub walk_stepped : {s : Section} {o₁ : ℕ} → step seen o (drop o m) ≡ got (some s) o₁ (drop o₁ m) → walk_from m seen o ≡ map_judged (λ more. s ∷ more) (walk_from m (seeing seen s) o₁)
  unfolding walk_from
  walk_stepped e = step_goes_on seen o (drop o m) e

  pub walk_refused : {n at : ℕ} → step seen o (drop o m) ≡ stop n at → walk_from m seen o ≡ refused n at
  unfolding walk_from
  walk_refused e = step_refuses seen o (drop o m) e

-- a module that begins as it must is walked from behind the preamble; any other is refused
pub walk_begun : (m : List ℕ) {o : ℕ} → begins preamble 0 m ≡ got tt o (drop o m) → walk m ≡ walk_from m nothing o
unfolding walk framing walk_from
walk_begun m {o} e = rw e (ap judge (sections_enough (length m) (length (drop o m)) nothing o (drop o m) (omega (arith, length-drop o m)) (omega arith)))

pub walk_not_begun : (m : List ℕ) {n at : ℕ} → begins preamble 0 m ≡ stop n at → walk m ≡ refused n at
unfolding walk framing
walk_not_begun m e = rw e
