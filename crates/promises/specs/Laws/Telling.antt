-- K10: what the number reader and the calls that tell come to.
use Rattle.std.specs.Prelude.{ℕ, ◌+◌, ◌≤◌, ◌<◌, Bool, true, false, List, ◌++◌, ◌↔◌, ◌≡◌, refl, length, take, Ok}
use Rattle.std.proofs.Common.{sym, ap, ◌∙◌, arith, eqb-true, length-append, length-take}
use Rattle.format.specs.Bytes.{Bytes}
use Rattle.format.specs.Reading.{Judged, accepted, refused, Accepted, verdict}
use Rattle.format.specs.Numbers.{shortest}
use Rattle.format.specs.Outputs.{write_answer, output_after}
use Rattle.format.specs.Telling.{is_its_rewriting}
use Rattle.format.specs.Laws.Bytes.{same_true, same_self}
use Rattle.format.proofs.Laws.Codecs.{number_sound}
use Rattle.format.specs.Laws.Outcomes.{accepted_is, not_accepted}
use Rattle.format.proofs.Laws.Padding.{as_few_lem}
use Rattle.reading.specs.Cursors.{Inside, left}
use Rattle.reading.specs.Promises.{ReadingNumber}
use Rattle.reading.specs.declared.Cursor.{Cursor}
use Rattle.reading.proofs.Laws.{number_means, number_tells}
use Rattle.rewrite.proofs.WholeLaws.{bytes_left}
use Rattle.wakemiono.specs.Boundary.{wm_count, wm_judged, wm_yes, WmWrites}
use Rattle.wakemiono.specs.declared.WmAnswer.{WmAnswer}
use Rattle.promises.specs.Laws.Outputs.{wrote_there, wrote_first, wrote_refused}

-- a number took its fewest bytes exactly when the bytes read are its shortest form
pub number_told : (s : List ℕ) (c next : Cursor) (v : ℕ) (told : Bool) → Bytes s → Inside s c → ReadingNumber c s (Ok (v, next, told)) → (told ≡ true) ↔ (left s c ≡ shortest v ++ left s next)
number_told s c next v told h i n =
    let e = number_means n refl in
    let tells = number_tells n refl in (
      λ t. (number_sound c.at (left s c) e).tight.same (bytes_left s c h) (eqb-true (length (shortest v) + length (left s next)) (length (left s c)) (sym tells ∙ t)),
      λ q. tells ∙ as_few_lem (shortest v) (left s next) (left s c) (sym (ap length q ∙ length-append (shortest v) (left s next))),
    )

-- yes is 1, and no is 0
pub yes_one : (b : Bool) → (wm_yes b ≡ 1) ↔ (b ≡ true)
yes_one true = (λ _. refl, λ _. refl)
yes_one false = (λ e. absurd (omega arith), λ e. absurd (let z : ◌≡◌ {A = ℕ} 0 1 = cc in omega arith))

pub else_zero : (b : Bool) {y : ℕ} → y ≡ wm_yes b → (y ≡ 1 → ⊥) → y ≡ 0
else_zero true e n = absurd (n e)
else_zero false e n = e

-- what is written stands first
stands_first : {wanted : Judged (List ℕ)} {bytes old new : List ℕ} {a : WmAnswer} → wanted ≡ accepted bytes → length bytes ≤ length old → WmWrites wanted old new a → take a.length new ≡ bytes
stands_first {bytes = bytes} e room w = let there = wrote_there bytes room (rw e at w) in wrote_first there ∙ sym (accepted_is there.wants)

pub by_judged {ℓ} : {A : Type 0} {C : Type ℓ} (j : Judged A) → ((v : A) → j ≡ accepted v → C) → ((n at : ℕ) → j ≡ refused n at → C) → C
by_judged (accepted v) f g = f v refl
by_judged (refused n at) f g = g n at refl

-- what is its own rewriting
pub own : (r : Judged (List ℕ)) (p : List ℕ) → (is_its_rewriting r p ≡ true) ↔ (r ≡ accepted p)
unfolding is_its_rewriting
own (accepted w) p = (λ e. ap accepted (same_true w p e), λ e. rw (accepted_is e) (same_self p))
own (refused n at) p = (λ e. absurd (let z : ◌≡◌ {A = ℕ} 0 1 = cc in omega arith), λ e. absurd (not_accepted e))

module _ {A : Type 0} (judgement : List ℕ → Judged A) (rewriting : List ℕ → Judged (List ℕ))
    (first_judged : (p bytes : List ℕ) → rewriting p ≡ accepted bytes → Accepted judgement p)
    (shorter : (p bytes : List ℕ) → rewriting p ≡ accepted bytes → length bytes ≤ length p)
    (filled : (p : List ℕ) → Accepted judgement p → (n at : ℕ) → rewriting p ≡ refused n at → 0 < length p) where
  -- the judging call says found exactly of what is accepted
  judged_found : (n : ℕ) (j : Judged A) → ((wm_judged n (verdict j)).kind ≡ 1) → (v : A) × (j ≡ accepted v)
  judged_found n (accepted v) e = (v, refl)
  judged_found n (refused m at) e = absurd (omega arith)

  pub yes_told : (p : List ℕ) (y : ℕ) → y ≡ wm_yes (is_its_rewriting (rewriting p) p) → (y ≡ 1) ↔ (((j : WmAnswer) → j ≡ wm_judged (length p) (verdict (judgement p)) → j.kind ≡ 1) × ((old new : List ℕ) (a : WmAnswer) → length p ≤ length old → WmWrites (rewriting p) old new a → take a.length new ≡ p))
  yes_told p y told = (to, from)
    where
      is_own : y ≡ 1 → rewriting p ≡ accepted p
      is_own e = (own (rewriting p) p).0 ((yes_one (is_its_rewriting (rewriting p) p)).0 (sym told ∙ e))

      to : y ≡ 1 → ((j : WmAnswer) → j ≡ wm_judged (length p) (verdict (judgement p)) → j.kind ≡ 1) × ((old new : List ℕ) (a : WmAnswer) → length p ≤ length old → WmWrites (rewriting p) old new a → take a.length new ≡ p)
      to e =
          let it = is_own e in
          let a = first_judged p p it in
          (λ j says. rw (says, a.judged) refl, λ old new b room w. stands_first it room w)

      from : ((j : WmAnswer) → j ≡ wm_judged (length p) (verdict (judgement p)) → j.kind ≡ 1) × ((old new : List ℕ) (a : WmAnswer) → length p ≤ length old → WmWrites (rewriting p) old new a → take a.length new ≡ p) → y ≡ 1
      from both =
          let (v, e) = judged_found (length p) (judgement p) (both.0 (wm_judged (length p) (verdict (judgement p))) refl) in
          let a = wm_count (write_answer (length p) (rewriting p)) in
          let new = output_after (rewriting p) p in
          let writes : WmWrites (rewriting p) p new a = record { says = refl; leaves = refl } in
          let equal : take a.length new ≡ p = both.1 p new a (omega arith) writes in
          by_judged (rewriting p)
          (λ bytes wants. told ∙ (yes_one (is_its_rewriting (rewriting p) p)).1 ((own (rewriting p) p).1 (wants ∙ ap accepted (sym (stands_first wants (shorter p bytes wants) writes) ∙ equal))))
          -- what is refused writes nothing, and the payload is something
          (λ n at refuses. absurd (omega (arith, filled p (record { value = v; judged = e }) n at refuses, ap length equal, length-take a.length new, ap (λ (a : WmAnswer). a.length) (wrote_refused writes refuses))))
