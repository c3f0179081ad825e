-- The state as a caller holds it: one law for each way through the code.
use Prim.Native.Nat.{ℕ, zero, suc, ◌<◌}
use mathlib.Core.Path.{◌≡◌, refl, sym, ap, ◌∙◌}
use native.Mathlib.Omega.{arith}
use borrow.Author.Rules.{rules}
use borrow.Author.Tests.{eqb-true, eqb-false, leb-true, leb-false}
use lib.Dec.{leb, eqb}
use Rattle.format.specs.Laws.Outcomes.{by_test}
use Rattle.stream.specs.Contents.{Contents}
use Rattle.stream.specs.Stream.{Phase, in_custom_lem}
use Rattle.stream.specs.Fields.{in_phase, held, done_from, contents_from, state_from}
use Rattle.stream.specs.Phases.{blank_at, behind_of}
use Rattle.stream.specs.Known.{known_in, between_at, skipping_at, paying_at}
use Rattle.stream.specs.declared.Stream.{Stream}
use Rattle.stream.specs.declared.known.Known.{Known}
use Rattle.stream.proofs.States.{at, at_same, as_starting, as_between, as_refused, as_measuring, as_skipping, as_custom, as_sizing, as_naming, as_paying, as_failing}
use Rattle.stream.proofs.SectionLaws.{mixed}

pub behind_is : (f : Stream) {x : Stream} {k : Known} → k ≡ known_in f 0 → x ≡ between_at f.total k → x ≡ behind_of f
behind_is f e q = q ∙ ap (between_at f.total) e

pub ruleset behinds = (behind_is, rules)

-- ALL THAT A PHASE HAS USE FOR

held_at : (f : Stream) {p : Phase} → state_from f ≡ at f.total p → held (state_from f) ≡ in_phase f.total p
unfolding held
held_at f e = ap held e

module _ (f : Stream) where
  pub tidy_starting : {x : Stream} → x ≡ blank_at f.total 0 → f.phase ≡ 0 → x ≡ held (state_from f)
  tidy_starting e p = e ∙ sym (held_at f (as_starting f p))

  pub tidy_refused : {x : Stream} → x ≡ blank_at f.total 2 → f.phase ≡ 2
      → mixed x x.phase x.id x.at x.left x.come x.low x.begins f.text x.rest x.wanted x.least x.point x.met x.row f.refusal ≡ held (state_from f)
  tidy_refused e p = ap (λ x. mixed x x.phase x.id x.at x.left x.come x.low x.begins f.text x.rest x.wanted x.least x.point x.met x.row f.refusal) e ∙ sym (held_at f (as_refused f p))

  module _ {k : Known} (e : k ≡ known_in f 0) {x : Stream} where
    pub tidy_skipping : x ≡ skipping_at f.total k f.at f.left → f.phase ≡ 4 → x ≡ held (state_from f)
    tidy_skipping q p = q ∙ ap (λ k. skipping_at f.total k f.at f.left) e ∙ sym (held_at f (as_skipping f p))

    pub tidy_paying : x ≡ paying_at f.total k f.at f.left f.row f.text → f.phase ≡ 7 → x ≡ held (state_from f)
    tidy_paying q p = q ∙ ap (λ k. paying_at f.total k f.at f.left f.row f.text) e ∙ sym (held_at f (as_custom f (omega arith) ∙ at_same refl (ap (in_custom_lem (done_from f) f.at f.left) (as_paying f p))))

  module _ {x : Stream} (e : x ≡ behind_of f) where
    pub tidy_between : f.phase ≡ 1 → x ≡ held (state_from f)
    tidy_between p = e ∙ sym (held_at f (as_between f p))

    pub tidy_measuring : f.phase ≡ 3
        → mixed x 3 f.id f.at x.left f.come f.low x.begins x.text x.rest x.wanted x.least x.point x.met x.row x.refusal ≡ held (state_from f)
    tidy_measuring p = ap (λ x. mixed x 3 f.id f.at x.left f.come f.low x.begins x.text x.rest x.wanted x.least x.point x.met x.row x.refusal) e ∙ sym (held_at f (as_measuring f p))

pub in_custom : (p : ℕ) → (p ≡ 0 → ⊥) → (p ≡ 2 → ⊥) → (p ≡ 1 → ⊥) → (p ≡ 4 → ⊥) → (p ≡ 3 → ⊥) → 4 < p
in_custom zero a b c d e = absurd (a refl)
in_custom (suc zero) a b c d e = absurd (c refl)
in_custom (suc (suc zero)) a b c d e = absurd (b refl)
in_custom (suc (suc (suc zero))) a b c d e = absurd (e refl)
in_custom (suc (suc (suc (suc zero)))) a b c d e = absurd (d refl)
in_custom (suc (suc (suc (suc (suc p))))) a b c d e = omega arith

pub ruleset tidying = (tidy_starting, tidy_refused, tidy_skipping, tidy_paying, tidy_between, tidy_measuring, in_custom, rules)

-- of a custom section
module _ (f : Stream) {x : Stream} (k : (x ≡ behind_of f) × (4 < f.phase) × (f.phase ≡ 7 → ⊥)) where
  custom_at : {c : Contents} → contents_from f ≡ c → held (state_from f) ≡ in_phase f.total (in_custom_lem (done_from f) f.at f.left c)
  custom_at q = held_at f (as_custom f k.1 ∙ at_same refl (ap (in_custom_lem (done_from f) f.at f.left) q))

  pub tidy_sizing : f.phase ≡ 5
      → mixed x 5 x.id f.at f.left f.come f.low f.begins x.text x.rest x.wanted x.least x.point x.met x.row x.refusal ≡ held (state_from f)
  tidy_sizing p =
      ap (λ x. mixed x 5 x.id f.at f.left f.come f.low f.begins x.text x.rest x.wanted x.least x.point x.met x.row x.refusal) k.0
      ∙ sym (custom_at (as_sizing f p))

  pub tidy_naming : f.phase ≡ 6
      → mixed x 6 x.id f.at f.left x.come x.low f.begins f.text f.rest f.wanted f.least f.point f.met x.row x.refusal ≡ held (state_from f)
  tidy_naming p =
      ap (λ x. mixed x 6 x.id f.at f.left x.come x.low f.begins f.text f.rest f.wanted f.least f.point f.met x.row x.refusal) k.0
      ∙ sym (custom_at (as_naming f p))

  pub tidy_failing : (f.phase ≡ 5 → ⊥) → (f.phase ≡ 6 → ⊥)
      → mixed x 8 x.id f.at f.left x.come x.low x.begins f.text x.rest x.wanted x.least x.point x.met x.row f.refusal ≡ held (state_from f)
  tidy_failing b c =
      let h = k.1 in let a = k.2 in
      ap (λ x. mixed x 8 x.id f.at f.left x.come x.low x.begins f.text x.rest x.wanted x.least x.point x.met x.row f.refusal) k.0
      ∙ sym (custom_at (as_failing f (above f.phase h a b c)))
    where
      above : (p : ℕ) → 4 < p → (p ≡ 7 → ⊥) → (p ≡ 5 → ⊥) → (p ≡ 6 → ⊥) → 7 < p
      above p h a b c =
          by_test (leb p 7)
          (λ t. by_test (eqb p 7) (λ u. absurd (a (eqb-true p 7 u))) (λ u. by_test (eqb p 6) (λ v. absurd (c (eqb-true p 6 v))) (λ v. absurd (b (let q = leb-true p 7 t in let r = eqb-false p 7 u in let s = eqb-false p 6 v in omega arith)))))
          (λ t. leb-false p 7 t)

pub ruleset tidying_custom = (tidy_sizing, tidy_naming, tidy_failing, rules)
