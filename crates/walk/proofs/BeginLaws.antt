-- The preamble.
use Rattle.std.specs.Prelude.{Ok, Err}
use Prim.Native.Nat.{ℕ, suc, ◌+◌, ◌≤◌, ◌<◌}
use mathlib.Core.Bool.{Bool, true, false, false≢true}
use mathlib.Core.List.{List, [], ◌∷◌}
use mathlib.Core.Path.{◌≡◌, refl, sym, ◌∙◌}
use native.Mathlib.Nat.{add-zero}
use native.Mathlib.Omega.{arith}
use borrow.Author.Rules.{rules}
use lib.Dec.{eqb}
use lib.ListN.{length, take, drop}
use lib.Seq.{slice}
use Rattle.format.specs.Bytes.{same}
use Rattle.format.specs.Reading.{got, stop}
use Rattle.format.specs.Walk.{preamble, begins, nothing}
use Rattle.format.specs.Laws.Outcomes.{by_test}
use Rattle.format.specs.declared.Reason.TheVariants.{NoPreamble}
use Rattle.walk.specs.Steps.{Begins}
use Rattle.walk.proofs.BitLaws.{zero_bits}

-- as the code has it
abbrev preamble_bytes : List ℕ
preamble_bytes = 0x00 ∷ 0x61 ∷ 0x73 ∷ 0x6D ∷ 0x01 ∷ 0x00 ∷ 0x00 ∷ 0x00 ∷ []

-- a front that is the same, is not, or is too short
begins_same : (xs : List ℕ) (o : ℕ) (bs : List ℕ) → length xs ≤ length bs → same xs (take (length xs) bs) ≡ true → begins xs o bs ≡ got tt (o + length xs) (drop (length xs) bs)
unfolding begins same
begins_same [] o bs l e = rw add-zero
begins_same (x ∷ xs) o [] l e = absurd (omega arith)
begins_same (x ∷ xs) o (b ∷ bs) l e =
    by_test (eqb x b)
    (λ t. let far : o + suc (length xs) ≡ suc o + length xs = omega arith in rw (t, far) (begins_same xs (suc o) bs (omega arith) (rw t at e)))
    (λ t. absurd (false≢true (rw t at e)))

begins_other : (xs : List ℕ) (o : ℕ) (bs : List ℕ) → length xs ≤ length bs → same xs (take (length xs) bs) ≡ false → begins xs o bs ≡ stop 1 0
unfolding begins same
begins_other [] o bs l e = absurd (false≢true (sym e))
begins_other (x ∷ xs) o [] l e = refl
begins_other (x ∷ xs) o (b ∷ bs) l e = by_test (eqb x b) (λ t. rw t (begins_other xs (suc o) bs (omega arith) (rw t at e))) (λ t. rw t)

begins_short : (xs : List ℕ) (o : ℕ) (bs : List ℕ) → length bs < length xs → begins xs o bs ≡ stop 1 0
unfolding begins
begins_short [] o bs l = absurd (omega arith)
begins_short (x ∷ xs) o [] l = refl
begins_short (x ∷ xs) o (b ∷ bs) l = by_test (eqb x b) (λ t. rw t (begins_short xs (suc o) bs (omega arith))) (λ t. rw t)

module _ {m : List ℕ} where
  pub too_short : length m < 8 → Begins m (Err (record { reason = NoPreamble; offset = record { 0 = 0 } }))
  unfolding preamble
  too_short h = record { means = sym (begins_short preamble_bytes 0 m h); seen = tt }

  module _ {b : Bool} (h : 8 ≤ length m) (e : b ≡ same preamble_bytes (slice 0 8 m)) where
    pub begun : b ≡ true → Begins m (Ok (record { at = 8; seen = record { rank = 0; code = false; there = 0 } }))
    unfolding preamble nothing
    begun t = record { means = sym (begins_same preamble_bytes 0 m h (sym e ∙ t)); seen = ((λ i. record { rank = 0; code = false; there = λ row. zero_bits row i }), h) }

    pub not_begun : b ≡ false → Begins m (Err (record { reason = NoPreamble; offset = record { 0 = 0 } }))
    unfolding preamble
    not_begun t = record { means = sym (begins_other preamble_bytes 0 m h (sym e ∙ t)); seen = tt }

pub ruleset beginnings = (too_short, begun, not_begun, rules)
