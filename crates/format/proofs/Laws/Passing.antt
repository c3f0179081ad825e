-- What holds of an offset and the bytes left there, and goes on holding one byte further, holds after every reading. So a part's place, the bytes' range and the count of bytes need one law each, and not one for each reader.
use Prim.Native.Nat.{ℕ, zero, suc, ◌+◌, ◌*◌, ◌%◌, ◌≤◌}
use Rattle.std.specs.Prelude.{Bool, ◌≡◌, refl, ltb, leb, length, drop}
use mathlib.Core.List.{List, [], ◌∷◌}
use Rattle.std.proofs.Common.{add-zero, arith}
use Rattle.format.specs.Bytes.{Bytes}
use Rattle.format.specs.Reading.{got, Reader, return}
use Rattle.format.specs.Numbers.{groups, number}
use Rattle.format.specs.Parts.{Part, sized}
use Rattle.format.specs.Tables.{rows, table}
use Rattle.format.specs.Laws.Outcomes.{not_got, got_next, got_rest, by_test, in_turn}
use Rattle.format.specs.Laws.Turns.{in_sized, tested, in_tested, in_row, in_table}
use Rattle.format.specs.declared.Reason.{Reason}

abbrev pub Passes : {A : Type 0} → (ℕ → List ℕ → Type 0) → Reader A → Type 0
Passes {A} Holds read = (o : ℕ) (bs : List ℕ) (v : A) (o' : ℕ) (rest : List ℕ) → Holds o bs → read o bs ≡ got v o' rest → Holds o' rest

module _ (Holds : ℕ → List ℕ → Type 0) (step : (o b : ℕ) (bs : List ℕ) → Holds o (b ∷ bs) → Holds (suc o) bs) where
  groups_pass : (more first : ℕ) → Passes Holds (groups more first)
  unfolding groups
  groups_pass more first o [] v o' rest h e = absurd (not_got e)
  groups_pass zero first o (b ∷ bs) v o' rest h e =
      by_test (leb b 15)
      (λ t. let e' : got b (suc o) bs ≡ got v o' rest = rw t at e in rw (← got_next e', ← got_rest e') (step o b bs h))
      (λ t. absurd (not_got (rw t at e)))
  groups_pass (suc more) first o (b ∷ bs) v o' rest h e =
      by_test (ltb b 128)
      (λ t. let e' : got b (suc o) bs ≡ got v o' rest = rw t at e in rw (← got_next e', ← got_rest e') (step o b bs h))
      (λ t. in_turn (groups more first (suc o) bs) (λ w. return (b % 128 + 128 * w)) (rw t at e) λ w o₁ r₁ e₁ e₂.
      rw (← got_next e₂, ← got_rest e₂) (groups_pass more first (suc o) bs w o₁ r₁ (step o b bs h) e₁))

  pub number_passes : Passes Holds number
  unfolding number
  number_passes o bs v o' rest h e = groups_pass 4 o o bs v o' rest h e

  pub drop_passes : (n o : ℕ) (bs : List ℕ) → n ≤ length bs → Holds o bs → Holds (o + n) (drop n bs)
  drop_passes zero o bs l h = rw add-zero h
  drop_passes (suc n) o [] l h = absurd (omega arith)
  drop_passes (suc n) o (b ∷ bs) l h =
      let further = drop_passes n (suc o) bs (omega arith) (step o b bs h) in
      let q : o + suc n ≡ suc o + n = omega arith in
      rw q further

  pub sized_passes : Passes Holds sized
  sized_passes o bs v o' rest h e =
      in_sized o bs e λ n o₁ r₁ e₁ fit part next left.
      rw (← next, ← left) (drop_passes n o₁ r₁ fit (number_passes o bs _ o₁ r₁ h e₁))

  pub tested_passes : (test : List ℕ → Bool) (why : Reason) (spot : ℕ → Part → ℕ) → Passes Holds (tested test why spot)
  tested_passes test why spot o bs v o' rest h e = in_tested test why spot o bs e λ e₁ t. sized_passes o bs v o' rest h e₁

  module _ {A : Type 0} (read : Reader A) (value_Passes : Passes Holds read) where
    pub rows_pass : (n least : ℕ) → Passes Holds (rows read n least)
    unfolding rows
    rows_pass zero least o bs t o' rest h e = rw (← got_next e, ← got_rest e) h
    rows_pass (suc n) least o bs t o' rest h e =
        in_row read n least o bs e λ k o₁ r₁ v o₂ r₂ more e₁ above e₂ e₃ is.
        rows_pass n (suc k) o₂ r₂ more o' rest (value_Passes o₁ r₁ v o₂ r₂ (number_passes o bs _ o₁ r₁ h e₁) e₂) e₃

    pub table_passes : Passes Holds (table read)
    table_passes o bs t o' rest h e = in_table read o bs e λ n o₁ r₁ e₁ e₂. rows_pass n 0 o₁ r₁ t o' rest (number_passes o bs _ o₁ r₁ h e₁) e₂

-- bytes are followed by bytes
pub bytes_step : (o b : ℕ) (bs : List ℕ) → Bytes (b ∷ bs) → Bytes bs
bytes_step o b bs h i = h (suc i)

-- what was read is as long as the way that was gone
abbrev pub Reaches : ℕ → ℕ → List ℕ → Type 0
Reaches end o bs = o + length bs ≡ end

pub reach : {A : Type 0} {read : Reader A} → ((end : ℕ) → Passes (Reaches end) read) → (o : ℕ) (bs : List ℕ) {v : A} {o' : ℕ} {rest : List ℕ} → read o bs ≡ got v o' rest → o' + length rest ≡ o + length bs
reach passes o bs e = passes (o + length bs) o bs _ _ _ refl e

pub reach_step : (end o b : ℕ) (bs : List ℕ) → Reaches end o (b ∷ bs) → Reaches end (suc o) bs
reach_step end o b bs h = omega arith
