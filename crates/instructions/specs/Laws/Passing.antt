-- What holds byte by byte holds after every piece of a body.
use Prim.Native.Nat.{ℕ, zero, suc, ◌+◌}
use mathlib.Core.List.{List, [], ◌∷◌}
use Rattle.std.specs.Prelude.{◌≡◌, ltb, leb, length}
use Rattle.std.proofs.Common.{leb-true}
use Rattle.format.specs.Reading.{got}
use Rattle.format.specs.Numbers.{number, limit32}
use Rattle.format.specs.Laws.Outcomes.{not_got, got_next, got_rest, by_test, in_turn, passed}
use Rattle.format.proofs.Laws.Passing.{Passes, number_passes, drop_passes}
use Rattle.instructions.specs.Immediates.{is_of, byte_of, bytes, index, indices, signed, labels, indirect, memory, immediates, instruction}
use Rattle.instructions.specs.Locals.{local_groups, locals}
use Rattle.instructions.specs.Opcodes.{shape_of}
use Rattle.instructions.specs.declared.pieces.ByteKind.{ByteKind}
use Rattle.instructions.specs.declared.shapes.Shape.{Shape}
use Rattle.instructions.specs.declared.shapes.Shape.TheVariants.{Plain, Block, Index, Table, Indirect, Memory, Zero, Const32, Const64, Float32, Float64, Unknown}

module _ (Holds : ℕ → List ℕ → Type 0) (step : (o b : ℕ) (bs : List ℕ) → Holds o (b ∷ bs) → Holds (suc o) bs) where
  byte_passes : (kind : ByteKind) → Passes Holds (byte_of kind)
  unfolding byte_of
  byte_passes kind o [] v o' rest h e = absurd (not_got e)
  byte_passes kind o (b ∷ bs) v o' rest h e =
      by_test (is_of kind b)
      (λ t. let e' : got tt (suc o) bs ≡ got v o' rest = rw t at e in rw (← got_next e', ← got_rest e') (step o b bs h))
      (λ t. absurd (not_got (rw t at e)))

  bytes_pass : (n : ℕ) → Passes Holds (bytes n)
  unfolding bytes
  bytes_pass n o bs v o' rest h e =
      passed (leb n (length bs)) _ _ _ _ _ e λ t e₁.
      rw (← got_next e₁, ← got_rest e₁) (drop_passes Holds step n o bs (leb-true n (length bs) t) h)

  index_passes : Passes Holds index
  index_passes o bs v o' rest h e =
      in_turn (number o bs) _ e λ n o₁ r₁ e₁ e₂.
      rw (← got_next e₂, ← got_rest e₂) (number_passes Holds step o bs n o₁ r₁ h e₁)

  indices_pass : (n : ℕ) → Passes Holds (indices n)
  unfolding indices
  indices_pass zero o bs v o' rest h e = rw (← got_next e, ← got_rest e) h
  indices_pass (suc n) o bs v o' rest h e =
      in_turn (index o bs) _ e λ u o₁ r₁ e₁ e₂. indices_pass n o₁ r₁ v o' rest (index_passes o bs u o₁ r₁ h e₁) e₂

  signed_passes : (following : ℕ) (last : ByteKind) → Passes Holds (signed following last)
  unfolding signed
  signed_passes zero last o bs v o' rest h e = byte_passes last o bs v o' rest h e
  signed_passes (suc following) last o [] v o' rest h e = absurd (not_got e)
  signed_passes (suc following) last o (b ∷ bs) v o' rest h e =
      by_test (ltb b 128)
      (λ t. let e' : got tt (suc o) bs ≡ got v o' rest = rw t at e in rw (← got_next e', ← got_rest e') (step o b bs h))
      (λ t. signed_passes following last (suc o) bs v o' rest (step o b bs h) (rw t at e))

  labels_pass : Passes Holds labels
  unfolding labels
  labels_pass o bs v o' rest h e =
      in_turn (number o bs) _ e λ n o₁ r₁ e₁ e₂. in_turn (indices n o₁ r₁) _ e₂ λ u o₂ r₂ e₃ e₄.
      index_passes o₂ r₂ v o' rest (indices_pass n o₁ r₁ u o₂ r₂ (number_passes Holds step o bs n o₁ r₁ h e₁) e₃) e₄

  pub immediates_pass : (shape : Shape) → Passes Holds (immediates shape)
  unfolding immediates indirect memory
  immediates_pass Plain o bs v o' rest h e = rw (← got_next e, ← got_rest e) h
  immediates_pass Block o bs v o' rest h e = byte_passes _ o bs v o' rest h e
  immediates_pass Index o bs v o' rest h e = index_passes o bs v o' rest h e
  immediates_pass Table o bs v o' rest h e = labels_pass o bs v o' rest h e
  immediates_pass Indirect o bs v o' rest h e = in_turn (index o bs) _ e λ u o₁ r₁ e₁ e₂. byte_passes _ o₁ r₁ v o' rest (index_passes o bs u o₁ r₁ h e₁) e₂
  immediates_pass Memory o bs v o' rest h e = in_turn (index o bs) _ e λ u o₁ r₁ e₁ e₂. index_passes o₁ r₁ v o' rest (index_passes o bs u o₁ r₁ h e₁) e₂
  immediates_pass Zero o bs v o' rest h e = byte_passes _ o bs v o' rest h e
  immediates_pass Const32 o bs v o' rest h e = signed_passes _ _ o bs v o' rest h e
  immediates_pass Const64 o bs v o' rest h e = signed_passes _ _ o bs v o' rest h e
  immediates_pass Float32 o bs v o' rest h e = bytes_pass _ o bs v o' rest h e
  immediates_pass Float64 o bs v o' rest h e = bytes_pass _ o bs v o' rest h e
  immediates_pass Unknown o bs v o' rest h e = absurd (not_got e)

  -- an instruction takes its opcode's byte at least
  pub instruction_passes : (o op : ℕ) (bs : List ℕ) {v : Unit {0}} {o' : ℕ} {rest : List ℕ} → Holds (suc o) bs → instruction o (op ∷ bs) ≡ got v o' rest → Holds o' rest
  unfolding instruction
  instruction_passes o op bs h e = immediates_pass (shape_of op) (suc o) bs _ _ _ h e

  groups_pass : (n before : ℕ) → Passes Holds (local_groups n before)
  unfolding local_groups
  groups_pass zero before o bs v o' rest h e = rw (← got_next e, ← got_rest e) h
  groups_pass (suc n) before o bs v o' rest h e =
      in_turn (number o bs) _ e λ count o₁ r₁ e₁ e₂. passed (ltb (before + count) limit32) _ _ _ _ _ e₂ λ t e₃.
      in_turn (byte_of _ o₁ r₁) _ e₃ λ u o₂ r₂ e₄ e₅.
      groups_pass n (before + count) o₂ r₂ v o' rest (byte_passes _ o₁ r₁ u o₂ r₂ (number_passes Holds step o bs count o₁ r₁ h e₁) e₄) e₅

  pub locals_pass : Passes Holds locals
  unfolding locals
  locals_pass o bs v o' rest h e =
      in_turn (number o bs) _ e λ n o₁ r₁ e₁ e₂. groups_pass n 0 o₁ r₁ v o' rest (number_passes Holds step o bs n o₁ r₁ h e₁) e₂
