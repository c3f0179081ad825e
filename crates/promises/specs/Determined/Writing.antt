-- Each promise of the crate `writing` determines what comes back.
use Rattle.std.specs.Prelude.{ℕ, ◌+◌, ◌≤◌, List}
use Rattle.format.proofs.Determined.{Determines1, DeterminesBoth3, Determines, equal_determined, also_determined}
use Rattle.writing.proofs.Laws.{wrote_same}
use Rattle.writing.specs.Wrote.{Wrote}
use Rattle.writing.specs.Promises.{WritingPutByte, WritingPutBytes, WritingPutLong, WritingPutDecimal, WritingNumberLength, WritingPutNumber}

-- One answer and one end state alone meet the promise that some bytes are written at a place
pub wrote_determined : (old : List ℕ) (at : ℕ) (bytes : List ℕ) → Determines (λ (r : ℕ × List ℕ). Wrote old r.1 at r.0 bytes)
wrote_determined old at bytes a b p q = let one = wrote_same p q in λ i. (one.1 i, one.0 i)

pub record Writing : Type 0 where
  writing_put_byte : DeterminesBoth3 WritingPutByte
  writing_put_bytes : DeterminesBoth3 WritingPutBytes
  writing_put_long : DeterminesBoth3 WritingPutLong
  writing_put_decimal : DeterminesBoth3 WritingPutDecimal
  writing_number_length : Determines1 WritingNumberLength
  writing_put_number : DeterminesBoth3 WritingPutNumber

pub determined : Writing
determined =
    record {
      writing_put_byte = λ old at b. wrote_determined _ _ _;
      writing_put_bytes = λ old at bytes. wrote_determined _ _ _;
      writing_put_long = λ old at bytes. wrote_determined _ _ _;
      writing_put_decimal = λ old at n. also_determined (λ r. r.0 ≤ at + 20) (wrote_determined _ _ _);
      writing_number_length = λ n. also_determined (λ r. r ≤ 5) (equal_determined _);
      writing_put_number = λ old at n. wrote_determined _ _ _;
    }
