-- Each promise of the crate `copying` determines what comes back.
use Rattle.std.specs.Prelude.{ℕ, List}
use Rattle.format.proofs.Determined.{Determines1, Determines3, DeterminesBoth4, DeterminesBoth5, Determines, equal_determined}
use Rattle.format.specs.Reading.{Reader}
use Rattle.copying.proofs.Same.{measured_same, groups_same, put_same}
use Rattle.copying.specs.Standing.{Puts}
use Rattle.copying.specs.declared.Put.{Put}
use Rattle.reading.specs.declared.Cursor.{Cursor}
use Rattle.promises.specs.Determined.Writing.{wrote_determined}
use Rattle.copying.specs.Promises.{CopyingSizedLength, CopyingRowsLength, CopyingGroupsLength, CopyingPutPart, CopyingPutRows, CopyingPutGroups}

-- One answer and one end state alone meet the promise that what stands there is written
pub put_determined : {A : Type 0} (read : Reader A) (write : A → List ℕ) (s : List ℕ) (c : Cursor) (old : List ℕ) (at : ℕ) → Determines (λ (r : Put × List ℕ). Puts read write s c old r.1 at r.0)
put_determined read write s c old at a b p q = let one = put_same read write a.0 b.0 p q in λ i. (one.0 i, one.1 i)

pub record Copying : Type 0 where
  copying_sized_length : Determines1 CopyingSizedLength
  copying_rows_length : Determines3 CopyingRowsLength
  copying_groups_length : Determines3 CopyingGroupsLength
  copying_put_part : DeterminesBoth4 CopyingPutPart
  copying_put_rows : DeterminesBoth5 CopyingPutRows
  copying_put_groups : DeterminesBoth5 CopyingPutGroups

pub determined : Copying
determined =
    record {
      copying_sized_length = λ size. equal_determined _;
      copying_rows_length = λ c s n. measured_same _ _;
      copying_groups_length = λ c s n. groups_same;
      copying_put_part = λ old at part s. wrote_determined _ _ _;
      copying_put_rows = λ old at c s n. put_determined _ _ _ _ _ _;
      copying_put_groups = λ old at c s n. put_determined _ _ _ _ _ _;
    }
