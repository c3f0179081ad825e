-- THE PROMISES of the crate `writing`, each by the name of its function. They stand in the `ensures` of the public functions and nowhere else: what is shown of these names is shown of the functions. A promise relates what is lent to what comes back.
use Rattle.std.specs.Prelude.{ℕ, ◌+◌, ◌≤◌, List, [], ◌∷◌, ◌≡◌, length}
use Rattle.format.specs.Listing.{decimal}
use Rattle.format.specs.Numbers.{shortest}
use Rattle.writing.specs.Wrote.{Wrote}

-- writing
abbrev pub WritingPutByte : (old : List ℕ) (at b : ℕ) → List ℕ → ℕ → Type 0
WritingPutByte old at b new r = Wrote old new at r (b ∷ [])

abbrev pub WritingPutBytes : (old : List ℕ) (at : ℕ) (bytes : List ℕ) → List ℕ → ℕ → Type 0
WritingPutBytes old at bytes new r = Wrote old new at r bytes

abbrev pub WritingPutLong : (old : List ℕ) (at : ℕ) (bytes : List ℕ) → List ℕ → ℕ → Type 0
WritingPutLong old at bytes new r = Wrote old new at r bytes

abbrev pub WritingPutDecimal : (old : List ℕ) (at n : ℕ) → List ℕ → ℕ → Type 0
WritingPutDecimal old at n new r = Wrote old new at r (decimal n) × (r ≤ at + 20)

abbrev pub WritingNumberLength : (n : ℕ) → ℕ → Type 0
WritingNumberLength n r = (r ≡ length (shortest n)) × (r ≤ 5)

abbrev pub WritingPutNumber : (old : List ℕ) (at n : ℕ) → List ℕ → ℕ → Type 0
WritingPutNumber old at n new r = Wrote old new at r (shortest n)
