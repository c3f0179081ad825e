-- Rules R1.13 and R19.3 of docs/RULES.md.
-- A list is a number n and n elements. Here each element is a number, above the one before, and a value: name maps, indirect maps and code metadata are such lists. Assumes nothing.
use Rattle.std.specs.Prelude.{ℕ, zero, suc, cond, leb, eqb}
use Rattle.std.proofs.Math.Option.{Option, none, some}
use Rattle.format.specs.Reading.{◌>>=◌, ◌>>◌, Reader, return, here, checked}
use Rattle.format.specs.Numbers.{number}
use Rattle.format.specs.declared.Reason.TheVariants.{NotAbove}

-- rows of a number and a value
pub data Table (A : Type 0) : Type 0 where
  nil : Table A
  row : ℕ → A → Table A → Table A

unfoldable pub size : {A : Type 0} → Table A → ℕ
size nil = zero
size (row k v t) = suc (size t)

-- the value with a number
unfoldable pub lookup : {A : Type 0} → ℕ → Table A → Option A
lookup k nil = none
lookup k (row i v t) = cond (eqb k i) (some v) (lookup k t)

unfoldable pub map_table : {A B : Type 0} → (A → B) → Table A → Table B
map_table f nil = nil
map_table f (row k v t) = row k (f v) (map_table f t)

module _ {A : Type 0} (value : Reader A) where
  -- n rows, the first number at least `least` and each above the one before; refusal 11 gives that number's offset
  unfoldable pub rows : (n least : ℕ) → Reader (Table A)
  rows zero least = return nil
  rows (suc n) least = do
    at ← here
    k ← number
    checked (leb least k) NotAbove at
    v ← value
    t ← rows n (suc k)
    return (row k v t)

  unfoldable pub table : Reader (Table A)
  table = do
    n ← number
    rows n 0
