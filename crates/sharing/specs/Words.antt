-- A word of a block, a byte of it, and its check, as code reads them.
use Rattle.std.specs.Prelude.{ℕ, ◌<◌, Bool, List, ◌≡◌, take, drop}
use Rattle.sharing.specs.Blocks.{little_endian, right}

pub record Byte (x value : ℕ) : Type 0 where
  pub is : value ≡ x
  pub small : value < 256

-- the word whose four bytes stand there
pub record WordAt (s : List ℕ) (at word : ℕ) : Type 0 where
  pub stands : take 4 (drop at s) ≡ little_endian word
  pub small : word < 4294967296

-- whether the check of the block that stands there is right
pub record RightAt (s : List ℕ) (at : ℕ) (says : Bool) : Type 0 where
  pub is : says ≡ right (take 512 (drop at s))
