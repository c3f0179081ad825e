-- K13: what the parts of the step are lent, and what each gives.
use Rattle.std.specs.Prelude.{ℕ, ◌/◌, ◌%◌, ◌≤◌, ◌<◌, Bool, List, map, ◌≡◌, length, get_or, take}
use Rattle.sharing.specs.Arrays.{marks_from, table_of}
use Rattle.sharing.specs.Blocks.{join}
use Rattle.sharing.specs.Table.{table, blocks, taken}
use Rattle.sharing.specs.Tidy.{moved, packed_blocks, packed_marks, tidied_table}
use Rattle.sharing.specs.declared.Table.{Table as Arrays}

-- a block of the store, and one no further back
pub record Before (store : List ℕ) (from to : ℕ) : Type 0 where
  pub inside : from < length store / 512
  pub before : to ≤ from

-- an array that says something of so many blocks
pub record Used (used : List Bool) (count : ℕ) : Type 0 where
  pub long : length used ≡ 128
  pub few : count ≤ 128

-- the same with the store of these blocks
pub record Packable (used : List Bool) (store : List ℕ) : Type 0 where
  pub said : Used used (length store / 512)
  pub whole : length store % 512 ≡ 0

-- it says of each block whether a row has it
pub record UsedBlocks (users sizes store : List ℕ) (used : List Bool) : Type 0 where
  pub able : Packable used store
  pub is : take (length store / 512) used ≡ taken 0 (marks_from users sizes) (blocks store)

pub record PacksBlocks (used : List Bool) (old new : List ℕ) : Type 0 where
  pub is : new ≡ join (packed_blocks (take (length old / 512) used) (blocks old))

pub record PacksRows (used : List Bool) (count : ℕ) (t r : Arrays) : Type 0 where
  pub is : table_of r ≡ table t.bytes t.holds (packed_marks (take count used) (table_of t).marks)

-- where each hold leads then
pub record LeadsFrom (used : List Bool) (count : ℕ) (to : List ℕ) : Type 0 where
  pub long : length to ≡ 256
  pub is : (x : ℕ) → x < 256 → get_or to x 0 ≡ moved (take count used) x

pub record Led (to : List ℕ) (entry r : ℕ) : Type 0 where
  pub small : entry < 256
  pub is : r ≡ get_or to entry 0

pub record LeadsHolds (to : List ℕ) (t r : Arrays) : Type 0 where
  pub is : (f : ℕ → ℕ) → ((x : ℕ) → x < 256 → get_or to x 0 ≡ f x) → table_of r ≡ table t.bytes (map f t.holds) (table_of t).marks

pub record TidiesTable (used : List Bool) (count : ℕ) (t r : Arrays) : Type 0 where
  pub is : table_of r ≡ tidied_table (table_of t) (take count used)
