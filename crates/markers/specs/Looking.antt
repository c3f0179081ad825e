-- What a look at the lists tells. Assumes nothing.
use Rattle.std.specs.Prelude.{ℕ, ◌+◌, ◌≤◌, ◌<◌, Bool, true, false, List, ◌≡◌, length, get_or, Ok, Err, Some, None}
use Rattle.format.specs.MarkerRule.{AtFault, FirstFault, NoFault, LastNotAbove, AllAbove}
use Rattle.markers.specs.Returned.{Looked}

-- each of `n` numbers from `i` on is below the one behind it
pub record Rises (list : List ℕ) (i n : ℕ) (told : Bool) : Type 0 where
  pub all_rise : told ≡ true → (k : ℕ) → i ≤ k → k < i + n → get_or list k 0 < get_or list (k + 1) 0

-- in both lists each of sixteen numbers from `i` on is, and the last offset is below the end
pub record SoundOn (is os : List ℕ) (end i : ℕ) (told : Bool) : Type 0 where
  pub indices : Rises is i 16 told
  pub offsets : Rises os i 16 told
  pub below : told ≡ true → get_or os (i + 16) 0 < end

-- no position up to `i` is at fault
pub record Sound (is os : List ℕ) (end i : ℕ) : Type 0 where
  pub within : i < length is
  pub none_at : (j : ℕ) → j ≤ i → AtFault end is os j → ⊥

-- a position that is not above the key, if the first one is not
pub record Near (is : List ℕ) (key i : ℕ) : Type 0 where
  pub within : i < length is
  pub not_above : get_or is 0 0 ≤ key → get_or is i 0 ≤ key

pub record InBlocks (is os : List ℕ) (end key position near : ℕ) : Type 0 where
  pub sound : Sound is os end position
  pub is_near : Near is key near

-- whether one position is at fault
pub record TellsFault (is os : List ℕ) (end i : ℕ) (told : Bool) : Type 0 where
  pub fault : told ≡ true → AtFault end is os i
  pub fine : told ≡ false → AtFault end is os i → ⊥

-- the first position at fault, or the length where none is
pub record FaultBehind (is os : List ℕ) (end r : ℕ) : Type 0 where
  pub at_fault : r < length is → FirstFault end is os r
  pub no_fault : length is ≤ r → NoFault end is os

-- a position from which on the list is above the key
pub record LastFrom (is : List ℕ) (near key r : ℕ) : Type 0 where
  pub within : r < length is
  pub not_above : get_or is near 0 ≤ key → get_or is r 0 ≤ key
  pub next_above : r + 1 < length is → key < get_or is (r + 1) 0

-- the marker to begin at
pub record Begins (is os : List ℕ) (end key o : ℕ) : Type 0 where
  pub position : ℕ
  pub last : LastNotAbove key is position
  pub is_offset : o ≡ get_or os position 0
  pub below : o < end

abbrev pub looked : (is os : List ℕ) (end key : ℕ) → Looked → Type 0
looked is os end key (Err i) = FirstFault end is os i
looked is os end key (Ok None) = NoFault end is os × AllAbove key is
looked is os end key (Ok (Some o)) = NoFault end is os × Begins is os end key o

pub record Looks (is os : List ℕ) (end key : ℕ) (r : Looked) : Type 0 where
  pub finds : looked is os end key r
