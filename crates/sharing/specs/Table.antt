-- Rules R16.1, R16.3, R16.5, R16.6 and R16.14 of docs/RULES.md.
-- The shared table and its walks. A row is known by its first block: the table has a mark for each block, and a hold is 0 or one more than the first block of its row.
use Rattle.std.specs.Prelude.{ℕ, zero, suc, ◌+◌, ◌/◌, ◌%◌, pred, max, Bool, true, false, not, cond, ◌&&◌, List, [], ◌∷◌, ◌++◌, ltb, leb, eqb, length, take, drop, replicate}
use Rattle.std.proofs.Math.Option.{Option, none, some}
use Rattle.format.specs.Bytes.{same}
use Rattle.sharing.specs.Blocks.{need, gather, are_all_right, cut}
use Rattle.sharing.specs.Model.{after}

-- Of a block: 0 users and size 0, or the users and the length of the payload whose first block it is
pub record Mark : Type 0 where
  pub users : ℕ
  pub size : ℕ

abbrev pub mark : ℕ → ℕ → Mark
mark u n = record { users = u; size = n }

abbrev pub blank : Mark
blank = mark 0 0

-- `bytes`: the store's length at the start; 128 holds; 128 marks
pub record Table : Type 0 where
  pub bytes : ℕ
  pub holds : List ℕ
  pub marks : List Mark

abbrev pub table : ℕ → List ℕ → List Mark → Table
table n h k = record { bytes = n; holds = h; marks = k }

unfoldable pub started : ℕ → Table
started n = table n (replicate 128 0) (replicate 128 blank)

-- 30: 1 to 128 whole blocks, as at the start
unfoldable pub length_fits : (bytes length : ℕ) → Bool
length_fits bytes n = eqb n bytes && (eqb (n % 512) 0 && (ltb 0 n && leb n 65536))

abbrev pub fits : Table → List ℕ → Bool
fits t store = length_fits t.bytes (length store)

unfoldable pub blocks : List ℕ → List (List ℕ)
blocks store = cut (length store / 512) store

-- Walks over the marks and the blocks

-- every block of every row is there with a right check
unfoldable pub rows_right : List Mark → List (List ℕ) → Bool
rows_right [] bs = true
rows_right (m ∷ ms) [] = true
rows_right (m ∷ ms) (b ∷ bs) = cond (eqb m.users 0) (rows_right ms bs) (are_all_right (need m.size) (b ∷ bs) && rows_right ms bs)

-- the first row that holds these bytes
unfoldable pub find : List ℕ → List Mark → List (List ℕ) → Option ℕ
find q [] bs = none
find q (m ∷ ms) [] = none
find q (m ∷ ms) (b ∷ bs) = cond (not (eqb m.users 0) && same (gather m.size (b ∷ bs)) q) (some 0) (after (find q ms bs))

-- the blocks that a row at this mark takes
unfoldable pub reach : Mark → ℕ
reach m = cond (eqb m.users 0) 0 (need m.size)

-- for each block whether a row has it; the first `cover` are had by rows before
unfoldable pub taken : (cover : ℕ) → List Mark → List (List ℕ) → List Bool
taken cover [] bs = []
taken cover (m ∷ ms) [] = []
taken cover (m ∷ ms) (b ∷ bs) = ltb 0 (max cover (reach m)) ∷ taken (pred (max cover (reach m))) ms bs

unfoldable pub starts_free : ℕ → List Bool → Bool
starts_free zero ts = true
starts_free (suc k) [] = false
starts_free (suc k) (true ∷ ts) = false
starts_free (suc k) (false ∷ ts) = starts_free k ts

-- where the first k free blocks in a row start
unfoldable pub first_run : ℕ → List Bool → Option ℕ
first_run k [] = none
first_run k (t ∷ ts) = cond (starts_free k (t ∷ ts)) (some 0) (after (first_run k ts))

-- blocks written over others from a place on
unfoldable pub paste : ℕ → List (List ℕ) → List (List ℕ) → List (List ℕ)
paste at new bs = take at bs ++ (new ++ drop (at + length new) bs)
