-- Rules R7.1 to R7.7, R8.5, R8.6 and R19.5 of docs/RULES.md.
-- K2. The older edition of hints, in a section called `branchHints`: "a list of (function index, one zero byte, list of (kind, offset)), kind and offset both numbers. That edition demands no order and allows repeats, so the first hint in the file for a pair answers: unlikely for kind 0, likely for kind 1, however the kind is padded, and none without one." Assumes nothing.
use Rattle.std.specs.Prelude.{ℕ, zero, suc, cond, List, [], ◌∷◌, ◌++◌, eqb, ltb, leb, length}
use Rattle.std.proofs.Math.Option.{Option, none, some}
use Rattle.format.specs.Reading.{◌>>=◌, ◌>>◌, Reader, return, here, refuse, checked, filling, Judged, accepted, refused, judge, judged_then, map_judged}
use Rattle.format.specs.Refusals.{number_of}
use Rattle.format.specs.Numbers.{number, shortest}
use Rattle.format.specs.Options.{or_else}
use Rattle.format.specs.Tables.{Table, nil, row, size}
use Rattle.format.specs.Canonical.{write_table}
use Rattle.format.specs.declared.FunctionIndex.{FunctionIndex}
use Rattle.format.specs.declared.InstructionOffset.{InstructionOffset}
use Rattle.format.specs.declared.Hint.{Hint}
use Rattle.format.specs.declared.Hint.TheVariants.{Unlikely, Likely}
use Rattle.format.specs.declared.Reason.TheVariants.{PastItsPart, NotHint, NotZero, SubsectionTooLarge}

-- a hint; and the hints of one entry, whose function may have other entries
pub record OlderHint : Type 0 where
  pub kind : Hint
  pub offset : ℕ

pub record OlderEntry : Type 0 where
  pub function : ℕ
  pub hints : List OlderHint

-- a list: a count, and so many, one after the other, in any order
unfoldable pub times : {A : Type 0} → Reader A → ℕ → Reader (List A)
times read zero = return []
times read (suc n) = do
  first ← read
  more ← times read n
  return (first ∷ more)

unfoldable pub vector : {A : Type 0} → Reader A → Reader (List A)
vector read = number >>= times read

-- "17, the byte is not zero, at that byte (missing: 2 at its place)"
unfoldable pub zero_byte : Reader (Unit {0})
zero_byte o [] = refuse PastItsPart o o []
zero_byte o (b ∷ bs) = checked (eqb b 0) NotZero o (suc o) bs

-- "12 also for a kind above 1, at the kind, before the offset is read"
abbrev pub kind_numbered : ℕ → Hint
kind_numbered zero = Unlikely
kind_numbered (suc k) = Likely

unfoldable pub older_kind : Reader Hint
older_kind = do
  at ← here
  kind ← number
  checked (leb kind 1) NotHint at
  return (kind_numbered kind)

unfoldable pub older_hint : Reader OlderHint
older_hint = do
  kind ← older_kind
  offset ← number
  return (record { kind = kind; offset = offset })

unfoldable pub older_entry : Reader OlderEntry
older_entry = do
  function ← number
  zero_byte
  hints ← vector older_hint
  return (record { function = function; hints = hints })

-- the list fills the payload
unfoldable pub judge_older : ℕ → List ℕ → Judged (List OlderEntry)
judge_older at bs = judge (filling (vector older_entry) at bs)

-- The first hint in the payload for a pair
unfoldable pub first_at : ℕ → List OlderHint → Option Hint
first_at offset [] = none
first_at offset (h ∷ hs) = cond (eqb offset h.offset) (some h.kind) (first_at offset hs)

unfoldable pub first_in : ℕ → ℕ → List OlderEntry → Option Hint
first_in function offset [] = none
first_in function offset (e ∷ es) = cond (eqb function e.function) (or_else (first_at offset e.hints) (first_in function offset es)) (first_in function offset es)

unfoldable pub ask_older : FunctionIndex → InstructionOffset → ℕ → List ℕ → Judged (Option Hint)
ask_older f at o bs = map_judged (first_in f.0 at.0) (judge_older o bs)

-- "A canonical rewriting, also sorted by function and offset, shadowed hints dropped, one entry per function": each hint is put in its place, in the order of the payload, and one that is there stays
unfoldable pub put_first : {A : Type 0} → ℕ → A → Table A → Table A
put_first k v nil = row k v nil
put_first k v (row i w t) = cond (eqb k i) (row i w t) (cond (ltb k i) (row k v (row i w t)) (row i w (put_first k v t)))

-- the row of a number changed, or put in its place as what the change makes of no rows
unfoldable pub amend : {A : Type 0} → ℕ → (Table A → Table A) → Table (Table A) → Table (Table A)
amend k change nil = row k (change nil) nil
amend k change (row i w t) = cond (eqb k i) (row i (change w) t) (cond (ltb k i) (row k (change nil) (row i w t)) (row i w (amend k change t)))

unfoldable pub with_hints : ℕ → List OlderHint → Table (Table Hint) → Table (Table Hint)
with_hints function [] t = t
with_hints function (h ∷ hs) t = with_hints function hs (amend function (put_first h.offset h.kind) t)

unfoldable pub sorted_from : Table (Table Hint) → List OlderEntry → Table (Table Hint)
sorted_from t [] = t
sorted_from t (e ∷ es) = sorted_from (with_hints e.function e.hints t) es

-- each number in its fewest bytes: a kind stands before its offset, and a zero byte before a function's hints
abbrev pub kind_number : Hint → ℕ
kind_number Unlikely = 0
kind_number Likely = 1

unfoldable pub write_older_hints : Table Hint → List ℕ
write_older_hints nil = []
write_older_hints (row offset kind t) = shortest (kind_number kind) ++ (shortest offset ++ write_older_hints t)

unfoldable pub write_older : Table (Table Hint) → List ℕ
write_older t = write_table (λ hints. 0 ∷ (shortest (size hints) ++ write_older_hints hints)) t

-- "15, a payload above 4,294,967,295 bytes"
unfoldable pub not_too_long : List ℕ → Judged (List ℕ)
not_too_long bytes = cond (leb (length bytes) 4_294_967_295) (accepted bytes) (refused (number_of SubsectionTooLarge) 0)

unfoldable pub canonical_older : List ℕ → Judged (List ℕ)
canonical_older bs = judged_then (judge_older 0 bs) (λ es. not_too_long (write_older (sorted_from nil es)))
