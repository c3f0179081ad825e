-- Rules R6.1 to R6.8 and R19.4 of docs/RULES.md.
-- Code metadata: a list of (function index, list of (offset, size, data)). Function indices strictly increase; offsets within one function strictly increase. The list fills the payload. Assumes nothing.
use Rattle.std.specs.Prelude.{ℕ, zero, suc, List, [], ◌∷◌, Ok, Err, Some, None}
use Rattle.std.proofs.Math.Option.{Option, none, some}
use Rattle.format.specs.Refusals.{number_of}
use Rattle.format.specs.Reading.{◌>>=◌, ◌>>◌, Reader, return, here, checked, filling, Judged, accepted, refused, judge, map_judged}
use Rattle.format.specs.Parts.{Part, sized}
use Rattle.format.specs.Tables.{Table, lookup, table}
use Rattle.format.specs.Options.{some_then, is_some}
use Rattle.format.specs.declared.FunctionIndex.{FunctionIndex}
use Rattle.format.specs.declared.CodeOffset.{CodeOffset}
use Rattle.format.specs.Returned.{HintAnswer}
use Rattle.format.specs.declared.Hint.{Hint}
use Rattle.format.specs.declared.Hint.TheVariants.{Unlikely, Likely}
use Rattle.format.specs.declared.Reason.TheVariants.{NotHint}

-- for branch hints each size is 1 and the data byte is 0 (unlikely) or 1 (likely)
unfoldable pub data_of : Hint → List ℕ
data_of Unlikely = 0 ∷ []
data_of Likely = 1 ∷ []

unfoldable pub hint_of : List ℕ → Option Hint
hint_of [] = none
hint_of (zero ∷ []) = some Unlikely
hint_of (suc zero ∷ []) = some Likely
hint_of (suc (suc b) ∷ []) = none
hint_of (b ∷ c ∷ bs) = none

-- An item's size and data: any, or a hint. Refusal 12 gives the size number
unfoldable pub any_item : Reader Part
any_item = sized

unfoldable pub hint_item : Reader Part
hint_item = do
  size ← here
  data' ← sized
  checked (is_some (hint_of data'.bytes)) NotHint size
  return data'

-- the functions, each with its items by offset
unfoldable pub metadata : Reader Part → Reader (Table (Table Part))
metadata item = filling (table (table item))

unfoldable pub judge_metadata : Reader Part → ℕ → List ℕ → Judged (Table (Table Part))
judge_metadata item at bs = judge (metadata item at bs)

-- The question is (function, offset)
unfoldable pub item_at : {X : Type 0} → FunctionIndex → CodeOffset → Table (Table X) → Option X
item_at f at t = some_then (lookup f.0 t) (lookup at.0)

unfoldable pub ask_metadata : Reader Part → FunctionIndex → CodeOffset → ℕ → List ℕ → Judged (Option Part)
ask_metadata item f at o bs = map_judged (item_at f at) (judge_metadata item o bs)

-- for hints it is none, likely, unlikely or a refusal
unfoldable pub hint_in : Option Part → Option Hint
hint_in found = some_then found (λ p. hint_of p.bytes)

unfoldable pub ask_hint : FunctionIndex → CodeOffset → ℕ → List ℕ → Judged (Option Hint)
ask_hint f at o bs = map_judged hint_in (ask_metadata hint_item f at o bs)

-- What an answer for a hint says
abbrev pub hint_answered : HintAnswer → Judged (Option Hint)
hint_answered (Ok None) = accepted none
hint_answered (Ok (Some h)) = accepted (some h)
hint_answered (Err r) = refused (number_of r.reason) r.offset.0
