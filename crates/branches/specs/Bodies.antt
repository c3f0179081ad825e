-- Rules R15.7, R15.9 and R15.13 to R15.15 of docs/RULES.md.
-- K6. The list of sized bodies, and what stands at an offset of one body: "step over its locals, then its instructions by the immediates of core specification 1.0 .. `else` and `end` are stepped over like others; only the body's end stops." Assumes nothing.
use Rattle.std.specs.Prelude.{ℕ, zero, suc, ◌+◌, ◌-◌, Bool, cond, ◌||◌, List, [], ◌∷◌, ltb, eqb, length}
use Rattle.std.proofs.Math.Option.{Option, none}
use Rattle.std.proofs.Math.ListN.{get_elem?}
use Rattle.format.specs.Reading.{Outcome, got, stop, Reader, filling}
use Rattle.format.specs.Parts.{Part, sized}
use Rattle.format.specs.Older.{vector}
use Rattle.instructions.specs.Immediates.{instruction}
use Rattle.instructions.specs.Locals.{locals}

unfoldable pub bodies : Reader (List Part)
bodies = filling (vector sized)

-- the body of a function, where the first of these bodies is that of function `first`: those before are imported and have none
unfoldable pub body_of : (first : ℕ) → List Part → (function : ℕ) → Option Part
body_of first parts function = cond (ltb function first) none (get_elem? parts (function - first))

-- what stands at a place of a body
pub data Seat : Type 0 where
  -- a br_if or an if begins there
  on_branch_lem : Seat
  -- the locals, or an instruction that starts before it, cannot be read by version 1.0
  not_readable : Seat
  -- anything else
  elsewhere : Seat

-- if is 04, br_if 0D
unfoldable pub is_branch : ℕ → Bool
is_branch op = eqb op 0x04 || eqb op 0x0D

abbrev pub seat_then : {A : Type 0} → Outcome A → (ℕ → List ℕ → Seat) → Seat
seat_then (got v o bs) next = next o bs
seat_then (stop n at) next = not_readable

-- from the beginning of an instruction on; `most` bounds their number and is never met. An instruction at the place is not read past its opcode
unfoldable pub seat_within : (most place : ℕ) → ℕ → List ℕ → Seat
seat_within zero place o bs = elsewhere
seat_within (suc most) place o [] = elsewhere
seat_within (suc most) place o (op ∷ bs) =
    cond (ltb o place)
    (seat_then (instruction o (op ∷ bs)) (seat_within most place))
    (cond (eqb o place) (cond (is_branch op) on_branch_lem elsewhere) elsewhere)

unfoldable pub seat_from : (place : ℕ) → ℕ → List ℕ → Seat
seat_from place o bs = seat_within (length bs) place o bs

-- "with the offset counted from the first byte of the function's declaration, its locals"
unfoldable pub seat_in : Part → (offset : ℕ) → Seat
seat_in body offset = seat_then (locals body.at body.bytes) (seat_from (body.at + offset))
