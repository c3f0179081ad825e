-- Rule R15.10 of docs/RULES.md.
-- K6. The locals of a function's body (core specification 1.0, 5.5.13 Code Section): a list of (number, value type), whose numbers add up to less than 2^32. Assumes nothing.
use Rattle.std.specs.Prelude.{ℕ, zero, suc, ◌+◌, ltb}
use Rattle.format.specs.Reading.{◌>>=◌, ◌>>◌, Reader, return, here, checked}
use Rattle.format.specs.Numbers.{number, limit32}
use Rattle.format.specs.declared.Reason.TheVariants.{NotReadable}
use Rattle.instructions.specs.Immediates.{byte_of}
use Rattle.instructions.specs.declared.pieces.ByteKind.TheVariants.{ValueType}

-- so many groups, with so many locals before them
unfoldable pub local_groups : (n before : ℕ) → Reader (Unit {0})
local_groups zero before = return tt
local_groups (suc n) before = do
  at ← here
  count ← number
  checked (ltb (before + count) limit32) NotReadable at
  byte_of ValueType
  local_groups n (before + count)

unfoldable pub locals : Reader (Unit {0})
locals = do
  n ← number
  local_groups n 0
