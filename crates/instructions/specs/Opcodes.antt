-- Rule R15.11 of docs/RULES.md.
-- K6. Which immediates stand behind an opcode (core specification 1.0, 5.4 Instructions), as the specification lists them: from, to, shape. Assumes nothing.
use Rattle.std.specs.Prelude.{ℕ, Bool, cond, ◌&&◌, List, [], ◌∷◌, leb}
use Rattle.instructions.specs.declared.shapes.Shape.{Shape}
use Rattle.instructions.specs.declared.shapes.Shape.TheVariants.{Plain, Block, Index, Table, Indirect, Memory, Zero, Const32, Const64, Float32, Float64, Unknown}

pub record Row : Type 0 where
  pub low : ℕ
  pub high : ℕ
  pub shape : Shape

abbrev row : ℕ → ℕ → Shape → Row
row l h s = record { low = l; high = h; shape = s }

unfoldable pub opcodes : List Row
opcodes =
    -- unreachable, nop
    row 0x00 0x01 Plain
    -- block, loop, if
    ∷ row 0x02 0x04 Block
    -- else, end
    ∷ row 0x05 0x05 Plain
    ∷ row 0x0B 0x0B Plain
    -- br, br_if, br_table, return, call, call_indirect
    ∷ row 0x0C 0x0D Index
    ∷ row 0x0E 0x0E Table
    ∷ row 0x0F 0x0F Plain
    ∷ row 0x10 0x10 Index
    ∷ row 0x11 0x11 Indirect
    -- drop, select
    ∷ row 0x1A 0x1B Plain
    -- local.get, local.set, local.tee, global.get, global.set
    ∷ row 0x20 0x24 Index
    -- loads and stores, memory.size and memory.grow
    ∷ row 0x28 0x3E Memory
    ∷ row 0x3F 0x40 Zero
    -- i32.const, i64.const, f32.const, f64.const
    ∷ row 0x41 0x41 Const32
    ∷ row 0x42 0x42 Const64
    ∷ row 0x43 0x43 Float32
    ∷ row 0x44 0x44 Float64
    -- comparisons, arithmetic, conversions
    ∷ row 0x45 0xBF Plain
    ∷ []

abbrev pub holds : Row → ℕ → Bool
holds r b = leb r.low b && leb b r.high

-- the shape in the first row that holds a byte; a byte in none is no opcode of version 1.0
unfoldable pub among : List Row → ℕ → Shape
among [] b = Unknown
among (r ∷ rs) b = cond (holds r b) r.shape (among rs b)

unfoldable pub shape_of : ℕ → Shape
shape_of b = among opcodes b
