-- Rules R15.11 and R15.12 of docs/RULES.md.
-- K6. One instruction: an opcode, and the immediates of its shape (core specification 1.0, 5.4). What version 1.0 cannot read is a stop, whatever its number and offset. Reading is not validation. Assumes nothing.
use Rattle.std.specs.Prelude.{ℕ, zero, suc, Bool, cond, ◌&&◌, ◌||◌, [], ◌∷◌, ltb, leb, eqb}
use Rattle.format.specs.Reading.{◌>>=◌, ◌>>◌, got, Reader, return, here, refuse, checked}
use Rattle.format.specs.Numbers.{number}
use Rattle.format.specs.Parts.{fits, cut}
use Rattle.format.specs.declared.Reason.TheVariants.{NotReadable}
use Rattle.instructions.specs.Opcodes.{shape_of}
use Rattle.instructions.specs.declared.pieces.ByteKind.{ByteKind}
use Rattle.instructions.specs.declared.pieces.ByteKind.TheVariants.{ValueType, BlockType, Zero as ZeroByte, LastOf32, LastOf64}
use Rattle.instructions.specs.declared.shapes.Shape.{Shape}
use Rattle.instructions.specs.declared.shapes.Shape.TheVariants.{Plain, Block, Index, Table, Indirect, Memory, Zero, Const32, Const64, Float32, Float64, Unknown}

-- valtype: i32 is 7F, i64 7E, f32 7D, f64 7C
unfoldable pub is_value_type : ℕ → Bool
is_value_type b = leb 0x7C b && leb b 0x7F

-- blocktype: 40, or a value type
unfoldable pub is_block_type : ℕ → Bool
is_block_type b = eqb b 0x40 || is_value_type b

-- the unused bits of a signed number's last byte repeat its sign: the fifth byte of 32 bits is 00 to 07 or 78 to 7F, the tenth of 64 bits 00 or 7F
unfoldable pub is_last_of32 : ℕ → Bool
is_last_of32 b = leb b 0x07 || (leb 0x78 b && ltb b 0x80)

unfoldable pub is_last_of64 : ℕ → Bool
is_last_of64 b = eqb b 0x00 || eqb b 0x7F

abbrev pub is_of : ByteKind → ℕ → Bool
is_of ValueType b = is_value_type b
is_of BlockType b = is_block_type b
is_of ZeroByte b = eqb b 0x00
is_of LastOf32 b = is_last_of32 b
is_of LastOf64 b = is_last_of64 b

-- one byte of a kind
unfoldable pub byte_of : ByteKind → Reader (Unit {0})
byte_of kind o [] = refuse NotReadable o o []
byte_of kind o (b ∷ bs) = checked (is_of kind b) NotReadable o (suc o) bs

-- so many bytes of any kind
unfoldable pub bytes : ℕ → Reader (Unit {0})
bytes n = do
  at ← here
  fits n at
  cut n
  return tt

-- an index, an alignment or an offset: an unsigned number of 32 bits
abbrev pub index : Reader (Unit {0})
index = number >> return tt

unfoldable pub indices : ℕ → Reader (Unit {0})
indices zero = return tt
indices (suc n) = index >> indices n

-- a signed number, of which so many bytes may follow the first; the one behind these is of a kind
unfoldable pub signed : (following : ℕ) (last : ByteKind) → Reader (Unit {0})
signed zero last o bs = byte_of last o bs
signed (suc following) last o [] = refuse NotReadable o o []
signed (suc following) last o (b ∷ bs) = cond (ltb b 0x80) (got tt (suc o) bs) (signed following last (suc o) bs)

-- br_table: a list of labels, and the default
unfoldable pub labels : Reader (Unit {0})
labels = do
  n ← number
  indices n
  index

-- call_indirect: a type, and a zero byte
unfoldable pub indirect : Reader (Unit {0})
indirect = index >> byte_of ZeroByte

-- memarg: an alignment and an offset
unfoldable pub memory : Reader (Unit {0})
memory = index >> index

unfoldable pub immediates : Shape → Reader (Unit {0})
immediates Plain = return tt
immediates Block = byte_of BlockType
immediates Index = index
immediates Table = labels
immediates Indirect = indirect
immediates Memory = memory
immediates Zero = byte_of ZeroByte
immediates Const32 = signed 4 LastOf32
immediates Const64 = signed 9 LastOf64
immediates Float32 = bytes 4
immediates Float64 = bytes 8
immediates Unknown = λ o. refuse NotReadable o o

unfoldable pub instruction : Reader (Unit {0})
instruction o [] = refuse NotReadable o o []
instruction o (op ∷ bs) = immediates (shape_of op) (suc o) bs
