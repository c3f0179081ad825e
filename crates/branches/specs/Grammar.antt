-- Rules R15.9 to R15.11 of docs/RULES.md.
-- K6. A function's body, as core specification 1.0 has it in its binary format (5.2.2 Integers, 5.3 Types, 5.4 Instructions, 5.5.13 Code Section), apart from the step over it: which bytes are its locals, which are its instructions, and where one of these begins. Assumes nothing.
use Rattle.std.specs.Prelude.{ℕ, ◌+◌, ◌-◌, ◌^◌, ◌≤◌, ◌<◌, List, [], ◌∷◌, ◌++◌, ◌≡◌, length}
use Rattle.grammar.specs.Numbers.{Byte, U32}
use Rattle.grammar.specs.Older.{Vector}
use Rattle.instructions.specs.Opcodes.{shape_of}
use Rattle.instructions.specs.declared.shapes.Shape.{Shape}
use Rattle.instructions.specs.declared.shapes.Shape.TheVariants.{Plain, Block, Index, Table, Indirect, Memory, Zero, Const32, Const64, Float32, Float64}

-- sN ::= n:byte         (if n < 2^6 and n < 2^(N-1))
--      | n:byte         (if 2^6 ≤ n < 2^7 and n ≥ 2^7 - 2^(N-1))
--      | n:byte m:s(N-7) (if n ≥ 2^7 and N > 7)
pub data Signed : ℕ → List ℕ → Type 0 where
  positive : {N n : ℕ} → n < 2 ^ 6 → n < 2 ^ (N - 1) → Signed N (n ∷ [])
  negative : {N n : ℕ} → 2 ^ 6 ≤ n → n < 2 ^ 7 → 2 ^ 7 - 2 ^ (N - 1) ≤ n → Signed N (n ∷ [])
  followed : {N n : ℕ} {bs : List ℕ} → Byte n → 2 ^ 7 ≤ n → 7 < N → Signed (N - 7) bs → Signed N (n ∷ bs)

-- valtype ::= 0x7F | 0x7E | 0x7D | 0x7C
pub record ValueType (b : ℕ) : Type 0 where
  pub from_f64 : 0x7C ≤ b
  pub to_i32 : b ≤ 0x7F

-- blocktype ::= 0x40 | valtype
pub data BlockType : ℕ → Type 0 where
  empty : BlockType 0x40
  valued : {b : ℕ} → ValueType b → BlockType b

-- the immediates of each shape
pub data Immediates : Shape → List ℕ → Type 0 where
  plain : Immediates Plain []
  block : {b : ℕ} → BlockType b → Immediates Block (b ∷ [])
  index : {x : List ℕ} {n : ℕ} → U32 x n → Immediates Index x
  labels : {ls d : List ℕ} {ns : List ℕ} {n : ℕ} → Vector U32 ls ns → U32 d n → Immediates Table (ls ++ d)
  indirect : {x : List ℕ} {n : ℕ} → U32 x n → Immediates Indirect (x ++ (0x00 ∷ []))
  memory : {a o : List ℕ} {n k : ℕ} → U32 a n → U32 o k → Immediates Memory (a ++ o)
  zero : Immediates Zero (0x00 ∷ [])
  i32 : {n : List ℕ} → Signed 32 n → Immediates Const32 n
  i64 : {n : List ℕ} → Signed 64 n → Immediates Const64 n
  f32 : {z : List ℕ} → length z ≡ 4 → Immediates Float32 z
  f64 : {z : List ℕ} → length z ≡ 8 → Immediates Float64 z

pub data Instruction : List ℕ → Type 0 where
  instruction : {op : ℕ} {bs : List ℕ} → Immediates (shape_of op) bs → Instruction (op ∷ bs)

-- one after the other
pub data Instructions : List ℕ → Type 0 where
  no_instruction : Instructions []
  an_instruction : {one others : List ℕ} → Instruction one → Instructions others → Instructions (one ++ others)

-- locals ::= n:u32 t:valtype; "if the sum of all n is below 2^32"
pub data LocalGroup : List ℕ → ℕ → Type 0 where
  group : {count : List ℕ} {n t : ℕ} → U32 count n → ValueType t → LocalGroup (count ++ (t ∷ [])) n

abbrev pub sum : List ℕ → ℕ
sum [] = 0
sum (n ∷ ns) = n + sum ns

pub data Locals : List ℕ → Type 0 where
  locals : {bs ns : List ℕ} → Vector LocalGroup bs ns → sum ns < 2 ^ 32 → Locals bs

-- a body is these locals and these instructions, and behind them, at an offset, another begins with its opcode
pub record Begins (body : List ℕ) (offset op : ℕ) : Type 0 where
  pub locals_bytes : List ℕ
  pub instructions_bytes : List ℕ
  pub others : List ℕ
  pub are_locals : Locals locals_bytes
  pub are_instructions : Instructions instructions_bytes
  pub body_is : body ≡ locals_bytes ++ (instructions_bytes ++ (op ∷ others))
  pub begins_there : offset ≡ length locals_bytes + length instructions_bytes
