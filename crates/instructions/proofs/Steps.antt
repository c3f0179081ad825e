-- One instruction: its opcode, and the immediates of its shape.
use Rattle.std.specs.Prelude.{Ok, Err, Some, None}
use Prim.Native.Nat.{ℕ, ◌-◌, ◌≤◌, ◌<◌}
use mathlib.Core.Bool.{Bool}
use mathlib.Core.List.{List, [], ◌∷◌}
use mathlib.Core.Path.{◌≡◌, refl, ap, ◌∙◌}
use native.Mathlib.Numerals.{add-one}
use native.Mathlib.Omega.{arith}
use borrow.Author.Rules.{rules}
use borrow.Author.Tests.{leb-true}
use denote.Enum.Declared.{tag_of}
use lib.Dec.{leb}
use lib.ListN.{get_or}
use lib.Seq.{length-slice, drop-drop}
use Rattle.format.specs.Laws.Outcomes.{by_test}
use Rattle.format.specs.declared.Refusal.{Refusal}
use Rattle.reading.specs.Cursors.{Inside, NumberReads}
use Rattle.reading.specs.declared.Cursor.{Cursor}
use Rattle.reading.specs.Returned.{NumberRead}
use Rattle.reading.proofs.Laws.{number_inside, nothing_left, something_left}
use Rattle.instructions.specs.Immediates.{byte_of, bytes, index, indices, signed, labels, indirect, memory, immediates, instruction}
use Rattle.instructions.specs.Opcodes.{shape_of}
use Rattle.instructions.specs.Ways.{Goes, bytes_on}
use Rattle.instructions.specs.declared.pieces.ByteKind.TheVariants.{BlockType, Zero as ZeroByte, LastOf32, LastOf64}
use Rattle.instructions.specs.Returned.{Way}
use Rattle.instructions.specs.declared.shapes.Shape.{Shape}
use Rattle.instructions.specs.declared.shapes.Shape.TheVariants.{Plain, Block, Index, Table, Indirect, Memory, Zero, Const32, Const64, Float32, Float64, Unknown}
use Rattle.instructions.specs.contracts.shapes.Shape as shape_type
use Rattle.instructions.proofs.PieceSteps.{one_on, byte_there}
use Rattle.instructions.proofs.WayLaws.{goes_inside, goes_then, goes_stops, end_joined, number_stops, number_goes}

-- the labels of br_table
module _ {s : List ℕ} {c : Cursor} {x : NumberRead} (r : NumberReads s c x) where
  pub labels_uncounted : {why : Refusal} → x ≡ Err why → Goes labels s c None
  unfolding labels
  labels_uncounted e = number_stops _ r e

  module _ (i : Inside s c) {n : ℕ} {d : Cursor} {told : Bool} (e : x ≡ Ok (n, d, told)) where
    pub labels_stop : Goes (indices n) s d None → Goes labels s c None
    unfolding labels
    labels_stop g = number_goes _ r i e (goes_stops g _)

    pub labels_go : {default : Cursor} {z : Way} → Goes (indices n) s d (Some default) → Goes index s default z → Goes labels s c z
    unfolding labels
    labels_go g h = number_goes _ r i e (goes_then g index h)

pub ruleset labels_steps = (labels_uncounted, labels_stop, labels_go, number_inside, goes_inside, rules)

-- an index, and a zero byte or another index
module _ {s : List ℕ} {c : Cursor} where
  pub indirect_stops : Goes index s c None → Goes indirect s c None
  unfolding indirect
  indirect_stops g = goes_stops g _

  pub memory_stops : Goes index s c None → Goes memory s c None
  unfolding memory
  memory_stops g = goes_stops g _

  module _ {d : Cursor} {y : Way} (g : Goes index s c (Some d)) where
    pub indirect_goes : Goes (byte_of ZeroByte) s d y → Goes indirect s c y
    unfolding indirect
    indirect_goes h = goes_then g (byte_of ZeroByte) h

    pub memory_goes : Goes index s d y → Goes memory s c y
    unfolding memory
    memory_goes h = goes_then g index h

pub ruleset pair_steps = (indirect_stops, indirect_goes, memory_stops, memory_goes, goes_inside, rules)

-- so many bytes
bytes_go : (n : ℕ) {s : List ℕ} {c : Cursor} {y : Way} → Inside s c → y ≡ bytes_on c n → Goes (bytes n) s c y
unfolding bytes
bytes_go n {s} {c} i is =
    let long = length-slice c.at c.end s i.within in
    by_test (leb n (c.end - c.at))
    (λ t. let fits = leb-true n (c.end - c.at) t in rw (is, t) (record { means = rw (long, t, drop-drop); same_part = (omega arith, omega (arith, i.ahead), refl) }))
    (λ t. rw (is, t) (record { means = rw (long, t); same_part = tt }))

-- The shapes in the order in which they are declared: an arm gives the tag alone
abbrev declared : List Shape
declared = Plain ∷ Block ∷ Index ∷ Table ∷ Indirect ∷ Memory ∷ Zero ∷ Const32 ∷ Const64 ∷ Float32 ∷ Float64 ∷ Unknown ∷ []

by_tag : (shape : Shape) → shape ≡ get_or declared (tag_of shape_type.the_type shape) Unknown
by_tag Plain = refl
by_tag Block = refl
by_tag Index = refl
by_tag Table = refl
by_tag Indirect = refl
by_tag Memory = refl
by_tag Zero = refl
by_tag Const32 = refl
by_tag Const64 = refl
by_tag Float32 = refl
by_tag Float64 = refl
by_tag Unknown = refl

told : (shape : Shape) {tag : ℕ} → tag_of shape_type.the_type shape ≡ tag → shape ≡ get_or declared tag Unknown
told shape t = by_tag shape ∙ ap (λ n. get_or declared n Unknown) t

module _ {s : List ℕ} {c : Cursor} (shape : Shape) where
  pub plain_goes : Inside s c → tag_of shape_type.the_type shape ≡ 0 → Goes (immediates shape) s c (Some c)
  unfolding immediates
  plain_goes i t = rw (told shape t) (record { means = refl; same_part = (omega arith, i.ahead, refl) })

  pub unknown_stops : tag_of shape_type.the_type shape ≡ 11 → Goes (immediates shape) s c None
  unfolding immediates
  unknown_stops t = rw (told shape t) (record { means = refl; same_part = tt })

  module _ {y : Way} where
    pub block_goes : tag_of shape_type.the_type shape ≡ 1 → Goes (byte_of BlockType) s c y → Goes (immediates shape) s c y
    unfolding immediates
    block_goes t g = rw (told shape t) g

    pub index_goes : tag_of shape_type.the_type shape ≡ 2 → Goes index s c y → Goes (immediates shape) s c y
    unfolding immediates
    index_goes t g = rw (told shape t) g

    pub table_goes : tag_of shape_type.the_type shape ≡ 3 → Goes labels s c y → Goes (immediates shape) s c y
    unfolding immediates
    table_goes t g = rw (told shape t) g

    pub call_goes : tag_of shape_type.the_type shape ≡ 4 → Goes indirect s c y → Goes (immediates shape) s c y
    unfolding immediates
    call_goes t g = rw (told shape t) g

    pub access_goes : tag_of shape_type.the_type shape ≡ 5 → Goes memory s c y → Goes (immediates shape) s c y
    unfolding immediates
    access_goes t g = rw (told shape t) g

    pub zero_goes : tag_of shape_type.the_type shape ≡ 6 → Goes (byte_of ZeroByte) s c y → Goes (immediates shape) s c y
    unfolding immediates
    zero_goes t g = rw (told shape t) g

    pub i32_goes : tag_of shape_type.the_type shape ≡ 7 → Goes (signed 4 LastOf32) s c y → Goes (immediates shape) s c y
    unfolding immediates
    i32_goes t g = rw (told shape t) g

    pub i64_goes : tag_of shape_type.the_type shape ≡ 8 → Goes (signed 9 LastOf64) s c y → Goes (immediates shape) s c y
    unfolding immediates
    i64_goes t g = rw (told shape t) g

    pub f32_goes : Inside s c → tag_of shape_type.the_type shape ≡ 9 → y ≡ bytes_on c 4 → Goes (immediates shape) s c y
    unfolding immediates
    f32_goes i t is = rw (told shape t) (bytes_go 4 i is)

    pub f64_goes : Inside s c → tag_of shape_type.the_type shape ≡ 10 → y ≡ bytes_on c 8 → Goes (immediates shape) s c y
    unfolding immediates
    f64_goes i t is = rw (told shape t) (bytes_go 8 i is)

pub cursor_ahead : {s : List ℕ} {c : Cursor} → Inside s c → c.at ≤ c.end
cursor_ahead i = i.ahead

pub ruleset immediates_steps = (plain_goes, unknown_stops, block_goes, index_goes, table_goes, call_goes, access_goes, zero_goes, i32_goes, i64_goes, f32_goes, f64_goes, cursor_ahead, rules)

-- the opcode
module _ {s : List ℕ} {c : Cursor} (i : Inside s c) where
  pub no_opcode : c.end ≤ c.at → Goes instruction s c None
  unfolding instruction
  no_opcode h = record { means = rw (nothing_left i h); same_part = tt }

  module _ (h : c.at < c.end) where
    pub behind_opcode : Inside s (one_on c)
    behind_opcode = record { ahead = omega arith; within = i.within }

    pub opcode_goes : {shape : Shape} {y : Way} → shape ≡ shape_of (get_or s c.at 0) → Goes (immediates shape) s (one_on c) y → Goes instruction s c y
    unfolding instruction
    opcode_goes {y = y} is g = record { means = g.means ∙ rw (something_left i h, is, add-one); same_part = end_joined y (omega arith) refl g.same_part }

pub ruleset step_steps = (no_opcode, behind_opcode, opcode_goes, byte_there, rules)
