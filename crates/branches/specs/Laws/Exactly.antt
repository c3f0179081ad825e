-- The readers of a body's pieces read exactly what the grammar has.
use Prim.Native.Nat.{ℕ, zero, suc, ◌+◌, ◌-◌, ◌*◌, ◌≤◌, ◌<◌}
use Rattle.std.specs.Prelude.{true, ◌≡◌, ltb, leb, eqb, length, take}
use mathlib.Core.List.{List, [], ◌∷◌, ◌++◌, append_assoc, append-nil}
use Rattle.std.proofs.Math.Path.{refl, ap}
use Rattle.std.proofs.Common.{sym, ◌∙◌, le_trans, length-append, take-append-drop, length-take-le}
use native.Mathlib.Omega.{arith}
use borrow.Author.Tests.{ltb-true, ltb-false, leb-true, eqb-true, le-leb, lt-leb, lt-ltb, le-ltb, eq-eqb, ne_eqb}
use Rattle.std.proofs.Math.Pow.{pow_mono}
use Rattle.std.proofs.Math.Seq.{drop-append_seam}
use Rattle.format.specs.Bytes.{Bytes}
use Rattle.format.specs.Numbers.{number, limit32}
use Rattle.format.specs.Reading.{got, Reader, and_then, return}
use Rattle.format.specs.Laws.Outcomes.{not_got, got_next, got_rest, by_test, on_both, in_turn, passed}
use Rattle.grammar.specs.Numbers.{Grammar, U32}
use Rattle.grammar.specs.Older.{Times, no_more, one_more, vector}
use Rattle.grammar.specs.Laws.Exact.{Stretch, left_bytes, Accepts, Exact, exact_for}
use Rattle.grammar.proofs.Laws.Numbers.{number_sound, number_complete}
use Rattle.instructions.specs.Immediates as Read
use Rattle.instructions.specs.Locals.{local_groups, locals as locals_here}
use Rattle.instructions.specs.declared.pieces.ByteKind.{ByteKind}
use Rattle.instructions.specs.declared.pieces.ByteKind.TheVariants as kind
use Rattle.instructions.specs.declared.shapes.Shape.{Shape}
use Rattle.instructions.specs.declared.shapes.Shape.TheVariants.{Plain, Block, Index, Table, Indirect, Memory, Zero, Const32, Const64, Float32, Float64, Unknown}
use Rattle.instructions.specs.Opcodes.{shape_of}
use Rattle.branches.specs.Grammar.{Signed, positive, negative, followed, ValueType, BlockType, empty, valued, Immediates, plain, block, index, labels, indirect, memory, zero, i32, i64, f32, f64, Instruction, instruction, LocalGroup, group, sum, Locals, locals}

-- a stretch that means nothing more than that it is one
abbrev pub Unread : (List ℕ → Type 0) → Grammar (Unit {0})
Unread G bs u = G bs

abbrev pub Reads : Reader (Unit {0}) → (List ℕ → Type 0) → Type 0
Reads read G = Exact read (λ x. x) (Unread G)

-- One after the other
pub data Both {A : Type 0} (G : Grammar A) (H : A → List ℕ → Type 0) : List ℕ → Type 0 where
  both : {a b : List ℕ} {v : A} → G a v → H v b → Both G H (a ++ b)

module _ {A : Type 0} {first : Reader A} {second : A → Reader (Unit {0})} {G : Grammar A} {H : A → List ℕ → Type 0} (exact : Exact first (λ x. x) G) (then : (v : A) → Reads (second v) (H v)) where
  pub both_exact : Reads (λ o bs. and_then (first o bs) second) (Both G H)
  both_exact = record { sound = sound; complete = complete }
    where
      sound : (o : ℕ) (bs : List ℕ) {v : Unit {0}} {o' : ℕ} {rest : List ℕ} → Bytes bs → and_then (first o bs) second ≡ got v o' rest → Stretch (Unread (Both G H)) v rest bs
      sound o bs h e =
          in_turn (first o bs) second e λ a o₁ r₁ e₁ e₂.
          let one = exact.sound o bs h e₁ in
          let two = (then a).sound o₁ r₁ (left_bytes one h) e₂ in
          record {
            front = one.front ++ two.front;
            is = one.is ∙ ap (λ x. one.front ++ x) two.is ∙ sym (append_assoc one.front two.front _);
            means = both one.means two.means;
          }

      complete : {front : List ℕ} {w : Unit {0}} → Both G H front → (o : ℕ) (rest : List ℕ) → Accepts (λ o bs. and_then (first o bs) second) (λ x. x) front w o rest
      complete (both {a = a} {b = b} {v = v} g k) o rest =
          let one = exact.complete g o (b ++ rest) in
          let two = (then v).complete k one.next rest in
          record { value = two.value; next = two.next; reads = rw (append_assoc a b rest, one.reads, one.same, two.reads); same = refl }

-- nothing is read
pub data Nothing : List ℕ → Type 0 where
  nothing : Nothing []

pub nothing_exact : Reads (return tt) Nothing
nothing_exact = record {
  sound = λ o bs h e. rw (← got_rest e) (record { front = []; is = refl; means = nothing });
  complete = complete;
}
  where
    complete : {front : List ℕ} {w : Unit {0}} → Nothing front → (o : ℕ) (rest : List ℕ) → Accepts (return tt) (λ x. x) front w o rest
    complete nothing o rest = record { value = tt; next = o; reads = refl; same = refl }

-- one byte
pub data One (P : ℕ → Type 0) : List ℕ → Type 0 where
  one : {b : ℕ} → P b → One P (b ∷ [])

byte_exact : (k : ByteKind) → Reads (Read.byte_of k) (One (λ b. Read.is_of k b ≡ true))
unfolding Read.byte_of
byte_exact k = record { sound = sound; complete = complete }
  where
    sound : (o : ℕ) (bs : List ℕ) {v : Unit {0}} {o' : ℕ} {rest : List ℕ} → Bytes bs → Read.byte_of k o bs ≡ got v o' rest → Stretch (Unread (One (λ b. Read.is_of k b ≡ true))) v rest bs
    sound o [] h e = absurd (not_got e)
    sound o (b ∷ bs) h e =
        by_test (Read.is_of k b)
        (λ t. rw (← got_rest (rw t at e)) (record { front = b ∷ []; is = refl; means = one t }))
        (λ t. absurd (not_got (rw t at e)))

    complete : {front : List ℕ} {w : Unit {0}} → One (λ b. Read.is_of k b ≡ true) front → (o : ℕ) (rest : List ℕ) → Accepts (Read.byte_of k) (λ x. x) front w o rest
    complete (one t) o rest = record { value = tt; next = suc o; reads = rw t; same = refl }

-- so many bytes
bytes_exact : (n : ℕ) → Reads (Read.bytes n) (λ bs. length bs ≡ n)
unfolding Read.bytes
bytes_exact n = record { sound = sound; complete = complete }
  where
    sound : (o : ℕ) (bs : List ℕ) {v : Unit {0}} {o' : ℕ} {rest : List ℕ} → Bytes bs → Read.bytes n o bs ≡ got v o' rest → Stretch (Unread (λ x. length x ≡ n)) v rest bs
    sound o bs h e =
        passed (leb n (length bs)) _ _ _ _ _ e λ t e₁.
        rw (← got_rest e₁) (record { front = take n bs; is = sym (take-append-drop n bs); means = length-take-le n bs (leb-true n (length bs) t) })

    complete : {front : List ℕ} {w : Unit {0}} → length front ≡ n → (o : ℕ) (rest : List ℕ) → Accepts (Read.bytes n) (λ x. x) front w o rest
    complete {front} is o rest = record {
      value = tt;
      next = o + n;
      reads = rw (le-leb n (length (front ++ rest)) (omega (arith, is, length-append front rest)), ← is, drop-append_seam front rest);
      same = refl;
    }

-- an index
pub number_exact : Exact number (λ x. x) U32
number_exact = record {
  sound = λ o bs h e. number_sound o bs h e;
  complete = λ {front} {w} u o rest. record { value = w; next = o + length front; reads = number_complete u o rest; same = refl };
}

abbrev pub AnIndex : List ℕ → Type 0
AnIndex = Both U32 (λ _. Nothing)

pub index_exact : Reads Read.index AnIndex
index_exact = both_exact number_exact (λ _. nothing_exact)

-- so many of them
indices_sound : (n o : ℕ) (bs : List ℕ) {v : Unit {0}} {o' : ℕ} {rest : List ℕ} → Bytes bs → Read.indices n o bs ≡ got v o' rest → (ns : List ℕ) × Stretch (Times U32 n) ns rest bs
unfolding Read.indices
indices_sound zero o bs h e = ([], rw (← got_rest e) (record { front = []; is = refl; means = no_more }))
indices_sound (suc n) o bs h e =
    in_turn (Read.index o bs) _ e λ u o₂ r₂ e₃ e₄. in_turn (number o bs) _ e₃ λ k o₁ r₁ e₁ e₅.
    let first = number_sound o bs h e₁ in
    let (ns, more) = indices_sound n o₁ r₁ (left_bytes first h) (rw (← got_next e₅, ← got_rest e₅) at e₄) in (
      k ∷ ns,
      record {
        front = first.front ++ more.front;
        is = first.is ∙ ap (λ x. first.front ++ x) more.is ∙ sym (append_assoc first.front more.front _);
        means = one_more first.means more.means;
      },
    )

indices_complete : {n : ℕ} {bs ns : List ℕ} → Times U32 n bs ns → (o : ℕ) (rest : List ℕ) {w : Unit {0}} → Accepts (Read.indices n) (λ x. x) bs w o rest
unfolding Read.indices
indices_complete no_more o rest = record { value = tt; next = o; reads = refl; same = refl }
indices_complete (one_more {first = a} {others = b} u m) o rest =
    let more = indices_complete m (o + length a) rest in
    record { value = more.value; next = more.next; reads = rw (append_assoc a b rest, number_complete u o (b ++ rest), more.reads); same = refl }

abbrev SomeIndices : ℕ → List ℕ → Type 0
SomeIndices n bs = (ns : List ℕ) × Times U32 n bs ns

indices_exact : (n : ℕ) → Reads (Read.indices n) (SomeIndices n)
indices_exact n = record {
  sound = λ o bs h e. let (ns, s) = indices_sound n o bs h e in record { front = s.front; is = s.is; means = (ns, s.means) };
  complete = λ g o rest. indices_complete g.1 o rest;
}

-- Signed numbers: of w bits and seven more for each byte that may follow the first
module _ (k : ByteKind) (w : ℕ) (some_bits : 1 ≤ w) (last : Reads (Read.byte_of k) (Signed w)) where
  signed_sound : (more N o : ℕ) (bs : List ℕ) {v : Unit {0}} {o' : ℕ} {rest : List ℕ} → N ≡ w + 7 * more → Bytes bs → Read.signed more k o bs ≡ got v o' rest → Stretch (Unread (Signed N)) v rest bs
  unfolding Read.signed
  signed_sound zero N o bs q h e = let n : N ≡ w = omega arith in rw n (last.sound o bs h e)
  signed_sound (suc more) N o [] q h e = absurd (not_got e)
  signed_sound (suc more) N o (b ∷ bs) q h e =
      let wide = pow_mono {i = 7} {j = N - 1} (omega arith) in
      by_test (ltb b 128)
      (λ t. let small = ltb-true b 128 t in
      rw (← got_rest (rw t at e)) (record {
        front = b ∷ [];
        is = refl;
        means = by_test (ltb b 64)
            (λ u. positive {N = N} (ltb-true b 64 u) (le_trans small wide))
            (λ u. negative {N = N} (ltb-false b 64 u) small (omega (arith, wide)));
      }))
      (λ t. let more' = signed_sound more (N - 7) (suc o) bs (omega arith) (λ i. h (suc i)) (rw t at e) in
      let byte = h 0 in
      record { front = b ∷ more'.front; is = ap (λ x. b ∷ x) more'.is; means = followed {N = N} byte (ltb-false b 128 t) (omega arith) more'.means })

  signed_complete : (more : ℕ) {N : ℕ} {bs : List ℕ} → Signed N bs → N ≡ w + 7 * more → (o : ℕ) (rest : List ℕ) {u : Unit {0}} → Accepts (Read.signed more k) (λ x. x) bs u o rest
  unfolding Read.signed
  signed_complete zero {N} {bs} g q o rest =
      let n : N ≡ w = omega arith in
      let a = last.complete (rw n at g) o rest in
      record { value = a.value; next = a.next; reads = a.reads; same = refl }
  signed_complete (suc more) (positive {n = n} s f) q o rest = record { value = tt; next = suc o; reads = rw (lt-ltb n 128 (omega arith)); same = refl }
  signed_complete (suc more) (negative {n = n} s f l) q o rest = record { value = tt; next = suc o; reads = rw (lt-ltb n 128 f); same = refl }
  signed_complete (suc more) (followed {n = n} byte big l g) q o rest =
      let a = signed_complete more g (omega arith) (suc o) rest in
      record { value = a.value; next = a.next; reads = rw (le-ltb n 128 big, a.reads); same = refl }

  signed_exact : (more N : ℕ) → N ≡ w + 7 * more → Reads (Read.signed more k) (Signed N)
  signed_exact more N q = record { sound = λ o bs h e. signed_sound more N o bs q h e; complete = λ g o rest. signed_complete more g q o rest }

-- the last byte of 32 and of 64 bits
to_32 : (bs : List ℕ) (u : Unit {0}) → One (λ b. Read.is_of kind.LastOf32 b ≡ true) bs → Signed 4 bs
unfolding Read.is_last_of32
to_32 bs u (one {b = b} t) =
    by_test (leb b 7)
    (λ l. let small = leb-true b 7 l in positive {N = 4} (omega arith) (omega arith))
    (λ l. on_both (leb 120 b) (ltb b 128) (rw l at t) λ m n. let low = leb-true 120 b m in negative {N = 4} (omega arith) (ltb-true b 128 n) (omega arith))

from_32 : (bs : List ℕ) (u : Unit {0}) → Signed 4 bs → One (λ b. Read.is_of kind.LastOf32 b ≡ true) bs
unfolding Read.is_last_of32
from_32 bs u (positive {n = n} s f) = one {b = n} (rw (le-leb n 7 (omega arith)))
from_32 bs u (negative {n = n} s f l) = one {b = n} (rw (lt-leb n 7 (omega arith), le-leb 120 n (omega arith), lt-ltb n 128 f))
from_32 bs u (followed byte big l g) = absurd (omega arith)

to_64 : (bs : List ℕ) (u : Unit {0}) → One (λ b. Read.is_of kind.LastOf64 b ≡ true) bs → Signed 1 bs
unfolding Read.is_last_of64
to_64 bs u (one {b = b} t) =
    by_test (eqb b 0)
    (λ l. let small = eqb-true b 0 l in positive {N = 1} (omega arith) (omega arith))
    (λ l. let great = eqb-true b 127 (rw l at t) in negative {N = 1} (omega arith) (omega arith) (omega arith))

from_64 : (bs : List ℕ) (u : Unit {0}) → Signed 1 bs → One (λ b. Read.is_of kind.LastOf64 b ≡ true) bs
unfolding Read.is_last_of64
from_64 bs u (positive {n = n} s f) = one {b = n} (rw (eq-eqb n 0 (omega arith)))
from_64 bs u (negative {n = n} s f l) = one {b = n} (rw (ne_eqb n 0 (λ z. absurd (omega (arith, z))), eq-eqb n 127 (omega arith)))
from_64 bs u (followed byte big l g) = absurd (omega arith)

-- value types and block types
is_value : (b : ℕ) → Read.is_value_type b ≡ true → ValueType b
unfolding Read.is_value_type
is_value b t = on_both (leb 124 b) (leb b 127) t λ l m. record { from_f64 = leb-true 124 b l; to_i32 = leb-true b 127 m }

value_is : (b : ℕ) → ValueType b → Read.is_value_type b ≡ true
unfolding Read.is_value_type
value_is b v = rw (le-leb 124 b v.from_f64, le-leb b 127 v.to_i32)

is_block : (b : ℕ) → Read.is_block_type b ≡ true → BlockType b
unfolding Read.is_block_type
is_block b t = by_test (eqb b 64) (λ l. rw (eqb-true b 64 l) empty) (λ l. valued (is_value b (rw l at t)))

block_is : (b : ℕ) → BlockType b → Read.is_block_type b ≡ true
unfolding Read.is_block_type
block_is b empty = refl
block_is b (valued v) = by_test (eqb b 64) (λ l. rw l) (λ l. rw (l, value_is b v))

-- THE IMMEDIATES of each shape
to_plain : (bs : List ℕ) (u : Unit {0}) → Nothing bs → Immediates Plain bs
to_plain bs u nothing = plain

from_plain : (bs : List ℕ) (u : Unit {0}) → Immediates Plain bs → Nothing bs
from_plain bs u plain = nothing

to_block : (bs : List ℕ) (u : Unit {0}) → One (λ b. Read.is_of kind.BlockType b ≡ true) bs → Immediates Block bs
to_block bs u (one {b = b} t) = block (is_block b t)

from_block : (bs : List ℕ) (u : Unit {0}) → Immediates Block bs → One (λ b. Read.is_of kind.BlockType b ≡ true) bs
from_block bs u (block {b = b} t) = one (block_is b t)

to_index : (bs : List ℕ) (u : Unit {0}) → AnIndex bs → Immediates Index bs
to_index bs u (both {a = a} n nothing) = rw (append-nil a) (index n)

from_index : (bs : List ℕ) (u : Unit {0}) → Immediates Index bs → AnIndex bs
from_index bs u (index {x = x} n) = rw (← append-nil x) (both n nothing)

an_index : {x : List ℕ} {n : ℕ} → U32 x n → AnIndex x
an_index {x} u = rw (← append-nil x) (both u nothing)

abbrev LabelBytes : List ℕ → Type 0
LabelBytes = Both U32 (λ n. Both (Unread (SomeIndices n)) (λ _. AnIndex))

to_table : (bs : List ℕ) (u : Unit {0}) → LabelBytes bs → Immediates Table bs
to_table bs u (both {a = a} n (both {a = b} m (both {a = d} x nothing))) = rw (append-nil d, ← append_assoc a b d) (labels (vector n m.1) x)

from_table : (bs : List ℕ) (u : Unit {0}) → Immediates Table bs → LabelBytes bs
from_table bs u (labels {d = d} (vector {count = a} {entries = b} n m) x) = rw (append_assoc a b d) (both n (both (_, m) (an_index x)))

to_indirect : (bs : List ℕ) (u : Unit {0}) → Both (Unread AnIndex) (λ _. One (λ b. Read.is_of kind.Zero b ≡ true)) bs → Immediates Indirect bs
to_indirect bs u (both (both {a = a} n nothing) (one {b = b} t)) = rw (append-nil a, eqb-true b 0 t) (indirect n)

from_indirect : (bs : List ℕ) (u : Unit {0}) → Immediates Indirect bs → Both (Unread AnIndex) (λ _. One (λ b. Read.is_of kind.Zero b ≡ true)) bs
from_indirect bs u (indirect n) = both (an_index n) (one refl)

to_memory : (bs : List ℕ) (u : Unit {0}) → Both (Unread AnIndex) (λ _. AnIndex) bs → Immediates Memory bs
to_memory bs u (both (both {a = a} n nothing) (both {a = b} m nothing)) = rw (append-nil a, append-nil b) (memory n m)

from_memory : (bs : List ℕ) (u : Unit {0}) → Immediates Memory bs → Both (Unread AnIndex) (λ _. AnIndex) bs
from_memory bs u (memory n m) = both (an_index n) (an_index m)

to_zero : (bs : List ℕ) (u : Unit {0}) → One (λ b. Read.is_of kind.Zero b ≡ true) bs → Immediates Zero bs
to_zero bs u (one {b = b} t) = rw (eqb-true b 0 t) zero

from_zero : (bs : List ℕ) (u : Unit {0}) → Immediates Zero bs → One (λ b. Read.is_of kind.Zero b ≡ true) bs
from_zero bs u zero = one refl

from_i32 : (bs : List ℕ) (u : Unit {0}) → Immediates Const32 bs → Signed 32 bs
from_i32 bs u (i32 n) = n

from_i64 : (bs : List ℕ) (u : Unit {0}) → Immediates Const64 bs → Signed 64 bs
from_i64 bs u (i64 n) = n

from_f32 : (bs : List ℕ) (u : Unit {0}) → Immediates Float32 bs → length bs ≡ 4
from_f32 bs u (f32 z) = z

from_f64 : (bs : List ℕ) (u : Unit {0}) → Immediates Float64 bs → length bs ≡ 8
from_f64 bs u (f64 z) = z

no_immediates : {front : List ℕ} → Immediates Unknown front → ⊥
no_immediates = elim [ ]

unknown_exact : Reads (Read.immediates Unknown) (Immediates Unknown)
unfolding Read.immediates
unknown_exact = record { sound = λ o bs h e. absurd (not_got e); complete = λ g o rest. absurd (no_immediates g) }

pub immediates_exact : (shape : Shape) → Reads (Read.immediates shape) (Immediates shape)
unfolding Read.immediates Read.labels Read.indirect Read.memory
immediates_exact Plain = exact_for nothing_exact to_plain from_plain
immediates_exact Block = exact_for (byte_exact kind.BlockType) to_block from_block
immediates_exact Index = exact_for index_exact to_index from_index
immediates_exact Table = exact_for (both_exact number_exact (λ n. both_exact (indices_exact n) (λ _. index_exact))) to_table from_table
immediates_exact Indirect = exact_for (both_exact index_exact (λ _. byte_exact kind.Zero)) to_indirect from_indirect
immediates_exact Memory = exact_for (both_exact index_exact (λ _. index_exact)) to_memory from_memory
immediates_exact Zero = exact_for (byte_exact kind.Zero) to_zero from_zero
immediates_exact Const32 = exact_for (signed_exact kind.LastOf32 4 (omega arith) (exact_for (byte_exact kind.LastOf32) to_32 from_32) 4 32 refl) (λ bs u. i32) from_i32
immediates_exact Const64 = exact_for (signed_exact kind.LastOf64 1 (omega arith) (exact_for (byte_exact kind.LastOf64) to_64 from_64) 9 64 refl) (λ bs u. i64) from_i64
immediates_exact Float32 = exact_for (bytes_exact 4) (λ bs u. f32) from_f32
immediates_exact Float64 = exact_for (bytes_exact 8) (λ bs u. f64) from_f64
immediates_exact Unknown = unknown_exact

pub instruction_exact : Reads Read.instruction Instruction
unfolding Read.instruction
instruction_exact = record { sound = sound; complete = complete }
  where
    sound : (o : ℕ) (bs : List ℕ) {v : Unit {0}} {o' : ℕ} {rest : List ℕ} → Bytes bs → Read.instruction o bs ≡ got v o' rest → Stretch (Unread Instruction) v rest bs
    sound o [] h e = absurd (not_got e)
    sound o (op ∷ bs) h e =
        let s = (immediates_exact (shape_of op)).sound (suc o) bs (λ i. h (suc i)) e in
        record { front = op ∷ s.front; is = ap (λ x. op ∷ x) s.is; means = instruction s.means }

    complete : {front : List ℕ} {w : Unit {0}} → Instruction front → (o : ℕ) (rest : List ℕ) → Accepts Read.instruction (λ x. x) front w o rest
    complete (instruction {op = op} g) o rest =
        let a = (immediates_exact (shape_of op)).complete g (suc o) rest in
        record { value = a.value; next = a.next; reads = a.reads; same = refl }

-- THE LOCALS: groups, whose counts add up to less than 2^32
group_of : {a b : List ℕ} {n : ℕ} → U32 a n → One (λ t. Read.is_of kind.ValueType t ≡ true) b → LocalGroup (a ++ b) n
group_of u (one {b = t} is) = group u (is_value t is)

groups_sound : (n before o : ℕ) (bs : List ℕ) {v : Unit {0}} {o' : ℕ} {rest : List ℕ} → before < limit32 → Bytes bs → local_groups n before o bs ≡ got v o' rest → (ns : List ℕ) × (before + sum ns < limit32) × Stretch (Times LocalGroup n) ns rest bs
unfolding local_groups
groups_sound zero before o bs small h e = ([], omega arith, rw (← got_rest e) (record { front = []; is = refl; means = no_more }))
groups_sound (suc n) before o bs {rest = rest} small h e =
    in_turn (number o bs) _ e λ k o₁ r₁ e₁ e₂. passed (ltb (before + k) limit32) _ _ _ _ _ e₂ λ t e₃.
    in_turn (Read.byte_of kind.ValueType o₁ r₁) _ e₃ λ u o₂ r₂ e₄ e₅.
    let count = number_sound o bs h e₁ in
    let type = (byte_exact kind.ValueType).sound o₁ r₁ (left_bytes count h) e₄ in
    let (ns, few, more) = groups_sound n (before + k) o₂ r₂ (ltb-true (before + k) limit32 t) (left_bytes type (left_bytes count h)) e₅ in (
      k ∷ ns,
      omega (arith, few),
      record {
        front = (count.front ++ type.front) ++ more.front;
        is = count.is ∙ ap (λ x. count.front ++ x) type.is ∙ sym (append_assoc count.front type.front r₂) ∙ ap (λ x. (count.front ++ type.front) ++ x) more.is ∙ sym (append_assoc (count.front ++ type.front) more.front rest);
        means = one_more (group_of count.means type.means) more.means;
      },
    )

groups_complete : {n : ℕ} {bs ns : List ℕ} → Times LocalGroup n bs ns → (before : ℕ) → before + sum ns < limit32 → (o : ℕ) (rest : List ℕ) {w : Unit {0}} → Accepts (local_groups n before) (λ x. x) bs w o rest
unfolding local_groups Read.byte_of
groups_complete no_more before few o rest = record { value = tt; next = o; reads = refl; same = refl }
groups_complete (one_more {others = b} {vs = ns} (group {count = a} {n = k} {t = t} u v) m) before few o rest =
    let more = groups_complete m (before + k) (omega (arith, few)) (suc (o + length a)) rest in
    record {
      value = more.value;
      next = more.next;
      reads = rw (append_assoc (a ++ (t ∷ [])) b rest, append_assoc a (t ∷ []) (b ++ rest), number_complete u o (t ∷ (b ++ rest)), lt-ltb (before + k) limit32 (omega (arith, few)), value_is t v, more.reads);
      same = refl;
    }

pub locals_exact : Reads locals_here Locals
unfolding locals_here
locals_exact = record { sound = sound; complete = complete }
  where
    sound : (o : ℕ) (bs : List ℕ) {v : Unit {0}} {o' : ℕ} {rest : List ℕ} → Bytes bs → locals_here o bs ≡ got v o' rest → Stretch (Unread Locals) v rest bs
    sound o bs h e =
        in_turn (number o bs) _ e λ n o₁ r₁ e₁ e₂.
        let count = number_sound o bs h e₁ in
        let (ns, few, more) = groups_sound n 0 o₁ r₁ (omega arith) (left_bytes count h) e₂ in
        record {
          front = count.front ++ more.front;
          is = count.is ∙ ap (λ x. count.front ++ x) more.is ∙ sym (append_assoc count.front more.front _);
          means = locals (vector count.means more.means) (omega (arith, few));
        }

    complete : {front : List ℕ} {w : Unit {0}} → Locals front → (o : ℕ) (rest : List ℕ) → Accepts locals_here (λ x. x) front w o rest
    complete (locals {ns = ns} (vector {count = a} {entries = b} n m) few) o rest =
        let more = groups_complete m 0 (omega (arith, few)) (o + length a) rest in
        record { value = more.value; next = more.next; reads = rw (append_assoc a b rest, number_complete n o (b ++ rest), more.reads); same = refl }
