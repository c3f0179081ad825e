-- Blocks of ASCII are stepped over: what begins with them is text as what follows them is.
use Prim.Native.Nat.{ℕ, zero, suc, ◌+◌, ◌*◌, ◌-◌, ◌/◌, ◌%◌, ◌≤◌, ◌<◌}
use mathlib.Core.Bool.{Bool, true, false, not, ◌&&◌}
use mathlib.Core.List.{List}
use mathlib.Core.Path.{◌≡◌, refl}
use native.Mathlib.Nat.{add-zero}
use native.Mathlib.Omega.{arith}
use borrow.Author.Rules.{rules}
use borrow.Author.Tests.{ltb-true, ltb-false, eqb-true, not-false}
use lib.Bits.{bit_and}
use lib.Dec.{eqb, ltb}
use lib.ListN.{length, get_or}
use Rattle.format.specs.Laws.Outcomes.{by_test, on_both}
use Rattle.format.specs.Numbers.{limit32}
use Rattle.reading.specs.Texts.{Holds, SeesAscii, Passes, Stands}
use Rattle.reading.proofs.WordLaws.{above_32, below_32, first_ascii, second_ascii, third_ascii, fourth_ascii}
use Rattle.reading.proofs.TextSteps.{ascii_stands, passes_none, passes_join, passed}

-- One byte by itself, and two runs of which the second begins at or before the first's end
is_ascii : (s : List ℕ) (i : ℕ) → get_or s i 0 < 0x80 → SeesAscii s i 1 true
is_ascii s i h = record { all_ascii = λ _ k p q. let same : k ≡ i = omega arith in rw same h }

sees_one : (s : List ℕ) (i : ℕ) → SeesAscii s i 1 (ltb (get_or s i 0) 0x80)
sees_one s i = record { all_ascii = λ e k p q. let same : k ≡ i = omega arith in rw same (ltb-true (get_or s i 0) 0x80 e) }

sees_both : {s : List ℕ} {i j m : ℕ} {a b : Bool} (n whole : ℕ) → SeesAscii s i n a → SeesAscii s j m b → i ≤ j → j ≤ i + n → whole + i ≤ j + m → SeesAscii s i whole (a && b)
sees_both {s} {i} {j} {m} {a} {b} n whole f g p q r =
    record {
      all_ascii = λ e k u v.
          on_both a b e λ x y.
          by_test (ltb k (i + n))
          (λ t. f.all_ascii x k u (ltb-true k (i + n) t))
          (λ t. g.all_ascii y k (omega (arith, ltb-false k (i + n) t)) (omega arith));
    }

-- Runs of which one begins where the other ends
module _ {s : List ℕ} {i : ℕ} {a b : Bool} where
  pub sees_block : SeesAscii s i 8 a → SeesAscii s (i + 8) 8 b → SeesAscii s i 16 (a && b)
  sees_block f g = sees_both 8 16 f g (omega arith) (omega arith) (omega arith)

  pub sees_two_blocks : SeesAscii s i 16 a → SeesAscii s (i + 16) 16 b → SeesAscii s i 32 (a && b)
  sees_two_blocks f g = sees_both 16 32 f g (omega arith) (omega arith) (omega arith)

  pub sees_blocks : SeesAscii s i 32 a → SeesAscii s (i + 32) 32 b → SeesAscii s i 64 (a && b)
  sees_blocks f g = sees_both 32 64 f g (omega arith) (omega arith) (omega arith)

pub ruleset blocks = (sees_block, sees_two_blocks, sees_blocks, rules)

-- Words
all_four : {s : List ℕ} {i : ℕ} (word : ℕ) → Holds s i word → bit_and word 0x80808080 ≡ 0 → SeesAscii s i 4 true
all_four {s} {i} word w e =
    let two = sees_both 1 2 (is_ascii s i (first_ascii word w e)) (is_ascii s (i + 1) (second_ascii word w e)) (omega arith) (omega arith) (omega arith) in
    let three = sees_both 2 3 two (is_ascii s (i + 2) (third_ascii word w e)) (omega arith) (omega arith) (omega arith) in
    sees_both 3 4 three (is_ascii s (i + 3) (fourth_ascii word w e)) (omega arith) (omega arith) (omega arith)

all_eight : {s : List ℕ} {i : ℕ} (low high : ℕ) → Holds s i low → Holds s (i + 4) high → low < limit32 → bit_and (low + high * 0x100000000) 0x8080808080808080 ≡ 0 → SeesAscii s i 8 true
all_eight low high w v h e =
    let word = low + high * 0x100000000 in
    let below : word % 0x100000000 ≡ low = omega (arith, h) in
    let above : word / 0x100000000 ≡ high = omega (arith, h) in
    sees_both 4 8 (all_four low w (rw below at (below_32 word 0x8080808080808080 e))) (all_four high v (rw above at (above_32 word 0x8080808080808080 e))) (omega arith) (omega arith) (omega arith)

module _ {s : List ℕ} {i : ℕ} where
  pub sees_four : {word : ℕ} → Holds s i word → SeesAscii s i 4 (eqb (bit_and word 0x80808080) 0)
  sees_four {word} w = record { all_ascii = λ e. (all_four word w (eqb-true _ _ e)).all_ascii refl }

  pub sees_eight : {low high : ℕ} → Holds s i low → Holds s (i + 4) high → low < limit32 → SeesAscii s i 8 (eqb (bit_and (low + high * 0x100000000) 0x8080808080808080) 0)
  sees_eight {low} {high} w v h = record { all_ascii = λ e. (all_eight low high w v h (eqb-true _ _ e)).all_ascii refl }

pub ruleset words = (sees_four, sees_eight, rules)

-- Fewer bytes than a block
module _ {s : List ℕ} {i : ℕ} (end : ℕ) where
  pub few_eight : {a b : Bool} → i ≤ end → 8 ≤ end - i → end - i < 16 → SeesAscii s i 8 a → SeesAscii s (end - 8) 8 b → SeesAscii s i (end - i) (a && b)
  few_eight h p q f g = sees_both 8 (end - i) f g (omega arith) (omega arith) (omega arith)

  pub few_four : {a b : Bool} → i ≤ end → 4 ≤ end - i → end - i < 8 → SeesAscii s i 4 a → SeesAscii s (end - 4) 4 b → SeesAscii s i (end - i) (a && b)
  few_four h p q f g = sees_both 4 (end - i) f g (omega arith) (omega arith) (omega arith)

  pub few_none : end - i ≡ 0 → {t : Bool} → SeesAscii s i (end - i) t
  few_none e = record { all_ascii = λ _ k p q. absurd (omega arith) }

  pub few_three : i ≤ end → (end - i ≡ 0 → ⊥) → end - i < 4 → SeesAscii s i (end - i) (ltb (get_or s i 0) 0x80 && ltb (get_or s (i + (end - i) / 2) 0) 0x80 && ltb (get_or s (end - 1) 0) 0x80)
  few_three h p q =
      let half : (end - i) / 2 + (end - i) / 2 ≤ end - i = omega arith in
      let rest : end - i ≤ (end - i) / 2 + (end - i) / 2 + 1 = omega arith in
      let two = sees_both 1 (suc ((end - i) / 2)) (sees_one s i) (sees_one s (i + (end - i) / 2)) (omega arith) (omega arith) (omega arith) in
      sees_both (suc ((end - i) / 2)) (end - i) two (sees_one s (end - 1)) (omega arith) (omega arith) (omega arith)

pub ruleset few = (few_eight, few_four, few_none, few_three, rules)

-- What is ASCII is stepped over
over_ascii : {s : List ℕ} {i end : ℕ} (n : ℕ) → i + n ≤ end → end ≤ length s → ((k : ℕ) → i ≤ k → k < i + n → get_or s k 0 < 0x80) → Passes s i end (i + n)
over_ascii zero h q a = rw add-zero (passes_none (omega arith))
over_ascii {s} {i} {end} (suc n) h q a =
    let before : Passes s i end (i + n) = over_ascii n (omega arith) q (λ k p r. a k p (omega arith)) in
    let here : Stands s (i + n) end 1 = ascii_stands (omega arith) q (a (i + n) (omega arith) (omega arith)) in
    let last : Passes s (i + n) end (i + n + 1) = here.one (λ e. absurd (omega arith)) in
    let far : i + n + 1 ≡ i + suc n = omega arith in
    rw far at (passes_join before last)

module _ {s : List ℕ} {from end i : ℕ} (u : Passes s from end i) (q : end ≤ length s) where
  over_run : (n : ℕ) → n ≤ end - i → {told : Bool} → SeesAscii s i n told → told ≡ true → Passes s from end (i + n)
  over_run n h a e = passes_join u (over_ascii n (omega (arith, u.within)) q (a.all_ascii e))

  pub block_lent : {last : ℕ} → last ≡ end - 16 → 16 ≤ end → i < last → i + 16 ≤ end
  block_lent e k h = omega arith

  pub blocks_lent : 64 ≤ end - i → i + 64 ≤ length s
  blocks_lent h = omega (arith, u.within)

  module _ {told : Bool} where
    pub over_block : i + 16 ≤ end → SeesAscii s i 16 told → not told ≡ false → Passes s from end (i + 16)
    over_block h a e = over_run 16 (omega arith) a (not-false told e)

    pub over_blocks : 64 ≤ end - i → SeesAscii s i 64 told → not told ≡ false → Passes s from end (i + 64)
    over_blocks h a e = over_run 64 h a (not-false told e)

module _ {s : List ℕ} {from end : ℕ} {told : Bool} (q : end ≤ length s) where
  pub over_quarter : from + 4 ≤ end → SeesAscii s from 4 told → told ≡ true → Passes s from end (from + 4)
  over_quarter h a e = over_ascii 4 h q (a.all_ascii e)

  pub over_half : from + 8 ≤ end → SeesAscii s from 8 told → told ≡ true → Passes s from end (from + 8)
  over_half h a e = over_ascii 8 h q (a.all_ascii e)

-- The last block begins at or before `i`
pub over_last : {s : List ℕ} {from end i last : ℕ} {told : Bool} → end ≤ length s → Passes s from end i → last ≡ end - 16 → 16 ≤ end → last ≤ i → SeesAscii s last 16 told → told ≡ true → Passes s from end end
over_last {s} {end = end} {i = i} q u f k h a e =
    let far : i + (end - i) ≡ end = omega (arith, u.within) in
    let near : (k : ℕ) → i ≤ k → k < i + (end - i) → get_or s k 0 < 0x80 = λ k p r. a.all_ascii e k (omega (arith, u.within)) (omega (arith, u.within)) in
    let rest : Passes s i end (i + (end - i)) = over_ascii (end - i) (omega (arith, u.within)) q near in
    passes_join u (rw far at rest)

-- Of four bytes that begin a run, three behind the first
pub over_three : {s : List ℕ} {i end next : ℕ} {told : Bool} → i + 4 ≤ end → end ≤ length s → SeesAscii s i 4 told → told ≡ true → Passes s (i + 4) end next → Passes s (i + 1) end next
over_three {s} {i} {end} h q a e v =
    let far : i + 1 + 3 ≡ i + 4 = omega arith in
    let three : Passes s (i + 1) end (i + 1 + 3) = over_ascii 3 (omega arith) q (λ k p r. a.all_ascii e k (omega arith) (omega arith)) in
    passes_join (rw far at three) v

module _ {s : List ℕ} {from end : ℕ} (h : from ≤ end) (q : end ≤ length s) where
  pub over_few : {told : Bool} → SeesAscii s from (end - from) told → told ≡ true → Passes s from end end
  over_few a e =
      let far : from + (end - from) ≡ end = omega arith in
      let all : Passes s from end (from + (end - from)) = over_ascii (end - from) (omega arith) q (a.all_ascii e) in
      rw far at all

pub ruleset runs = (passes_none, passes_join, passed, block_lent, blocks_lent, over_quarter, over_half, over_block, over_blocks, over_last, over_three, over_few, rules)
