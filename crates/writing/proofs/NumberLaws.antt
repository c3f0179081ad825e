-- The loop that puts a number in its fewest bytes. Assumes nothing.
use Prim.Native.Nat.{ℕ, zero, suc, ◌+◌, ◌/◌, ◌%◌, ◌^◌, ◌≤◌, ◌<◌}
use mathlib.Core.List.{List, [], ◌∷◌, ◌++◌, append_assoc}
use mathlib.Core.Path.{◌≡◌, refl, ap, ◌∙◌, sym}
use native.Mathlib.Nat.{pow-succ'}
use native.Mathlib.Omega.{arith}
use borrow.Author.Rules.{rules}
use borrow.Author.Tests.{lt-ltb, le-ltb, ltb-true, ltb-false}
use lib.Dec.{ltb}
use lib.ListN.{length, set, length-set, length-append}
use Rattle.format.specs.Numbers.{fewest, shortest, limit32}
use Rattle.format.specs.Laws.Outcomes.{by_test}
use Rattle.writing.specs.Wrote.{Wrote}
use Rattle.writing.proofs.Laws.{wrote_nothing, wrote_byte, wrote_join, wrote_length}

fewest_last : (more v : ℕ) → v < 128 → fewest more v ≡ v ∷ []
unfolding fewest
fewest_last zero v h = refl
fewest_last (suc more) v h = rw (lt-ltb v 128 h)

fewest_more : (more v : ℕ) → 128 ≤ v → fewest (suc more) v ≡ (128 + v % 128) ∷ fewest more (v / 128)
unfolding fewest
fewest_more more v h = rw (le-ltb v 128 h)

-- the bytes before `next` are written, and those of `rest` complete the number
pub record Numbered (old : List ℕ) (at n : ℕ) (new : List ℕ) (next rest : ℕ) : Type 0 where
  pub before : List ℕ
  pub more : ℕ
  pub so_far : Wrote old new at next before
  pub whole : before ++ fewest more rest ≡ shortest n
  pub bound : rest < 128 ^ suc more

pub numbered_none : {old : List ℕ} {at n : ℕ} → at + length (shortest n) ≤ length old → n < limit32 → Numbered old at n old at n
unfolding shortest
numbered_none h l = record { before = []; more = 4; so_far = wrote_nothing (omega arith); whole = refl; bound = omega arith }

longer_some : (more v : ℕ) → 128 ≤ v → 1 ≤ length (fewest more v)
unfolding fewest
longer_some zero v h = omega arith
longer_some (suc more) v h = rw (fewest_more more v h) (omega arith)

fewest_some : (more v : ℕ) → 1 ≤ length (fewest more v)
fewest_some more v =
    by_test (ltb v 128)
    (λ t. rw (fewest_last more v (ltb-true v 128 t)) (omega arith))
    (λ t. longer_some more v (ltb-false v 128 t))

-- one byte more, by cases on how many may follow
module _ {old : List ℕ} {at n : ℕ} {new : List ℕ} {next rest : ℕ} where
  one_more : (before : List ℕ) (more : ℕ) → Wrote old new at next before → before ++ fewest more rest ≡ shortest n → rest < 128 ^ suc more → at + length (shortest n) ≤ length old → 128 ≤ rest → Numbered old at n (set new next (128 + rest % 128)) (next + 1) (rest / 128)
  one_more before zero w e b r h = absurd (omega arith)
  one_more before (suc more) w e b r h =
      let split : shortest n ≡ (before ++ ((128 + rest % 128) ∷ [])) ++ fewest more (rest / 128) = sym e ∙ rw (fewest_more more rest h, append_assoc before ((128 + rest % 128) ∷ []) (fewest more (rest / 128))) in
      let lengths : length (shortest n) ≡ length before + 1 + length (fewest more (rest / 128)) = ap length split ∙ simp length-append (omega arith) in
      record {
        before = before ++ ((128 + rest % 128) ∷ []);
        more = more;
        so_far = wrote_join w (wrote_byte (omega (arith, wrote_length w, w.next_is, lengths, fewest_some more (rest / 128))));
        whole = sym split;
        bound = omega (arith, pow-succ' 128 (suc more));
      }

  module _ (t : Numbered old at n new next rest) where
    pub numbered_more : at + length (shortest n) ≤ length old → 128 ≤ rest → Numbered old at n (set new next (128 + rest % 128)) (next + 1) (rest / 128)
    numbered_more r h = one_more t.before t.more t.so_far t.whole t.bound r h

    pub numbered_room : at + length (shortest n) ≤ length old → next < length new
    numbered_room r =
        let lengths : length (shortest n) ≡ length t.before + length (fewest t.more rest) = ap length (sym t.whole) ∙ length-append t.before (fewest t.more rest) in
        omega (arith, wrote_length t.so_far, t.so_far.next_is, lengths, fewest_some t.more rest)

    pub numbered_length : length new ≡ length old
    numbered_length = wrote_length t.so_far

    pub numbered_all : at + length (shortest n) ≤ length old → rest < 128 → Wrote old (set new next rest) at (next + 1) (shortest n)
    numbered_all r h =
        let last : t.before ++ (rest ∷ []) ≡ shortest n = rw (← fewest_last t.more rest h) t.whole in
        rw last at (wrote_join t.so_far (wrote_byte {b = rest} (numbered_room r)))

    pub numbered_long : (b : ℕ) → length (set new next b) ≡ length old
    numbered_long b = length-set new next b ∙ numbered_length

pub ruleset numbers = (numbered_none, numbered_more, numbered_room, numbered_length, numbered_long, numbered_all, rules)

-- how many bytes that is
one_byte_more : (more v k : ℕ) → 128 ≤ v → k ≡ length (fewest more (v / 128)) → 1 + k ≡ length (fewest (suc more) v)
one_byte_more more v k h e = rw (fewest_more more v h) (omega (arith, e))

short : (more v : ℕ) → v < 128 → 1 ≡ length (fewest more v)
short more v h = rw (fewest_last more v h)

module _ {n : ℕ} where
  pub takes_one : n < 128 → 1 ≡ length (shortest n)
  unfolding shortest
  takes_one h = short 4 n h

  pub takes_two : 128 ≤ n → n < 16_384 → 2 ≡ length (shortest n)
  unfolding shortest
  takes_two l h = one_byte_more 3 n 1 l (short 3 (n / 128) (omega arith))

  pub takes_three : 16_384 ≤ n → n < 2_097_152 → 3 ≡ length (shortest n)
  unfolding shortest
  takes_three l h = one_byte_more 3 n 2 (omega arith) (one_byte_more 2 (n / 128) 1 (omega arith) (short 2 (n / 128 / 128) (omega arith)))

  pub takes_four : 2_097_152 ≤ n → n < 268_435_456 → 4 ≡ length (shortest n)
  unfolding shortest
  takes_four l h = one_byte_more 3 n 3 (omega arith) (one_byte_more 2 (n / 128) 2 (omega arith) (one_byte_more 1 (n / 128 / 128) 1 (omega arith) (short 1 (n / 128 / 128 / 128) (omega arith))))

  -- five at most, however large it is
  pub takes_five : 268_435_456 ≤ n → 5 ≡ length (shortest n)
  unfolding shortest fewest
  takes_five l = one_byte_more 3 n 4 (omega arith) (one_byte_more 2 (n / 128) 3 (omega arith) (one_byte_more 1 (n / 128 / 128) 2 (omega arith) (one_byte_more 0 (n / 128 / 128 / 128) 1 (omega arith) refl)))

pub ruleset lengths = (takes_one, takes_two, takes_three, takes_four, takes_five, rules)
