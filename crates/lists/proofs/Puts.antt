-- What is written piece by piece is a row, the rows, and the subsection.
use Prim.Native.Nat.{ℕ, ◌+◌, ◌-◌, ◌≤◌, ◌<◌}
use mathlib.Core.List.{List, [], ◌∷◌, ◌++◌, append_assoc, append-nil}
use mathlib.Core.Path.{◌≡◌, refl, sym, ◌∙◌}
use native.Mathlib.Omega.{arith}
use borrow.Author.Rules.{rules}
use lib.ListN.{length, take, drop, get_or, length-append, length-drop}
use lib.Seq.{length-take-le}
use Rattle.format.specs.Numbers.{shortest, limit32}
use Rattle.format.specs.Canonical.{write_part}
use Rattle.format.specs.Lists.{sum}
use Rattle.lists.specs.Steps.{row_length, rows_length, Joined, Measured, rows_of, filled}
use Rattle.lists.proofs.Laws.{sum_next, rows_next, rows_of_next, rows_of_end}
use Rattle.lists.proofs.Sizes.{rows_least}
use Rattle.writing.specs.Wrote.{Wrote}
use Rattle.writing.proofs.Laws.{wrote_nothing, wrote_join, wrote_length}

pub row_put : {old a b new : List ℕ} {at i j next : ℕ} (index size : ℕ) {name : List ℕ} → Wrote old a at i (shortest index) → Wrote a b i j (shortest size) → Wrote b new j next name → length name ≡ size → Wrote old new at next (shortest index ++ write_part name)
unfolding write_part
row_put index size p q r e = rw (← e) at (wrote_join p (wrote_join q r))

row_bytes : (index size : ℕ) (name : List ℕ) → length name ≡ size → length (shortest index ++ write_part name) ≡ row_length index size
unfolding write_part
row_bytes index size name e = rw (← e) (simp length-append (omega arith))

pub ruleset row_puts = (row_put, rules)

-- The loop over the rows: those before `k` are written, and the next name starts at `start`
pub record Putting (old : List ℕ) (at : ℕ) (is ns text new : List ℕ) (next start k : ℕ) : Type 0 where
  pub before : List ℕ
  pub so_far : Wrote old new at next before
  pub whole : before ++ rows_of (drop k is) (drop k ns) (drop start text) ≡ rows_of is ns text
  pub room : next + rows_length (drop k is) (drop k ns) ≤ length old
  pub inside : start + sum (drop k ns) ≤ length text

pub putting_none : {old : List ℕ} {at : ℕ} {is ns text : List ℕ} → Joined is ns text → at + rows_length is ns ≤ length old → Putting old at is ns text old at 0 0
putting_none j h = record { before = []; so_far = wrote_nothing (omega arith); whole = refl; room = h; inside = omega arith }

module _ {old : List ℕ} {at : ℕ} {is ns text new : List ℕ} {next start k : ℕ} (t : Putting old at is ns text new next start k) where
  module _ (j : Joined is ns text) (h : k < length is) where
    pub putting_room : next + row_length (get_or is k 0) (get_or ns k 0) ≤ length new
    putting_room = omega (arith, rows_next is ns k h j.same_count, wrote_length t.so_far, t.room)

    module _ {n : ℕ} (e : n ≡ get_or ns k 0) where
      pub putting_inside : start + n ≤ length text
      putting_inside = omega (arith, sum_next ns k (omega arith), t.inside)

      pub putting_name : length (take (start + n - start) (drop start text)) ≡ get_or ns k 0
      putting_name =
          let size : start + n - start ≡ n = omega arith in
          rw size (length-take-le n (drop start text) (rw length-drop (omega (arith, putting_inside))) ∙ e)

      pub putting_more : {new' : List ℕ} {next' : ℕ} → Wrote new new' next next' (shortest (get_or is k 0) ++ write_part (take (start + n - start) (drop start text))) → Putting old at is ns text new' next' (start + n) (k + 1)
      putting_more w =
          let size : start + n - start ≡ get_or ns k 0 = omega arith in
          let name : List ℕ = take (get_or ns k 0) (drop start text) in
          let w' = rw size at w in
          let long : length name ≡ get_or ns k 0 = rw size at putting_name in
          let c = j.same_count in
          record {
            before = t.before ++ (shortest (get_or is k 0) ++ write_part name);
            so_far = wrote_join t.so_far w';
            whole =
                append_assoc t.before (shortest (get_or is k 0) ++ write_part name) _
                ∙ rw (append_assoc (shortest (get_or is k 0)) (write_part name), e, ← rows_of_next is ns k text start h c) t.whole;
            room = omega (arith, rows_next is ns k h c, row_bytes (get_or is k 0) (get_or ns k 0) name long, t.room, w'.next_is);
            inside = omega (arith, sum_next ns k (omega arith), t.inside);
          }

  pub putting_length : length new ≡ length old
  putting_length = wrote_length t.so_far

  pub putting_ends : length is ≤ k → Wrote old new at next (rows_of is ns text)
  putting_ends h =
      let all : t.before ≡ rows_of is ns text = sym (append-nil t.before) ∙ rw (← rows_of_end is ns k (drop start text) h) t.whole in
      rw all at t.so_far

pub ruleset rows_puts = (putting_none, putting_room, putting_inside, putting_name, putting_more, putting_length, putting_ends, rules)

-- The subsection, and that it is the payload
module _ {is ns text : List ℕ} {size : ℕ} (m : Measured is ns text size) where
  pub count_small : length is < limit32
  count_small = omega (arith, rows_least is ns m.joined.same_count)

  pub subsection_put : {old a b c new : List ℕ} {i j k next : ℕ} → Wrote old a 0 i (1 ∷ []) → Wrote a b i j (shortest size) → Wrote b c j k (shortest (length is)) → Wrote c new k next (rows_of is ns text) → Wrote old new 0 next (filled is ns text size)
  unfolding filled
  subsection_put p q r s = wrote_join p (wrote_join q (wrote_join r s))

pub ruleset subsection_puts = (count_small, subsection_put, rules)
