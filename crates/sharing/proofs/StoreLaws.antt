-- What is stored, piece by piece, is the payload's blocks.
use Prim.Native.Nat.{ℕ, zero, suc, ◌+◌, ◌-◌, ◌*◌, ◌/◌, ◌%◌, ◌≤◌, ◌<◌, min}
use mathlib.Core.List.{List, [], ◌∷◌, ◌++◌, append-nil, append_assoc}
use mathlib.Core.Path.{◌≡◌, refl, sym, ap, ◌∙◌}
use native.Mathlib.Numerals.{add-one}
use native.Mathlib.Omega.{arith}
use borrow.Author.Rules.{rules}
use borrow.Author.Tests.{leb-true, leb-false}
use lib.Dec.{leb}
use lib.ListN.{length, take, drop, set, get_or, replicate, length-set, length-drop}
use lib.Seq.{drop-drop, take_all, take-suc, get_or-drop, length-take-le, take_at, drop_at}
use Rattle.format.specs.Laws.Outcomes.{by_test}
use Rattle.sharing.specs.Blocks.{words, little_endian, check, body, seal, need, scatter, scatter_in, gather, join}
use Rattle.sharing.specs.Laws.Blocks.{seal_length}
use Rattle.sharing.specs.Table.{blocks}
use Rattle.sharing.proofs.PieceLaws.{rest_of, rest_all, rest_more, rest_last, need_next, need_some, need_last}
use Rattle.sharing.specs.Marks.{SizeFits}
use Rattle.writing.specs.Wrote.{Wrote}
use Rattle.writing.proofs.Laws.{wrote_nothing, wrote_byte, wrote_join, wrote_length}

-- A word

pub word_put : {old a b c new : List ℕ} {at second third fourth next : ℕ} (n : ℕ)
    → Wrote old a at second (n % 256 ∷ []) → Wrote a b second third (n / 256 % 256 ∷ []) → Wrote b c third fourth (n / 65536 % 256 ∷ []) → Wrote c new fourth next (n / 16777216 % 256 ∷ [])
    → Wrote old new at next (little_endian n)
unfolding little_endian
word_put n x y z w = wrote_join x (wrote_join y (wrote_join z w))

module _ {old new : List ℕ} {at next b : ℕ} (w : Wrote old new at next (b ∷ [])) where
  pub byte_long : length new ≡ length old
  byte_long = wrote_length w

  pub byte_next : next ≡ at + 1
  byte_next = w.next_is

pub ruleset word_puts = (word_put, byte_long, byte_next, rules)

-- Zeros

pub record Zeroed (old : List ℕ) (at end : ℕ) (new : List ℕ) (k : ℕ) : Type 0 where
  pub far : at ≤ k
  pub near : k ≤ end
  pub so_far : Wrote old new at k (replicate (k - at) 0)
  pub long : length new ≡ length old

pub zeroed_none : {old : List ℕ} {at end : ℕ} → at ≤ end → end ≤ length old → Zeroed old at end old at
zeroed_none {old} {at} h l = let z : at - at ≡ 0 = omega arith in record { far = omega arith; near = h; so_far = rw z (wrote_nothing (omega arith)); long = refl }

zeros_more : (n : ℕ) → replicate {A = ℕ} n 0 ++ (0 ∷ []) ≡ replicate (suc n) 0
zeros_more zero = refl
zeros_more (suc n) = ap (λ (l : List ℕ). 0 ∷ l) (zeros_more n)

module _ {old : List ℕ} {at end : ℕ} {new : List ℕ} {k : ℕ} (t : Zeroed old at end new k) where
  pub zeroed_more : end ≤ length old → k < end → Zeroed old at end (set new k 0) (k + 1)
  zeroed_more l h =
      let z : k + 1 - at ≡ suc (k - at) = omega (arith, t.far) in
      record {
        far = omega (arith, t.far);
        near = omega arith;
        so_far = ap_zeros (k - at) z (wrote_join t.so_far (wrote_byte (omega (arith, t.long))));
        long = length-set new k 0 ∙ t.long;
      }
    where
      ap_zeros : {x y : List ℕ} {i j : ℕ} (n : ℕ) {m : ℕ} → m ≡ suc n → Wrote x y i j (replicate n 0 ++ (0 ∷ [])) → Wrote x y i j (replicate m 0)
      ap_zeros n e w = rw e (rw (zeros_more n) at w)

  pub zeroed_all : end ≤ k → Wrote old new at end (replicate (end - at) 0)
  zeroed_all h = let z : k ≡ end = omega (arith, t.near) in rw z at t.so_far

pub ruleset zeros = (zeroed_none, zeroed_more, zeroed_all, rules)

-- A part

pub record Copied (old : List ℕ) (at : ℕ) (s : List ℕ) (from count : ℕ) (new : List ℕ) (k : ℕ) : Type 0 where
  pub near : k ≤ count
  pub so_far : Wrote old new at (at + k) (take k (drop from s))
  pub long : length new ≡ length old

pub copied_none : {old : List ℕ} {at : ℕ} {s : List ℕ} {from count : ℕ} → at + count ≤ length old → Copied old at s from count old 0
copied_none {at = at} h = let z : at + 0 ≡ at = omega arith in record { near = omega arith; so_far = rw z (wrote_nothing (omega arith)); long = refl }

module _ {old : List ℕ} {at : ℕ} {s : List ℕ} {from count : ℕ} {new : List ℕ} {k : ℕ} (t : Copied old at s from count new k) where
  pub copied_more : at + count ≤ length old → from + count ≤ length s → k < count → Copied old at s from count (set new (at + k) (get_or s (from + k) 0)) (k + 1)
  copied_more h l m =
      let next : at + (k + 1) ≡ at + k + 1 = omega arith in
      let there : k < length (drop from s) = rw length-drop (omega arith) in
      let e : take (k + 1) (drop from s) ≡ take k (drop from s) ++ (get_or s (from + k) 0 ∷ []) = rw (add-one k) (take-suc (drop from s) k 0 there ∙ ap (λ (b : ℕ). take k (drop from s) ++ (b ∷ [])) (get_or-drop from s k 0)) in
      record {
        near = omega arith;
        so_far = rw (next, e) (wrote_join t.so_far (wrote_byte (omega (arith, t.long))));
        long = length-set new (at + k) _ ∙ t.long;
      }

  pub copied_all : count ≤ k → Wrote old new at (at + k) (take count (drop from s))
  copied_all h = let z : count ≡ k = omega (arith, t.near) in rw z t.so_far

pub ruleset parts_put = (copied_none, copied_more, copied_all, rules)

-- A body

pub body_count : (n : ℕ) → n < 508 → n ≡ min 508 n
body_count n h = omega arith

pub body_full : (n : ℕ) → 508 ≤ n → 508 ≡ min 508 n
body_full n h = omega arith

pub ruleset counts = (body_count, body_full, rules)

body_taken : (p : List ℕ) (count : ℕ) → count ≡ min 508 (length p) → take 508 p ≡ take count p
body_taken p count e = by_test (leb (length p) 508)
    (λ t. let h = leb-true (length p) 508 t in take_all 508 p h ∙ sym (take_all count p (omega arith)))
    (λ t. let h = leb-false (length p) 508 t in let z : count ≡ 508 = omega arith in rw z refl)

module _ {old mid : List ℕ} {at behind count : ℕ} (p : List ℕ) (from : ℕ) (e : count ≡ min 508 (length p - from)) (a : Wrote old mid at behind (take count (drop from p))) where
  count_is : length (take count (drop from p)) ≡ count
  count_is = length-take-le count (drop from p) (rw length-drop (omega arith))

  pub body_behind : behind ≤ at + 508
  body_behind = omega (arith, a.next_is, count_is)

  pub body_room : at + 508 ≤ length old → at + 508 ≤ length mid
  body_room h = omega (arith, wrote_length a)

  pub body_put : {new : List ℕ} → Wrote mid new behind (at + 508) (replicate (at + 508 - behind) 0) → Wrote old new at (at + 508) (body (drop from p))
  unfolding body
  body_put b =
      let z : at + 508 - behind ≡ 508 - length (take count (drop from p)) = omega (arith, a.next_is) in
      let g : count ≡ min 508 (length (drop from p)) = rw length-drop e in
      rw (body_taken (drop from p) count g) (wrote_join a (rw z at b))

pub ruleset bodies_put = (body_behind, body_room, body_put, rules)

-- A block

pub check_put : {old new : List ℕ} {next n : ℕ} (at : ℕ) → n ≡ words (take 508 (drop at old)) → Wrote old new (at + 508) next (little_endian (n % 4294967296)) → Wrote old new (at + 508) next (check (take 508 (drop at old)))
unfolding check
check_put at e w = rw (← e) w

pub ruleset checks_put = (check_put, rules)

module _ {old mid : List ℕ} {at : ℕ} (p : List ℕ) (a : Wrote old mid at (at + 508) (body p)) where
  body_stands : take 508 (drop at mid) ≡ body p
  body_stands =
      let l : length (body p) ≡ 508 = omega (arith, a.next_is) in
      let f : length (take at old) ≡ at = length-take-le at old (omega (arith, a.fits)) in
      ap (λ (x : List ℕ). take 508 (drop at x)) a.written ∙ ap (take 508) (drop_at (take at old) (body p ++ drop (at + 508) old) at f) ∙ take_at (body p) (drop (at + 508) old) 508 l

  pub block_room : at + 512 ≤ length old → at + 512 ≤ length mid
  block_room h = omega (arith, wrote_length a)

  pub block_put : {new : List ℕ} {next : ℕ} → Wrote mid new (at + 508) next (check (take 508 (drop at mid))) → Wrote old new at next (seal p)
  unfolding seal
  block_put w = wrote_join a (rw body_stands at w)

pub ruleset blocks_put = (block_room, block_put, rules)

-- All blocks

join_snoc : (k : ℕ) (p : List ℕ) → join (scatter_in (suc k) p) ≡ join (scatter_in k p) ++ seal (drop (k * 508) p)
unfolding join scatter_in
join_snoc zero p = append-nil (seal p)
join_snoc (suc k) p =
    let z : 508 + k * 508 ≡ suc k * 508 = omega arith in
    ap (λ (l : List ℕ). seal p ++ l) (join_snoc k (drop 508 p) ∙ ap (λ (l : List ℕ). join (scatter_in k (drop 508 p)) ++ seal l) (drop-drop (k * 508) 508 p ∙ ap (λ (i : ℕ). drop i p) z)) ∙ sym (append_assoc (seal p) (join (scatter_in k (drop 508 p))) (seal (drop (suc k * 508) p)))

pub record Stored (old : List ℕ) (first : ℕ) (q new : List ℕ) (at from : ℕ) : Type 0 where
  pub done : ℕ
  pub at_is : at ≡ (first + done) * 512
  pub from_is : from ≡ done * 508
  pub less : done < need (length q)
  pub inside : from ≤ length q
  pub long : length new ≡ length old
  pub so_far : Wrote old new (first * 512) at (join (scatter_in done q))

pub stored_none : {old : List ℕ} (first : ℕ) (q : List ℕ) → SizeFits old first (length q) → Stored old first q old (first * 512) 0
unfolding join scatter_in
stored_none first q w = record {
  done = 0;
  at_is = omega arith;
  from_is = omega arith;
  less = need_some (length q);
  inside = omega arith;
  long = refl;
  so_far = wrote_nothing (omega (arith, w.fits, need_some (length q)));
}

module _ {old : List ℕ} {first : ℕ} {q new : List ℕ} {at from : ℕ} (t : Stored old first q new at from) where
  pub stored_room : SizeFits old first (length q) → at + 512 ≤ length new
  stored_room w = omega (arith, t.at_is, t.less, t.long, w.fits)

  pub stored_inside : from ≤ length q
  stored_inside = t.inside

  module _ {mid : List ℕ} {next : ℕ} (b : Wrote new mid at next (seal (drop from q))) where
    one_more : Wrote old mid (first * 512) next (join (scatter_in (suc t.done) q))
    one_more = rw (join_snoc t.done q, ← t.from_is) (wrote_join t.so_far b)

    next_is : next ≡ at + 512
    next_is = b.next_is ∙ ap (λ (n : ℕ). at + n) (seal_length (drop from q))

    pub stored_more : 508 < length q - from → Stored old first q mid next (from + 508)
    stored_more h = record {
      done = suc t.done;
      at_is = omega (arith, t.at_is, next_is);
      from_is = omega (arith, t.from_is);
      less = need_next (length q) t.done (omega (arith, t.from_is));
      inside = omega arith;
      long = wrote_length b ∙ t.long;
      so_far = one_more;
    }

    pub stored_all : length q - from ≤ 508 → Wrote old mid (first * 512) ((first + need (length q)) * 512) (join (scatter q))
    unfolding scatter
    stored_all h =
        let z : suc t.done ≡ need (length q) = need_last (length q) t.done t.less (omega (arith, t.from_is)) in
        let y : next ≡ (first + need (length q)) * 512 = omega (arith, t.at_is, next_is, z) in
        rw (← y, ← z) one_more

pub ruleset payloads_put = (stored_none, stored_room, stored_inside, stored_more, stored_all, rules)

-- Out of the blocks

pub record Gathered (s : List ℕ) (first size : ℕ) (old new : List ℕ) (at from : ℕ) : Type 0 where
  pub done : ℕ
  pub at_is : at ≡ (first + done) * 512
  pub from_is : from ≡ done * 508
  pub less : done < need size
  pub inside : from ≤ size
  pub long : length new ≡ length old
  pub front : List ℕ
  pub so_far : Wrote old new 0 from front
  pub is : gather size (drop first (blocks s)) ≡ front ++ rest_of s first size done

pub gathered_none : {s : List ℕ} (first size : ℕ) {old : List ℕ} → SizeFits s first size → Gathered s first size old old (first * 512) 0
gathered_none {s} first size w = record {
  done = 0;
  at_is = omega arith;
  from_is = omega arith;
  less = need_some size;
  inside = omega arith;
  long = refl;
  front = [];
  so_far = wrote_nothing (omega arith);
  is = rest_all s first size w.fits;
}

module _ {s : List ℕ} {first size : ℕ} {old new : List ℕ} {at from : ℕ} (t : Gathered s first size old new at from) (w : SizeFits s first size) where
  gathered_end : at + 512 ≤ length s
  gathered_end = omega (arith, t.at_is, t.less, w.fits)

  pub gathered_piece : at + 508 ≤ length s
  gathered_piece = omega (arith, gathered_end)

  pub gathered_rest : size - from ≤ 508 → at + (size - from) ≤ length s
  gathered_rest h = omega (arith, gathered_end)

  pub gathered_room : size ≤ length old → 508 < size - from → from + 508 ≤ length new
  gathered_room h l = omega (arith, t.long)

  pub gathered_last_room : size ≤ length old → from + (size - from) ≤ length new
  gathered_last_room h = omega (arith, t.long, t.inside)

  module _ {mid : List ℕ} {next : ℕ} where
    pub gathered_more : 508 < size - from → Wrote new mid from next (take 508 (drop at s)) → Gathered s first size old mid (at + 512) (from + 508)
    gathered_more h b =
        let k = t.done in
        let e = rest_more s first size w.fits k (omega (arith, t.from_is)) in
        let l : length (take 508 (drop at s)) ≡ 508 = length-take-le 508 (drop at s) (rw length-drop (omega (arith, gathered_end))) in
        let n : next ≡ from + 508 = omega (arith, b.next_is, l) in
        record {
          done = suc k;
          at_is = omega (arith, t.at_is);
          from_is = omega (arith, t.from_is);
          less = need_next size k (omega (arith, t.from_is));
          inside = omega arith;
          long = wrote_length b ∙ t.long;
          front = t.front ++ take 508 (drop at s);
          so_far = rw n at (wrote_join t.so_far b);
          is = t.is ∙ ap (λ (l : List ℕ). t.front ++ l) (e ∙ rw (← t.at_is) refl) ∙ sym (append_assoc t.front (take 508 (drop at s)) (rest_of s first size (suc k)));
        }

    pub gathered_all : size - from ≤ 508 → Wrote new mid from next (take (size - from) (drop at s)) → Wrote old mid 0 size (gather size (drop first (blocks s)))
    gathered_all h b =
        let z : size - t.done * 508 ≡ size - from = omega (arith, t.from_is) in
        let e : rest_of s first size t.done ≡ take (size - from) (drop at s) = rest_last s first size w.fits t.done t.less (omega (arith, t.from_is)) ∙ rw (z, ← t.at_is) refl in
        let l : length (take (size - from) (drop at s)) ≡ size - from = length-take-le (size - from) (drop at s) (rw length-drop (omega (arith, gathered_end))) in
        let y : next ≡ size = omega (arith, b.next_is, l, t.inside) in
        rw (t.is, e) (rw y at (wrote_join t.so_far b))

pub ruleset gathers = (gathered_none, gathered_piece, gathered_rest, gathered_room, gathered_last_room, gathered_more, gathered_all, rules)
