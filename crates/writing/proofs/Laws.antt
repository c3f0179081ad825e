-- Writes that follow each other are one write; and the turns of the loops that copy bytes and find digits. Assumes nothing.
use Rattle.std.specs.Prelude.{Ok}
use Prim.Native.Nat.{ℕ, zero, suc, ◌+◌, ◌-◌, ◌/◌, ◌%◌, ◌^◌, ◌≤◌, ◌<◌}
use mathlib.Core.List.{List, [], ◌∷◌, ◌++◌, append_assoc, append-nil}
use mathlib.Core.Path.{◌≡◌, refl, ap, ◌∙◌, sym}
use native.Mathlib.Nat.{pow-succ', add-zero, zero-add}
use native.Mathlib.Numerals.{add-one}
use native.Mathlib.Omega.{arith}
use borrow.Author.Tests.{lt-ltb, le-ltb}
use lib.ListN.{length, take, drop, set, get_or, length-set, length-append, length-take, length-drop, take-append-drop, drop_of_length-le}
use lib.Seq.{set_split, take-suc, take-add, take_all, take_at, drop_at, drop-drop, drop-cons, drop-set-lt, get_or-set_same}
use Rattle.format.specs.Reading.{Judged, accepted}
use Rattle.format.specs.Listing.{digits, decimal}
use Rattle.format.specs.Outputs.{Writes}
use Rattle.format.specs.Laws.Listing.{digits_enough}
use Rattle.format.specs.Laws.Outputs.{writes_all}
use Rattle.writing.specs.Wrote.{Wrote}

pub wrote_nothing : {old : List ℕ} {at : ℕ} → at ≤ length old → Wrote old old at at []
wrote_nothing {old} {at} h = record { next_is = omega arith; fits = h; written = sym (take-append-drop at old) }

-- one byte, as a store leaves it
pub wrote_byte : {old : List ℕ} {at b : ℕ} → at < length old → Wrote old (set old at b) at (at + 1) (b ∷ [])
wrote_byte h = record { next_is = refl; fits = omega arith; written = rw (add-one, set_split) }

module _ {old new : List ℕ} {at next : ℕ} {bytes : List ℕ} (w : Wrote old new at next bytes) where
  front_length : length (take at old ++ bytes) ≡ next
  front_length = simp (length-append, length-take) (omega arith)

  parted : new ≡ (take at old ++ bytes) ++ drop next old
  parted = w.written ∙ sym (append_assoc (take at old) bytes (drop next old))

  front : take next new ≡ take at old ++ bytes
  front = ap (take next) parted ∙ take_at (take at old ++ bytes) (drop next old) next front_length

  back : drop next new ≡ drop next old
  back = ap (drop next) parted ∙ drop_at (take at old ++ bytes) (drop next old) next front_length

  pub wrote_length : length new ≡ length old
  wrote_length = ap length w.written ∙ simp (length-append, length-take, length-drop) (omega arith)

-- one write behind another is one write
pub wrote_join : {old mid new : List ℕ} {at i next : ℕ} {x y : List ℕ} → Wrote old mid at i x → Wrote mid new i next y → Wrote old new at next (x ++ y)
wrote_join {old} {mid} {i = i} {next = next} {y = y} p q =
    let behind : drop next mid ≡ drop next old = rw (q.next_is, ← drop-drop (length y) i mid, ← drop-drop (length y) i old, back p) in
    record {
      next_is = rw length-append (omega arith);
      fits = omega (arith, wrote_length p);
      written = q.written ∙ rw (front p, behind) (simp append_assoc);
    }

-- two results that meet one promise are equal
pub wrote_same : {old new new' : List ℕ} {at next next' : ℕ} {bytes : List ℕ} → Wrote old new at next bytes → Wrote old new' at next' bytes → (new ≡ new') × (next ≡ next')
wrote_same p q =
    let ends = p.next_is ∙ sym q.next_is in
    (p.written ∙ rw ends (sym q.written), ends)

-- a write from the front on is what the answer to a write promises
pub writes_wrote : {wanted : Judged (List ℕ)} {old new bytes : List ℕ} {next : ℕ} → wanted ≡ accepted bytes → Wrote old new 0 next bytes → Writes wanted old new (Ok next)
writes_wrote {bytes = bytes} {next = next} e w =
    let end : next ≡ length bytes = w.next_is ∙ zero-add (length bytes) in
    rw end (writes_all e (omega arith) (rw end at w.written))

-- The loop that copies bytes: the first `k` of them are written
pub record Copied (old : List ℕ) (at : ℕ) (bytes new : List ℕ) (k : ℕ) : Type 0 where
  pub so_far : Wrote old new at (at + k) (take k bytes)
  pub long : length new ≡ length old

pub copied_nothing : {old : List ℕ} {at : ℕ} {bytes : List ℕ} → at + length bytes ≤ length old → Copied old at bytes old 0
copied_nothing h = record { so_far = rw add-zero (wrote_nothing (omega arith)); long = refl }

module _ {old : List ℕ} {at : ℕ} {bytes new : List ℕ} {k : ℕ} (t : Copied old at bytes new k) where
  pub copied_more : at + length bytes ≤ length old → k < length bytes → Copied old at bytes (set new (at + k) (get_or bytes k 0)) (k + 1)
  copied_more r h =
      let next : at + (k + 1) ≡ at + k + 1 = omega arith in
      record {
        so_far = rw (next, add-one k, take-suc bytes k 0 h) (wrote_join t.so_far (wrote_byte (omega arith)));
        long = length-set new (at + k) _ ∙ t.long;
      }

  pub copied_all : length bytes ≤ k → Wrote old new at (at + k) bytes
  copied_all h = rw (take_all k bytes h) at t.so_far

-- The loop that copies blocks: an array takes what is left of the bytes that it has room for, and hands it on
wrote_whole : {old new bytes : List ℕ} {next : ℕ} → Wrote old new 0 next bytes → length bytes ≡ length old → new ≡ bytes
wrote_whole {old} {bytes = bytes} {next = next} w e =
    let behind : drop next old ≡ [] = drop_of_length-le old {i = next} (omega (arith, w.next_is)) in
    w.written ∙ rw behind (append-nil bytes)

pub record Blocks (old : List ℕ) (at : ℕ) (bytes new : List ℕ) (k : ℕ) : Type 0 where
  pub copied : Copied old at bytes new k
  pub within : k ≤ length bytes

pub no_blocks : {old : List ℕ} {at : ℕ} {bytes : List ℕ} → at + length bytes ≤ length old → Blocks old at bytes old 0
no_blocks h = record { copied = copied_nothing h; within = omega arith }

-- the array's own bytes are those that were put into it
pub through_array : {empty block bytes old new : List ℕ} {at end next : ℕ} → length empty ≡ 128 → length bytes ≡ 128 → Wrote empty block 0 end bytes → Wrote old new at next block → Wrote old new at next bytes
through_array {block = block} {bytes = bytes} e f w v =
    let same : block ≡ bytes = wrote_whole w (f ∙ sym e) in
    rw same at v

module _ {old : List ℕ} {at : ℕ} {bytes new : List ℕ} {k : ℕ} (t : Blocks old at bytes new k) where
  pub one_block : {out : List ℕ} {next : ℕ} → 128 ≤ length bytes - k → Wrote new out (at + k) next (take (k + 128 - k) (drop k bytes)) → Blocks old at bytes out (k + 128)
  one_block {out} {next} h w =
      let wide : k + 128 - k ≡ 128 = omega arith in
      let long : length (take 128 (drop k bytes)) ≡ 128 = simp (length-take, length-drop) (omega (arith, t.within)) in
      let part : Wrote new out (at + k) next (take 128 (drop k bytes)) = rw wide at w in
      let ends : next ≡ at + (k + 128) = omega (arith, part.next_is, long) in
      let all : Wrote old out at next (take k bytes ++ take 128 (drop k bytes)) = wrote_join t.copied.so_far part in
      record {
        copied = record { so_far = rw (take-add k 128 bytes) (rw ends at all); long = wrote_length part ∙ t.copied.long };
        within = omega (arith, t.within);
      }

  pub last_bytes : {out : List ℕ} {next : ℕ} → Wrote new out (at + k) next (take (length bytes - k) (drop k bytes)) → Wrote old out at next bytes
  last_bytes v =
      let rest : take (length bytes - k) (drop k bytes) ≡ drop k bytes = take_all (length bytes - k) (drop k bytes) (rw length-drop (omega arith)) in
      rw (take-append-drop k bytes) at (wrote_join t.copied.so_far (rw rest at v))

-- Digits: `suc n` bounds those of `n`, and what is left after one of them is bounded so again
digits_last : (n : ℕ) (after : List ℕ) → n < 10 → digits (suc n) n after ≡ (48 + n) ∷ after
unfolding digits
digits_last n after h = rw (lt-ltb n 10 h, digits)

digits_more : (n : ℕ) (after : List ℕ) → 10 ≤ n → digits (suc n) n after ≡ digits (suc (n / 10)) (n / 10) ((48 + n % 10) ∷ after)
unfolding digits
digits_more n after h = rw (le-ltb n 10 h, digits) (digits_enough n (suc (n / 10)) (n / 10) ((48 + n % 10) ∷ after) (omega arith) (omega arith))

-- The loop that finds digits: those behind `first` stand in `text`, and `rest` has the others, which fit before them
pub record Found (n : ℕ) (text : List ℕ) (first rest : ℕ) : Type 0 where
  pub inside : first < 20
  pub room : rest < 10 ^ suc first
  pub long : length text ≡ 20
  pub same : digits (suc rest) rest (drop (suc first) text) ≡ decimal n

pub found_none : {n : ℕ} {text : List ℕ} → n < 2 ^ 64 → length text ≡ 20 → Found n text 19 n
unfolding decimal
found_none {n} {text} h e =
    record {
      inside = omega arith;
      room = omega arith;
      long = e;
      same = ap (digits (suc n) n) (drop_of_length-le text {i = 20} (omega arith));
    }

-- what stands from a store on
from_store : (text : List ℕ) (i b : ℕ) → i < length text → drop i (set text i b) ≡ b ∷ drop (suc i) text
from_store text i b h =
    let h' : i < length (set text i b) = rw length-set h in
    rw (drop-cons (set text i b) i 0 h', get_or-set_same text i b 0 h, drop-set-lt (suc i) text i b (omega arith))

-- by cases on `first`, so that it stands apart
step_down : {n : ℕ} {text : List ℕ} (first : ℕ) {rest : ℕ} → Found n text first rest → 10 ≤ rest → Found n (set text first (48 + rest % 10)) (first - 1) (rest / 10)
step_down zero t h = absurd (omega arith)
step_down {text = text} (suc first) {rest} t h =
    let less : suc first - 1 ≡ first = omega arith in
    rw less
    (record {
      inside = omega arith;
      room = omega (arith, pow-succ' 10 (suc first));
      long = length-set text (suc first) _ ∙ t.long;
      same = rw (from_store text (suc first) (48 + rest % 10) (omega arith), ← digits_more rest (drop (suc (suc first)) text) h) t.same;
    })

module _ {n : ℕ} {text : List ℕ} {first rest : ℕ} (t : Found n text first rest) where
  pub found_more : 10 ≤ rest → Found n (set text first (48 + rest % 10)) (first - 1) (rest / 10)
  found_more h = step_down first t h

  pub found_room : 10 ≤ rest → 1 ≤ first
  found_room h = before first t.room
    where
      before : (i : ℕ) → rest < 10 ^ suc i → 1 ≤ i
      before zero b = absurd (omega arith)
      before (suc i) b = omega arith

  pub found_end : (b : ℕ) → 20 ≤ length (set text first b)
  found_end b = rw length-set (omega arith)

  found_last : rest < 10 → take (20 - first) (drop first (set text first (48 + rest))) ≡ decimal n
  found_last h =
      let whole : length (drop first (set text first (48 + rest))) ≤ 20 - first = rw (length-drop, length-set) (omega arith) in
      rw (take_all (20 - first) (drop first (set text first (48 + rest))) whole, from_store text first (48 + rest) (omega arith), ← digits_last rest (drop (suc first) text) h) t.same

  -- the text from the first digit on was written
  pub found_all : {old new : List ℕ} {at next : ℕ} → rest < 10 → Wrote old new at next (take (20 - first) (drop first (set text first (48 + rest)))) → Wrote old new at next (decimal n)
  found_all h w = rw (found_last h) at w
