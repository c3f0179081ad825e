-- What `sized` and `name` do with what they read first.
use Rattle.std.specs.Prelude.{Ok, Err}
use Prim.Native.Nat.{ℕ, zero, suc, ◌+◌, ◌-◌, ◌≤◌, ◌<◌}
use mathlib.Core.Bool.{Bool, true, false}
use mathlib.Core.List.{List, [], ◌∷◌, ◌++◌}
use mathlib.Core.Path.{◌≡◌, refl, ap, ◌∙◌}
use native.Mathlib.Nat.{zero-add, suc-add}
use native.Mathlib.Omega.{arith}
use borrow.Author.Rules.{rules}
use borrow.Author.Tests.{le-leb, lt-leb}
use lib.Dec.{eqb}
use lib.ListN.{length, take, drop, length-append}
use lib.Seq.{slice, length-slice, drop-drop, take-take, take-nil}
use Rattle.format.specs.Numbers.{shortest}
use Rattle.format.specs.Parts.{sized, name}
use Rattle.format.specs.Canonical.{write_part}
use Rattle.format.specs.Telling.{as_few}
use Rattle.format.specs.Text.{utf8}
use Rattle.format.specs.declared.Refusal.{Refusal}
use Rattle.format.specs.declared.Reason.TheVariants.{PastItsPart, NotText}
use Rattle.reading.specs.Cursors.{Inside, left, NumberReads, PartReads}
use Rattle.reading.specs.declared.Cursor.{Cursor}
use Rattle.reading.proofs.Laws.{number_means, number_tells, number_inside, number_ahead, number_end, sized_means, part_behind}

pub take_drop : (i n : ℕ) (x : List ℕ) → take n (drop i x) ≡ drop i (take (i + n) x)
take_drop zero n x = rw zero-add
take_drop (suc i) n [] = rw take-nil (rw (take-nil (suc i + n)))
take_drop (suc i) n (b ∷ x) = rw suc-add (take_drop i n x)

-- the front of what is left is the slice up to there
slice_front : (s : List ℕ) (i end n : ℕ) → n ≤ end - i → i ≤ end → take n (slice i end s) ≡ slice i (i + n) s
slice_front s i end n h k = take_drop i n (take end s) ∙ ap (drop i) (take-take (i + n) end s (omega arith))

-- a part is as long as its length says, so what is told of the number is told of the part
told_alike : (s : List ℕ) (d : Cursor) (v : ℕ) (bs : List ℕ) → v ≤ d.end - d.at → Inside s d → as_few (shortest v) (left s d) bs ≡ as_few (write_part (slice d.at (d.at + v) s)) (slice (d.at + v) d.end s) bs
unfolding write_part
told_alike s d v bs h l =
    let part : length (slice d.at (d.at + v) s) ≡ v = length-slice d.at (d.at + v) s (omega (arith, l.ahead, l.within)) ∙ omega arith in
    let lengths : length (shortest v) + length (left s d) ≡ length (shortest v ++ slice d.at (d.at + v) s) + length (slice (d.at + v) d.end s) = omega (arith, length-append (shortest v) (slice d.at (d.at + v) s), part, length-slice d.at d.end s l.within, length-slice (d.at + v) d.end s l.within, l.ahead) in
    rw part (ap (λ (n : ℕ). eqb n (length bs)) lengths)

module _ {s : List ℕ} {c : Cursor} where
  pub sized_refused : {r : Refusal} → NumberReads s c (Err r) → PartReads sized s c (Err r)
  unfolding sized
  sized_refused n = record { means = rw (← n.means); same_part = tt; tells = tt }

  module _ {v : ℕ} {d : Cursor} {told : Bool} (i : Inside s c) (n : NumberReads s c (Ok (v, d, told))) where
    pub sized_long : d.end - d.at < v → PartReads sized s c (Err (record { reason = PastItsPart; offset = record { 0 = c.at } }))
    unfolding sized
    sized_long h =
        let l = number_inside i n refl in
        record { means = rw (number_means n refl, length-slice d.at d.end s l.within, lt-leb v (d.end - d.at) h); same_part = tt; tells = tt }

    pub sized_fits : v ≤ d.end - d.at → PartReads sized s c (Ok (record { at = d.at; end = d.at + v }, record { at = d.at + v; end = d.end }, told))
    unfolding sized
    sized_fits h =
        let l = number_inside i n refl in
        record {
          means = rw (number_means n refl, length-slice d.at d.end s l.within, le-leb v (d.end - d.at) h, slice_front s d.at d.end v h l.ahead, drop-drop);
          same_part = (refl, number_end n refl);
          tells = number_tells n refl ∙ told_alike s d v (left s c) h l;
        }

pub ruleset sized_steps = (sized_refused, sized_long, sized_fits, number_ahead, rules)

module _ {s : List ℕ} {c : Cursor} where
  pub name_refused : {r : Refusal} → PartReads sized s c (Err r) → PartReads name s c (Err r)
  unfolding name
  name_refused n = record { means = rw (← n.means); same_part = tt; tells = tt }

  module _ {part next : Cursor} {told : Bool} (n : PartReads sized s c (Ok (part, next, told))) where
    pub name_taken : {b : Bool} → b ≡ utf8 (slice part.at part.end s) → b ≡ true → PartReads name s c (Ok (part, next, told))
    unfolding name
    name_taken q t = record { means = rw (sized_means n refl, ← q, t); same_part = n.same_part; tells = n.tells }

    pub name_not_text : {b : Bool} → b ≡ utf8 (slice part.at part.end s) → b ≡ false → PartReads name s c (Err (record { reason = NotText; offset = record { 0 = part.at } }))
    unfolding name
    name_not_text q t = record { means = rw (sized_means n refl, ← q, t); same_part = tt; tells = tt }

  module _ {part next : Cursor} {told : Bool} (i : Inside s c) (n : PartReads sized s c (Ok (part, next, told))) where
    pub part_ahead : part.at ≤ part.end
    part_ahead = (part_behind i n refl).in_part.ahead

    pub part_within : part.end ≤ length s
    part_within = (part_behind i n refl).in_part.within

pub ruleset name_steps = (name_refused, name_taken, name_not_text, part_ahead, part_within, rules)
