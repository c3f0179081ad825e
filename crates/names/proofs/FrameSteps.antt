-- From subsection to subsection, as the code goes.
use Rattle.std.specs.Prelude.{Ok, Err, Some, None}
use Prim.Native.Nat.{ℕ, suc, ◌+◌, ◌≤◌, ◌<◌}
use mathlib.Core.Bool.{Bool}
use mathlib.Core.List.{List, []}
use mathlib.Core.Path.{◌≡◌, refl}
use native.Mathlib.Numerals.{add-one}
use native.Mathlib.Omega.{arith}
use borrow.Author.Rules.{rules}
use borrow.Author.Tests.{le-leb, lt-leb}
use lib.ListN.{get_or}
use lib.Seq.{slice, slice_empty, slice-cons}
use Rattle.format.specs.Parts.{sized}
use Rattle.format.specs.declared.Refusal.{Refusal}
use Rattle.format.specs.declared.Reason.TheVariants.{SubsectionOrder}
use Rattle.reading.specs.Cursors.{Inside, left, PartReads}
use Rattle.reading.specs.declared.Cursor.{Cursor}
use Rattle.reading.specs.Returned.{PartRead}
use Rattle.reading.proofs.Laws.{sized_means, part_behind}
use Rattle.names.specs.Frames.{frame, FrameReads, behind_id}
use Rattle.names.specs.Returned.{FrameRead}

-- The frame: the id byte, its order, and the size
module _ {least : ℕ} {s : List ℕ} {c : Cursor} (i : Inside s c) where
  pub frame_end : c.end ≤ c.at → FrameReads least s c (Ok None)
  unfolding frame
  frame_end h =
      let q : c.end ≡ c.at = omega (arith, i.ahead) in
      let nothing : left s c ≡ [] = rw (q, slice_empty) in
      record { means = rw nothing; forward = tt; tells = tt }

  module _ {b : ℕ} (h : c.at < c.end) (w : b ≡ get_or s c.at 0) where
    pub frame_low : b < least → FrameReads least s c (Err (record { reason = SubsectionOrder; offset = record { 0 = c.at } }))
    unfolding frame
    frame_low l = record { means = rw (slice-cons c.at c.end s 0 h i.within, ← w, lt-leb least b l); forward = tt; tells = tt }

    module _ {x : PartRead} (l : least ≤ b) (p : PartReads sized s (behind_id c) x) where
      sized_there : sized (suc c.at) (slice (suc c.at) c.end s) ≡ sized (c.at + 1) (left s (behind_id c))
      sized_there = rw add-one

      pub frame_refused : {r : Refusal} → x ≡ Err r → FrameReads least s c (Err r)
      unfolding frame
      frame_refused e = record { means = rw (slice-cons c.at c.end s 0 h i.within, ← w, le-leb least b l, sized_there, ← rw e at p.means); forward = tt; tells = tt }

      pub frame_taken : {part next : Cursor} {told : Bool} → x ≡ Ok (part, next, told) → FrameReads least s c (Ok (Some ((get_or s c.at 0), part, next, told)))
      unfolding frame
      frame_taken e =
          let behind : Inside s (behind_id c) = record { ahead = omega arith; within = i.within } in
          let far = part_behind behind p e in
          record {
            means = rw (slice-cons c.at c.end s 0 h i.within, ← w, le-leb least b l, sized_there, sized_means p e);
            forward = record { above = omega arith; behind = omega (arith, far.forward); in_part = far.in_part; in_rest = far.in_rest; moves = omega (arith, far.forward, far.in_part.ahead, far.ends); same_end = far.same_end };
            tells = rw e at p.tells;
          }

pub rest_inside : {s : List ℕ} {c : Cursor} → Inside s c → c.at < c.end → Inside s (record { at = c.at + 1; end = c.end })
rest_inside i h = record { ahead = omega arith; within = i.within }

pub ruleset frame_steps = (frame_end, frame_low, frame_refused, frame_taken, rest_inside, rules)
