-- What comes next of two payloads, by what comes next of each; and what is to come of a payload that was accepted.
use Rattle.std.specs.Prelude.{Option as Found, Some, None}
use Prim.Native.Nat.{ℕ, suc, ◌+◌, ◌-◌, ◌≤◌, ◌<◌}
use mathlib.Core.List.{List}
use mathlib.Core.Option.{Option, none, some}
use mathlib.Core.Path.{◌≡◌, refl}
use native.Mathlib.Omega.{arith}
use borrow.Author.Rules.{rules}
use borrow.Author.Tests.{ltb-true, ltb-false}
use lib.Dec.{ltb}
use lib.ListN.{get_or}
use Rattle.copying.proofs.Laws.{part_length}
use Rattle.format.specs.Canonical.{bare}
use Rattle.format.specs.Names.{Kind, Content, contents}
use Rattle.format.specs.Parts.{Part, sized}
use Rattle.format.specs.Tables.{Table, row, map_table}
use Rattle.format.proofs.Laws.Codecs.{Sorted, end, next, sized_codec}
use Rattle.format.proofs.Laws.Merging.{sorted_row}
use Rattle.format.proofs.Laws.Names.{SubFine, payload_sound}
use Rattle.format.specs.Laws.Outcomes.{by_test}
use Rattle.names.specs.Frames.{behind_id, FrameStands as FrameThere}
use Rattle.reading.specs.Cursors.{left}
use Rattle.reading.specs.Standing.{Known, TakesPart}
use Rattle.reading.specs.declared.Cursor.{Cursor}
use Rattle.reading.specs.declared.again.Piece.{Piece}
use Rattle.tables.specs.Returned.{Held}
use Rattle.rewrite.specs.Subsections.{PayloadStands}
use Rattle.rewrite.proofs.SubsectionLaws.{nothing_to_come, front, frame_known, content_known, onward}
use Rattle.joining.specs.Contents.{HeldContent}
use Rattle.joining.specs.Subsections.{KnownFrames, FrameStands, FrameHere, FrameTaken, SubsectionNext}

-- A frame
module _ {s : List ℕ} {c : Cursor} (k : KnownFrames s c) where
  pub frame_none : c.end ≤ c.at → FrameHere s c None
  frame_none h = record { here = h }

  module _ (h : c.at < c.end) where
    pub frame_contents : Known sized s (record { at = c.at + 1; end = c.end })
    frame_contents = k.known h

    pub frame_some : {r : Piece} → TakesPart s (record { at = c.at + 1; end = c.end }) r → FrameHere s c (Some ((get_or s c.at 0), r.part, r.next))
    frame_some p = record { here = record { ahead = h; id_is = refl; contents = p } }

pub ruleset framed = (frame_none, frame_contents, frame_some, rules)

-- for callers
no_frame : {s : List ℕ} {c : Cursor} {x : Found (ℕ × Cursor × Cursor)} → FrameHere s c x → x ≡ None → c.end ≤ c.at
no_frame r e = rw e at r.here

a_frame : {s : List ℕ} {c : Cursor} {x : Found (ℕ × Cursor × Cursor)} {id : ℕ} {part next : Cursor} → FrameHere s c x → x ≡ Some (id, part, next) → FrameStands s c id part next
a_frame r e = rw e at r.here

frame_less : {s : List ℕ} {c : Cursor} {id : ℕ} {part next : Cursor} → FrameStands s c id part next → next.end - next.at < c.end - c.at
frame_less {s} {c} f = let w = f.contents.stands in omega (arith, (sized_codec.sound (behind_id c).at (left s (behind_id c)) w.reads).shorter, part_length w.inside, part_length w.behind, w.same_end, w.behind.ahead, f.ahead)

-- Two of them
module _ {s : List ℕ} {c : Cursor} {o : List ℕ} {d : Cursor} {x y : Found (ℕ × Cursor × Cursor)} (p : FrameHere s c x) (q : FrameHere o d y) where
  pub both_end : x ≡ None → y ≡ None → SubsectionNext s c o d None
  both_end g h = record { steps = (no_frame p g, no_frame q h) }

  module _ {i : ℕ} {part next : Cursor} (e : x ≡ Some (i, part, next)) where
    ours : (d.at < d.end → i < get_or o d.at 0) → SubsectionNext s c o d (Some (record { id = i; first = Some part; second = None; next = next; after = d }))
    ours above =
        let f = a_frame p e in
        record { steps = record { first_taken = record { taken = f }; second_taken = record { taken = (refl, above) }; fewer = omega (arith, frame_less f) } }

    pub ours_alone : y ≡ None → SubsectionNext s c o d (Some (record { id = i; first = Some part; second = None; next = next; after = d }))
    ours_alone h = ours (λ l. absurd (omega (arith, no_frame q h, l)))

    pub ours_first : {j : ℕ} {other after : Cursor} → y ≡ Some (j, other, after) → i < j → SubsectionNext s c o d (Some (record { id = i; first = Some part; second = None; next = next; after = d }))
    ours_first g h = let f = a_frame q g in ours (λ l. omega (arith, f.id_is, h))

  module _ {j : ℕ} {other after : Cursor} (e : y ≡ Some (j, other, after)) where
    theirs : (c.at < c.end → j < get_or s c.at 0) → SubsectionNext s c o d (Some (record { id = j; first = None; second = Some other; next = c; after = after }))
    theirs above =
        let f = a_frame q e in
        record { steps = record { first_taken = record { taken = (refl, above) }; second_taken = record { taken = f }; fewer = omega (arith, frame_less f) } }

    pub theirs_alone : x ≡ None → SubsectionNext s c o d (Some (record { id = j; first = None; second = Some other; next = c; after = after }))
    theirs_alone h = theirs (λ l. absurd (omega (arith, no_frame p h, l)))

    pub theirs_first : {i : ℕ} {part next : Cursor} → x ≡ Some (i, part, next) → j < i → SubsectionNext s c o d (Some (record { id = j; first = None; second = Some other; next = c; after = after }))
    theirs_first g h = let f = a_frame p g in theirs (λ l. omega (arith, f.id_is, h))

  module _ {i j : ℕ} {part next other after : Cursor} (e : x ≡ Some (i, part, next)) (g : y ≡ Some (j, other, after)) where
    pub of_both : j ≤ i → i ≤ j → SubsectionNext s c o d (Some (record { id = i; first = Some part; second = Some other; next = next; after = after }))
    of_both h k =
        let f = a_frame p e in
        let f' : FrameStands o d i other after = rw (← same) at (a_frame q g) in
        record { steps = record { first_taken = record { taken = f }; second_taken = record { taken = f' }; fewer = omega (arith, frame_less f, frame_less f') } }
      where
        same : i ≡ j
        same = omega arith

pub ruleset next_subsections = (both_end, ours_alone, ours_first, theirs_alone, theirs_first, of_both, rules)

-- What is to come of a payload that was accepted
module _ {kind_of : ℕ → Kind} {s : List ℕ} {c : Cursor} {t : Table (Content Part)} (w : PayloadStands kind_of s c t) where
  pub frames_known : KnownFrames s c
  frames_known = record { inside = w.inside; known = λ h. (frame_known w h).contents }

  fines : Sorted (SubFine kind_of) 0 (map_table bare t)
  fines = (payload_sound kind_of c.at (left s c) w.reads).sorted

-- One side: what it has of an id, and what is to come behind that
abbrev pub PartedBy : ℕ → Option (Content Part) → (t more : Table (Content Part)) → Type 0
PartedBy id none t more = (t ≡ more) × Sorted (λ k v. Unit {0}) (suc id) (map_table bare more)
PartedBy id (some v) t more = t ≡ row id v more

pub record Side (kind_of : ℕ → Kind) (s : List ℕ) (t : Table (Content Part)) (id : ℕ) (held : Held) (next : Cursor) : Type 0 where
  pub value : Option (Content Part)
  pub holds : HeldContent (kind_of id) s held value
  pub more : Table (Content Part)
  pub stands : PayloadStands kind_of s next more
  pub parted : PartedBy id value t more

sorted_any : {A : Type 0} {P : ℕ → A → Type 0} {least : ℕ} {t : Table A} → Sorted P least t → Sorted (λ k v. Unit {0}) least t
sorted_any end = end
sorted_any (next l p s) = next l tt (sorted_any s)

raised : {P : ℕ → Content (List ℕ) → Type 0} {id j : ℕ} {v : Content Part} {more t : Table (Content Part)} → row j v more ≡ t → id < j → Sorted P 0 (map_table bare t) → Sorted (λ k v. Unit {0}) (suc id) (map_table bare t)
unfolding map_table
raised {P} {j = j} {v} {more} e l s =
    let there : Sorted P 0 (row j (bare v) (map_table bare more)) = rw (← e) at s in
    rw (← e) (next l tt (sorted_any (sorted_row there).2))

module _ {kind_of : ℕ → Kind} {s : List ℕ} {c : Cursor} {t : Table (Content Part)} (w : PayloadStands kind_of s c t) {id : ℕ} where
  above_all : (c.at < c.end → id < get_or s c.at 0) → Sorted (λ k v. Unit {0}) (suc id) (map_table bare t)
  unfolding map_table
  above_all h =
      by_test (ltb c.at c.end)
      (λ z. let l = ltb-true c.at c.end z in let r = front w l in raised r.is (h l) (fines w))
      (λ z. rw (nothing_to_come w (ltb-false c.at c.end z)) end)

  pub side : {next : Cursor} (held : Held) → FrameTaken s c id held next → Side kind_of s t id held next
  side None f =
      let (same, above) = f.taken in
      record { value = none; holds = record { holds = refl }; more = t; stands = rw same w; parted = (refl, above_all above) }
  side {next} (Some part) f =
      let a = f.taken in
      let there : FrameThere s c (record { id = id; part = part; next = next }) = record { id_is = a.id_is; contents = a.contents } in
      let k = content_known w a.ahead there in
      let o = onward w a.ahead there k.stands in
      record { value = some k.value; holds = record { holds = (k.value, k.stands, refl) }; more = o.more; stands = o.stands; parted = o.is }
