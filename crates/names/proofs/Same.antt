-- Two results that meet one promise are equal.
use Rattle.std.specs.Prelude.{Ok, Err, Some, None}
use Prim.Native.Nat.{ℕ}
use mathlib.Core.Bool.{Bool}
use mathlib.Core.List.{List}
use mathlib.Core.Option.{Option}
use mathlib.Core.Path.{◌≡◌, refl, sym, ap, ◌∙◌}
use Rattle.format.specs.Parts.{Part}
use Rattle.format.specs.Names.{Kind as AnyKind, one_name, name_map, indirect_map, kept}
use Rattle.format.specs.Laws.Outcomes.{not_got, got_value, got_next}
use Rattle.format.specs.Laws.Options.{not_some, some_is}
use Rattle.format.specs.Laws.Refusals.{same_stop}
use Rattle.reading.specs.declared.Cursor.{Cursor}
use Rattle.reading.proofs.Same.{same_cursor, same_part}
use Rattle.reading.proofs.Standing.{part_here_same}
use Rattle.names.specs.Contents.{kind_meant}
use Rattle.names.specs.Frames.{Headed, FrameReads, FrameStands}
use Rattle.names.specs.Places.{sub_of, SubInside, Stands}
use Rattle.names.specs.declared.kinds.Kind.{Kind}
use Rattle.names.specs.declared.kinds.Kind.TheVariants.{OneName, NameMap, IndirectMap, Kept}
use Rattle.names.specs.Returned.{FrameRead}
use Rattle.names.specs.declared.frames.Framed.{Framed}
use Rattle.tables.specs.Returned.{Held}

-- places inside what was lent that stand for one part are one
same_sub : (s : List ℕ) (a b : Held) → SubInside s a → SubInside s b → sub_of s a ≡ sub_of s b → a ≡ b
same_sub s None None i j e = refl
same_sub s None (Some d) i j e = absurd (not_some e)
same_sub s (Some c) None i j e = absurd (not_some (sym e))
same_sub s (Some c) (Some d) i j e = ap Some (same_part c d i j (some_is e))

pub stands_same : {s : List ℕ} {found : Option Part} (a b : Held) → Stands s a found → Stands s b found → a ≡ b
stands_same {s} a b i j = same_sub s a b i.inside j.inside (i.is ∙ sym j.is)

pub framed_same : {s : List ℕ} {c : Cursor} (a b : Framed) → FrameStands s c a → FrameStands s c b → a ≡ b
framed_same a b p q =
    let pieces = part_here_same (record { part = a.part; next = a.next }) (record { part = b.part; next = b.next }) p.contents q.contents in
    let ids = p.id_is ∙ sym q.id_is in
    λ i. record { id = ids i; part = (pieces i).part; next = (pieces i).next }

-- the kind that is meant, as the code has it
kind_of : AnyKind → Kind
kind_of one_name = OneName
kind_of name_map = NameMap
kind_of indirect_map = IndirectMap
kind_of kept = Kept

kind_is : (k : Kind) → kind_of (kind_meant k) ≡ k
unfolding kind_of
kind_is OneName = refl
kind_is NameMap = refl
kind_is IndirectMap = refl
kind_is Kept = refl

pub kind_same : (a b : Kind) → kind_meant a ≡ kind_meant b → a ≡ b
kind_same a b e = sym (kind_is a) ∙ ap kind_of e ∙ kind_is b

-- a subsection
same_frame : {least : ℕ} {s : List ℕ} {c : Cursor} {id k : ℕ} {part next part' next' : Cursor} {told told' : Bool} → FrameReads least s c (Ok (Some (id, part, next, told))) → FrameReads least s c (Ok (Some (k, part', next', told'))) → ◌≡◌ {A = FrameRead} (Ok (Some (id, part, next, told))) (Ok (Some (k, part', next', told')))
same_frame {part = part} {next = next} {part' = part'} {next' = next'} {told = told} {told' = told'} p q =
    let one = p.means ∙ sym q.means in
    let headed = some_is (got_value one) in
    let parts = same_part part part' p.forward.in_part q.forward.in_part (ap (λ (h : Headed). h.value) headed) in
    let behind = same_cursor next next' (got_next one) (p.forward.same_end ∙ sym q.forward.same_end) in
    let tells : told ≡ told' = p.tells ∙ rw (parts, behind) (sym q.tells) in
    λ i. Ok (Some ((headed i).id, (parts i), (behind i), (tells i)))

pub frame_same : {least : ℕ} {s : List ℕ} {c : Cursor} (a b : FrameRead) → FrameReads least s c a → FrameReads least s c b → a ≡ b
frame_same (Ok (Some (id, part, next, t))) (Ok (Some (k, part', next', t'))) p q = same_frame p q
frame_same (Ok (Some (id, part, next, t))) (Ok None) p q = absurd (not_some (sym (got_value (p.means ∙ sym q.means))))
frame_same (Ok (Some (id, part, next, t))) (Err r) p q = absurd (not_got (sym (p.means ∙ sym q.means)))
frame_same (Ok None) (Ok (Some (k, part', next', t))) p q = absurd (not_some (got_value (p.means ∙ sym q.means)))
frame_same (Ok None) (Ok None) p q = refl
frame_same (Ok None) (Err r) p q = absurd (not_got (sym (p.means ∙ sym q.means)))
frame_same (Err r) (Ok (Some (k, part, next, t))) p q = absurd (not_got (p.means ∙ sym q.means))
frame_same (Err r) (Ok None) p q = absurd (not_got (p.means ∙ sym q.means))
frame_same (Err r) (Err t) p q = ap Err (same_stop (p.means ∙ sym q.means))
