-- The subsections of a payload that was accepted, written.
use Rattle.std.specs.Prelude.{Ok, Err, Some, None}
use Prim.Native.Nat.{ℕ, ◌+◌, ◌-◌, ◌≤◌, ◌<◌}
use mathlib.Core.List.{List, [], ◌∷◌, ◌++◌, append_assoc, append-nil}
use mathlib.Core.Path.{◌≡◌, refl, sym, ap, ◌∙◌}
use native.Mathlib.Omega.{arith}
use borrow.Author.Rules.{rules}
use lib.ListN.{length, length-append}
use Rattle.format.specs.Numbers.{shortest, limit32}
use Rattle.format.specs.Parts.{Part}
use Rattle.format.specs.Tables.{Table}
use Rattle.format.specs.Names.{Kind as AnyKind, Content}
use Rattle.format.specs.Canonical.{bare, trim, write_part, write_content, rewrite_names}
use Rattle.format.specs.Laws.Options.{some_is}
use Rattle.format.specs.Laws.Outputs.{writes_short}
use Rattle.format.specs.declared.Reason.TheVariants.{OutputTooShort}
use Rattle.copying.proofs.Laws.{part_length}
use Rattle.reading.specs.Cursors.{left}
use Rattle.reading.specs.declared.Cursor.{Cursor}
use Rattle.writing.specs.Wrote.{Wrote}
use Rattle.writing.proofs.Laws.{wrote_nothing, wrote_join, wrote_length, writes_wrote}
use Rattle.names.specs.Contents.{kind_meant}
use Rattle.names.specs.declared.kinds.Kind.{Kind}
use Rattle.rewrite.specs.Contents.{ContentStands, KnownContent, Trims, FitsContent, PutsContent}
use Rattle.rewrite.specs.Subsections.{sub_bytes, TrimsSubsection, FitsSubsection, PutsSubsection, PayloadStands, KnownPayload, MeasuresPayload, NeedsRoom, ChangedAt, FindsChanged, FitsPayload, PutsPayload, RewritesNames}
use Rattle.rewrite.specs.Whole.{FitsWhole, PutsWhole}
use Rattle.rewrite.specs.declared.contents.Sizes.{Sizes}
use Rattle.rewrite.specs.Returned.{Left}
use Rattle.names.specs.Frames.{KnownFrame, FrameStands}
use Rattle.names.specs.declared.frames.Framed.{Framed}
use Rattle.rewrite.specs.Returned.{Changed}
use Rattle.rewrite.proofs.ContentLaws.{one_content}
use Rattle.rewrite.proofs.PutLaws.{Remains, nothing_left, something_left}
use Rattle.rewrite.proofs.SubsectionLaws.{length_small, names_nil, trims_small, one_payload, payload_shorter, nothing_to_come, frame_known, frame_less, content_known, onward}
use Rattle.rewrite.proofs.ChangeLaws.{none_changed}

-- One subsection: measured
module _ {kind_of : ℕ → AnyKind} {id : ℕ} {s : List ℕ} {part : Cursor} {old : List ℕ} {at : ℕ} (f : FitsSubsection kind_of id s part old at) (kind : Kind) (kind_is : kind_meant kind ≡ kind_of id) where
  pub sub_known : KnownContent (kind_meant kind) s part
  sub_known = record { value = f.value; stands = rw kind_is f.stands }

  pub sub_trims : {x : Left} → Trims (kind_meant kind) s part x → TrimsSubsection kind_of id s part x
  sub_trims t = record { trims = rw kind_is at t }

pub ruleset subsection_put = (sub_known, sub_trims, wrote_length, rules)

-- and put
module _ {kind_of : ℕ → AnyKind} {id : ℕ} {s : List ℕ} {part : Cursor} {old : List ℕ} {at : ℕ} (f : FitsSubsection kind_of id s part old at) (x : Left) (t : TrimsSubsection kind_of id s part x) where
  pub sub_nothing : x ≡ None → PutsSubsection kind_of id s part old old at at
  sub_nothing h = record { value = f.value; stands = f.stands; wrote = rw (nothing_left f.stands x t.trims h) (wrote_nothing (omega (arith, f.room))) }

  module _ {z : Sizes} (e : x ≡ Some z) where
    left_here : Remains f.value z
    left_here = something_left f.stands x t.trims e

    bytes : sub_bytes id (trim (bare f.value)) ≡ id ∷ (shortest z.length ++ write_content left_here.remains)
    unfolding write_part
    bytes = rw (left_here.is, ← left_here.length_is)

    long : at + (1 + (length (shortest z.length) + length (write_content left_here.remains))) ≤ length old
    long = let sizes : length (sub_bytes id (trim (bare f.value))) ≡ 1 + (length (shortest z.length) + length (write_content left_here.remains)) = ap length bytes ∙ simp length-append (omega arith) in omega (arith, f.room, sizes)

    pub sub_small : z.length < limit32
    sub_small = length_small x e (trims_small x t.trims)

    pub sub_id_room : at < length old
    sub_id_room = omega (arith, long)

    pub sub_measured : (kind : Kind) → kind_meant kind ≡ kind_of id → Trims (kind_meant kind) s part (Some z)
    sub_measured kind kind_is = rw (kind_is, ← e) t.trims

    module _ {mid : List ℕ} {size : ℕ} (v : Wrote old mid at size (id ∷ [])) where
      pub sub_size_room : size + length (shortest z.length) ≤ length mid
      sub_size_room = omega (arith, long, v.next_is, wrote_length v)

      module _ {mid' : List ℕ} {from : ℕ} (w : Wrote mid mid' size from (shortest z.length)) (kind : Kind) (kind_is : kind_meant kind ≡ kind_of id) where
        pub sub_contents_room : FitsContent (kind_meant kind) s part mid' from
        sub_contents_room =
            let l = left_here in
            record { value = f.value; stands = rw kind_is f.stands; remains = l.remains; is = l.is; room = omega (arith, long, v.next_is, wrote_length v, w.next_is, wrote_length w) }

        pub sub_put : {new : List ℕ} {next : ℕ} → PutsContent (kind_meant kind) s part mid' new from next → PutsSubsection kind_of id s part old new at next
        sub_put p =
            let l = left_here in
            let same : p.remains ≡ l.remains = some_is (sym p.is ∙ ap (λ (d : Content Part). trim (bare d)) (one_content (rw kind_is at p.stands) f.stands) ∙ l.is) in
            record { value = f.value; stands = f.stands; wrote = rw bytes (wrote_join v (wrote_join w (rw same at p.wrote))) }

pub ruleset measured_put = (sub_nothing, sub_small, sub_id_room, sub_size_room, sub_contents_room, sub_measured, sub_put, wrote_length, rules)

-- One after the other
pub record PuttingNames (kind_of : ℕ → AnyKind) (s : List ℕ) (c : Cursor) (old new : List ℕ) (at place : ℕ) (next : Cursor) : Type 0 where
  pub all : Table (Content Part)
  pub whole : PayloadStands kind_of s c all
  pub to_come_lem : Table (Content Part)
  pub here : PayloadStands kind_of s next to_come_lem
  pub done : List ℕ
  pub so_far : Wrote old new at place done
  pub joined : done ++ rewrite_names to_come_lem ≡ rewrite_names all
  pub room : at + length (rewrite_names all) ≤ length old

pub each_none : {kind_of : ℕ → AnyKind} {s : List ℕ} {c : Cursor} {old : List ℕ} {at : ℕ} → FitsPayload kind_of s c old at → PuttingNames kind_of s c old old at at c
each_none f = record { all = f.value; whole = f.stands; to_come_lem = f.value; here = f.stands; done = []; so_far = wrote_nothing (omega (arith, f.room)); joined = refl; room = f.room }

module _ {kind_of : ℕ → AnyKind} {s : List ℕ} {c : Cursor} {old new : List ℕ} {at place : ℕ} {next : Cursor} (t : PuttingNames kind_of s c old new at place next) where
  pub each_put : next.end ≤ next.at → PutsPayload kind_of s c old new at place
  each_put h =
      let nothing : rewrite_names t.to_come_lem ≡ [] = rw (nothing_to_come t.here h, names_nil) in
      let done_is : t.done ≡ rewrite_names t.all = sym (append-nil t.done) ∙ rw (← nothing) t.joined in
      record { value = t.all; stands = t.whole; wrote = rw done_is at t.so_far }

  module _ (h : next.at < next.end) where
    pub each_frame : KnownFrame s next
    each_frame = frame_known t.here h

    module _ {r : Framed} (f : FrameStands s next r) where
      pub each_less : r.next.end - r.next.at < next.end - next.at
      each_less = frame_less t.here h f

      -- what the subsection adds, before what is to come
      joined_ahead : {v : Content Part} (w : ContentStands (kind_of r.id) s r.part v) → (t.done ++ sub_bytes r.id (trim (bare v))) ++ rewrite_names (onward t.here h f w).more ≡ rewrite_names t.all
      joined_ahead {v} w =
          let o = onward t.here h f w in
          append_assoc t.done (sub_bytes r.id (trim (bare v))) (rewrite_names o.more) ∙ rw (← o.split) t.joined

      pub each_room : FitsSubsection kind_of r.id s r.part new place
      each_room =
          let k = content_known t.here h f in
          let added : List ℕ = sub_bytes r.id (trim (bare k.value)) in
          let lengths = ap length (sym (joined_ahead k.stands)) ∙ length-append (t.done ++ added) (rewrite_names (onward t.here h f k.stands).more) in
          record { value = k.value; stands = k.stands; room = omega (arith, lengths, length-append t.done added, t.room, t.so_far.next_is, wrote_length t.so_far) }

      pub each_more : {after : List ℕ} {place' : ℕ} → PutsSubsection kind_of r.id s r.part new after place place' → PuttingNames kind_of s c old after at place' r.next
      each_more p =
          let o = onward t.here h f p.stands in
          record {
            all = t.all;
            whole = t.whole;
            to_come_lem = o.more;
            here = o.stands;
            done = t.done ++ sub_bytes r.id (trim (bare p.value));
            so_far = wrote_join t.so_far p.wrote;
            joined = joined_ahead p.stands;
            room = t.room;
          }

pub ruleset each_written = (each_none, each_put, each_frame, each_less, each_room, each_more, wrote_length, rules)

-- All of them: those before the first that changes, that one, and those behind it
module _ {kind_of : ℕ → AnyKind} {s : List ℕ} {c : Cursor} {old : List ℕ} (f : FitsPayload kind_of s c old 0) where
  pub names_known : KnownPayload kind_of s c
  names_known = record { value = f.value; stands = f.stands }

  module _ (x : Changed) (found : FindsChanged kind_of s c x) where
    unchanged_here : x ≡ None → rewrite_names f.value ≡ left s c
    unchanged_here h = let u = none_changed x found h in ap rewrite_names (one_payload f.stands u.stands) ∙ u.is

    pub names_same_room : x ≡ None → FitsWhole s c old 0
    names_same_room h = record { inside = f.stands.inside; room = omega (arith, f.room, ap length (unchanged_here h), part_length f.stands.inside) }

    pub names_same : {new : List ℕ} {next : ℕ} → x ≡ None → PutsWhole s c old new 0 next → PutsPayload kind_of s c old new 0 next
    names_same h p = record { value = f.value; stands = f.stands; wrote = rw (unchanged_here h) p.wrote }

    module _ {at : ℕ} {frame : Framed} {z : Left} (e : x ≡ Some (at, frame, z)) where
      first : ChangedAt kind_of s c at frame z
      first = rw e at found.finds

      abbrev front : List ℕ
      front = left s (record { at = c.at; end = at })

      abbrev changed_bytes : List ℕ
      changed_bytes = sub_bytes frame.id (trim (bare first.changed.trims.value))

      value_is : rewrite_names f.value ≡ rewrite_names first.value
      value_is = ap rewrite_names (one_payload f.stands first.stands)

      lengths : length (rewrite_names f.value) ≡ length front + (length changed_bytes + length (rewrite_names first.more))
      lengths = ap length (value_is ∙ first.is) ∙ simp length-append refl

      pub names_front_room : FitsWhole s (record { at = c.at; end = at }) old 0
      names_front_room = record { inside = first.before; room = omega (arith, f.room, lengths, part_length first.before) }

      pub names_changed : TrimsSubsection kind_of frame.id s frame.part z
      names_changed = first.changed

      module _ {mid : List ℕ} {place : ℕ} (p : PutsWhole s (record { at = c.at; end = at }) old mid 0 place) where
        pub names_changed_room : FitsSubsection kind_of frame.id s frame.part mid place
        names_changed_room = record { value = first.changed.trims.value; stands = first.changed.trims.stands; room = omega (arith, f.room, lengths, p.wrote.next_is, wrote_length p.wrote) }

        module _ {mid' : List ℕ} {place' : ℕ} (q : PutsSubsection kind_of frame.id s frame.part mid mid' place place') where
          changed_is : sub_bytes frame.id (trim (bare q.value)) ≡ changed_bytes
          changed_is = ap (λ (d : Content Part). sub_bytes frame.id (trim (bare d))) (one_content q.stands first.changed.trims.stands)

          pub names_behind_room : FitsPayload kind_of s frame.next mid' place'
          names_behind_room = record { value = first.more; stands = first.behind; room = omega (arith, f.room, lengths, ap length changed_is, p.wrote.next_is, wrote_length p.wrote, q.wrote.next_is, wrote_length q.wrote) }

          pub names_put : {new : List ℕ} {next : ℕ} → PutsPayload kind_of s frame.next mid' new place' next → PutsPayload kind_of s c old new 0 next
          names_put r =
              let behind : rewrite_names r.value ≡ rewrite_names first.more = ap rewrite_names (one_payload r.stands first.behind) in
              let all : front ++ (sub_bytes frame.id (trim (bare q.value)) ++ rewrite_names r.value) ≡ rewrite_names f.value = rw (changed_is, behind) (sym (value_is ∙ first.is)) in
              record { value = f.value; stands = f.stands; wrote = rw all at (wrote_join p.wrote (wrote_join q.wrote r.wrote)) }

pub ruleset names_written = (names_known, names_same_room, names_same, names_front_room, names_changed_room, names_changed, names_behind_room, names_put, wrote_length, rules)

-- The room, and the payload: refused or written
module _ {kind_of : ℕ → AnyKind} {s : List ℕ} {c : Cursor} (k : KnownPayload kind_of s c) where
  pub room_ordered : c.at ≤ c.end
  room_ordered = k.stands.inside.ahead

  pub room_most : {room : ℕ} → c.end - c.at ≤ room → NeedsRoom kind_of s c room (c.end - c.at)
  room_most h = record { value = k.value; stands = k.stands; enough = payload_shorter k.stands; needed = λ l. absurd (omega arith) }

pub room_measured : {kind_of : ℕ → AnyKind} {s : List ℕ} {c : Cursor} {room r : ℕ} → MeasuresPayload kind_of s c r → NeedsRoom kind_of s c room r
room_measured m = record { value = m.value; stands = m.stands; enough = omega (arith, m.long); needed = λ l. m.long }

pub ruleset room_found = (room_ordered, room_most, room_measured, rules)

module _ {kind_of : ℕ → AnyKind} {s : List ℕ} {c : Cursor} {old : List ℕ} {r : ℕ} (n : NeedsRoom kind_of s c (length old) r) where
  pub payload_short : length old < r → RewritesNames kind_of s c old old (Err (record { reason = OutputTooShort; offset = record { 0 = r } }))
  payload_short h = record { value = n.value; stands = n.stands; writes = rw (n.needed h) (writes_short refl (rw (n.needed h) at h)) }

  pub payload_room : r ≤ length old → FitsPayload kind_of s c old 0
  payload_room h = record { value = n.value; stands = n.stands; room = omega (arith, h, n.enough) }

pub payload_put : {kind_of : ℕ → AnyKind} {s : List ℕ} {c : Cursor} {old new : List ℕ} {end : ℕ} → PutsPayload kind_of s c old new 0 end → RewritesNames kind_of s c old new (Ok end)
payload_put p = record { value = p.value; stands = p.stands; writes = writes_wrote refl p.wrote }

pub ruleset payload_written = (payload_short, payload_room, payload_put, wrote_length, rules)
