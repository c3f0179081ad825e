-- The subsections that come out as they are, up to the first that does not.
use Rattle.std.specs.Prelude.{Some, None}
use Prim.Native.Nat.{ℕ, ◌+◌, ◌-◌, ◌≤◌, ◌<◌}
use mathlib.Core.List.{List, [], ◌++◌, append_assoc}
use mathlib.Core.Path.{◌≡◌, refl, sym, ap, ◌∙◌}
use native.Mathlib.Omega.{arith}
use borrow.Author.Rules.{rules}
use lib.ListN.{length, take, drop, length-append}
use lib.Seq.{slice_empty, take_at, take-take}
use Rattle.format.specs.Bytes.{Bytes}
use Rattle.format.specs.Numbers.{shortest}
use Rattle.format.specs.Parts.{Part}
use Rattle.format.specs.Tables.{Table}
use Rattle.format.specs.Names.{Kind as AnyKind, Content}
use Rattle.format.specs.Canonical.{bare, trim, write_part, write_content, rewrite_names}
use Rattle.format.proofs.Laws.Codecs.{sized_codec, write_part_mono}
use Rattle.format.proofs.Laws.Numbers.{shortest_mono}
use Rattle.format.specs.Laws.Options.{by_option}
use Rattle.reading.specs.Cursors.{left}
use Rattle.reading.specs.declared.Cursor.{Cursor}
use Rattle.reading.proofs.PartSteps.{take_drop}
use Rattle.copying.proofs.Laws.{part_length}
use Rattle.names.specs.Contents.{kind_meant}
use Rattle.names.specs.Frames.{behind_id, KnownFrame, FrameStands}
use Rattle.names.specs.declared.kinds.Kind.{Kind}
use Rattle.rewrite.specs.Contents.{ContentStands, KnownContent, left_of, Trims}
use Rattle.rewrite.specs.Subsections.{length_left, sub_bytes, PayloadStands, KnownPayload, UnchangedHere, FindsChanged}
use Rattle.rewrite.specs.Returned.{Left}
use Rattle.names.specs.declared.frames.Framed.{Framed}
use Rattle.rewrite.specs.Returned.{Changed}
use Rattle.rewrite.proofs.PutLaws.{left_shorter, left_same}
use Rattle.rewrite.proofs.WholeLaws.{bytes_left}
use Rattle.rewrite.proofs.SubsectionLaws.{names_nil, measured_length, trims_small, nothing_to_come, first_is, frame_known, frame_less, content_known, onward}

-- for callers
pub none_changed : {kind_of : ℕ → AnyKind} {s : List ℕ} {c : Cursor} (x : Changed) → FindsChanged kind_of s c x → x ≡ None → UnchangedHere kind_of s c
none_changed x f h = (rw h at f).finds

-- the front of what a cursor has left
front_left : (s : List ℕ) (c : Cursor) (n : ℕ) (x y : List ℕ) → c.at + n ≤ c.end → length x ≡ n → x ++ y ≡ left s c → x ≡ left s (record { at = c.at; end = c.at + n })
front_left s c n x y h long e =
    let front : take n (left s c) ≡ x = ap (take n) (sym e) ∙ take_at x y n long in
    sym front ∙ take_drop c.at n (take c.end s) ∙ ap (drop c.at) (take-take (c.at + n) c.end s h)

written_length : (x : List ℕ) → length (write_part x) ≡ length (shortest (length x)) + length x
unfolding write_part
written_length x = length-append (shortest (length x)) x

-- A subsection that comes out as long as it is comes out as it is
module _ {kind_of : ℕ → AnyKind} {s : List ℕ} {c : Cursor} {t : Table (Content Part)} (w : PayloadStands kind_of s c t) (h : c.at < c.end) {r : Framed} (f : FrameStands s c r) where
  pub sub_same : {v : Content Part} → ContentStands (kind_of r.id) s r.part v → Bytes s → length (sub_bytes r.id (trim (bare v))) ≡ r.next.at - c.at → left s c ≡ sub_bytes r.id (trim (bare v)) ++ left s r.next
  sub_same {v} z bytes long =
      let stands = f.contents.stands in
      let part : List ℕ = left s r.part in
      let sound = sized_codec.sound (behind_id c).at (left s (behind_id c)) stands.reads in
      let all = part_length stands.inside in
      let behind = part_length stands.behind in
      by_option (trim (bare v))
      (λ n. absurd (omega (arith, ap length (ap (sub_bytes r.id) (sym n)) ∙ long, frame_less w h f, stands.same_end, stands.behind.ahead)))
      (λ d n.
      let short = left_shorter z n in
      let long' : 1 + length (write_part (write_content d)) ≡ r.next.at - c.at = omega (arith, rw n at long) in
      let parts = write_part_mono (write_content d) part short in
      let fewer = shortest_mono (length (write_content d)) (length part) short in
      let lengths = written_length (write_content d) in
      let lengths' = written_length part in
      let is : write_content d ≡ part = left_same z n (bytes_left s r.part bytes) (omega (arith, long', parts, short, fewer, lengths, lengths', sound.shorter, all, behind, stands.same_end, stands.behind.ahead, h)) in
      let there = sound.tight.same (bytes_left s (behind_id c) bytes) (omega (arith, long', parts, sound.shorter, all, behind, stands.same_end, stands.behind.ahead, h)) in
      first_is w h ∙ rw (← f.id_is, n, is, there))

-- All that were passed did
pub record Passing (kind_of : ℕ → AnyKind) (s : List ℕ) (c next : Cursor) : Type 0 where
  pub all : Table (Content Part)
  pub whole : PayloadStands kind_of s c all
  pub to_come_lem : Table (Content Part)
  pub here : PayloadStands kind_of s next to_come_lem
  pub same_end : next.end ≡ c.end
  pub done : List ℕ
  pub same : done ++ left s next ≡ left s c
  pub joined : done ++ rewrite_names to_come_lem ≡ rewrite_names all
  pub bytes : Bytes s

pub passed_none : {kind_of : ℕ → AnyKind} {s : List ℕ} {c : Cursor} → KnownPayload kind_of s c → Bytes s → Passing kind_of s c c
passed_none k h = record { all = k.value; whole = k.stands; to_come_lem = k.value; here = k.stands; same_end = refl; done = []; same = refl; joined = refl; bytes = h }

module _ {kind_of : ℕ → AnyKind} {s : List ℕ} {c next : Cursor} (t : Passing kind_of s c next) where
  pub passed_all : next.end ≤ next.at → FindsChanged kind_of s c None
  passed_all h =
      let at_end : next.at ≡ next.end = omega (arith, t.here.inside.ahead) in
      let empty : left s next ≡ [] = rw at_end (slice_empty next.end s) in
      let nothing : rewrite_names t.to_come_lem ≡ [] = rw (nothing_to_come t.here h, names_nil) in
      record { finds = record { value = t.all; stands = t.whole; is = sym t.joined ∙ rw (nothing, ← empty) t.same } }

  module _ (h : next.at < next.end) where
    pub pass_frame : KnownFrame s next
    pass_frame = frame_known t.here h

    module _ {r : Framed} (f : FrameStands s next r) where
      pub pass_less : r.next.end - r.next.at < next.end - next.at
      pass_less = frame_less t.here h f

      pub pass_ordered : next.at ≤ r.next.at
      pass_ordered = omega (arith, frame_less t.here h f, f.contents.stands.same_end)

      module _ (kind : Kind) (is : kind_meant kind ≡ kind_of r.id) where
        pub pass_content : KnownContent (kind_meant kind) s r.part
        pass_content = rw is (content_known t.here h f)

        module _ {x : Left} {n : ℕ} (w : Trims (kind_meant kind) s r.part x) (long : n ≡ length_left (left_of x)) where
          stands_here : ContentStands (kind_of r.id) s r.part w.value
          stands_here = rw is at w.stands

          joined_ahead : (t.done ++ sub_bytes r.id (trim (bare w.value))) ++ rewrite_names (onward t.here h f stands_here).more ≡ rewrite_names t.all
          joined_ahead =
              let o = onward t.here h f stands_here in
              append_assoc t.done (sub_bytes r.id (trim (bare w.value))) (rewrite_names o.more) ∙ rw (← o.split) t.joined

          pub pass_one : n ≡ r.next.at - next.at → Passing kind_of s c r.next
          pass_one q =
              let o = onward t.here h f stands_here in
              let added : List ℕ = sub_bytes r.id (trim (bare w.value)) in
              let here_same = sub_same t.here h f stands_here t.bytes (sym (measured_length r.id w long) ∙ q) in
              record {
                all = t.all;
                whole = t.whole;
                to_come_lem = o.more;
                here = o.stands;
                same_end = f.contents.stands.same_end ∙ t.same_end;
                done = t.done ++ added;
                same = append_assoc t.done added (left s r.next) ∙ rw (← here_same) t.same;
                joined = joined_ahead;
                bytes = t.bytes;
              }

          pub pass_no_more : FindsChanged kind_of s c (Some (next.at, r, x))
          pass_no_more =
              let o = onward t.here h f stands_here in
              let added : List ℕ = sub_bytes r.id (trim (bare w.value)) in
              let lengths = sym (length-append t.done (left s next)) ∙ ap length t.same in
              let long' : length t.done ≡ next.at - c.at = omega (arith, lengths, part_length t.whole.inside, part_length t.here.inside, t.same_end, t.here.inside.ahead) in
              let ordered : c.at ≤ next.at = omega (arith, lengths, part_length t.whole.inside, part_length t.here.inside, t.same_end) in
              let far : c.at + (next.at - c.at) ≡ next.at = omega (arith, ordered) in
              let front : t.done ≡ left s (record { at = c.at; end = next.at }) = front_left s c (next.at - c.at) t.done (left s next) (omega (arith, ordered, t.same_end, t.here.inside.ahead)) long' t.same ∙ ap (λ (e : ℕ). left s (record { at = c.at; end = e })) far in
              record {
                finds = record {
                  value = t.all;
                  stands = t.whole;
                  before = record { ahead = ordered; within = omega (arith, t.here.inside.ahead, t.here.inside.within) };
                  changed = record { trims = record { value = w.value; stands = stands_here; is = w.is } };
                  more = o.more;
                  behind = o.stands;
                  is = sym joined_ahead ∙ append_assoc t.done added (rewrite_names o.more) ∙ ap (λ (x : List ℕ). x ++ (added ++ rewrite_names o.more)) front;
                };
              }

pub ruleset passed = (passed_none, passed_all, pass_frame, pass_less, pass_ordered, pass_content, trims_small, pass_one, pass_no_more, rules)
