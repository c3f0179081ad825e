-- The subsections of a payload that was accepted, one after the other, measured.
use Rattle.std.specs.Prelude.{Some, None}
use Prim.Native.Nat.{ℕ, zero, suc, ◌+◌, ◌-◌, ◌^◌, ◌≤◌, ◌<◌}
use mathlib.Core.List.{List, [], ◌∷◌, ◌++◌}
use mathlib.Core.Option.{Option, none, some}
use mathlib.Core.Path.{◌≡◌, refl, sym, ap, ◌∙◌}
use native.Mathlib.Nat.{zero-add}
use native.Mathlib.Numerals.{add-one}
use native.Mathlib.Omega.{arith}
use borrow.Author.Rules.{rules}
use borrow.Author.Tests.{le-leb}
use lib.ListN.{length, get_or, length-append}
use lib.Seq.{slice-cons, slice_empty}
use Rattle.format.specs.Reading.{Outcome, got}
use Rattle.format.specs.Numbers.{shortest, limit32}
use Rattle.format.specs.Options.{map_some}
use Rattle.format.specs.Parts.{Part, sized}
use Rattle.format.specs.Tables.{Table, nil, row, map_table}
use Rattle.format.specs.Names.{Kind as AnyKind, Content, contents, subsections, payload}
use Rattle.format.specs.Canonical.{bare, trim, keep_rows, write_part, write_content, write_subsections, rewrite_names}
use Rattle.format.specs.Laws.Outcomes.{got_value, got_next, got_rest}
use Rattle.format.specs.Laws.Options.{some_is, not_some, by_option}
use Rattle.format.specs.Laws.Turns.{in_subsection}
use Rattle.format.proofs.Laws.Passing.{sized_passes}
use Rattle.format.proofs.Laws.Codecs.{sized_codec}
use Rattle.format.proofs.Laws.Names.{payload_sound}
use Rattle.format.proofs.Laws.CanonicalNames.{subsections_shorter}
use Rattle.reading.specs.Cursors.{Inside, left, part_of}
use Rattle.reading.specs.declared.Cursor.{Cursor}
use Rattle.reading.proofs.Standing.{stand}
use Rattle.copying.proofs.Laws.{part_length, part_fits}
use Rattle.copying.proofs.Measuring.{shortest_short}
use Rattle.names.specs.Contents.{kind_meant}
use Rattle.names.specs.Frames.{behind_id, KnownFrame, FrameStands}
use Rattle.names.specs.declared.kinds.Kind.{Kind}
use Rattle.rewrite.specs.Contents.{ContentStands, KnownContent, sizes_of, left_of, Trims}
use Rattle.rewrite.specs.Subsections.{SmallLeft, length_left, sub_bytes, PayloadStands, KnownPayload, MeasuresPayload}
use Rattle.rewrite.specs.declared.contents.Sizes.{Sizes}
use Rattle.rewrite.specs.Returned.{Left}
use Rattle.names.specs.declared.frames.Framed.{Framed}
use Rattle.rewrite.proofs.ContentLaws.{one_content}
use Rattle.rewrite.proofs.PutLaws.{left_shorter}

-- A subsection's length
module _ (x : Left) where
  pub length_none : x ≡ None → 0 ≡ length_left (left_of x)
  length_none h = rw h

  module _ {z : Sizes} (e : x ≡ Some z) where
    pub length_small : SmallLeft x → z.length < limit32
    length_small h = rw e at h

    pub length_fits : {n : ℕ} → SmallLeft x → n ≡ length (shortest z.length) + z.length → 1 + n < 2 ^ 64
    length_fits h q = omega (arith, length_small h, shortest_short z.length)

    pub length_some : {n : ℕ} → n ≡ length (shortest z.length) + z.length → 1 + n ≡ length_left (left_of x)
    length_some q = rw (e, q)

pub ruleset subsection_measured = (length_none, length_small, length_fits, length_some, rules)

-- What a subsection adds to the rewriting
pub names_nil : rewrite_names nil ≡ []
unfolding rewrite_names map_table keep_rows write_subsections
names_nil = refl

pub names_row : (id : ℕ) (c : Content Part) (t : Table (Content Part)) → rewrite_names (row id c t) ≡ sub_bytes id (trim (bare c)) ++ rewrite_names t
unfolding rewrite_names map_table keep_rows write_subsections
names_row id c t = by_option (trim (bare c)) (λ n. rw n) (λ d n. rw n)

length_sub : (id : ℕ) (x : Option (Content (List ℕ))) → length_left (map_some sizes_of x) ≡ length (sub_bytes id x)
unfolding write_part
length_sub id none = refl
length_sub id (some d) = simp length-append (omega arith)

-- what was measured is its length
pub measured_length : (id : ℕ) {kind : _} {s : List ℕ} {part : Cursor} {x : Left} {n : ℕ} (w : Trims kind s part x) → n ≡ length_left (left_of x) → n ≡ length (sub_bytes id (trim (bare w.value)))
measured_length id w long = long ∙ ap length_left w.is ∙ length_sub id (trim (bare w.value))

-- what is left of contents fits a size number, since the contents do
module _ {kind : _} {s : List ℕ} {part : Cursor} where
  trimmed_small : {c : Content Part} {d : Content (List ℕ)} → ContentStands kind s part c → trim (bare c) ≡ some d → length (write_content d) < limit32
  trimmed_small w e = omega (arith, left_shorter w e, w.small)

  left_small : (x : Left) {c : Content Part} → ContentStands kind s part c → left_of x ≡ map_some sizes_of (trim (bare c)) → SmallLeft x
  left_small None w e = tt
  left_small (Some z) {c} w e =
      by_option (trim (bare c))
      (λ n. absurd (not_some (sym (rw n at e))))
      (λ d n. let q : z ≡ sizes_of d = some_is (rw n at e) in rw q (trimmed_small w n))

  pub trims_small : (x : Left) → Trims kind s part x → SmallLeft x
  trims_small x t = left_small x t.stands t.is

-- THE SUBSECTIONS TO COME of a payload that was accepted: the bound on their number is never met, and none is too small to be the first
module _ (kind_of : ℕ → AnyKind) where
  enough : (most most' least o : ℕ) (bs : List ℕ) {t : Table (Content Part)} {o' : ℕ} {rest : List ℕ} → length bs ≤ most → length bs ≤ most' → subsections kind_of most least o bs ≡ got t o' rest → subsections kind_of most' least o bs ≡ got t o' rest
  unfolding subsections
  enough zero zero least o bs h h' e = e
  enough zero (suc most') least o [] h h' e = e
  enough zero (suc most') least o (id ∷ bs) h h' e = absurd (omega arith)
  enough (suc most) zero least o [] h h' e = e
  enough (suc most) zero least o (id ∷ bs) h h' e = absurd (omega arith)
  enough (suc most) (suc most') least o [] h h' e = e
  enough (suc most) (suc most') least o (id ∷ bs) h h' e =
      in_subsection kind_of most least o id bs e λ p o₁ r₁ c o₂ r₂ more above e₁ e₂ e₃ is.
      let short = (sized_codec.sound (suc o) bs e₁).shorter in
      let e₄ = enough most most' (suc id) o₁ r₁ (omega (arith, short, h)) (omega (arith, short, h')) e₃ in
      rw (le-leb least id above, e₁, e₂, e₄, is)

  any_first : (most least o : ℕ) (bs : List ℕ) {t : Table (Content Part)} {o' : ℕ} {rest : List ℕ} → subsections kind_of most least o bs ≡ got t o' rest → subsections kind_of most 0 o bs ≡ got t o' rest
  unfolding subsections
  any_first zero least o bs e = e
  any_first (suc most) least o [] e = e
  any_first (suc most) least o (id ∷ bs) e =
      in_subsection kind_of most least o id bs e λ p o₁ r₁ c o₂ r₂ more above e₁ e₂ e₃ is.
      rw (le-leb 0 id (omega arith), e₁, e₂, e₃, is)

  a_payload : (most least o : ℕ) (bs : List ℕ) {t : Table (Content Part)} {o' : ℕ} {rest : List ℕ} → length bs ≤ most → subsections kind_of most least o bs ≡ got t o' rest → payload kind_of o bs ≡ got t o' rest
  unfolding payload
  a_payload most least o bs h e = any_first (length bs) least o bs (enough most (length bs) least o bs h (omega arith) e)

  -- the first of them, and those behind it
  pub record Front (o id : ℕ) (bs : List ℕ) (t : Table (Content Part)) (o' : ℕ) (rest : List ℕ) : Type 0 where
    pub part : Part
    pub behind : ℕ
    pub left_behind : List ℕ
    pub content : Content Part
    pub ended : ℕ
    pub left_over : List ℕ
    pub more : Table (Content Part)
    pub reads_part : sized (suc o) bs ≡ got part behind left_behind
    pub reads_content : contents (kind_of id) part.at part.bytes ≡ got content ended left_over
    pub reads_more : payload kind_of behind left_behind ≡ got more o' rest
    pub is : row id content more ≡ t

  front_of : (o id : ℕ) (bs : List ℕ) {t : Table (Content Part)} {o' : ℕ} {rest : List ℕ} → payload kind_of o (id ∷ bs) ≡ got t o' rest → Front o id bs t o' rest
  unfolding payload
  front_of o id bs e =
      in_subsection kind_of (length bs) 0 o id bs e λ p o₁ r₁ c o₂ r₂ more above e₁ e₂ e₃ is.
      record {
        part = p;
        behind = o₁;
        left_behind = r₁;
        content = c;
        ended = o₂;
        left_over = r₂;
        more = more;
        reads_part = e₁;
        reads_content = e₂;
        reads_more = a_payload (length bs) (suc id) o₁ r₁ (omega (arith, (sized_codec.sound (suc o) bs e₁).shorter)) e₃;
        is = is;
      }

  none_there : (o : ℕ) {t : Table (Content Part)} {o' : ℕ} {rest : List ℕ} → payload kind_of o [] ≡ got t o' rest → t ≡ nil
  unfolding payload subsections
  none_there o e = sym (got_value e)

module _ {kind_of : ℕ → AnyKind} {s : List ℕ} {c : Cursor} {t : Table (Content Part)} (w : PayloadStands kind_of s c t) where
  pub one_payload : {u : Table (Content Part)} → PayloadStands kind_of s c u → t ≡ u
  one_payload v = got_value (sym w.reads ∙ v.reads)

  -- a rewriting is never longer than its payload
  pub payload_shorter : length (rewrite_names t) ≤ c.end - c.at
  unfolding rewrite_names
  payload_shorter =
      let r = payload_sound kind_of c.at (left s c) w.reads in
      omega (arith, subsections_shorter kind_of r.sorted, r.shorter, part_length w.inside, w.inside.ahead)

  pub nothing_to_come : c.end ≤ c.at → t ≡ nil
  nothing_to_come h =
      let same : c.at ≡ c.end = omega (arith, w.inside.ahead) in
      let empty : left s c ≡ [] = rw same (slice_empty c.end s) in
      none_there kind_of c.at (rw empty at w.reads)

  module _ (h : c.at < c.end) where
    pub first_is : left s c ≡ get_or s c.at 0 ∷ left s (behind_id c)
    first_is = slice-cons c.at c.end s 0 h w.inside.within ∙ rw (add-one c.at)

    pub front : Front kind_of c.at (get_or s c.at 0) (left s (behind_id c)) t w.next w.rest
    front = front_of kind_of c.at (get_or s c.at 0) (left s (behind_id c)) (rw first_is at w.reads)

    reads_there : sized (behind_id c).at (left s (behind_id c)) ≡ got front.part front.behind front.left_behind
    reads_there = ap (λ (x : ℕ). sized x (left s (behind_id c))) (add-one c.at) ∙ front.reads_part

    pub frame_known : KnownFrame s c
    frame_known =
        let i : Inside s (behind_id c) = record { ahead = omega arith; within = w.inside.within } in
        record { inside = w.inside; ahead = h; contents = record { value = _; next = _; stands = stand sized_passes i reads_there } }

    module _ {r : Framed} (f : FrameStands s c r) where
      -- the code found what stands there
      there : ◌≡◌ {A = Outcome Part} (got front.part front.behind front.left_behind) (got (part_of s r.part) r.next.at (left s r.next))
      there = sym reads_there ∙ f.contents.stands.reads

      content_stands : ContentStands (kind_of r.id) s r.part front.content
      content_stands = record {
        inside = f.contents.in_part;
        next = front.ended;
        rest = front.left_over;
        reads = rw f.id_is (rw (got_value there) at front.reads_content);
        small = part_fits f.contents.stands;
      }

      pub content_known : KnownContent (kind_of r.id) s r.part
      content_known = record { value = front.content; stands = content_stands }

      pub frame_less : r.next.end - r.next.at < c.end - c.at
      frame_less = let v = f.contents.stands in omega (arith, (sized_codec.sound (behind_id c).at (left s (behind_id c)) v.reads).shorter, part_length v.inside, part_length v.behind, v.same_end, v.behind.ahead, h)

      -- and behind it the way goes on
      pub record Onward (v : Content Part) : Type 0 where
        pub more : Table (Content Part)
        pub stands : PayloadStands kind_of s r.next more
        pub is : t ≡ row r.id v more
        pub split : rewrite_names t ≡ sub_bytes r.id (trim (bare v)) ++ rewrite_names more

      pub onward : {v : Content Part} → ContentStands (kind_of r.id) s r.part v → Onward v
      onward {v} z =
          let same : front.content ≡ v = one_content content_stands z in
          let parted : t ≡ row r.id v front.more = sym (rw (← f.id_is, same) at front.is) in
          record {
            more = front.more;
            stands = record {
              inside = f.contents.stands.behind;
              next = w.next;
              rest = w.rest;
              reads = rw (got_next there, got_rest there) at front.reads_more;
            };
            is = parted;
            split = ap rewrite_names parted ∙ names_row r.id v front.more;
          }

-- MEASURED
pub record CountingNames (kind_of : ℕ → AnyKind) (s : List ℕ) (c next : Cursor) (total : ℕ) : Type 0 where
  pub all : Table (Content Part)
  pub whole : PayloadStands kind_of s c all
  pub to_come_lem : Table (Content Part)
  pub here : PayloadStands kind_of s next to_come_lem
  pub so_far : total + length (rewrite_names to_come_lem) ≡ length (rewrite_names all)
  pub small : c.end < 2 ^ 64

pub names_none : {kind_of : ℕ → AnyKind} {s : List ℕ} {c : Cursor} → KnownPayload kind_of s c → c.end < 2 ^ 64 → CountingNames kind_of s c c 0
names_none k h = record { all = k.value; whole = k.stands; to_come_lem = k.value; here = k.stands; so_far = zero-add (length (rewrite_names k.value)); small = h }

module _ {kind_of : ℕ → AnyKind} {s : List ℕ} {c next : Cursor} {total : ℕ} (t : CountingNames kind_of s c next total) where
  pub names_all : next.end ≤ next.at → MeasuresPayload kind_of s c total
  names_all h =
      let nothing : length (rewrite_names t.to_come_lem) ≡ 0 = rw (nothing_to_come t.here h, names_nil) in
      record { value = t.all; stands = t.whole; long = omega (arith, nothing, t.so_far) }

  module _ (h : next.at < next.end) where
    pub names_frame : KnownFrame s next
    names_frame = frame_known t.here h

    module _ {r : Framed} (f : FrameStands s next r) where
      pub names_less : r.next.end - r.next.at < next.end - next.at
      names_less = frame_less t.here h f

      module _ (kind : Kind) (is : kind_meant kind ≡ kind_of r.id) where
        pub names_content : KnownContent (kind_meant kind) s r.part
        names_content = rw is (content_known t.here h f)

        module _ {x : Left} {n : ℕ} (w : Trims (kind_meant kind) s r.part x) (long : n ≡ length_left (left_of x)) where
          pub names_more : CountingNames kind_of s c r.next (total + n)
          names_more =
              let o = onward t.here h f (rw is at w.stands) in
              let more : length (rewrite_names t.to_come_lem) ≡ n + length (rewrite_names o.more) = ap length o.split ∙ length-append (sub_bytes r.id (trim (bare w.value))) (rewrite_names o.more) ∙ rw (← measured_length r.id w long) in
              record { all = t.all; whole = t.whole; to_come_lem = o.more; here = o.stands; so_far = omega (arith, more, t.so_far); small = t.small }

          pub names_fit : total + n < 2 ^ 64
          names_fit = omega (arith, names_more.so_far, payload_shorter names_more.whole, t.small)

pub ruleset names_measured = (names_none, names_all, names_frame, names_less, names_content, trims_small, names_more, names_fit, rules)
