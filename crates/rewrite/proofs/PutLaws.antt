-- Contents that were accepted, by kind: what is left of them, written.
use Rattle.std.specs.Prelude.{Some, None}
use Prim.Native.Nat.{ℕ, ◌+◌, ◌-◌, ◌≤◌}
use mathlib.Core.List.{List, [], ◌++◌}
use mathlib.Core.Option.{none, some}
use mathlib.Core.Path.{◌≡◌, refl, sym, ap, ◌∙◌}
use native.Mathlib.Omega.{arith}
use borrow.Author.Rules.{rules}
use lib.ListN.{length, length-append}
use Rattle.format.specs.Bytes.{Bytes}
use Rattle.format.specs.Numbers.{number, shortest}
use Rattle.format.specs.Parts.{Part, sized}
use Rattle.format.specs.Tables.{Table, size, rows, table}
use Rattle.format.specs.Names.{Kind as AnyKind, one_name, name_map, indirect_map, kept, Content, single, names, names_by, whole}
use Rattle.format.specs.Options.{map_some}
use Rattle.format.specs.Canonical.{write_part, write_table, unless_empty, keep_rows, bare_items, bare, trim, write_content}
use Rattle.format.proofs.Laws.Names.{ContentFine, names_by_fine, contents_sound}
use Rattle.format.specs.Laws.Options.{some_is, not_some, in_then, by_option}
use Rattle.format.proofs.Laws.Tables.{kept_rows}
use Rattle.format.specs.Laws.Tight.{tight_whole}
use Rattle.format.proofs.Laws.Trimming.{trim_shorter}
use Rattle.format.proofs.Laws.Unchanged.{groups_unchanged}
use Rattle.reading.specs.Cursors.{left, part_of}
use Rattle.reading.specs.declared.Cursor.{Cursor}
use Rattle.writing.specs.Wrote.{Wrote}
use Rattle.writing.proofs.Laws.{wrote_join, wrote_length}
use Rattle.copying.specs.Bytes.{bare_rows, rows_of, kept_groups, groups_of}
use Rattle.reading.specs.Standing.{Stands, Known, TakesPart}
use Rattle.copying.specs.Standing.{FitsPart, Fits, Puts}
use Rattle.reading.specs.declared.again.Piece.{Piece}
use Rattle.copying.specs.declared.Put.{Put}
use Rattle.reading.proofs.Standing.{one_value}
use Rattle.copying.proofs.Laws.{part_length, part_fits, rows_count}
use Rattle.tables.proofs.Accepted.{known_count}
use Rattle.names.specs.Contents.{kind_meant}
use Rattle.names.specs.declared.kinds.Kind.{Kind}
use Rattle.names.specs.declared.kinds.Kind.TheVariants.{OneName, NameMap, IndirectMap, Kept}
use Rattle.rewrite.specs.Contents.{ContentStands, count_of, sizes_of, left_of, Trims, FitsContent, Counted, PutsContent}
use Rattle.rewrite.specs.Whole.{FitsWhole, PutsWhole}
use Rattle.rewrite.specs.declared.contents.Sizes.{Sizes}
use Rattle.rewrite.specs.Returned.{Left}
use Rattle.rewrite.proofs.ContentLaws.{made_known, one_made, map_made, groups_made, whole_is, one_content, map_rows, groups_rows, map_bytes, groups_bytes}

-- What is left is what stands there, without what is empty
one_remains : (p : Part) {d : Content (List ℕ)} → trim (bare (single p)) ≡ some d → d ≡ single p.bytes
unfolding bare
one_remains p e = sym (some_is e)

pub map_remains : (t : Table Part) {d : Content (List ℕ)} → trim (bare (names t)) ≡ some d → d ≡ names (bare_rows t)
unfolding bare
map_remains t e = in_then (unless_empty (bare_rows t)) _ e λ u e₁ e₂. sym (some_is e₂) ∙ ap names (sym (kept_rows (bare_rows t) e₁).0)

pub groups_remain : (t : Table (Table Part)) {d : Content (List ℕ)} → trim (bare (names_by t)) ≡ some d → d ≡ names_by (kept_groups t)
unfolding bare kept_groups
groups_remain t e = in_then (unless_empty (keep_rows unless_empty (bare_items t))) _ e λ u e₁ e₂. sym (some_is e₂) ∙ ap names_by (sym (kept_rows (keep_rows unless_empty (bare_items t)) e₁).0)

pub whole_remains : (p : Part) {d : Content (List ℕ)} → trim (bare (whole p)) ≡ some d → d ≡ whole p.bytes
unfolding bare
whole_remains p e = sym (some_is e)

-- One name
module _ {s : List ℕ} {part : Cursor} {old : List ℕ} {at : ℕ} (f : FitsContent one_name s part old at) where
  pub put_one_known : Known sized s part
  put_one_known = made_known (one_made f.stands)

  module _ {r : Piece} (p : TakesPart s part r) where
    one_bytes : write_content f.remains ≡ write_part (left s r.part)
    unfolding write_content
    one_bytes =
        let m = one_made f.stands in
        let same : f.value ≡ single (part_of s r.part) = m.is ∙ ap single (one_value m.stands p.stands) in
        ap write_content (one_remains (part_of s r.part) (rw same at f.is))

    pub put_one_room : FitsPart s r.part old at
    put_one_room = record { inside = p.in_part; small = part_fits p.stands; room = rw one_bytes at f.room }

    pub put_one : {new : List ℕ} {next : ℕ} → Wrote old new at next (write_part (left s r.part)) → PutsContent one_name s part old new at next
    put_one w = record { value = f.value; stands = f.stands; remains = f.remains; is = f.is; wrote = rw one_bytes w }

pub ruleset one_put = (put_one_known, put_one_room, put_one, wrote_length, rules)

-- A name map
module _ {s : List ℕ} {part : Cursor} {old : List ℕ} {at : ℕ} (f : FitsContent name_map s part old at) where
  pub put_map_known : Known number s part
  put_map_known = known_count sized (map_made f.stands).stands

  module _ {n : ℕ} {d : Cursor} (i : Stands number s part n d) where
    bytes : write_content f.remains ≡ shortest n ++ rows_of (map_made f.stands).inner
    bytes =
        let m = map_made f.stands in
        let d_is = map_remains m.inner (rw m.is at f.is) in
        ap write_content d_is ∙ map_bytes m.inner ∙ rw (rows_count n 0 (map_rows i f.stands))

    long : length (write_content f.remains) ≡ length (shortest n) + length (rows_of (map_made f.stands).inner)
    long = ap length bytes ∙ length-append (shortest n) (rows_of (map_made f.stands).inner)

    pub put_map_count_room : at + length (shortest n) ≤ length old
    put_map_count_room = omega (arith, f.room, long)

    module _ {mid : List ℕ} {from : ℕ} (w : Wrote old mid at from (shortest n)) where
      pub put_map_rows_room : Fits (rows sized n 0) rows_of s d mid from
      put_map_rows_room = record { value = _; next = _; stands = map_rows i f.stands; room = omega (arith, f.room, long, w.next_is, wrote_length w) }

      pub put_map : {new : List ℕ} {r : Put} → Puts (rows sized n 0) rows_of s d mid new from r → PutsContent name_map s part old new at r.at
      put_map p =
          let same = one_value (map_rows i f.stands) p.stands in
          record { value = f.value; stands = f.stands; remains = f.remains; is = f.is; wrote = rw bytes (wrote_join w (rw same p.wrote)) }

pub ruleset map_put = (put_map_known, put_map_count_room, put_map_rows_room, put_map, wrote_length, rules)

-- An indirect map, of which `count` groups have entries
module _ {s : List ℕ} {part : Cursor} {old : List ℕ} {at : ℕ} (f : FitsContent indirect_map s part old at) where
  pub put_groups_known : Known number s part
  put_groups_known = known_count (table sized) (groups_made f.stands).stands

  module _ {count : ℕ} (k : Counted indirect_map s part count) where
    groups_bytes_are : write_content f.remains ≡ shortest count ++ groups_of (groups_made f.stands).inner
    unfolding count_of
    groups_bytes_are =
        let m = groups_made f.stands in
        let d_is = groups_remain m.inner (rw m.is at f.is) in
        let same : k.remains ≡ f.remains = some_is (sym k.is ∙ ap (λ (c : Content Part). trim (bare c)) (one_content k.stands f.stands) ∙ f.is) in
        let many : count ≡ size (kept_groups m.inner) = k.counted ∙ ap count_of (same ∙ d_is) in
        ap write_content d_is ∙ groups_bytes m.inner ∙ rw (← many)

    groups_long : length (write_content f.remains) ≡ length (shortest count) + length (groups_of (groups_made f.stands).inner)
    groups_long = ap length groups_bytes_are ∙ length-append (shortest count) (groups_of (groups_made f.stands).inner)

    pub put_groups_count_room : at + length (shortest count) ≤ length old
    put_groups_count_room = omega (arith, f.room, groups_long)

    module _ {n : ℕ} {d : Cursor} (i : Stands number s part n d) where
      module _ {mid : List ℕ} {from : ℕ} (w : Wrote old mid at from (shortest count)) where
        pub put_groups_room : Fits (rows (table sized) n 0) groups_of s d mid from
        put_groups_room = record { value = _; next = _; stands = groups_rows i f.stands; room = omega (arith, f.room, groups_long, w.next_is, wrote_length w) }

        pub put_groups : {new : List ℕ} {r : Put} → Puts (rows (table sized) n 0) groups_of s d mid new from r → PutsContent indirect_map s part old new at r.at
        put_groups p =
            let same = one_value (groups_rows i f.stands) p.stands in
            record { value = f.value; stands = f.stands; remains = f.remains; is = f.is; wrote = rw groups_bytes_are (wrote_join w (rw same p.wrote)) }

pub ruleset groups_put = (put_groups_known, put_groups_count_room, put_groups_room, put_groups, wrote_length, rules)

-- Contents that come out as long as they are
unchanged : {kind : AnyKind} (c : Content Part) {d : Content (List ℕ)} → ContentFine kind (bare c) → trim (bare c) ≡ some d → length (write_content d) ≡ length (write_content (bare c)) → d ≡ bare c
unfolding bare kept_groups write_content
unchanged (single p) h e long = one_remains p e
unchanged (names t) h e long = map_remains t e
unchanged (names_by t) (names_by_fine h) e long = let is = groups_remain t e in is ∙ ap names_by (groups_unchanged (write_table write_part) h.sorted (rw is at long))
unchanged (whole p) h e long = whole_remains p e

module _ {kind : AnyKind} {s : List ℕ} {part : Cursor} where
  -- no longer than they are; and where they are as long, they are what they are
  module _ {c : Content Part} {d : Content (List ℕ)} (w : ContentStands kind s part c) (e : trim (bare c) ≡ some d) where
    pub left_shorter : length (write_content d) ≤ length (left s part)
    left_shorter = let r = contents_sound kind part.at (left s part) w.reads in omega (arith, trim_shorter r.fine e, r.shorter)

    pub left_same : Bytes (left s part) → length (write_content d) ≡ length (left s part) → write_content d ≡ left s part
    left_same h long =
        let r = contents_sound kind part.at (left s part) w.reads in
        let is = unchanged c r.fine e (omega (arith, long, trim_shorter r.fine e, r.shorter)) in
        let long' : length (write_content (bare c)) ≡ length (left s part) = rw is at long in
        ap write_content is ∙ tight_whole [] r.tight (omega (arith, long')) h long'

-- What a measure says of contents: nothing is left, or something of these sizes
pub record Remains (c : Content Part) (z : Sizes) : Type 0 where
  pub remains : Content (List ℕ)
  pub is : trim (bare c) ≡ some remains
  pub count_is : z.count ≡ count_of remains
  pub length_is : z.length ≡ length (write_content remains)

module _ {kind : AnyKind} {s : List ℕ} {part : Cursor} {c : Content Part} (w : ContentStands kind s part c) (x : Left) (t : Trims kind s part x) where
  told : left_of x ≡ map_some sizes_of (trim (bare c))
  told = t.is ∙ ap (λ (d : Content Part). map_some sizes_of (trim (bare d))) (one_content t.stands w)

  pub nothing_left : x ≡ None → trim (bare c) ≡ none
  nothing_left h =
      by_option (trim (bare c))
      (λ n. n)
      (λ d n. absurd (not_some (rw (h, n) at told)))

  pub something_left : {z : Sizes} → x ≡ Some z → Remains c z
  something_left {z} e =
      by_option (trim (bare c))
      (λ n. absurd (not_some (sym (rw (e, n) at told))))
      (λ d n. let q : z ≡ sizes_of d = some_is (rw (e, n) at told) in record { remains = d; is = n; count_is = ap (λ (y : Sizes). y.count) q; length_is = ap (λ (y : Sizes). y.length) q })

-- Contents of a kind, once they were measured: copied or put
module _ {kind : AnyKind} {s : List ℕ} {part : Cursor} {old : List ℕ} {at : ℕ} (f : FitsContent kind s part old at) {z : Sizes} (t : Trims kind s part (Some z)) where
  measured_here : Remains f.value z
  measured_here = something_left f.stands (Some z) t refl

  pub put_ordered : part.at ≤ part.end
  put_ordered = f.stands.inside.ahead

  pub put_counted : Counted kind s part z.count
  put_counted = let m = measured_here in record { value = f.value; stands = f.stands; remains = m.remains; is = m.is; counted = m.count_is }

  module _ (same : z.length ≡ part.end - part.at) where
    -- what fits is what was measured
    as_long : length (write_content f.remains) ≡ part.end - part.at
    as_long = let m = measured_here in let one : f.remains ≡ m.remains = some_is (sym f.is ∙ m.is) in rw one (omega (arith, m.length_is, same))

    pub put_same_room : FitsWhole s part old at
    put_same_room = record { inside = f.stands.inside; room = omega (arith, f.room, as_long) }

    pub put_same : {new : List ℕ} {next : ℕ} → PutsWhole s part old new at next → PutsContent kind s part old new at next
    put_same p =
        let is = left_same f.stands f.is p.bytes (omega (arith, as_long, part_length f.stands.inside, f.stands.inside.ahead)) in
        record { value = f.value; stands = f.stands; remains = f.remains; is = f.is; wrote = rw is p.wrote }

pub ruleset content_put = (put_ordered, put_counted, put_same_room, put_same, wrote_length, rules)

-- Kept contents
module _ {s : List ℕ} {part : Cursor} {old : List ℕ} {at : ℕ} (f : FitsContent kept s part old at) where
  kept_bytes : write_content f.remains ≡ left s part
  unfolding write_content
  kept_bytes = ap write_content (whole_remains (part_of s part) (rw (whole_is f.stands) at f.is))

  pub put_kept_room : FitsWhole s part old at
  put_kept_room = record { inside = f.stands.inside; room = omega (arith, f.room, ap length kept_bytes, part_length f.stands.inside) }

  pub put_kept : {new : List ℕ} {next : ℕ} → PutsWhole s part old new at next → PutsContent kept s part old new at next
  put_kept p = record { value = f.value; stands = f.stands; remains = f.remains; is = f.is; wrote = rw kept_bytes p.wrote }

-- Contents of a kind, row by row
module _ {s : List ℕ} {part : Cursor} (kind : Kind) where
  module _ {old : List ℕ} {at : ℕ} (f : FitsContent (kind_meant kind) s part old at) where
    pub fits_one : kind ≡ OneName → FitsContent one_name s part old at
    fits_one e = rw e at f

    pub fits_map : kind ≡ NameMap → FitsContent name_map s part old at
    fits_map e = rw e at f

    pub fits_indirect : kind ≡ IndirectMap → FitsContent indirect_map s part old at
    fits_indirect e = rw e at f

    fits_kept : kind ≡ Kept → FitsContent kept s part old at
    fits_kept e = rw e at f

    pub kept_room : kind ≡ Kept → FitsWhole s part old at
    kept_room e = put_kept_room (fits_kept e)

    pub puts_kept : {new : List ℕ} {next : ℕ} → kind ≡ Kept → PutsWhole s part old new at next → PutsContent (kind_meant kind) s part old new at next
    puts_kept e p = rw e (put_kept (fits_kept e) p)

  pub counts_indirect : {count : ℕ} → Counted (kind_meant kind) s part count → kind ≡ IndirectMap → Counted indirect_map s part count
  counts_indirect k e = rw e at k

module _ {s : List ℕ} {part : Cursor} {kind : Kind} {old new : List ℕ} {at next : ℕ} where
  pub puts_one : kind ≡ OneName → PutsContent one_name s part old new at next → PutsContent (kind_meant kind) s part old new at next
  puts_one e p = rw e p

  pub puts_map : kind ≡ NameMap → PutsContent name_map s part old new at next → PutsContent (kind_meant kind) s part old new at next
  puts_map e p = rw e p

  pub puts_indirect : kind ≡ IndirectMap → PutsContent indirect_map s part old new at next → PutsContent (kind_meant kind) s part old new at next
  puts_indirect e p = rw e p

pub ruleset content_anew = (fits_one, fits_map, fits_indirect, kept_room, counts_indirect, puts_one, puts_map, puts_indirect, puts_kept, wrote_length, rules)
