-- Contents that were accepted, by kind: what stands there, what is left of it, and how long that is.
use Rattle.std.specs.Prelude.{Some, None}
use Prim.Native.Nat.{ℕ, ◌+◌, ◌-◌, ◌^◌, ◌≤◌, ◌<◌}
use mathlib.Core.List.{List, ◌++◌}
use mathlib.Core.Option.{none, some}
use mathlib.Core.Path.{◌≡◌, refl, sym, ap, ◌∙◌}
use native.Mathlib.Omega.{arith}
use borrow.Author.Rules.{rules}
use lib.ListN.{length, length-append}
use lib.Seq.{length-slice}
use Rattle.format.specs.Reading.{Reader, filling}
use Rattle.format.specs.Numbers.{number, shortest}
use Rattle.format.specs.Parts.{Part, sized, name, remaining}
use Rattle.format.specs.Tables.{Table, nil, row, size, rows, table}
use Rattle.format.specs.Names.{Kind, one_name, name_map, indirect_map, kept, Content, single, names, names_by, whole, contents}
use Rattle.format.specs.Canonical.{write_table, unless_empty, keep_rows, bare_items, bare, trim, write_content}
use Rattle.format.specs.Laws.Outcomes.{got_value, in_turn}
use Rattle.format.proofs.Laws.Numbers.{shortest_mono}
use Rattle.format.proofs.Laws.Passing.{sized_passes}
use Rattle.format.specs.Laws.Laxer.{name_laxer, table_laxer, filled_laxer}
use Rattle.reading.specs.Cursors.{left, part_of}
use Rattle.reading.specs.declared.Cursor.{Cursor}
use Rattle.copying.specs.Bytes.{bare_rows, rows_of, kept_groups, groups_of}
use Rattle.reading.specs.Standing.{Stands, Known, TakesPart}
use Rattle.copying.specs.Standing.{Measures, MeasuresGroups}
use Rattle.reading.specs.declared.again.Piece.{Piece}
use Rattle.copying.specs.declared.Measured.{Measured}
use Rattle.copying.specs.declared.Groups.{Groups}
use Rattle.reading.proofs.Standing.{stand, one_value}
use Rattle.tables.proofs.Accepted.{table_passable, known_count, table_rows}
use Rattle.copying.proofs.Laws.{number_shorter, rows_shorter, rows_count, groups_shorter, groups_count as groups_few}
use Rattle.copying.proofs.Measuring.{sized_is, size_fits, size_ordered}
use Rattle.rewrite.specs.Contents.{ContentStands, KnownContent, count_of, Trims}
use Rattle.names.specs.Contents.{kind_meant}
use Rattle.names.specs.declared.kinds.Kind.{Kind as KindHere}
use Rattle.names.specs.declared.kinds.Kind.TheVariants.{OneName, NameMap, IndirectMap, Kept}
use Rattle.rewrite.specs.Returned.{Left}

-- What stands in a part of each kind, read again without its checks
pub record Made {A : Type 0} (read : Reader A) (make : A → Content Part) (s : List ℕ) (part : Cursor) (c : Content Part) : Type 0 where
  pub inner : A
  pub next : Cursor
  pub stands : Stands read s part inner next
  pub is : c ≡ make inner

pub made_known : {A : Type 0} {read : Reader A} {make : A → Content Part} {s : List ℕ} {part : Cursor} {c : Content Part} → Made read make s part c → Known read s part
made_known m = record { value = m.inner; next = m.next; stands = m.stands }

module _ {s : List ℕ} {part : Cursor} {c : Content Part} where
  pub one_made : ContentStands one_name s part c → Made sized single s part c
  unfolding contents
  one_made w =
      in_turn (filling name part.at (left s part)) _ w.reads λ x o₁ r₁ e₁ e₂.
      let (o, e) = filled_laxer name_laxer part.at (left s part) e₁ in
      record { inner = x; next = _; stands = stand sized_passes w.inside e; is = sym (got_value e₂) }

  pub map_made : ContentStands name_map s part c → Made (table sized) names s part c
  unfolding contents
  map_made w =
      in_turn (filling (table name) part.at (left s part)) _ w.reads λ x o₁ r₁ e₁ e₂.
      let (o, e) = filled_laxer (table_laxer name_laxer) part.at (left s part) e₁ in
      record { inner = x; next = _; stands = stand (table_passable sized_passes) w.inside e; is = sym (got_value e₂) }

  pub groups_made : ContentStands indirect_map s part c → Made (table (table sized)) names_by s part c
  unfolding contents
  groups_made w =
      in_turn (filling (table (table name)) part.at (left s part)) _ w.reads λ x o₁ r₁ e₁ e₂.
      let (o, e) = filled_laxer (table_laxer (table_laxer name_laxer)) part.at (left s part) e₁ in
      record { inner = x; next = _; stands = stand (table_passable (table_passable sized_passes)) w.inside e; is = sym (got_value e₂) }

  pub whole_is : ContentStands kept s part c → c ≡ whole (part_of s part)
  unfolding contents remaining
  whole_is w = sym (got_value w.reads)

-- contents of a kind hold one thing only
pub one_content : {kind : Kind} {s : List ℕ} {part : Cursor} {c d : Content Part} → ContentStands kind s part c → ContentStands kind s part d → c ≡ d
one_content a b = got_value (sym a.reads ∙ b.reads)

-- behind its count stand the rows of a map, and the groups of an indirect map
module _ {s : List ℕ} {part : Cursor} {c : Content Part} {n : ℕ} {d : Cursor} (i : Stands number s part n d) where
  pub map_rows : (w : ContentStands name_map s part c) → Stands (rows sized n 0) s d (map_made w).inner (map_made w).next
  map_rows w = table_rows sized i (map_made w).stands

  pub groups_rows : (w : ContentStands indirect_map s part c) → Stands (rows (table sized) n 0) s d (groups_made w).inner (groups_made w).next
  groups_rows w = table_rows (table sized) i (groups_made w).stands

-- What is left of each kind, and its bytes
module _ {A : Type 0} where
  pub gone : (t : Table A) → size t ≡ 0 → unless_empty t ≡ none
  unfolding size unless_empty
  gone nil h = refl
  gone (row k v t) h = absurd (omega arith)

  pub stays : (t : Table A) → (size t ≡ 0 → ⊥) → unless_empty t ≡ some t
  unfolding size unless_empty
  stays nil h = absurd (h refl)
  stays (row k v t) h = refl

map_gone : (t : Table Part) → size (bare_rows t) ≡ 0 → trim (bare (names t)) ≡ none
unfolding bare
map_gone t h = rw (gone (bare_rows t) h)

map_stays : (t : Table Part) → (size (bare_rows t) ≡ 0 → ⊥) → trim (bare (names t)) ≡ some (names (bare_rows t))
unfolding bare
map_stays t h = rw (stays (bare_rows t) h)

groups_gone : (t : Table (Table Part)) → size (kept_groups t) ≡ 0 → trim (bare (names_by t)) ≡ none
unfolding bare kept_groups
groups_gone t h = rw (gone (keep_rows unless_empty (bare_items t)) h)

groups_stay : (t : Table (Table Part)) → (size (kept_groups t) ≡ 0 → ⊥) → trim (bare (names_by t)) ≡ some (names_by (kept_groups t))
unfolding bare kept_groups
groups_stay t h = rw (stays (keep_rows unless_empty (bare_items t)) h)

pub map_bytes : (t : Table Part) → write_content (names (bare_rows t)) ≡ shortest (size (bare_rows t)) ++ rows_of t
unfolding write_content write_table rows_of
map_bytes t = refl

pub groups_bytes : (t : Table (Table Part)) → write_content (names_by (kept_groups t)) ≡ shortest (size (kept_groups t)) ++ groups_of t
unfolding write_content write_table groups_of
groups_bytes t = refl

-- MEASURED: one name
module _ {s : List ℕ} {part : Cursor} (k : KnownContent one_name s part) where
  pub one_known : Known sized s part
  one_known = made_known (one_made k.stands)

  pub one_left : {r : Piece} {b : ℕ} → TakesPart s part r → b ≡ length (shortest (r.part.end - r.part.at)) + (r.part.end - r.part.at) → Trims one_name s part (Some (record { count = 0; length = b }))
  unfolding bare count_of write_content
  one_left {r} p e =
      let m = one_made k.stands in
      let same : k.value ≡ single (part_of s r.part) = m.is ∙ ap single (one_value m.stands p.stands) in
      record { value = k.value; stands = k.stands; is = rw same (ap some (λ i. record { count = 0; length = (e ∙ sym (sized_is p.in_part)) i })) }

pub ruleset one_measured = (one_known, one_left, size_fits, size_ordered, rules)

-- a name map
module _ {s : List ℕ} {part : Cursor} (k : KnownContent name_map s part) where
  pub map_count : Known number s part
  map_count = known_count sized (map_made k.stands).stands

  module _ {n : ℕ} {d : Cursor} (i : Stands number s part n d) where
    pub map_known : Known (rows sized n 0) s d
    map_known = record { value = _; next = _; stands = map_rows i k.stands }

    pub map_nothing : n ≡ 0 → Trims name_map s part None
    map_nothing h =
        let m = map_made k.stands in
        record { value = k.value; stands = k.stands; is = rw (m.is, map_gone m.inner (rows_count n 0 (map_rows i k.stands) ∙ h)) }

    module _ {r : Measured} {a : ℕ} (w : Measures (rows sized n 0) rows_of s d r) (e : a ≡ length (shortest n)) where
      pub map_fits : part.end < 2 ^ 64 → a + r.length < 2 ^ 64
      map_fits h = omega (arith, number_shorter i, rows_shorter n 0 w.stands, w.long, w.stands.behind.ahead, w.stands.same_end, i.same_end)

      pub map_left : (n ≡ 0 → ⊥) → Trims name_map s part (Some (record { count = n; length = a + r.length }))
      unfolding count_of
      map_left h =
          let m = map_made k.stands in
          let count : size (bare_rows m.inner) ≡ n = rows_count n 0 (map_rows i k.stands) in
          let same : w.value ≡ m.inner = one_value w.stands (map_rows i k.stands) in
          let long : a + r.length ≡ length (write_content (names (bare_rows m.inner))) = rw (map_bytes m.inner) (simp length-append (rw (count, ← same) (omega (arith, e, w.long)))) in
          record {
            value = k.value;
            stands = k.stands;
            is = rw (m.is, map_stays m.inner (λ q. h (sym count ∙ q))) (ap some (λ j. record { count = sym count j; length = long j }));
          }

pub ruleset map_measured = (map_count, map_known, map_nothing, map_fits, map_left, rules)

-- an indirect map
module _ {s : List ℕ} {part : Cursor} (k : KnownContent indirect_map s part) where
  pub groups_count : Known number s part
  groups_count = known_count (table sized) (groups_made k.stands).stands

  module _ {n : ℕ} {d : Cursor} (i : Stands number s part n d) where
    pub groups_known : Known (rows (table sized) n 0) s d
    groups_known = record { value = _; next = _; stands = groups_rows i k.stands }

    module _ {r : Groups} (w : MeasuresGroups n s d r) where
      groups_same : w.value ≡ (groups_made k.stands).inner
      groups_same = one_value w.stands (groups_rows i k.stands)

      pub groups_nothing : r.kept ≡ 0 → Trims indirect_map s part None
      groups_nothing h =
          let m = groups_made k.stands in
          record { value = k.value; stands = k.stands; is = rw (m.is, groups_gone m.inner (rw (← groups_same, ← w.many) h)) }

      module _ {a : ℕ} (e : a ≡ length (shortest r.kept)) where
        -- fewer groups are counted in no more bytes
        pub groups_fits : part.end < 2 ^ 64 → a + r.length < 2 ^ 64
        groups_fits h = omega (arith, shortest_mono r.kept n (rw (← w.many) at (groups_few n 0 w.stands)), number_shorter i, groups_shorter n 0 w.stands, w.long, w.stands.behind.ahead, w.stands.same_end, i.same_end)

        pub groups_left : (r.kept ≡ 0 → ⊥) → Trims indirect_map s part (Some (record { count = r.kept; length = a + r.length }))
        unfolding count_of
        groups_left h =
            let m = groups_made k.stands in
            let many : r.kept ≡ size (kept_groups m.inner) = w.many ∙ rw groups_same in
            let long : a + r.length ≡ length (write_content (names_by (kept_groups m.inner))) = rw (groups_bytes m.inner) (simp length-append (rw (← many, ← groups_same) (omega (arith, e, w.long)))) in
            record {
              value = k.value;
              stands = k.stands;
              is = rw (m.is, groups_stay m.inner (λ q. h (many ∙ q))) (ap some (λ j. record { count = many j; length = long j }));
            }

pub ruleset groups_measured = (groups_count, groups_known, groups_nothing, groups_fits, groups_left, rules)

-- contents of a kind
module _ {s : List ℕ} {part : Cursor} (kind : KindHere) (k : KnownContent (kind_meant kind) s part) where
  pub left_one_known : kind ≡ OneName → KnownContent one_name s part
  left_one_known e = rw e at k

  pub left_map_known : kind ≡ NameMap → KnownContent name_map s part
  left_map_known e = rw e at k

  pub left_indirect_known : kind ≡ IndirectMap → KnownContent indirect_map s part
  left_indirect_known e = rw e at k

  pub left_ordered : part.at ≤ part.end
  left_ordered = k.stands.inside.ahead

  pub left_kept : kind ≡ Kept → Trims (kind_meant kind) s part (Some (record { count = 0; length = part.end - part.at }))
  unfolding bare count_of write_content
  left_kept e =
      let z : ContentStands kept s part k.value = rw e at k.stands in
      record { value = k.value; stands = k.stands; is = rw (whole_is z) (ap some (λ i. record { count = 0; length = sym (length-slice part.at part.end s z.inside.within) i })) }

module _ {s : List ℕ} {part : Cursor} {kind : KindHere} {r : Left} where
  pub left_one : kind ≡ OneName → Trims one_name s part r → Trims (kind_meant kind) s part r
  left_one e t = rw e t

  pub left_map : kind ≡ NameMap → Trims name_map s part r → Trims (kind_meant kind) s part r
  left_map e t = rw e t

  pub left_indirect : kind ≡ IndirectMap → Trims indirect_map s part r → Trims (kind_meant kind) s part r
  left_indirect e t = rw e t

pub ruleset content_measured = (left_one_known, left_map_known, left_indirect_known, left_ordered, left_kept, left_one, left_map, left_indirect, rules)
