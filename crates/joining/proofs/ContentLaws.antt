-- Contents of one payload or both, by kind: what stands there, what is left of it as one, and how long that is.
use Rattle.std.specs.Prelude.{Some, None}
use Prim.Native.Nat.{ℕ, ◌+◌, ◌-◌, ◌^◌, ◌≤◌, ◌<◌}
use mathlib.Core.List.{List, ◌++◌}
use mathlib.Core.Option.{Option, none, some}
use mathlib.Core.Path.{◌≡◌, refl, sym, ap, ◌∙◌}
use native.Mathlib.Omega.{arith}
use borrow.Author.Rules.{rules}
use borrow.Author.Tests.{eqb-true, eqb-false}
use lib.Dec.{eqb}
use lib.ListN.{length, length-append}
use lib.Seq.{length-slice}
use Rattle.copying.specs.Bytes.{bare_rows, rows_of, kept_groups, groups_of}
use Rattle.copying.proofs.Laws.{part_length}
use Rattle.copying.proofs.Measuring.{sized_is, size_fits, size_ordered, shortest_short}
use Rattle.format.specs.Canonical.{write_table, unless_empty, keep_rows, bare_items, bare, trim, write_content}
use Rattle.format.specs.Joined.{merged, the_first, join_content}
use Rattle.format.specs.Names.{one_name, name_map, indirect_map, kept, Content, single, names, names_by}
use Rattle.format.specs.Numbers.{shortest}
use Rattle.format.specs.Options.{map_some}
use Rattle.format.specs.Parts.{Part, sized}
use Rattle.format.specs.Tables.{Table, nil, row, size, table, map_table}
use Rattle.format.proofs.Laws.Merging.{merge_no_left, merge_no_right}
use Rattle.format.specs.Laws.Outcomes.{by_test}
use Rattle.names.specs.Contents.{kind_meant}
use Rattle.names.specs.declared.kinds.Kind.{Kind}
use Rattle.names.specs.declared.kinds.Kind.TheVariants.{OneName, NameMap, IndirectMap, Kept}
use Rattle.reading.specs.Cursors.{part_of}
use Rattle.reading.specs.Standing.{TakesPart}
use Rattle.reading.specs.declared.Cursor.{Cursor}
use Rattle.reading.specs.declared.again.Piece.{Piece}
use Rattle.reading.proofs.Standing.{one_value}
use Rattle.tables.specs.Returned.{Held}
use Rattle.tables.specs.declared.stepping.Rows.{Rows}
use Rattle.rewrite.specs.Contents.{ContentStands, KnownContent, count_of}
use Rattle.rewrite.proofs.ContentLaws.{one_made, map_made, groups_made, whole_is, one_content, gone, stays, groups_bytes, one_known}
use Rattle.joining.specs.Contents.{HeldContent, HeldContents, both_left, sizes_of, left_of, list_to_come, NameLeft, LeftOfBoth}
use Rattle.joining.specs.Merges.{ShortMaps, MeasuresMaps, ShortGroups, MeasuresGroups}
use Rattle.joining.specs.Sides.{HeldTable, HeldSmall, HeldCount, HeldRows}
use Rattle.joining.specs.Returned.{Left}
use Rattle.joining.specs.declared.groups.MergedGroups.{MergedGroups}
use Rattle.joining.specs.declared.maps.Merged.{Merged}
use Rattle.joining.proofs.HeldLaws.{held_count, merged_bare, merged_items, maps_short, maps_count, maps_length, groups_short, groups_count, groups_length}

-- A list, with its count
module _ (count rows : ℕ) where
  pub list_none : count ≡ 0 → None ≡ list_to_come count rows
  unfolding list_to_come
  list_none h = rw h

  pub list_some : {before : ℕ} → (count ≡ 0 → ⊥) → before ≡ length (shortest count) → Some (record { count = count; length = before + rows }) ≡ list_to_come count rows
  unfolding list_to_come
  list_some {before} h e = by_test (eqb count 0) (λ t. absurd (h (eqb-true count 0 t))) (λ t. rw (t, e))

  pub list_fits : {before : ℕ} → length (shortest count) + rows < 2 ^ 64 → before ≡ length (shortest count) → before + rows < 2 ^ 64
  list_fits h e = omega arith

pub ruleset lists_left = (list_none, list_some, list_fits, rules)

-- contents that are held are one thing only
pub one_held : {kind : _} {s : List ℕ} (held : Held) {x y : Option (Content Part)} → HeldContent kind s held x → HeldContent kind s held y → x ≡ y
one_held None a b = a.holds ∙ sym b.holds
one_held (Some part) a b = let (c, w, is) = a.holds in let (d, v, is') = b.holds in is ∙ ap some (one_content w v) ∙ sym is'

pub one_left : {kind : _} {s : List ℕ} {first : Held} {o : List ℕ} {second : Held} (h k : HeldContents kind s first o second) → both_left h.ours h.theirs ≡ both_left k.ours k.theirs
one_left {first = first} {second = second} h k = rw (one_held first h.first_holds k.first_holds, one_held second h.second_holds k.second_holds)

-- they lie in a part whose size has 32 bits
pub held_small : {kind : _} {s : List ℕ} (held : Held) {x : Option (Content Part)} → HeldContent kind s held x → HeldSmall held
held_small None h = record { small = tt }
held_small (Some part) h = let (c, w, is) = h.holds in record { small = omega (arith, w.small, part_length w.inside) }

-- Maps that are held, if they are
abbrev pub MapIn : Option (Content Part) → Table Part → Type 0
MapIn none t = t ≡ nil
MapIn (some c) t = c ≡ names t

pub record HeldMap (s : List ℕ) (held : Held) (x : Option (Content Part)) : Type 0 where
  pub inner : Table Part
  pub holds : HeldTable sized s held inner
  pub is : MapIn x inner

held_map : {s : List ℕ} (held : Held) {x : Option (Content Part)} → HeldContent name_map s held x → HeldMap s held x
held_map None h = let none_there = h.holds in record { inner = nil; holds = record { holds = refl }; is = rw none_there refl }
held_map (Some part) h = let (c, w, there) = h.holds in let m = map_made w in record { inner = m.inner; holds = record { holds = (m.next, m.stands) }; is = rw there m.is }

maps_both : (x y : Option (Content Part)) (t u : Table Part) → MapIn x t → MapIn y u → both_left x y ≡ trim (names (bare_rows (merged the_first t u)))
unfolding bare map_table unless_empty
maps_both none none t u e f = rw (e, f, merge_no_left {A = Part} the_first nil)
maps_both none (some d) t u e f = rw (e, f, merge_no_left the_first u)
maps_both (some c) none t u e f = rw (e, f, merge_no_right the_first t)
maps_both (some c) (some d) t u e f = rw (e, f, merged_bare t u)

-- and indirect maps
abbrev pub GroupsIn : Option (Content Part) → Table (Table Part) → Type 0
GroupsIn none t = t ≡ nil
GroupsIn (some c) t = c ≡ names_by t

pub record HeldGroups (s : List ℕ) (held : Held) (x : Option (Content Part)) : Type 0 where
  pub inner : Table (Table Part)
  pub holds : HeldTable (table sized) s held inner
  pub is : GroupsIn x inner

held_groups : {s : List ℕ} (held : Held) {x : Option (Content Part)} → HeldContent indirect_map s held x → HeldGroups s held x
held_groups None h = let none_there = h.holds in record { inner = nil; holds = record { holds = refl }; is = rw none_there refl }
held_groups (Some part) h = let (c, w, there) = h.holds in let m = groups_made w in record { inner = m.inner; holds = record { holds = (m.next, m.stands) }; is = rw there m.is }

groups_both : (x y : Option (Content Part)) (t u : Table (Table Part)) → GroupsIn x t → GroupsIn y u → both_left x y ≡ trim (names_by (bare_items (merged (merged the_first) t u)))
unfolding bare map_table keep_rows unless_empty
groups_both none none t u e f = rw (e, f, merge_no_left {A = Table Part} (merged the_first) nil)
groups_both none (some d) t u e f = rw (e, f, merge_no_left (merged the_first) u)
groups_both (some c) none t u e f = rw (e, f, merge_no_right (merged the_first) t)
groups_both (some c) (some d) t u e f = rw (e, f, merged_items t u)

-- What is left of a table, and its bytes
pub size_bare : (t : Table Part) → size (bare_rows t) ≡ size t
unfolding size map_table
size_bare nil = refl
size_bare (row k p t) = rw (size_bare t)

pub map_bytes : (t : Table Part) → write_content (names (bare_rows t)) ≡ shortest (size t) ++ rows_of t
unfolding write_content write_table rows_of
map_bytes t = rw (size_bare t)

list_is : (count rows : ℕ) (d : Content (List ℕ)) → count ≡ count_of d → length (shortest count) + rows ≡ length (write_content d) → (count ≡ 0 → ⊥) → left_of (list_to_come count rows) ≡ some (sizes_of d)
unfolding list_to_come
list_is count rows d many long h = by_test (eqb count 0) (λ t. absurd (h (eqb-true count 0 t))) (λ t. rw t (ap some (λ i. record { count = many i; length = long i })))

list_gone : (count rows : ℕ) → count ≡ 0 → left_of (list_to_come count rows) ≡ none
unfolding list_to_come
list_gone count rows h = rw h

map_left : (t : Table Part) (count rows : ℕ) → count ≡ size t → rows ≡ length (rows_of t) → left_of (list_to_come count rows) ≡ map_some sizes_of (trim (names (bare_rows t)))
unfolding count_of
map_left t count rows many long =
    by_test (eqb count 0)
    (λ z. let none_there = eqb-true count 0 z in rw (gone (bare_rows t) (size_bare t ∙ sym many ∙ none_there)) (list_gone count rows none_there))
    (λ z. let some_there = eqb-false count 0 z in
    rw (stays (bare_rows t) (λ q. some_there (many ∙ sym (size_bare t) ∙ q)))
    (list_is count rows (names (bare_rows t)) (many ∙ sym (size_bare t)) (rw (map_bytes t) (simp length-append (rw (← many) (omega (arith, long))))) some_there))

groups_left : (t : Table (Table Part)) (count rows : ℕ) → count ≡ size (kept_groups t) → rows ≡ length (groups_of t) → left_of (list_to_come count rows) ≡ map_some sizes_of (trim (names_by (bare_items t)))
unfolding count_of kept_groups
groups_left t count rows many long =
    by_test (eqb count 0)
    (λ z. let none_there = eqb-true count 0 z in rw (gone (kept_groups t) (sym many ∙ none_there)) (list_gone count rows none_there))
    (λ z. let some_there = eqb-false count 0 z in
    rw (stays (kept_groups t) (λ q. some_there (many ∙ q)))
    (list_is count rows (names_by (kept_groups t)) many (rw (groups_bytes t) (simp length-append (rw (← many) (omega (arith, long))))) some_there))

-- MEASURED: name maps
module _ {s : List ℕ} {first : Held} {o : List ℕ} {second : Held} (h : HeldContents name_map s first o second) where
  pub our_map : HeldMap s first h.ours
  our_map = held_map first h.first_holds

  pub their_map : HeldMap o second h.theirs
  their_map = held_map second h.second_holds

  abbrev pub maps_merged : Table Part
  maps_merged = merged the_first our_map.inner their_map.inner

  pub maps_are : both_left h.ours h.theirs ≡ trim (names (bare_rows maps_merged))
  maps_are = maps_both h.ours h.theirs our_map.inner their_map.inner our_map.is their_map.is

  pub our_map_count : HeldCount s first
  our_map_count = held_count sized first our_map.holds

  pub their_map_count : HeldCount o second
  their_map_count = held_count sized second their_map.holds

  module _ {left right : Rows} (a : HeldRows s first left) (b : HeldRows o second right) where
    pub two_maps_short : ShortMaps s left o right
    two_maps_short = maps_short a b our_map.holds their_map.holds (held_small first h.first_holds) (held_small second h.second_holds)

    module _ {r : Merged} (m : MeasuresMaps s left o right r) where
      pub two_maps_fit : length (shortest r.count) + r.length < 2 ^ 64
      two_maps_fit =
          let w = two_maps_short in
          let same = one_value w.sides.left_stands m.left_stands in
          let same' = one_value w.sides.right_stands m.right_stands in
          omega (arith, shortest_short r.count, m.long, rw (same, same') at w.short)

      pub two_maps_left : {x : Left} → x ≡ list_to_come r.count r.length → LeftOfBoth name_map s first o second x
      two_maps_left e = record { held = h; is = rw (e, maps_are) (map_left maps_merged r.count r.length (maps_count a b our_map.holds their_map.holds m) (maps_length a b our_map.holds their_map.holds m)) }

pub ruleset maps_measured = (our_map_count, their_map_count, two_maps_short, two_maps_fit, two_maps_left, rules)

-- indirect maps
module _ {s : List ℕ} {first : Held} {o : List ℕ} {second : Held} (h : HeldContents indirect_map s first o second) where
  pub our_groups : HeldGroups s first h.ours
  our_groups = held_groups first h.first_holds

  pub their_groups : HeldGroups o second h.theirs
  their_groups = held_groups second h.second_holds

  abbrev pub groups_merged : Table (Table Part)
  groups_merged = merged (merged the_first) our_groups.inner their_groups.inner

  pub groups_are : both_left h.ours h.theirs ≡ trim (names_by (bare_items groups_merged))
  groups_are = groups_both h.ours h.theirs our_groups.inner their_groups.inner our_groups.is their_groups.is

  pub our_groups_count : HeldCount s first
  our_groups_count = held_count (table sized) first our_groups.holds

  pub their_groups_count : HeldCount o second
  their_groups_count = held_count (table sized) second their_groups.holds

  module _ {left right : Rows} (a : HeldRows s first left) (b : HeldRows o second right) where
    pub two_groups_short : ShortGroups s left o right
    two_groups_short = groups_short a b our_groups.holds their_groups.holds (held_small first h.first_holds) (held_small second h.second_holds)

    module _ {r : MergedGroups} (m : MeasuresGroups s left o right r) where
      pub two_groups_fit : length (shortest r.kept) + r.length < 2 ^ 64
      two_groups_fit =
          let w = two_groups_short in
          let same = one_value w.sides.left_stands m.sides.left_stands in
          let same' = one_value w.sides.right_stands m.sides.right_stands in
          omega (arith, shortest_short r.kept, m.long, rw (same, same') at w.short)

      pub two_groups_left : {x : Left} → x ≡ list_to_come r.kept r.length → LeftOfBoth indirect_map s first o second x
      two_groups_left e = record { held = h; is = rw (e, groups_are) (groups_left groups_merged r.kept r.length (groups_count a b our_groups.holds their_groups.holds m) (groups_length a b our_groups.holds their_groups.holds m)) }

pub ruleset groups_measured = (our_groups_count, their_groups_count, two_groups_short, two_groups_fit, two_groups_left, rules)

-- one name
module _ {s : List ℕ} {part : Cursor} (k : KnownContent one_name s part) where
  pub name_is_left : {r : Piece} {b : ℕ} → TakesPart s part r → b ≡ length (shortest (r.part.end - r.part.at)) + (r.part.end - r.part.at) → NameLeft s part (Some (record { count = 0; length = b }))
  unfolding bare count_of write_content
  name_is_left {r} p e =
      let m = one_made k.stands in
      let same : k.value ≡ single (part_of s r.part) = m.is ∙ ap single (one_value m.stands p.stands) in
      record { value = k.value; stands = k.stands; is = rw same (ap some (λ i. record { count = 0; length = (e ∙ sym (sized_is p.in_part)) i })) }

pub ruleset name_measured = (one_known, name_is_left, size_fits, size_ordered, rules)

-- the separate payload's, or else the own one's
module _ {s : List ℕ} {first : Held} {o : List ℕ} {second : Held} where
  pub none_left_over : {kind : _} (h : HeldContents kind s first o second) → first ≡ None → second ≡ None → both_left h.ours h.theirs ≡ none
  none_left_over h e f =
      let p : h.ours ≡ none = rw e at h.first_holds.holds in
      let q : h.theirs ≡ none = rw f at h.second_holds.holds in
      rw (p, q)

  pub none_left : {kind : _} → HeldContents kind s first o second → first ≡ None → second ≡ None → LeftOfBoth kind s first o second None
  none_left h e f = record { held = h; is = rw (none_left_over h e f) }

-- where one stands, all that is left is of it
pub record Alone {kind : _} {s : List ℕ} {first : Held} {o : List ℕ} {second : Held} (h : HeldContents kind s first o second) (p : List ℕ) (part : Cursor) : Type 0 where
  pub value : Content Part
  pub stands : ContentStands kind p part value
  pub is : both_left h.ours h.theirs ≡ trim (bare value)

first_alone : (x y : Option (Content Part)) (c : Content Part) → x ≡ some c → ((d : Content (List ℕ)) → join_content (bare c) d ≡ bare c) → both_left x y ≡ trim (bare c)
first_alone x none c e h = rw e
first_alone x (some d) c e h = rw (e, h (bare d))

second_alone : (x y : Option (Content Part)) (c : Content Part) → x ≡ none → y ≡ some c → both_left x y ≡ trim (bare c)
second_alone x y c e f = rw (e, f)

module _ {kind : _} {s : List ℕ} {held : Held} {x : Option (Content Part)} (h : HeldContent kind s held x) where
  held_none : held ≡ None → x ≡ none
  held_none e = rw e at h.holds

  held_part : {part : Cursor} → held ≡ Some part → (c : Content Part) × ContentStands kind s part c × (x ≡ some c)
  held_part e = rw e at h.holds

module _ {kind : _} {s : List ℕ} {first : Held} {o : List ℕ} {second : Held} (h : HeldContents kind s first o second) where
  alone_first : {part : Cursor} → first ≡ Some part → ((c : Content Part) → ContentStands kind s part c → (d : Content (List ℕ)) → join_content (bare c) d ≡ bare c) → Alone h s part
  alone_first {part} e one =
      let (c, w, is) = held_part h.first_holds e in
      record { value = c; stands = w; is = first_alone h.ours h.theirs c is (one c w) }

  alone_second : {part : Cursor} → first ≡ None → second ≡ Some part → Alone h o part
  alone_second {part} e f =
      let p = held_none h.first_holds e in
      let (c, w, is) = held_part h.second_holds f in
      record { value = c; stands = w; is = second_alone h.ours h.theirs c p is }

-- names
module _ {s : List ℕ} {first : Held} {o : List ℕ} {second : Held} (h : HeldContents one_name s first o second) {part : Cursor} where
  pub our_name : first ≡ Some part → Alone h s part
  unfolding bare
  our_name e = alone_first h e (λ c w d. let m = one_made w in rw m.is refl)

  pub their_name : first ≡ None → second ≡ Some part → Alone h o part
  their_name e f = alone_second h e f

  pub our_name_stands : first ≡ Some part → KnownContent one_name s part
  our_name_stands e = let a = our_name e in record { value = a.value; stands = a.stands }

  pub their_name_stands : first ≡ None → second ≡ Some part → KnownContent one_name o part
  their_name_stands e f = let a = their_name e f in record { value = a.value; stands = a.stands }

  name_alone : {p : List ℕ} {x : Left} → Alone h p part → NameLeft p part x → LeftOfBoth one_name s first o second x
  name_alone a n = record { held = h; is = n.is ∙ ap (λ (c : Content Part). map_some sizes_of (trim (bare c))) (one_content n.stands a.stands) ∙ ap (map_some sizes_of) (sym a.is) }

  pub our_name_left : {x : Left} → first ≡ Some part → NameLeft s part x → LeftOfBoth one_name s first o second x
  our_name_left e n = name_alone (our_name e) n

  pub their_name_left : {x : Left} → first ≡ None → second ≡ Some part → NameLeft o part x → LeftOfBoth one_name s first o second x
  their_name_left e f n = name_alone (their_name e f) n

pub ruleset names_measured = (our_name_stands, their_name_stands, our_name_left, their_name_left, none_left, rules)

-- kept contents
module _ {s : List ℕ} {first : Held} {o : List ℕ} {second : Held} (h : HeldContents kept s first o second) {part : Cursor} where
  pub our_kept : first ≡ Some part → Alone h s part
  unfolding bare
  our_kept e = alone_first h e (λ c w d. rw (whole_is w) refl)

  pub their_kept : first ≡ None → second ≡ Some part → Alone h o part
  their_kept e f = alone_second h e f

  pub our_kept_ordered : first ≡ Some part → part.at ≤ part.end
  our_kept_ordered e = (our_kept e).stands.inside.ahead

  pub their_kept_ordered : first ≡ None → second ≡ Some part → part.at ≤ part.end
  their_kept_ordered e f = (their_kept e f).stands.inside.ahead

  kept_alone : {p : List ℕ} → Alone h p part → LeftOfBoth kept s first o second (Some (record { count = 0; length = part.end - part.at }))
  unfolding bare count_of write_content
  kept_alone {p} a =
      let w = a.stands in
      record { held = h; is = rw (a.is, whole_is w) (ap some (λ i. record { count = 0; length = sym (length-slice part.at part.end p w.inside.within) i })) }

  pub our_kept_left : first ≡ Some part → LeftOfBoth kept s first o second (Some (record { count = 0; length = part.end - part.at }))
  our_kept_left e = kept_alone (our_kept e)

  pub their_kept_left : first ≡ None → second ≡ Some part → LeftOfBoth kept s first o second (Some (record { count = 0; length = part.end - part.at }))
  their_kept_left e f = kept_alone (their_kept e f)

pub ruleset kept_measured = (our_kept_ordered, their_kept_ordered, our_kept_left, their_kept_left, none_left, rules)

-- contents of a kind
module _ {s : List ℕ} {first : Held} {o : List ℕ} {second : Held} (kind : Kind) where
  module _ (h : HeldContents (kind_meant kind) s first o second) where
    pub as_names : kind ≡ OneName → HeldContents one_name s first o second
    as_names e = rw e at h

    pub as_maps : kind ≡ NameMap → HeldContents name_map s first o second
    as_maps e = rw e at h

    pub as_indirect : kind ≡ IndirectMap → HeldContents indirect_map s first o second
    as_indirect e = rw e at h

    pub as_kept : kind ≡ Kept → HeldContents kept s first o second
    as_kept e = rw e at h

module _ {s : List ℕ} {first : Held} {o : List ℕ} {second : Held} {kind : Kind} {x : Left} where
  pub left_names : kind ≡ OneName → LeftOfBoth one_name s first o second x → LeftOfBoth (kind_meant kind) s first o second x
  left_names e t = rw e t

  pub left_maps : kind ≡ NameMap → LeftOfBoth name_map s first o second x → LeftOfBoth (kind_meant kind) s first o second x
  left_maps e t = rw e t

  pub left_indirect : kind ≡ IndirectMap → LeftOfBoth indirect_map s first o second x → LeftOfBoth (kind_meant kind) s first o second x
  left_indirect e t = rw e t

  pub left_kept : kind ≡ Kept → LeftOfBoth kept s first o second x → LeftOfBoth (kind_meant kind) s first o second x
  left_kept e t = rw e t

pub ruleset contents_measured = (as_names, as_maps, as_indirect, as_kept, left_names, left_maps, left_indirect, left_kept, rules)
