-- Contents of one payload or both, by kind: what is left of them as one, written.
use Rattle.std.specs.Prelude.{Some, None}
use Prim.Native.Nat.{ℕ, ◌+◌, ◌-◌, ◌≤◌, ◌<◌}
use mathlib.Core.List.{List, ◌++◌}
use mathlib.Core.Option.{some}
use mathlib.Core.Path.{◌≡◌, sym, ap, ◌∙◌}
use native.Mathlib.Omega.{arith}
use borrow.Author.Rules.{rules}
use lib.ListN.{length, take, drop, length-append}
use Rattle.copying.specs.Bytes.{bare_rows, rows_of, kept_groups, groups_of}
use Rattle.copying.proofs.Laws.{cut_left}
use Rattle.format.specs.Canonical.{bare, trim, write_content}
use Rattle.format.specs.Names.{one_name, name_map, indirect_map, kept, Content, names, names_by, whole}
use Rattle.format.specs.Numbers.{shortest, limit32}
use Rattle.format.specs.Parts.{Part}
use Rattle.format.specs.Tables.{size}
use Rattle.format.specs.Laws.Options.{some_is, not_some}
use Rattle.names.specs.Contents.{kind_meant}
use Rattle.names.specs.declared.kinds.Kind.{Kind}
use Rattle.names.specs.declared.kinds.Kind.TheVariants.{OneName, NameMap, IndirectMap, Kept}
use Rattle.reading.specs.Cursors.{part_of}
use Rattle.reading.specs.declared.Cursor.{Cursor}
use Rattle.tables.specs.Returned.{Held}
use Rattle.tables.specs.declared.stepping.Rows.{Rows}
use Rattle.writing.specs.Wrote.{Wrote}
use Rattle.writing.proofs.Laws.{wrote_join, wrote_length}
use Rattle.rewrite.specs.Contents.{count_of, FitsContent, PutsContent}
use Rattle.rewrite.proofs.ContentLaws.{whole_is, one_content, groups_bytes}
use Rattle.rewrite.proofs.PutLaws.{map_remains, groups_remain, whole_remains}
use Rattle.joining.specs.Contents.{HeldContents, both_left, FitsBoth, CountsBoth, PutsBothContents}
use Rattle.joining.specs.Merges.{RoomForMaps, PutsMaps, RoomForGroups, PutsGroups}
use Rattle.joining.specs.Sides.{HeldCount, HeldRows}
use Rattle.joining.proofs.HeldLaws.{maps_room, maps_wrote, groups_room, groups_wrote}
use Rattle.joining.proofs.ContentLaws.{one_left, Alone, size_bare, map_bytes, our_map, their_map, maps_merged, maps_are, our_map_count, their_map_count, our_groups, their_groups, groups_merged, groups_are, our_groups_count, their_groups_count, none_left_over, our_name, their_name, our_kept, their_kept}
use Rattle.joining.proofs.GroupLaws.{groups_least}
use Rattle.joining.proofs.MapLaws.{rows_least}

-- only one thing can remain
pub one_remains : {kind : _} {s : List ℕ} {first : Held} {o : List ℕ} {second : Held} (h k : HeldContents kind s first o second) {d e : Content (List ℕ)} → both_left h.ours h.theirs ≡ some d → both_left k.ours k.theirs ≡ some e → d ≡ e
one_remains h k p q = some_is (sym p ∙ one_left h k ∙ q)

-- Name maps
module _ {s : List ℕ} {first : Held} {o : List ℕ} {second : Held} {old : List ℕ} {at : ℕ} (f : FitsBoth name_map s first o second old at) where
  pub put_our_map_count : HeldCount s first
  put_our_map_count = our_map_count f.held

  pub put_their_map_count : HeldCount o second
  put_their_map_count = their_map_count f.held

  maps_remain : f.remains ≡ names (bare_rows (maps_merged f.held))
  unfolding bare
  maps_remain = map_remains (maps_merged f.held) (sym (maps_are f.held) ∙ f.is)

  module _ {count : ℕ} (k : CountsBoth name_map s first o second count) where
    count_is : count ≡ size (maps_merged f.held)
    unfolding count_of
    count_is = k.counted ∙ ap count_of (one_remains k.held f.held k.is f.is ∙ maps_remain) ∙ size_bare (maps_merged f.held)

    bytes : write_content f.remains ≡ shortest count ++ rows_of (maps_merged f.held)
    bytes = ap write_content maps_remain ∙ map_bytes (maps_merged f.held) ∙ rw (← count_is)

    long : length (write_content f.remains) ≡ length (shortest count) + length (rows_of (maps_merged f.held))
    long = ap length bytes ∙ length-append (shortest count) (rows_of (maps_merged f.held))

    pub maps_count_small : count < limit32
    maps_count_small = omega (arith, count_is, rows_least (maps_merged f.held), long, f.small)

    pub maps_count_room : at + length (shortest count) ≤ length old
    maps_count_room = omega (arith, f.room, long)

    module _ {left right : Rows} (a : HeldRows s first left) (b : HeldRows o second right) {mid : List ℕ} {from : ℕ} (w : Wrote old mid at from (shortest count)) where
      pub maps_rows_room : RoomForMaps s left o right mid from
      maps_rows_room = maps_room a b (our_map f.held).holds (their_map f.held).holds (omega (arith, f.room, long, w.next_is, wrote_length w))

      pub maps_put : {new : List ℕ} {next : ℕ} → PutsMaps s left o right mid new from next → PutsBothContents name_map s first o second old new at next
      maps_put p = record { held = f.held; remains = f.remains; is = f.is; wrote = rw bytes (wrote_join w (maps_wrote a b (our_map f.held).holds (their_map f.held).holds p)) }

pub ruleset maps_put_all = (put_our_map_count, put_their_map_count, maps_count_small, maps_count_room, maps_rows_room, maps_put, wrote_length, rules)

-- Indirect maps
module _ {s : List ℕ} {first : Held} {o : List ℕ} {second : Held} {old : List ℕ} {at : ℕ} (f : FitsBoth indirect_map s first o second old at) where
  pub put_our_groups_count : HeldCount s first
  put_our_groups_count = our_groups_count f.held

  pub put_their_groups_count : HeldCount o second
  put_their_groups_count = their_groups_count f.held

  all_remain : f.remains ≡ names_by (kept_groups (groups_merged f.held))
  unfolding bare
  all_remain = groups_remain (groups_merged f.held) (sym (groups_are f.held) ∙ f.is)

  module _ {count : ℕ} (k : CountsBoth indirect_map s first o second count) where
    groups_count_is : count ≡ size (kept_groups (groups_merged f.held))
    unfolding count_of
    groups_count_is = k.counted ∙ ap count_of (one_remains k.held f.held k.is f.is ∙ all_remain)

    groups_bytes_are : write_content f.remains ≡ shortest count ++ groups_of (groups_merged f.held)
    groups_bytes_are = ap write_content all_remain ∙ groups_bytes (groups_merged f.held) ∙ rw (← groups_count_is)

    groups_long : length (write_content f.remains) ≡ length (shortest count) + length (groups_of (groups_merged f.held))
    groups_long = ap length groups_bytes_are ∙ length-append (shortest count) (groups_of (groups_merged f.held))

    pub groups_count_small : count < limit32
    groups_count_small = omega (arith, groups_count_is, groups_least (groups_merged f.held), groups_long, f.small)

    pub groups_count_room : at + length (shortest count) ≤ length old
    groups_count_room = omega (arith, f.room, groups_long)

    module _ {left right : Rows} (a : HeldRows s first left) (b : HeldRows o second right) {mid : List ℕ} {from : ℕ} (w : Wrote old mid at from (shortest count)) where
      pub groups_rows_room : RoomForGroups s left o right mid from
      groups_rows_room = groups_room a b (our_groups f.held).holds (their_groups f.held).holds (omega (arith, f.small, groups_long)) (omega (arith, f.room, groups_long, w.next_is, wrote_length w))

      pub groups_put : {new : List ℕ} {next : ℕ} → PutsGroups s left o right mid new from next → PutsBothContents indirect_map s first o second old new at next
      groups_put p = record { held = f.held; remains = f.remains; is = f.is; wrote = rw groups_bytes_are (wrote_join w (groups_wrote a b (our_groups f.held).holds (their_groups f.held).holds p)) }

pub ruleset groups_put_all = (put_our_groups_count, put_their_groups_count, groups_count_small, groups_count_room, groups_rows_room, groups_put, wrote_length, rules)

-- something is left, so one of the payloads has it
pub not_neither : {kind : _} {s : List ℕ} {first : Held} {o : List ℕ} {second : Held} {old : List ℕ} {at : ℕ} → FitsBoth kind s first o second old at → first ≡ None → second ≡ None → ⊥
not_neither f e g = not_some (sym (none_left_over f.held e g) ∙ f.is)

-- the separate payload's name, or else the own one's
module _ {s : List ℕ} {first : Held} {o : List ℕ} {second : Held} {old : List ℕ} {at : ℕ} (f : FitsBoth one_name s first o second old at) where
  module _ {part : Cursor} where
    pub our_name_fits : first ≡ Some part → FitsContent one_name s part old at
    our_name_fits e = let a = our_name f.held e in record { value = a.value; stands = a.stands; remains = f.remains; is = sym a.is ∙ f.is; room = f.room }

    pub their_name_fits : first ≡ None → second ≡ Some part → FitsContent one_name o part old at
    their_name_fits e g = let a = their_name f.held e g in record { value = a.value; stands = a.stands; remains = f.remains; is = sym a.is ∙ f.is; room = f.room }

    name_puts : {p : List ℕ} {new : List ℕ} {next : ℕ} → Alone f.held p part → PutsContent one_name p part old new at next → PutsBothContents one_name s first o second old new at next
    name_puts a w =
        let same : w.remains ≡ f.remains = some_is (sym w.is ∙ ap (λ (c : Content Part). trim (bare c)) (one_content w.stands a.stands) ∙ sym a.is ∙ f.is) in
        record { held = f.held; remains = f.remains; is = f.is; wrote = rw same at w.wrote }

    pub our_name_puts : {new : List ℕ} {next : ℕ} → first ≡ Some part → PutsContent one_name s part old new at next → PutsBothContents one_name s first o second old new at next
    our_name_puts e w = name_puts (our_name f.held e) w

    pub their_name_puts : {new : List ℕ} {next : ℕ} → first ≡ None → second ≡ Some part → PutsContent one_name o part old new at next → PutsBothContents one_name s first o second old new at next
    their_name_puts e g w = name_puts (their_name f.held e g) w

  pub no_name_puts : first ≡ None → second ≡ None → PutsBothContents one_name s first o second old old at at
  no_name_puts e g = absurd (not_neither f e g)

pub ruleset names_put = (our_name_fits, their_name_fits, our_name_puts, their_name_puts, no_name_puts, wrote_length, rules)

-- Kept contents
module _ {s : List ℕ} {first : Held} {o : List ℕ} {second : Held} {old : List ℕ} {at : ℕ} (f : FitsBoth kept s first o second old at) where
  module _ {p : List ℕ} {part : Cursor} (a : Alone f.held p part) where
    kept_bytes : write_content f.remains ≡ take (part.end - part.at) (drop part.at p)
    unfolding write_content
    kept_bytes =
        let w = a.stands in
        let is : trim (bare (whole (part_of p part))) ≡ some f.remains = ap (λ (c : Content Part). trim (bare c)) (sym (whole_is w)) ∙ sym a.is ∙ f.is in
        ap write_content (whole_remains (part_of p part) is) ∙ sym (cut_left w.inside)

    kept_room : at + length (take (part.end - part.at) (drop part.at p)) ≤ length old
    kept_room = rw kept_bytes at f.room

    kept_puts : {new : List ℕ} {next : ℕ} → Wrote old new at next (take (part.end - part.at) (drop part.at p)) → PutsBothContents kept s first o second old new at next
    kept_puts w = record { held = f.held; remains = f.remains; is = f.is; wrote = rw kept_bytes w }

  module _ {part : Cursor} where
    module _ (e : first ≡ Some part) where
      pub our_kept_ordered : part.at ≤ part.end
      our_kept_ordered = (our_kept f.held e).stands.inside.ahead

      pub our_kept_within : part.end ≤ length s
      our_kept_within = (our_kept f.held e).stands.inside.within

      pub our_kept_room : at + length (take (part.end - part.at) (drop part.at s)) ≤ length old
      our_kept_room = kept_room (our_kept f.held e)

      pub our_kept_puts : {new : List ℕ} {next : ℕ} → Wrote old new at next (take (part.end - part.at) (drop part.at s)) → PutsBothContents kept s first o second old new at next
      our_kept_puts w = kept_puts (our_kept f.held e) w

    module _ (e : first ≡ None) (g : second ≡ Some part) where
      pub their_kept_ordered : part.at ≤ part.end
      their_kept_ordered = (their_kept f.held e g).stands.inside.ahead

      pub their_kept_within : part.end ≤ length o
      their_kept_within = (their_kept f.held e g).stands.inside.within

      pub their_kept_room : at + length (take (part.end - part.at) (drop part.at o)) ≤ length old
      their_kept_room = kept_room (their_kept f.held e g)

      pub their_kept_puts : {new : List ℕ} {next : ℕ} → Wrote old new at next (take (part.end - part.at) (drop part.at o)) → PutsBothContents kept s first o second old new at next
      their_kept_puts w = kept_puts (their_kept f.held e g) w

  pub no_kept_puts : first ≡ None → second ≡ None → PutsBothContents kept s first o second old old at at
  no_kept_puts e g = absurd (not_neither f e g)

pub ruleset kept_put = (our_kept_ordered, our_kept_within, our_kept_room, our_kept_puts, their_kept_ordered, their_kept_within, their_kept_room, their_kept_puts, no_kept_puts, wrote_length, rules)

-- Contents of a kind
module _ {s : List ℕ} {first : Held} {o : List ℕ} {second : Held} (kind : Kind) where
  module _ {old : List ℕ} {at : ℕ} (f : FitsBoth (kind_meant kind) s first o second old at) where
    pub fits_names : kind ≡ OneName → FitsBoth one_name s first o second old at
    fits_names e = rw e at f

    pub fits_maps : kind ≡ NameMap → FitsBoth name_map s first o second old at
    fits_maps e = rw e at f

    pub fits_indirect : kind ≡ IndirectMap → FitsBoth indirect_map s first o second old at
    fits_indirect e = rw e at f

    pub fits_kept : kind ≡ Kept → FitsBoth kept s first o second old at
    fits_kept e = rw e at f

  module _ {count : ℕ} (k : CountsBoth (kind_meant kind) s first o second count) where
    pub counts_maps : kind ≡ NameMap → CountsBoth name_map s first o second count
    counts_maps e = rw e at k

    pub counts_indirect : kind ≡ IndirectMap → CountsBoth indirect_map s first o second count
    counts_indirect e = rw e at k

module _ {s : List ℕ} {first : Held} {o : List ℕ} {second : Held} {kind : Kind} {old new : List ℕ} {at next : ℕ} where
  pub puts_names : kind ≡ OneName → PutsBothContents one_name s first o second old new at next → PutsBothContents (kind_meant kind) s first o second old new at next
  puts_names e p = rw e p

  pub puts_maps : kind ≡ NameMap → PutsBothContents name_map s first o second old new at next → PutsBothContents (kind_meant kind) s first o second old new at next
  puts_maps e p = rw e p

  pub puts_indirect : kind ≡ IndirectMap → PutsBothContents indirect_map s first o second old new at next → PutsBothContents (kind_meant kind) s first o second old new at next
  puts_indirect e p = rw e p

  pub puts_kept : kind ≡ Kept → PutsBothContents kept s first o second old new at next → PutsBothContents (kind_meant kind) s first o second old new at next
  puts_kept e p = rw e p

pub ruleset contents_put = (fits_names, fits_maps, fits_indirect, fits_kept, counts_maps, counts_indirect, puts_names, puts_maps, puts_indirect, puts_kept, wrote_length, rules)
