-- Metadata that stands at a cursor: its count and its functions, how long they are written anew, and the two ways to end.
use Rattle.std.specs.Prelude.{Ok, Err}
use Prim.Native.Nat.{ℕ, ◌+◌, ◌-◌, ◌^◌, ◌≤◌, ◌<◌}
use mathlib.Core.List.{List, [], ◌++◌}
use mathlib.Core.Path.{◌≡◌, refl, ap, ◌∙◌}
use native.Mathlib.Omega.{arith}
use borrow.Author.Rules.{rules}
use lib.ListN.{length, length-append}
use lib.Seq.{slice}
use Rattle.format.specs.Reading.{got, Reader, filling, accepted, verdict}
use Rattle.format.specs.Numbers.{number, shortest}
use Rattle.format.specs.Parts.{Part, sized}
use Rattle.format.specs.Tables.{Table, size, rows, table}
use Rattle.format.specs.Metadata.{any_item, hint_item, metadata, judge_metadata}
use Rattle.format.specs.Canonical.{write_table, rewrite_metadata, canonical_of, canonical_metadata, canonical_hints}
use Rattle.format.specs.Outputs.{Writes}
use Rattle.format.specs.Laws.Laxer.{Laxer, any_laxer, hint_laxer, table_laxer, filled_laxer}
use Rattle.format.proofs.Laws.Numbers.{shortest_mono}
use Rattle.format.specs.Laws.Outcomes.{judged, refused_exactly}
use Rattle.format.specs.Laws.Outputs.{writes_refused, writes_short}
use Rattle.format.proofs.Laws.Passing.{sized_passes}
use Rattle.format.proofs.Laws.Codecs.{sized_codec}
use Rattle.format.proofs.Laws.Unchanged.{functions_tight}
use Rattle.format.specs.declared.Reason.TheVariants.{OutputTooShort}
use Rattle.format.specs.declared.Refusal.{Refusal}
use Rattle.format.specs.Returned.{Written}
use Rattle.copying.specs.Bytes.{kept_groups, groups_of}
use Rattle.reading.specs.Standing.{Stands, Known}
use Rattle.copying.specs.Standing.{Fits, Puts, MeasuresGroups}
use Rattle.copying.specs.declared.Groups.{Groups}
use Rattle.copying.specs.declared.Put.{Put}
use Rattle.tables.proofs.Accepted.{table_passable, known_count, table_rows, rows_table}
use Rattle.reading.proofs.Standing.{stand, one_value}
use Rattle.copying.proofs.Laws.{part_length, number_shorter, groups_count, groups_shorter}
use Rattle.format.specs.Verdicts.{verdict_of}
use Rattle.format.specs.Returned.{Verdict}
use Rattle.format.proofs.Tags.{judged_refused, judged_accepted}
use Rattle.reading.specs.Cursors.{over_all, left}
use Rattle.reading.specs.declared.Cursor.{Cursor}
use Rattle.reading.proofs.Laws.{left_all, over_inside}
use Rattle.writing.specs.Wrote.{Wrote}
use Rattle.writing.proofs.Laws.{wrote_join, wrote_length, writes_wrote}
use Rattle.rewrite.specs.Items.{RewritesItems}
use Rattle.rewrite.specs.Whole.{FitsWhole, PutsWhole}

-- Metadata is written anew as the count of the functions that are kept, and these
pub items_bytes : (t : Table (Table Part)) → rewrite_metadata t ≡ shortest (size (kept_groups t)) ++ groups_of t
unfolding rewrite_metadata write_table kept_groups groups_of
items_bytes t = refl

module _ {s : List ℕ} {c : Cursor} (known : Known (table (table sized)) s c) where
  pub items_count : Known number s c
  items_count = known_count (table sized) known.stands

  pub items_ordered : c.at ≤ c.end
  items_ordered = known.stands.inside.ahead

  module _ (n : ℕ) {d : Cursor} (count : Stands number s c n d) where
    pub items_groups : Known (rows (table sized) n 0) s d
    items_groups = record { value = _; next = _; stands = table_rows (table sized) count known.stands }

    module _ {g : Groups} {size_length : ℕ} (measured : MeasuresGroups n s d g) (long : size_length ≡ length (shortest g.kept)) where
      -- what is written is what was measured
      items_long : length (rewrite_metadata measured.value) ≡ size_length + g.length
      items_long = ap length (items_bytes measured.value) ∙ rw (← measured.many) (simp length-append (rw (long, measured.long)))

      items_stand : Stands (table (table sized)) s c measured.value g.next
      items_stand = rows_table (table sized) count measured.stands

      -- written anew, metadata is no longer than it was
      pub items_fit : c.end < 2 ^ 64 → size_length + g.length < 2 ^ 64
      items_fit h =
          let fewer = shortest_mono g.kept n (rw measured.many (groups_count n 0 measured.stands)) in
          let ends = measured.stands.same_end ∙ count.same_end in
          omega (arith, long, measured.long, fewer, number_shorter count, groups_shorter n 0 measured.stands, measured.stands.behind.ahead, ends)

      module _ (old : List ℕ) where
        pub items_short : length old < size_length + g.length → RewritesItems s c old old (Err (record { reason = OutputTooShort; offset = record { 0 = size_length + g.length } }))
        items_short h = record { value = measured.value; next = g.next; stands = items_stand; writes = rw (← items_long) (writes_short refl (rw items_long h)) }

        -- as long as they are, they are what they are
        module _ (same : size_length + g.length ≡ c.end - c.at) where
          pub items_whole_room : size_length + g.length ≤ length old → FitsWhole s c old 0
          items_whole_room room = record { inside = known.stands.inside; room = omega (arith, room, same) }

          pub items_whole : {new : List ℕ} {end : ℕ} → PutsWhole s c old new 0 end → RewritesItems s c old new (Ok end)
          items_whole p =
              let is = functions_tight sized_codec c.at (left s c) p.bytes items_stand.reads (omega (arith, items_long, same, part_length items_stand.inside)) in
              record { value = measured.value; next = g.next; stands = items_stand; writes = writes_wrote refl (rw (← is) at p.wrote) }

        module _ (room : size_length + g.length ≤ length old) {mid : List ℕ} {first : ℕ} (wrote : Wrote old mid 0 first (shortest g.kept)) where
          pub items_groups_room : Fits (rows (table sized) n 0) groups_of s d mid first
          items_groups_room = record { value = measured.value; next = g.next; stands = measured.stands; room = omega (arith, room, long, measured.long, wrote.next_is, wrote_length wrote) }

          pub items_put : {new : List ℕ} {r : Put} → Puts (rows (table sized) n 0) groups_of s d mid new first r → RewritesItems s c old new (Ok r.at)
          items_put p =
              let same : p.value ≡ measured.value = one_value p.stands measured.stands in
              let bytes : shortest g.kept ++ groups_of p.value ≡ rewrite_metadata measured.value = rw (same, items_bytes measured.value, measured.many) in
              record { value = measured.value; next = g.next; stands = items_stand; writes = writes_wrote refl (rw bytes at (wrote_join wrote p.wrote)) }

pub ruleset item_steps = (items_count, items_ordered, items_groups, items_fit, items_short, items_whole_room, items_whole, items_groups_room, items_put, rules)

-- A payload that was judged: refused, or its functions stand where it begins
module _ (item : Reader Part) (p : List ℕ) (j : Verdict) (says : verdict_of j ≡ verdict (judge_metadata item 0 p)) where
  payload_refused : {old : List ℕ} {r : Refusal} → j ≡ Err r → Writes (canonical_of item p) old old (Err r)
  unfolding canonical_of
  payload_refused e = writes_refused ((refused_exactly rewrite_metadata (judge_metadata item 0 p)).1 (judged_refused j (judge_metadata item 0 p) says e))

  module _ (lax : Laxer item sized) (h : j ≡ Ok tt) where
    -- read without the item's checks, what was accepted stands there
    payload_stands : (v : Table (Table Part)) × (judge_metadata item 0 p ≡ accepted v) × (next : Cursor) × Stands (table (table sized)) p (over_all p) v next
    unfolding judge_metadata metadata
    payload_stands =
        let (v, e) = judged_accepted j (judge_metadata item 0 p) says h in
        judged (filling (table (table item)) 0 p) e λ o rest e₁.
        let (o₁, e₂) = filled_laxer (table_laxer (table_laxer lax)) 0 p e₁ in
        let here : table (table sized) 0 (slice 0 (length p) p) ≡ got v o₁ [] = rw (left_all p) e₂ in
        (v, e, _, stand (table_passable (table_passable sized_passes)) (over_inside refl) here)

    payload_known : {c : Cursor} → c ≡ over_all p → Known (table (table sized)) p c
    payload_known over = let (v, e, next, stands) = payload_stands in rw over (record { value = v; next = next; stands = stands })

    payload_written : {c : Cursor} → c ≡ over_all p → {old new : List ℕ} {r : Written} → RewritesItems p c old new r → Writes (canonical_of item p) old new r
    unfolding canonical_of
    payload_written over w =
        let (v, e, next, stands) = payload_stands in
        let same : v ≡ w.value = one_value stands (rw over at w.stands) in
        rw (e, same) w.writes

-- of any format, and hints
module _ (p : List ℕ) (j : Verdict) where
  module _ (says : verdict_of j ≡ verdict (judge_metadata any_item 0 p)) where
    pub any_refused : {old : List ℕ} {r : Refusal} → j ≡ Err r → Writes (canonical_metadata p) old old (Err r)
    unfolding canonical_metadata
    any_refused e = payload_refused any_item p j says e

    pub any_known : j ≡ Ok tt → {c : Cursor} → c ≡ over_all p → Known (table (table sized)) p c
    any_known h over = payload_known any_item p j says any_laxer h over

    pub any_written : j ≡ Ok tt → {c : Cursor} → c ≡ over_all p → {old new : List ℕ} {r : Written} → RewritesItems p c old new r → Writes (canonical_metadata p) old new r
    unfolding canonical_metadata
    any_written h over w = payload_written any_item p j says any_laxer h over w

  module _ (says : verdict_of j ≡ verdict (judge_metadata hint_item 0 p)) where
    pub hints_refused : {old : List ℕ} {r : Refusal} → j ≡ Err r → Writes (canonical_hints p) old old (Err r)
    unfolding canonical_hints
    hints_refused e = payload_refused hint_item p j says e

    pub hints_known : j ≡ Ok tt → {c : Cursor} → c ≡ over_all p → Known (table (table sized)) p c
    hints_known h over = payload_known hint_item p j says hint_laxer h over

    pub hints_written : j ≡ Ok tt → {c : Cursor} → c ≡ over_all p → {old new : List ℕ} {r : Written} → RewritesItems p c old new r → Writes (canonical_hints p) old new r
    unfolding canonical_hints
    hints_written h over w = payload_written hint_item p j says hint_laxer h over w

pub ruleset payload_steps = (any_refused, any_known, any_written, hints_refused, hints_known, hints_written, rules)
