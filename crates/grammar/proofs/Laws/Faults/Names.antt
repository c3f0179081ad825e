-- The reader of name payloads stops exactly at their faults.
use Prim.Native.Nat.{ℕ, zero, suc, ◌+◌, ◌≤◌}
use mathlib.Core.List.{List, [], ◌∷◌}
use Rattle.std.proofs.Math.Option.{Option, none, some}
use Rattle.std.specs.Prelude.{◌≡◌, leb}
use Rattle.std.proofs.Common.{sym, arith, leb-true, le-leb}
use Rattle.std.proofs.Math.Path.{ap}
use Rattle.std.proofs.lemmas.Bool.{lt-leb}
use Rattle.std.proofs.Math.ListN.{length, length-append}
use Rattle.format.specs.Bytes.{Bytes}
use Rattle.format.specs.Reading.{stop, filling}
use Rattle.format.specs.Parts.{sized, name, remaining, inside}
use Rattle.format.specs.Tables.{row, map_table, table}
use Rattle.format.specs.Names.{Kind, one_name, name_map, indirect_map, kept, single, names, names_by, contents, subsections, payload}
use Rattle.format.specs.Laws.Outcomes.{not_got, in_part}
use Rattle.grammar.specs.Names.{NameMap, IndirectNameMap}
use Rattle.grammar.specs.Faults.Names.{NameMapFault, IndirectNameMapFault, ContentsFault, in_aName, in_aName_map, in_an_indirect_name_map, SubsectionsFault, id_not_above, in_the_size, in_the_contents, further_on, NamePayloadFault}
use Rattle.grammar.proofs.Laws.Names.{SameIds, contents_sound, contents_complete}
use Rattle.grammar.specs.Laws.Faults.Stops.{stops_in, stops_first, stops_inside, stops_at_check, Found, Stops, Reads, went, goes}
use Rattle.grammar.proofs.Laws.Faults.Parts.{sized_reads, cut_apart, part_reads, name_reads, filling_faults}
use Rattle.grammar.proofs.Laws.Faults.Lists.{least_after, above_least, least_above, not_least, table_reads}

map_reads : Reads (table name) (map_table (λ p. p.bytes)) NameMap NameMapFault
map_reads = table_reads name_reads

indirect_reads : Reads (table (table name)) (map_table (map_table (λ p. p.bytes))) IndirectNameMap IndirectNameMapFault
indirect_reads = table_reads map_reads

-- contents by kind
contents_stopped : (kind : Kind) (o : ℕ) (bs : List ℕ) {n k : ℕ} → Bytes bs → contents kind o bs ≡ stop n k → Found (ContentsFault kind) bs o n k
unfolding contents remaining
contents_stopped one_name o bs h e = stops_first (filling name o bs) single e λ e₁. let f = (filling_faults name_reads).found o bs h e₁ in record { place = f.place; is = f.is; fault = in_aName f.fault }
contents_stopped name_map o bs h e = stops_first (filling (table name) o bs) names e λ e₁. let f = (filling_faults map_reads).found o bs h e₁ in record { place = f.place; is = f.is; fault = in_aName_map f.fault }
contents_stopped indirect_map o bs h e = stops_first (filling (table (table name)) o bs) names_by e λ e₁. let f = (filling_faults indirect_reads).found o bs h e₁ in record { place = f.place; is = f.is; fault = in_an_indirect_name_map f.fault }
contents_stopped kept o bs h e = absurd (not_got (sym e))

contents_stop : {kind : Kind} {bs : List ℕ} {n at : ℕ} → ContentsFault kind bs n at → (o : ℕ) → contents kind o bs ≡ stop n (o + at)
unfolding contents
contents_stop (in_aName f) o = rw ((filling_faults name_reads).stops f o)
contents_stop (in_aName_map f) o = rw ((filling_faults map_reads).stops f o)
contents_stop (in_an_indirect_name_map f) o = rw ((filling_faults indirect_reads).stops f o)

module _ {Ids : ℕ → Kind → Type 0} {kind_of : ℕ → Kind} (ids : SameIds Ids kind_of) where
  subsections_stopped : (most : ℕ) (last : Option ℕ) (o : ℕ) (bs : List ℕ) {n k : ℕ} → length bs ≤ most → Bytes bs → subsections kind_of most (least_after last) o bs ≡ stop n k → Found (SubsectionsFault Ids last) bs o n k
  unfolding subsections
  subsections_stopped zero last o [] l h e = absurd (not_got (sym e))
  subsections_stopped zero last o (b ∷ bs) l h e = absurd (omega arith)
  subsections_stopped (suc most) last o [] l h e = absurd (not_got (sym e))
  subsections_stopped (suc most) last o (id ∷ bs) l h e =
      let h₁ : Bytes bs = λ i. h (suc i) in
      stops_at_check (leb (least_after last) id) _ _ _ _ _ e
      (λ t is at. not_least last id t λ j before low. rw (← is, before) (record { place = 0; is = omega arith; fault = id_not_above bs low }))
      (λ t e₁.
      let above = least_above last (leb-true (least_after last) id t) in
      stops_in (sized (suc o) bs) _ e₁
      (λ e₂. let f = sized_reads.faults.found (suc o) bs h₁ e₂ in record { place = 1 + f.place; is = omega (arith, f.is); fault = in_the_size above f.fault })
      (λ p o₁ r₁ e₂ e₃.
      let s = went sized_reads (suc o) bs h₁ e₂ in
      let c = cut_apart (suc o) bs h₁ e₂ in
      stops_in (inside (contents (kind_of id)) p o₁ r₁) _ e₃
      (λ e₄. stops_inside (contents (kind_of id) p.at p.bytes) o₁ r₁ e₄ λ e₅.
      let f = contents_stopped (kind_of id) p.at p.bytes c.own e₅ in
      rw c.is (record { place = 1 + (length c.size + f.place); is = omega (arith, f.is, c.place); fault = in_the_contents r₁ above c.means (ids.has id) f.fault }))
      (λ x o₃ r₃ e₄ e₅. in_part (contents (kind_of id) p.at p.bytes) o₁ r₁ e₄ λ o₂ r₂ e₆ q q'.
      stops_first (subsections kind_of most (suc id) o₃ r₃) (row id x) e₅ λ e₇.
      let f = subsections_stopped most (some id) o₁ r₁ (omega (arith, ap length s.is, length-append s.front r₁)) s.left (rw (← q, ← q') at e₇) in
      rw s.is (record { place = 1 + (length s.front + f.place); is = omega (arith, f.is, s.next); fault = further_on above s.means (ids.has id) (contents_sound (kind_of id) p.at p.bytes c.own e₆) f.fault }))))

  subsections_stop : {last : Option ℕ} {bs : List ℕ} {n at : ℕ} → SubsectionsFault Ids last bs n at → (most : ℕ) → length bs ≤ most → (o : ℕ) → subsections kind_of most (least_after last) o bs ≡ stop n (o + at)
  unfolding subsections
  subsections_stop (id_not_above rest low) zero l o = absurd (omega arith)
  subsections_stop (id_not_above {j = j} {id = id} rest low) (suc most) l o = rw (lt-leb (suc j) id (omega arith)) (ap (stop 9) (omega arith))
  subsections_stop (in_the_size above f) zero l o = absurd (omega arith)
  subsections_stop (in_the_size {last = last} {id = id} {n = n} above f) (suc most) l o = rw (le-leb (least_after last) id (above_least above), sized_reads.faults.stops f (suc o)) (ap (stop n) (omega arith))
  subsections_stop (in_the_contents rest above u i f) zero l o = absurd (omega arith)
  subsections_stop (in_the_contents {last = last} {id = id} {size = size} {n = n} rest above u i f) (suc most) l o =
      rw (le-leb (least_after last) id (above_least above), part_reads u (suc o) rest, ← ids.only i, contents_stop f (suc o + length size)) (ap (stop n) (omega arith))
  subsections_stop (further_on above s i c f) zero l o = absurd (omega arith)
  subsections_stop (further_on {last = last} {id = id} {part = part} {rest = rest} {n = n} above s i c f) (suc most) l o =
      let a = goes sized_reads s (suc o) rest in
      let b = contents_complete c a.value.at in
      rw (le-leb (least_after last) id (above_least above), a.reads, a.same, ← ids.only i, b.reads, subsections_stop f most (omega (arith, length-append part rest)) (suc o + length part)) (ap (stop n) (omega arith))

  pub payload_faults : Stops (payload kind_of) (NamePayloadFault Ids)
  unfolding payload
  payload_faults = record {
    found = λ o bs h e. subsections_stopped (length bs) none o bs (omega arith) h e;
    stops = λ {bs} f o. subsections_stop f (length bs) (omega arith) o;
  }
