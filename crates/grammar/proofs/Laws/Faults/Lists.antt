-- The reader of lists stops exactly at their faults.
use Prim.Native.Nat.{ℕ, zero, suc, ◌+◌, ◌≤◌}
use Rattle.std.specs.Prelude.{false, List, ◌++◌, ◌≡◌, refl, leb}
use Rattle.std.proofs.Math.Option.{Option, none, some}
use Rattle.std.proofs.Common.{sym, ◌∙◌, arith}
use Rattle.std.proofs.Math.Path.{ap}
use borrow.Author.Tests.{leb-true, leb-false, le-leb, lt-leb}
use Rattle.std.proofs.Math.ListN.{length}
use Rattle.format.specs.Bytes.{Bytes}
use Rattle.format.specs.Reading.{stop, Reader}
use Rattle.format.specs.Numbers.{number}
use Rattle.format.specs.Tables.{row, map_table, rows, table}
use Rattle.format.specs.Laws.Outcomes.{not_got}
use Rattle.format.proofs.Laws.Passing.{table_passes, Reaches, reach_step}
use Rattle.grammar.specs.Numbers.{Grammar}
use Rattle.grammar.specs.Lists.{Listed}
use Rattle.grammar.specs.Faults.Numbers.{Faults}
use Rattle.grammar.specs.Faults.Lists.{Above, the_first, above_last, EntriesFault, in_the_number, not_above_lem, in_the_value, further_on, ListFault, in_the_count, in_the_entries}
use Rattle.grammar.proofs.Laws.Lists.{table_exact}
use Rattle.grammar.specs.Laws.Faults.Stops.{stops_in, stops_first, stops_at_check, Found, Reads, went, goes}
use Rattle.grammar.proofs.Laws.Faults.Numbers.{number_reads}

-- the least number that is still allowed
abbrev pub least_after : Option ℕ → ℕ
least_after none = 0
least_after (some j) = suc j

pub above_least : {last : Option ℕ} {k : ℕ} → Above last k → least_after last ≤ k
above_least the_first = omega arith
above_least (above_last l) = l

pub least_above : (last : Option ℕ) {k : ℕ} → least_after last ≤ k → Above last k
least_above none l = the_first
least_above (some j) l = above_last l

-- a number that is not allowed has one before it
pub not_least {ℓ} : {C : Type ℓ} (last : Option ℕ) (k : ℕ) → leb (least_after last) k ≡ false → ((j : ℕ) → last ≡ some j → k ≤ j → C) → C
not_least none k t next = absurd (omega (arith, leb-false 0 k t))
not_least (some j) k t next = next j refl (omega (arith, leb-false (suc j) k t))

module _ {A B : Type 0} {read : Reader A} {plain : A → B} {grammar : Grammar B} {F : Faults} (r : Reads read plain grammar F) where
  rows_stopped : (n : ℕ) (last : Option ℕ) (o : ℕ) (bs : List ℕ) {m k : ℕ} → Bytes bs → rows read n (least_after last) o bs ≡ stop m k → Found (EntriesFault grammar F n last) bs o m k
  unfolding rows
  rows_stopped zero last o bs h e = absurd (not_got (sym e))
  rows_stopped (suc n) last o bs h e =
      stops_in (number o bs) _ e
      (λ e₁. let f = number_reads.faults.found o bs h e₁ in record { place = f.place; is = f.is; fault = in_the_number f.fault })
      (λ i o₁ r₁ e₁ e₂.
      let s = went number_reads o bs h e₁ in
      stops_at_check (leb (least_after last) i) _ _ _ _ _ e₂
      (λ t is at. not_least last i t λ j before l. rw (← is, s.is, before) (record { place = 0; is = omega arith; fault = not_above_lem r₁ s.means l }))
      (λ t e₃.
      let above = least_above last (leb-true (least_after last) i t) in
      stops_in (read o₁ r₁) _ e₃
      (λ e₄. let f = r.faults.found o₁ r₁ s.left e₄ in rw s.is (record { place = length s.front + f.place; is = omega (arith, f.is, s.next); fault = in_the_value s.means above f.fault }))
      (λ v o₂ r₂ e₄ e₅.
      let val = went r o₁ r₁ s.left e₄ in
      stops_first (rows read n (suc i) o₂ r₂) (row i v) e₅ λ e₆.
      let f = rows_stopped n (some i) o₂ r₂ val.left e₆ in
      rw (s.is ∙ ap (λ x. s.front ++ x) val.is) (record { place = length s.front + (length val.front + f.place); is = omega (arith, f.is, s.next, val.next); fault = further_on s.means above val.means f.fault }))))

  rows_stop : {n : ℕ} {last : Option ℕ} {bs : List ℕ} {m at : ℕ} → EntriesFault grammar F n last bs m at → (o : ℕ) → rows read n (least_after last) o bs ≡ stop m (o + at)
  unfolding rows
  rows_stop (in_the_number f) o = rw (number_reads.faults.stops f o)
  rows_stop (not_above_lem {j = j} {k = k} rest u l) o =
      let a = goes number_reads u o rest in
      rw (a.reads, a.same, lt-leb (suc j) k (omega arith)) (ap (stop 11) (omega arith))
  rows_stop (in_the_value {k = k} {last = last} {number = number} {rest = rest} {m = m} {at = at} u above f) o =
      let a = goes number_reads u o rest in
      rw (a.reads, a.same, le-leb (least_after last) k (above_least above), r.faults.stops f (o + length number)) (ap (stop m) (omega arith))
  rows_stop (further_on {k = k} {last = last} {number = number} {value = value} {rest = rest} {m = m} u above g f) o =
      let a = goes number_reads u o (value ++ rest) in
      let b = goes r g (o + length number) rest in
      rw (a.reads, a.same, le-leb (least_after last) k (above_least above), b.reads, rows_stop f (o + length number + length value)) (ap (stop m) (omega arith))

  table_stopped : (o : ℕ) (bs : List ℕ) {m k : ℕ} → Bytes bs → table read o bs ≡ stop m k → Found (ListFault grammar F) bs o m k
  unfolding table
  table_stopped o bs h e =
      stops_in (number o bs) _ e
      (λ e₁. let f = number_reads.faults.found o bs h e₁ in record { place = f.place; is = f.is; fault = in_the_count f.fault })
      (λ n o₁ r₁ e₁ e₂.
      let s = went number_reads o bs h e₁ in
      let f = rows_stopped n none o₁ r₁ s.left e₂ in
      rw s.is (record { place = length s.front + f.place; is = omega (arith, f.is, s.next); fault = in_the_entries s.means f.fault }))

  table_stops : {bs : List ℕ} {m at : ℕ} → ListFault grammar F bs m at → (o : ℕ) → table read o bs ≡ stop m (o + at)
  unfolding table
  table_stops (in_the_count f) o = rw (number_reads.faults.stops f o)
  table_stops (in_the_entries {count = count} {rest = rest} {m = m} u f) o =
      let a = goes number_reads u o rest in
      rw (a.reads, a.same, rows_stop f (o + length count)) (ap (stop m) (omega arith))

  pub table_reads : Reads (table read) (map_table plain) (Listed grammar) (ListFault grammar F)
  table_reads = record {
    exact = table_exact r.exact;
    passes = λ end. table_passes (Reaches end) (reach_step end) read (r.passes end);
    faults = record { found = table_stopped; stops = table_stops };
  }
