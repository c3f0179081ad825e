-- K6. The readers of the import list and of the list of bodies stop exactly at their faults.
use Prim.Native.Nat.{ℕ, zero, suc, ◌+◌}
use mathlib.Core.List.{List, [], ◌∷◌}
use Rattle.std.specs.Prelude.{◌↔◌, ◌≡◌, leb}
use Rattle.std.proofs.Math.Path.{refl, ap}
use Rattle.std.proofs.Common.{sym, arith, leb-true, leb-false, le-leb}
use Rattle.std.proofs.lemmas.Bool.{lt-leb}
use Rattle.format.specs.Bytes.{Bytes}
use Rattle.format.specs.Reading.{Outcome, got, stop, Reader, and_then, ◌>>◌, return, checked, at_end, filling, judge, refused}
use Rattle.format.specs.Numbers.{number}
use Rattle.format.specs.Older.{times, vector}
use Rattle.format.specs.Laws.Outcomes.{not_got, got_value, got_next, got_rest, by_test, by_outcome}
use Rattle.format.proofs.Laws.Passing.{Passes, Reaches}
use Rattle.format.specs.declared.Reason.TheVariants.{NotImport}
use Rattle.grammar.specs.Numbers.{U32}
use Rattle.grammar.specs.Names.{Name}
use Rattle.grammar.specs.Faults.Numbers.{NumberFault}
use Rattle.grammar.specs.Faults.Parts.{NameFault}
use Rattle.grammar.specs.Faults.Sequences.{Then, ThenFault, AnyByte, a_byte, ByteFault, no_byte, ByteUpTo, up_to, UpToFault, no_byte_up_to, above}
use Rattle.grammar.specs.Laws.Exact.{Stretch, Accepts}
use Rattle.grammar.specs.Laws.Faults.Stops.{stop_number, stop_place, Found, Stops, Reads}
use Rattle.grammar.proofs.Laws.Faults.Numbers.{number_reads}
use Rattle.grammar.proofs.Laws.Faults.Parts.{sized_reads, name_reads, filling_faults}
use Rattle.grammar.proofs.Laws.Faults.Older.{vectors_read, vector_reads}
use Rattle.grammar.specs.Laws.Faults.Sequences.{then_reads, reads_as}
use Rattle.grammar.proofs.Laws.Faults.Judgements.{judged_by, refuses_exactly}
use Rattle.branches.specs.Bodies.{bodies}
use Rattle.branches.specs.Faults.{Bounds, BoundsFault, Limits, LimitsFault, Description, DescriptionFault, ImportKind, ImportKindFault, Import, ImportFault, ImportsFault, BodiesFault}
use Rattle.branches.specs.Imports.{byte, bounds, limits, table_type, global_type, description, kind_byte, import_kind, import_entry, functions_in, import_entries, import_list, imports}

-- a byte
byte_sound : (o : ℕ) (bs : List ℕ) {v o' : ℕ} {rest : List ℕ} → Bytes bs → byte o bs ≡ got v o' rest → Stretch AnyByte v rest bs
unfolding byte
byte_sound o [] h e = absurd (not_got e)
byte_sound o (b ∷ bs) h e = rw (← got_value e, ← got_rest e) (record { front = b ∷ []; is = refl; means = a_byte })

byte_complete : {front : List ℕ} {w : ℕ} → AnyByte front w → (o : ℕ) (rest : List ℕ) → Accepts byte (λ x. x) front w o rest
unfolding byte
byte_complete (a_byte {b = b}) o rest = record { value = b; next = suc o; reads = refl; same = refl }

byte_passes : (end : ℕ) → Passes (Reaches end) byte
unfolding byte
byte_passes end o [] v o' rest h e = absurd (not_got e)
byte_passes end o (b ∷ bs) v o' rest h e = rw (← got_next e, ← got_rest e) (omega arith)

byte_stopped : (o : ℕ) (bs : List ℕ) {n k : ℕ} → Bytes bs → byte o bs ≡ stop n k → Found ByteFault bs o n k
unfolding byte
byte_stopped o [] h e = rw (← stop_number e) (record { place = 0; is = omega (arith, stop_place e); fault = no_byte })
byte_stopped o (b ∷ bs) h e = absurd (not_got (sym e))

byte_stops : {bs : List ℕ} {n at : ℕ} → ByteFault bs n at → (o : ℕ) → byte o bs ≡ stop n (o + at)
unfolding byte
byte_stops no_byte o = ap (stop 2) (omega arith)

byte_reads : Reads byte (λ x. x) AnyByte ByteFault
byte_reads = record { exact = record { sound = byte_sound; complete = byte_complete }; passes = byte_passes; faults = record { found = byte_stopped; stops = byte_stops } }

-- a byte that is at most so great
module _ (most : ℕ) where
  abbrev byte_up_to : Reader ℕ
  byte_up_to o bs = and_then (byte o bs) (λ b. checked (leb b most) NotImport o >> return b)

  up_sound : (o : ℕ) (bs : List ℕ) {v o' : ℕ} {rest : List ℕ} → Bytes bs → byte_up_to o bs ≡ got v o' rest → Stretch (ByteUpTo most) v rest bs
  unfolding byte
  up_sound o [] h e = absurd (not_got e)
  up_sound o (b ∷ bs) {v} {o'} {rest} h e =
      by_test (leb b most)
      (λ t. let e' : got b (suc o) bs ≡ got v o' rest = rw t at e in rw (← got_value e', ← got_rest e') (record { front = b ∷ []; is = refl; means = up_to (leb-true b most t) }))
      (λ t. absurd (not_got (rw t at e)))

  up_complete : {front : List ℕ} {w : ℕ} → ByteUpTo most front w → (o : ℕ) (rest : List ℕ) → Accepts byte_up_to (λ x. x) front w o rest
  unfolding byte
  up_complete (up_to {b = b} l) o rest = record { value = b; next = suc o; reads = rw (le-leb b most l); same = refl }

  up_passes : (end : ℕ) → Passes (Reaches end) byte_up_to
  unfolding byte
  up_passes end o [] v o' rest h e = absurd (not_got e)
  up_passes end o (b ∷ bs) v o' rest h e =
      by_test (leb b most)
      (λ t. let e' : got b (suc o) bs ≡ got v o' rest = rw t at e in rw (← got_next e', ← got_rest e') (omega arith))
      (λ t. absurd (not_got (rw t at e)))

  up_stopped : (o : ℕ) (bs : List ℕ) {n k : ℕ} → Bytes bs → byte_up_to o bs ≡ stop n k → Found (UpToFault most 29) bs o n k
  unfolding byte
  up_stopped o [] h e = rw (← stop_number e) (record { place = 0; is = omega (arith, stop_place e); fault = no_byte_up_to })
  up_stopped o (b ∷ bs) h e =
      by_test (leb b most)
      (λ t. absurd (not_got (sym (rw t at e))))
      (λ t. let e' = rw t at e in rw (← stop_number e') (record { place = 0; is = omega (arith, stop_place e'); fault = above bs (leb-false b most t) }))

  up_stops : {bs : List ℕ} {n at : ℕ} → UpToFault most 29 bs n at → (o : ℕ) → byte_up_to o bs ≡ stop n (o + at)
  unfolding byte
  up_stops no_byte_up_to o = ap (stop 2) (omega arith)
  up_stops (above {b = b} rest l) o = rw (lt-leb b most l) (ap (stop 29) (omega arith))

  up_reads : Reads byte_up_to (λ x. x) (ByteUpTo most) (UpToFault most 29)
  up_reads = record { exact = record { sound = up_sound; complete = up_complete }; passes = up_passes; faults = record { found = up_stopped; stops = up_stops } }

-- limits
bounds_read : (flag : ℕ) → Reads (bounds flag) (λ x. x) (Bounds flag) (BoundsFault flag)
unfolding bounds
bounds_read zero = number_reads
bounds_read (suc flag) = then_reads number_reads (λ _. U32) (λ _. NumberFault) (λ _. number_reads)

limits_are : (o : ℕ) (bs : List ℕ) → limits o bs ≡ and_then (byte_up_to 1 o bs) bounds
unfolding limits byte
limits_are o [] = refl
limits_are o (b ∷ bs) = by_test (leb b 1) (λ t. rw t) (λ t. rw t)

limits_read : Reads limits (λ x. x) Limits LimitsFault
limits_read = reads_as limits_are (then_reads (up_reads 1) Bounds BoundsFault bounds_read)

-- what stands behind the kind
description_reads : (kind : ℕ) → Reads (description kind) (λ x. x) (Description kind) (DescriptionFault kind)
unfolding description table_type global_type
description_reads zero = number_reads
description_reads (suc zero) = then_reads byte_reads (λ _. Limits) (λ _. LimitsFault) (λ _. limits_read)
description_reads (suc (suc zero)) = limits_read
description_reads (suc (suc (suc kind))) = then_reads byte_reads (λ _. AnyByte) (λ _. ByteFault) (λ _. byte_reads)

kind_reads : Reads import_kind (λ x. x) ImportKind ImportKindFault
unfolding import_kind kind_byte
kind_reads = then_reads name_reads (λ _. Then Name (λ _. ByteUpTo 3)) (λ _. ThenFault Name NameFault (λ _. UpToFault 3 29)) (λ _. then_reads name_reads (λ _. ByteUpTo 3) (λ _. UpToFault 3 29) (λ _. up_reads 3))

-- an import, by what stands behind its kind
abbrev import : Reader ℕ
import o bs = and_then (import_kind o bs) description

import_reads : Reads import (λ x. x) Import ImportFault
import_reads = then_reads kind_reads Description DescriptionFault description_reads

-- Two readings that stop alike, whatever they mean
data Alike {A B : Type 0} : Outcome A → Outcome B → Type 0 where
  both_got : {v : A} {w : B} {o : ℕ} {bs : List ℕ} → Alike (got v o bs) (got w o bs)
  both_stop : {n k : ℕ} → Alike (stop n k) (stop n k)

alike_return : {A B C : Type 0} {r : Outcome A} {s : Outcome B} (g : B → C) → Alike r s → Alike r (and_then s (λ v. return (g v)))
alike_return g both_got = both_got
alike_return g both_stop = both_stop

alike_filled : {A B : Type 0} {r : Outcome A} {s : Outcome B} → Alike r s → Alike (and_then r at_end) (and_then s at_end)
alike_filled (both_got {bs = []}) = both_got
alike_filled (both_got {bs = b ∷ bs}) = both_stop
alike_filled both_stop = both_stop

alike_to : {A B : Type 0} {r : Outcome A} {s : Outcome B} {n k : ℕ} → Alike r s → r ≡ stop n k → s ≡ stop n k
alike_to both_got e = absurd (not_got (sym e))
alike_to both_stop e = cc

alike_from : {A B : Type 0} {r : Outcome A} {s : Outcome B} {n k : ℕ} → Alike r s → s ≡ stop n k → r ≡ stop n k
alike_from both_got e = absurd (not_got (sym e))
alike_from both_stop e = cc

entries_alike : (n before o : ℕ) (bs : List ℕ) → Alike (import_entries n before o bs) (times import n o bs)
unfolding import_entries import_entry times
entries_alike zero before o bs = both_got
entries_alike (suc n) before o bs =
    by_outcome (import_kind o bs)
    (λ kind o₁ r₁ e₁. by_outcome (description kind o₁ r₁)
    (λ d o₂ r₂ e₂. rw (e₁, e₂) (alike_return (λ vs. d ∷ vs) (entries_alike n (before + functions_in kind) o₂ r₂)))
    (λ m k e₂. rw (e₁, e₂) both_stop))
    (λ m k e₁. rw e₁ both_stop)

imports_alike : (o : ℕ) (bs : List ℕ) → Alike (imports o bs) (filling (vector import) o bs)
unfolding imports import_list vector
imports_alike o bs =
    by_outcome (number o bs)
    (λ n o₁ r₁ e. rw e (alike_filled (entries_alike n 0 o₁ r₁)))
    (λ m k e. rw e both_stop)

imports_faults : Stops imports ImportsFault
imports_faults =
    let all = filling_faults (vector_reads import_reads) in
    record { found = λ o bs h e. all.found o bs h (alike_to (imports_alike o bs) e); stops = λ {bs} f o. alike_from (imports_alike o bs) (all.stops f o) }

bodies_faults : Stops bodies BodiesFault
unfolding bodies
bodies_faults = filling_faults (vectors_read sized_reads)

-- THE LISTS, wherever they begin in a module
pub imports_refused : (at : ℕ) (p : List ℕ) → Bytes p → (n k : ℕ) → (judge (imports at p) ≡ refused n k) ↔ ((place : ℕ) × (k ≡ at + place) × ImportsFault p n place)
imports_refused at = refuses_exactly (judged_by imports_faults at)

pub bodies_refused : (at : ℕ) (p : List ℕ) → Bytes p → (n k : ℕ) → (judge (bodies at p) ≡ refused n k) ↔ ((place : ℕ) × (k ≡ at + place) × BodiesFault p n place)
bodies_refused at = refuses_exactly (judged_by bodies_faults at)
