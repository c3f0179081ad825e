-- The readers of sized parts and of lists are exact.
use Prim.Native.Nat.{ℕ, zero, suc, ◌+◌, ◌≤◌}
use Rattle.std.specs.Prelude.{Bool, true, ◌≡◌, take, drop}
use mathlib.Core.List.{List, [], ◌++◌, append_assoc}
use Rattle.std.proofs.Math.Path.{refl, ap, ap₂}
use Rattle.std.proofs.Common.{sym, ◌∙◌, arith, length-append, take-append-drop, length-take-le}
use borrow.Author.Tests.{le-leb}
use Rattle.std.proofs.Math.ListN.{length}
use Rattle.std.proofs.Math.Seq.{take-append_seam, drop-append_seam}
use Rattle.format.specs.Bytes.{Bytes}
use Rattle.format.specs.Reading.{got, Reader}
use Rattle.format.specs.Parts.{Part, sized}
use Rattle.format.specs.Tables.{Table, nil, row, map_table, rows, table}
use Rattle.format.specs.Laws.Outcomes.{got_value, got_rest}
use Rattle.format.specs.Laws.Turns.{in_sized, tested, in_tested, in_row, in_table}
use Rattle.format.specs.declared.Reason.{Reason}
use Rattle.grammar.specs.Numbers.{Grammar}
use Rattle.grammar.specs.Lists.{Sized, sized as a_part, Entries, no_entry, entry, Increasing, no_row, one_row, two_rows, Listed, listed}
use Rattle.format.specs.Laws.Tight.{bytes_after}
use Rattle.grammar.specs.Laws.Exact.{Stretch, left_bytes, Accepts, Exact}
use Rattle.grammar.proofs.Laws.Numbers.{number_sound, number_complete}

sized_sound : (o : ℕ) (bs : List ℕ) {p : Part} {o' : ℕ} {rest : List ℕ} → Bytes bs → sized o bs ≡ got p o' rest → Stretch Sized p.bytes rest bs
sized_sound o bs h e =
    in_sized o bs e λ n o₁ r₁ e₁ fit part next left.
    let s = number_sound o bs h e₁ in
    rw (← part, ← left) (record {
      front = s.front ++ take n r₁;
      is = s.is ∙ ap (λ x. s.front ++ x) (sym (take-append-drop n r₁)) ∙ sym (append_assoc s.front (take n r₁) (drop n r₁));
      means = a_part {size = s.front} {contents = take n r₁} (rw (length-take-le n r₁ fit) s.means);
    })

sized_complete : {front w : List ℕ} → Sized front w → (o : ℕ) (rest : List ℕ) → Accepts sized (λ p. p.bytes) front w o rest
unfolding sized
sized_complete (a_part {size = size} {contents = x} u) o rest = record {
  value = record { at = o + length size; bytes = x };
  next = o + length size + length x;
  reads = rw (append_assoc, number_complete u o (x ++ rest), length-append, le-leb (length x) (length x + length rest) (omega arith), take-append_seam, drop-append_seam);
  same = refl;
}

pub sized_exact : Exact sized (λ p. p.bytes) Sized
sized_exact = record { sound = sized_sound; complete = sized_complete }

pub contents_bytes : {part contents : List ℕ} → Sized part contents → Bytes part → Bytes contents
contents_bytes (a_part {size = size} {contents = x} u) h = bytes_after size x h

-- a sized part that passes a test, where the grammar has a condition on it
module _ (test : List ℕ → Bool) (why : Reason) (spot : ℕ → Part → ℕ) {grammar : Grammar (List ℕ)}
    (to : (bs x : List ℕ) → Sized bs x → test x ≡ true → grammar bs x)
    (from : (bs x : List ℕ) → grammar bs x → Sized bs x × (test x ≡ true)) where
  pub tested_exact : Exact (tested test why spot) (λ p. p.bytes) grammar
  tested_exact = record { sound = down; complete = up }
    where
      down : (o : ℕ) (bs : List ℕ) {p : Part} {o' : ℕ} {rest : List ℕ} → Bytes bs → tested test why spot o bs ≡ got p o' rest → Stretch grammar p.bytes rest bs
      down o bs h e = in_tested test why spot o bs e λ e₁ t. let s = sized_sound o bs h e₁ in record { front = s.front; is = s.is; means = to s.front _ s.means t }

      up : {front w : List ℕ} → grammar front w → (o : ℕ) (rest : List ℕ) → Accepts (tested test why spot) (λ p. p.bytes) front w o rest
      up {front} {w} g o rest =
          let (part, t) = from front w g in
          let a = sized_complete part o rest in
          record { value = a.value; next = a.next; reads = rw (a.reads, a.same, t); same = a.same }

-- rows from a least number on are rows in order
module _ {A : Type 0} where
  pub data From : ℕ → Table A → Type 0 where
    from_nil : {least : ℕ} → From least nil
    from_row : {least k : ℕ} {v : A} {t : Table A} → least ≤ k → From (suc k) t → From least (row k v t)

  before : {k : ℕ} {v : A} {t : Table A} → From (suc k) t → Increasing t → Increasing (row k v t)
  before from_nil i = one_row
  before (from_row l f) i = two_rows l i

  pub from_increasing : {least : ℕ} {t : Table A} → From least t → Increasing t
  from_increasing from_nil = no_row
  from_increasing (from_row l f) = before f (from_increasing f)

  abbrev Least : ℕ → Table A → Type 0
  Least least nil = Unit {0}
  Least least (row k v t) = least ≤ k

  above : {t : Table A} → Increasing t → (least : ℕ) → Least least t → From least t
  above no_row least h = from_nil
  above one_row least h = from_row h from_nil
  above (two_rows {j = j} l i) least h = from_row h (above i (suc j) l)

  any_least : (t : Table A) → Least 0 t
  any_least nil = tt
  any_least (row k v t) = omega arith

  pub increasing_from : {t : Table A} → Increasing t → From 0 t
  increasing_from {t} i = above i 0 (any_least t)

module _ {A B : Type 0} {read : Reader A} {plain : A → B} {grammar : Grammar B} (exact : Exact read plain grammar) where
  record RowsRead (n least : ℕ) (t : Table B) (rest bs : List ℕ) : Type 0 where
    stretch : Stretch (Entries grammar n) t rest bs
    rising : From least t

  rows_sound : (n least o : ℕ) (bs : List ℕ) {t : Table A} {o' : ℕ} {rest : List ℕ} → Bytes bs → rows read n least o bs ≡ got t o' rest → RowsRead n least (map_table plain t) rest bs
  unfolding rows map_table
  rows_sound zero least o bs h e = rw (← got_value e, ← got_rest e) (record { stretch = record { front = []; is = refl; means = no_entry }; rising = from_nil })
  rows_sound (suc n) least o bs {rest = rest} h e =
      in_row read n least o bs e λ k o₁ r₁ v o₂ r₂ more e₁ above e₂ e₃ is.
      let num = number_sound o bs h e₁ in
      let h₁ = left_bytes num h in
      let val = exact.sound o₁ r₁ h₁ e₂ in
      let ih = rows_sound n (suc k) o₂ r₂ (left_bytes val h₁) e₃ in
      rw (← is) (record {
        stretch = record {
          front = num.front ++ val.front ++ ih.stretch.front;
          is = num.is ∙ ap (λ x. num.front ++ x) (val.is ∙ ap (λ x. val.front ++ x) ih.stretch.is) ∙ simp append_assoc;
          means = entry num.means val.means ih.stretch.means;
        };
        rising = from_row above ih.rising;
      })

  rows_complete : {n : ℕ} {bs : List ℕ} {t : Table B} → Entries grammar n bs t → (least : ℕ) → From least t → (o : ℕ) (rest : List ℕ) → Accepts (rows read n least) (map_table plain) bs t o rest
  unfolding rows map_table
  rows_complete no_entry least f o rest = record { value = nil; next = o; reads = refl; same = refl }
  rows_complete (entry {number = a} {value = b} {others = c} {k = k} u g m) least (from_row l f) o rest =
      let val = exact.complete g (o + length a) (c ++ rest) in
      let ih = rows_complete m (suc k) f val.next rest in
      record {
        value = row k val.value ih.value;
        next = ih.next;
        reads = rw (append_assoc (a ++ b) c rest, append_assoc a b (c ++ rest), number_complete u o (b ++ (c ++ rest)), le-leb least k l, val.reads, ih.reads);
        same = ap₂ (row k) val.same ih.same;
      }

  table_sound : (o : ℕ) (bs : List ℕ) {t : Table A} {o' : ℕ} {rest : List ℕ} → Bytes bs → table read o bs ≡ got t o' rest → Stretch (Listed grammar) (map_table plain t) rest bs
  table_sound o bs h e =
      in_table read o bs e λ n o₁ r₁ e₁ e₂.
      let num = number_sound o bs h e₁ in
      let rs = rows_sound n 0 o₁ r₁ (left_bytes num h) e₂ in
      record {
        front = num.front ++ rs.stretch.front;
        is = num.is ∙ ap (λ x. num.front ++ x) rs.stretch.is ∙ simp append_assoc;
        means = listed num.means rs.stretch.means (from_increasing rs.rising);
      }

  table_complete : {bs : List ℕ} {t : Table B} → Listed grammar bs t → (o : ℕ) (rest : List ℕ) → Accepts (table read) (map_table plain) bs t o rest
  unfolding table
  table_complete (listed {count = a} {entries = b} u m i) o rest =
      let rs = rows_complete m 0 (increasing_from i) (o + length a) rest in
      record { value = rs.value; next = rs.next; reads = rw (append_assoc, number_complete u o (b ++ rest), rs.reads); same = rs.same }

  pub table_exact : Exact (table read) (map_table plain) (Listed grammar)
  table_exact = record { sound = table_sound; complete = table_complete }
