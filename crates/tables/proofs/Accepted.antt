-- What was accepted, taken apart: a row and the rows behind it, a table and its rows. Nothing here is about code.
use Prim.Native.Nat.{ℕ, zero, suc}
use mathlib.Core.List.{List}
use mathlib.Core.Path.{◌≡◌, sym, ◌∙◌}
use native.Mathlib.Omega.{arith}
use borrow.Author.Tests.{le-leb}
use Rattle.format.specs.Reading.{got, Reader}
use Rattle.format.specs.Numbers.{number}
use Rattle.format.specs.Tables.{Table, nil, row, rows, table}
use Rattle.format.specs.Laws.Outcomes.{got_value, got_next, got_rest}
use Rattle.format.specs.Laws.Turns.{in_row, in_table}
use Rattle.format.proofs.Laws.Passing.{number_passes, table_passes}
use Rattle.reading.specs.Cursors.{left}
use Rattle.reading.specs.Standing.{Stands, Known}
use Rattle.reading.specs.declared.Cursor.{Cursor}
use Rattle.reading.proofs.Same.{same_cursor}
use Rattle.reading.proofs.Standing.{Passable, stand}

pub table_passable : {A : Type 0} {read : Reader A} → Passable read → Passable (table read)
table_passable {read = read} p H step = table_passes H step read (p H step)

-- A row, and the rows behind it
pub record After {A : Type 0} (read : Reader A) (n k : ℕ) (v : A) (t : Table A) (s : List ℕ) (next last : Cursor) : Type 0 where
  pub more : Table A
  pub stands : Stands (rows read n (suc k)) s next more last
  pub is : row k v more ≡ t

module _ {A : Type 0} (read : Reader A) (n least : ℕ) {t : Table A} {s : List ℕ} {c last : Cursor} (w : Stands (rows read (suc n) least) s c t last) where
  pub known_index : Known number s c
  known_index =
      in_row read n least c.at (left s c) w.reads λ k o₁ r₁ v o₂ r₂ more e₁ above e₂ e₃ is.
      record { value = _; next = _; stands = stand number_passes w.inside e₁ }

  module _ {k : ℕ} {d : Cursor} (index : Stands number s c k d) where
    pub known_value : Passable read → Known read s d
    known_value passes =
        in_row read n least c.at (left s c) w.reads λ k' o₁ r₁ v o₂ r₂ more e₁ above e₂ e₃ is.
        let same = sym e₁ ∙ index.reads in
        let here : read d.at (left s d) ≡ got v o₂ r₂ = rw (got_next same, got_rest same) at e₂ in
        record { value = _; next = _; stands = stand passes index.behind here }

    pub rows_after : {v : A} {next : Cursor} → Stands read s d v next → After read n k v t s next last
    rows_after {v} {next} value =
        in_row read n least c.at (left s c) w.reads λ k' o₁ r₁ v' o₂ r₂ more e₁ above e₂ e₃ is.
        let same = sym e₁ ∙ index.reads in
        let here : read d.at (left s d) ≡ got v' o₂ r₂ = rw (got_next same, got_rest same) at e₂ in
        let same' = sym here ∙ value.reads in
        record {
          more = more;
          stands = record {
            inside = value.behind;
            reads = rw (got_value same, got_next same', got_rest same') at e₃;
            behind = w.behind;
            same_end = w.same_end ∙ sym index.same_end ∙ sym value.same_end;
          };
          is = rw (got_value same, got_value same') at is;
        }

module _ {A : Type 0} (read : Reader A) (least : ℕ) {t : Table A} {s : List ℕ} {c last : Cursor} (w : Stands (rows read 0 least) s c t last) where
  pub no_rows_lem : t ≡ nil
  unfolding rows
  no_rows_lem = sym (got_value w.reads)

  pub no_way : c ≡ last
  unfolding rows
  no_way = same_cursor c last (got_next w.reads) (sym w.same_end)

-- A table: its count, and its rows
module _ {A : Type 0} (read : Reader A) {t : Table A} {s : List ℕ} {c last : Cursor} where
  pub known_count : Stands (table read) s c t last → Known number s c
  known_count w = in_table read c.at (left s c) w.reads λ n o₁ r₁ e₁ e₂. record { value = _; next = _; stands = stand number_passes w.inside e₁ }

  module _ {n : ℕ} {d : Cursor} (count : Stands number s c n d) where
    pub table_rows : Stands (table read) s c t last → Stands (rows read n 0) s d t last
    table_rows w =
        in_table read c.at (left s c) w.reads λ n' o₁ r₁ e₁ e₂.
        let same = sym e₁ ∙ count.reads in
        record {
          inside = count.behind;
          reads = rw (got_value same, got_next same, got_rest same) at e₂;
          behind = w.behind;
          same_end = w.same_end ∙ sym count.same_end;
        }

    pub rows_table : Stands (rows read n 0) s d t last → Stands (table read) s c t last
    unfolding table
    rows_table w = record { inside = count.inside; reads = rw count.reads w.reads; behind = w.behind; same_end = w.same_end ∙ count.same_end }

-- Rows that begin above some number are rows
rows_any : {A : Type 0} (read : Reader A) (n least o : ℕ) (bs : List ℕ) {t : Table A} {o' : ℕ} {rest : List ℕ} → rows read n least o bs ≡ got t o' rest → rows read n 0 o bs ≡ got t o' rest
unfolding rows
rows_any read zero least o bs e = e
rows_any read (suc n) least o bs e =
    in_row read n least o bs e λ k o₁ r₁ v o₂ r₂ more e₁ above e₂ e₃ is.
    rw (e₁, le-leb 0 k (omega arith), e₂, e₃, is)

pub from_any : {A : Type 0} (read : Reader A) (n least : ℕ) {s : List ℕ} {c last : Cursor} {t : Table A} → Stands (rows read n least) s c t last → Stands (rows read n 0) s c t last
from_any read n least {s} {c} w = record { inside = w.inside; reads = rows_any read n least c.at (left s c) w.reads; behind = w.behind; same_end = w.same_end }
