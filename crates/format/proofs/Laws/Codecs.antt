-- A reader and a way of writing that fit one another: what is read is well formed and its writing no longer, and as long only where it is the same bytes; and what is well formed reads back from its writing. One law for sized parts, names, hints, and lists of any of these.
use Prim.Native.Nat.{ℕ, zero, suc, ◌+◌, ◌≤◌, ◌<◌}
use Rattle.std.specs.Prelude.{Bool, true, ◌≡◌, take, drop}
use mathlib.Core.List.{List, [], ◌++◌, append_assoc, append-nil}
use Rattle.std.proofs.Math.Path.{refl, ap, ap₂}
use Rattle.std.proofs.Common.{◌∙◌, arith, length-drop, length-take-le}
use borrow.Author.Tests.{le-leb}
use Rattle.std.proofs.Math.ListN.{length, length-append}
use Rattle.std.proofs.Math.Seq.{take-append_seam, drop-append_seam}
use Rattle.format.specs.Reading.{got, Reader, filling}
use Rattle.format.specs.Numbers.{number, shortest, limit32}
use Rattle.format.specs.Options.{is_some}
use Rattle.format.specs.Parts.{Part, sized, name}
use Rattle.format.specs.Text.{utf8}
use Rattle.format.specs.Tables.{Table, nil, row, size, map_table, rows, table}
use Rattle.format.specs.Metadata.{hint_of, any_item, hint_item}
use Rattle.format.specs.Canonical.{write_part, write_rows, write_table}
use Rattle.format.specs.Laws.Outcomes.{got_value, got_rest, in_turn, ended}
use Rattle.format.specs.Laws.Turns.{in_sized, tested, in_tested, in_row, in_table}
use Rattle.format.specs.Laws.Tight.{bytes_before, bytes_after, Tight, tight_none, tight_cut, tight_join}
use Rattle.format.proofs.Laws.Numbers.{groups_sound, groups_back, shortest_mono}
use Rattle.format.specs.declared.Reason.{Reason}
use Rattle.format.specs.declared.Reason.TheVariants.{NotText, NotHint}

module _ {B : Type 0} (write : B → List ℕ) (Fine : B → Type 0) (w : B) (rest bs : List ℕ) where
  pub record Sound : Type 0 where
    pub fine : Fine w
    pub shorter : length (write w) + length rest ≤ length bs
    pub tight : Tight (write w) rest bs

module _ {A B : Type 0} (read : Reader A) (plain : A → B) (write : B → List ℕ) where
  pub record Back (w : B) (o : ℕ) (rest : List ℕ) : Type 0 where
    pub value : A
    pub next : ℕ
    pub reads : read o (write w ++ rest) ≡ got value next rest
    pub same : plain value ≡ w

  pub record Codec (Fine : B → Type 0) : Type 0 where
    pub sound : (o : ℕ) (bs : List ℕ) {v : A} {o' : ℕ} {rest : List ℕ} → read o bs ≡ got v o' rest → Sound write Fine (plain v) rest bs
    pub back : (w : B) → Fine w → (o : ℕ) (rest : List ℕ) → Back w o rest

abbrev pub Fits32 : ℕ → Type 0
Fits32 n = n < limit32

pub number_sound : (o : ℕ) (bs : List ℕ) {v o' : ℕ} {rest : List ℕ} → number o bs ≡ got v o' rest → Sound shortest Fits32 v rest bs
unfolding number shortest
number_sound o bs e = let r = groups_sound 4 o o bs e in record { fine = r.small; shorter = r.shorter; tight = r.tight }

pub number_back : (v o : ℕ) (rest : List ℕ) → Fits32 v → (o' : ℕ) × (number o (shortest v ++ rest) ≡ got v o' rest)
unfolding number shortest
number_back v o rest h = groups_back 4 o o v rest h

pub sized_codec : Codec sized (λ p. p.bytes) write_part (λ x. Fits32 (length x))
unfolding sized write_part
sized_codec = record { sound = down; back = up }
  where
    down : (o : ℕ) (bs : List ℕ) {v : Part} {o' : ℕ} {rest : List ℕ} → sized o bs ≡ got v o' rest → Sound write_part (λ x. Fits32 (length x)) v.bytes rest bs
    down o bs e =
        in_sized o bs e λ n o₁ r₁ e₁ fit part _ left.
        let num = number_sound o bs e₁ in
        let len = length-take-le n r₁ fit in
        let cut : length (take n r₁) + length (drop n r₁) ≤ length r₁ = simp (len, length-drop) (omega arith) in
        rw (← part, ← left) (record {
          fine = rw len num.fine;
          shorter = simp (length-append, len, length-drop) (omega (arith, num.shorter));
          tight = rw len (tight_join num.shorter num.tight cut (tight_cut n r₁));
        })

    up : (x : List ℕ) → Fits32 (length x) → (o : ℕ) (rest : List ℕ) → Back sized (λ p. p.bytes) write_part x o rest
    up x h o rest =
        let (o', e) = number_back (length x) o (x ++ rest) h in
        record {
          value = record { at = o'; bytes = x };
          next = o' + length x;
          reads = rw (append_assoc, e, length-append, le-leb (length x) (length x + length rest) (omega arith), take-append_seam, drop-append_seam);
          same = refl;
        }

module _ (test : List ℕ → Bool) (why : Reason) (spot : ℕ → Part → ℕ) where
  pub tested_codec : Codec (tested test why spot) (λ p. p.bytes) write_part (λ x. Fits32 (length x) × (test x ≡ true))
  tested_codec = record { sound = down; back = up }
    where
      down : (o : ℕ) (bs : List ℕ) {v : Part} {o' : ℕ} {rest : List ℕ} → tested test why spot o bs ≡ got v o' rest → Sound write_part (λ x. Fits32 (length x) × (test x ≡ true)) v.bytes rest bs
      down o bs e = in_tested test why spot o bs e λ e₁ t. let s = sized_codec.sound o bs e₁ in record { fine = (s.fine, t); shorter = s.shorter; tight = s.tight }

      up : (x : List ℕ) → Fits32 (length x) × (test x ≡ true) → (o : ℕ) (rest : List ℕ) → Back (tested test why spot) (λ p. p.bytes) write_part x o rest
      up x h o rest =
          let s = sized_codec.back x h.0 o rest in
          record { value = s.value; next = s.next; reads = rw (s.reads, s.same, h.1); same = s.same }

pub name_codec : Codec name (λ p. p.bytes) write_part (λ x. Fits32 (length x) × (utf8 x ≡ true))
unfolding name
name_codec = tested_codec utf8 NotText (λ o p. p.at)

pub any_codec : Codec any_item (λ p. p.bytes) write_part (λ x. Fits32 (length x))
unfolding any_item
any_codec = sized_codec

pub hint_codec : Codec hint_item (λ p. p.bytes) write_part (λ x. Fits32 (length x) × (is_some (hint_of x) ≡ true))
unfolding hint_item
hint_codec = tested_codec (λ x. is_some (hint_of x)) NotHint (λ o p. o)

-- the rows' numbers increase from least on, and each row is as Fine says
pub data Sorted {B : Type 0} (Fine : ℕ → B → Type 0) : ℕ → Table B → Type 0 where
  end : {least : ℕ} → Sorted Fine least nil
  next : {least k : ℕ} {v : B} {t : Table B} → least ≤ k → Fine k v → Sorted Fine (suc k) t → Sorted Fine least (row k v t)

module _ {B : Type 0} (Fine : B → Type 0) where
  abbrev pub RowFine : ℕ → B → Type 0
  RowFine k v = Fits32 k × Fine v

  pub record TableFine (t : Table B) : Type 0 where
    pub count : Fits32 (size t)
    pub sorted : Sorted RowFine 0 t

module _ {A B : Type 0} {read : Reader A} {plain : A → B} {write : B → List ℕ} {Fine : B → Type 0} (codec : Codec read plain write Fine) where
  pub record RowsRead (n least : ℕ) (t : Table B) (rest bs : List ℕ) : Type 0 where
    pub sorted : Sorted (RowFine Fine) least t
    pub count : size t ≡ n
    pub shorter : length (write_rows write t) + length rest ≤ length bs
    pub tight : Tight (write_rows write t) rest bs

  pub rows_sound : (n least o : ℕ) (bs : List ℕ) {t : Table A} {o' : ℕ} {rest : List ℕ} → rows read n least o bs ≡ got t o' rest → RowsRead n least (map_table plain t) rest bs
  unfolding rows map_table write_rows size
  rows_sound zero least o bs e = rw (← got_value e, ← got_rest e) (record { sorted = end; count = refl; shorter = omega arith; tight = tight_none bs })
  rows_sound (suc n) least o bs {rest = rest} e =
      in_row read n least o bs e λ k o₁ r₁ v o₂ r₂ more e₁ above e₂ e₃ is.
      let num = number_sound o bs e₁ in
      let val = codec.sound o₁ r₁ e₂ in
      let ih = rows_sound n (suc k) o₂ r₂ e₃ in
      let after : length (write (plain v) ++ write_rows write (map_table plain more)) + length rest ≤ length r₁ = simp length-append (omega (arith, val.shorter, ih.shorter)) in
      rw (← is) (record {
        sorted = next above (num.fine, val.fine) ih.sorted;
        count = ap suc ih.count;
        shorter = simp length-append (omega (arith, num.shorter, val.shorter, ih.shorter));
        tight = tight_join num.shorter num.tight after (tight_join val.shorter val.tight ih.shorter ih.tight);
      })

  rows_back : {t : Table B} {least : ℕ} → Sorted (RowFine Fine) least t → (o : ℕ) (rest : List ℕ) → Back (rows read (size t) least) (map_table plain) (write_rows write) t o rest
  unfolding rows map_table write_rows size
  rows_back end o rest = record { value = nil; next = o; reads = refl; same = refl }
  rows_back (next {least = least} {k = k} {v = v} {t = t} l f s) o rest =
      let (o₁, e₁) = number_back k o (write v ++ (write_rows write t ++ rest)) f.0 in
      let val = codec.back v f.1 o₁ (write_rows write t ++ rest) in
      let ih = rows_back s val.next rest in
      record {
        value = row k val.value ih.value;
        next = ih.next;
        reads = rw (append_assoc, append_assoc, e₁, le-leb least k l, val.reads, ih.reads);
        same = ap₂ (row k) val.same ih.same;
      }

  pub table_codec : Codec (table read) (map_table plain) (write_table write) (TableFine Fine)
  unfolding table write_table
  table_codec = record { sound = down; back = up }
    where
      down : (o : ℕ) (bs : List ℕ) {t : Table A} {o' : ℕ} {rest : List ℕ} → table read o bs ≡ got t o' rest → Sound (write_table write) (TableFine Fine) (map_table plain t) rest bs
      down o bs e =
          in_table read o bs e λ n o₁ r₁ e₁ e₂.
          let num = number_sound o bs e₁ in
          let rs = rows_sound n 0 o₁ r₁ e₂ in
          record {
            fine = record { count = rw rs.count num.fine; sorted = rs.sorted };
            shorter = simp (length-append, rs.count) (omega (arith, num.shorter, rs.shorter));
            tight = rw rs.count (tight_join num.shorter num.tight rs.shorter rs.tight);
          }

      up : (t : Table B) → TableFine Fine t → (o : ℕ) (rest : List ℕ) → Back (table read) (map_table plain) (write_table write) t o rest
      up t h o rest =
          let (o₁, e₁) = number_back (size t) o (write_rows write t ++ rest) h.count in
          let rs = rows_back h.sorted o₁ rest in
          record { value = rs.value; next = rs.next; reads = rw (append_assoc, e₁, rs.reads); same = rs.same }

-- a shorter part is written in fewer bytes
pub write_part_mono : (x y : List ℕ) → length x ≤ length y → length (write_part x) ≤ length (write_part y)
unfolding write_part
write_part_mono x y h = simp length-append (omega (arith, shortest_mono (length x) (length y) h))

-- a part, and what is read inside it
pub part_tight : {x y bs rest : List ℕ} → length x ≤ length y → Tight x [] y → length (write_part y) + length rest ≤ length bs → Tight (write_part y) rest bs → Tight (write_part x) rest bs
unfolding write_part
part_tight {x} {y} {bs} {rest} short inner short' outer = record {
  same = λ h long.
      let lengths = length-append (shortest (length x)) x in
      let lengths' = length-append (shortest (length y)) y in
      let fewer = shortest_mono (length x) (length y) short in
      let around = outer.same h (omega (arith, long, lengths, lengths', fewer, short, short')) in
      let bytes = bytes_after (shortest (length y)) y (bytes_before (write_part y) rest (rw around at h)) in
      let is : y ≡ x = inner.same bytes (omega (arith, long, lengths, lengths', fewer, short, short')) ∙ append-nil x in
      around ∙ ap (λ z. write_part z ++ rest) is;
}

module _ {A B : Type 0} {read : Reader A} {plain : A → B} {write : B → List ℕ} {Fine : B → Type 0} (codec : Codec read plain write Fine) where
  pub fill_sound : (o : ℕ) (bs : List ℕ) {v : A} {o' : ℕ} {rest : List ℕ} → filling read o bs ≡ got v o' rest → Sound write Fine (plain v) [] bs
  fill_sound o bs e =
      in_turn (read o bs) _ e λ a o₁ r₁ e₁ e₂. ended a o₁ r₁ e₂ λ n q.
      rw (← q) (codec.sound o bs (rw n at e₁))

  pub fill_back : (w : B) → Fine w → (o : ℕ) → (v : A) × (o' : ℕ) × (filling read o (write w) ≡ got v o' []) × (plain v ≡ w)
  fill_back w h o =
      let b = codec.back w h o [] in
      let e : read o (write w) ≡ got b.value b.next [] = rw append-nil at b.reads in
      (b.value, b.next, rw e, b.same)
