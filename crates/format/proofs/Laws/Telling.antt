-- What a reading is told to be, step by step: rows one after the other, and a list of them. A form is never longer than what was read, so the whole is as few bytes as can be exactly where each step is.
use Prim.Native.Nat.{ℕ, zero, suc, ◌+◌, ◌≤◌, ◌<◌}
use Rattle.std.specs.Prelude.{true, false, List, [], ◌≡◌, leb}
use Rattle.std.proofs.Math.Option.{Option, none, some}
use Rattle.std.proofs.Math.Path.{refl, sym, ap}
use Rattle.std.proofs.Common.{◌∙◌, arith}
use borrow.Author.Tests.{eqb-true, eqb-false, le-leb, lt-leb}
use Rattle.std.proofs.Math.ListN.{length, length-append}
use Rattle.format.specs.Reading.{Outcome, got, stop, Reader}
use Rattle.format.specs.Numbers.{number, shortest}
use Rattle.format.specs.Parts.{Part}
use Rattle.format.specs.Options.{map_some}
use Rattle.format.specs.Tables.{Table, nil, row, size, rows, table}
use Rattle.format.specs.Canonical.{write_part, write_rows, write_table, unless_empty, keep_rows}
use Rattle.format.specs.Forms.{behind, no, told_by, told, part_form, rows_form, table_form}
use Rattle.format.specs.Telling.{as_few}
use Rattle.format.specs.Laws.Outcomes.{got_value, got_rest, by_test, by_outcome}
use Rattle.format.specs.Laws.Options.{not_some, some_is, by_option}
use Rattle.format.proofs.Laws.Numbers.{shortest_mono, shortest_positive}
use Rattle.format.proofs.Laws.Padding.{as_few_lem, not_as_few}
use Rattle.format.proofs.Laws.Codecs.{Codec, number_sound}
use Rattle.format.specs.Laws.Turns.{in_row, in_table}

-- no is not yes
pub not_behind : {o : ℕ} {rest : List ℕ} → no ≡ behind o rest → ⊥
not_behind e = let z : ◌≡◌ {A = ℕ} 0 1 = cc in omega arith

pub behind_at : {o o' : ℕ} {rest rest' : List ℕ} → behind o rest ≡ behind o' rest' → o ≡ o'
behind_at e = cc

pub behind_rest : {o o' : ℕ} {rest rest' : List ℕ} → behind o rest ≡ behind o' rest' → rest ≡ rest'
behind_rest e = cc

-- by lengths
pub told_few : {form : Option (List ℕ)} {w : List ℕ} (o : ℕ) (rest bs : List ℕ) → form ≡ some w → length w + length rest ≡ length bs → told_by form o rest bs ≡ behind o rest
told_few {w = w} o rest bs e h = rw (e, as_few_lem w rest bs h)

pub told_more : {form : Option (List ℕ)} {w : List ℕ} (o : ℕ) (rest bs : List ℕ) → form ≡ some w → length w + length rest < length bs → told_by form o rest bs ≡ no
told_more {w = w} o rest bs e h = rw (e, not_as_few w rest bs h)

pub told_none : {form : Option (List ℕ)} (o : ℕ) (rest bs : List ℕ) → form ≡ none → told_by form o rest bs ≡ no
told_none o rest bs e = rw e

-- a yes, taken apart
pub in_told_by {ℓ} : {C : Type ℓ} (form : Option (List ℕ)) (o : ℕ) (rest bs : List ℕ) {o' : ℕ} {rest' : List ℕ} → told_by form o rest bs ≡ behind o' rest' → ((w : List ℕ) → form ≡ some w → length w + length rest ≡ length bs → o ≡ o' → rest ≡ rest' → C) → C
in_told_by none o rest bs e k = absurd (not_behind e)
in_told_by (some w) o rest bs e k =
    by_test (as_few w rest bs)
    (λ t. k w refl (eqb-true (length w + length rest) (length bs) t) (behind_at (rw t at e)) (behind_rest (rw t at e)))
    (λ t. absurd (not_behind (rw t at e)))

pub in_told {ℓ} : {A : Type 0} {C : Type ℓ} (form_of : A → Option (List ℕ)) (bs : List ℕ) (r : Outcome A) {o : ℕ} {rest : List ℕ} → told form_of bs r ≡ behind o rest → ((v : A) (w : List ℕ) → r ≡ got v o rest → form_of v ≡ some w → length w + length rest ≡ length bs → C) → C
in_told form_of bs (stop n at) e k = absurd (not_behind e)
in_told form_of bs (got v o₁ r₁) e k = in_told_by (form_of v) o₁ r₁ bs e λ w is long q q'. k v w (let p = q in let p' = q' in cc) is (rw q' at long)

-- a no: refused, left out, or longer
pub by_no {ℓ} : {C : Type ℓ} (form : Option (List ℕ)) (o : ℕ) (rest bs : List ℕ) → told_by form o rest bs ≡ no → (form ≡ none → C) → ((w : List ℕ) → form ≡ some w → (length w + length rest ≡ length bs → ⊥) → C) → C
by_no none o rest bs e f g = f refl
by_no (some w) o rest bs e f g =
    by_test (as_few w rest bs)
    (λ t. absurd (not_behind (sym (rw t at e))))
    (λ t. g w refl (eqb-false (length w + length rest) (length bs) t))

-- A form is never longer than what was read
pub record Shorter {A : Type 0} (read : Reader A) (form_of : A → Option (List ℕ)) : Type 0 where
  pub shrinks : (o : ℕ) (bs : List ℕ) {v : A} {o' : ℕ} {rest : List ℕ} → read o bs ≡ got v o' rest → length rest ≤ length bs
  pub shorter : (o : ℕ) (bs : List ℕ) {v : A} {o' : ℕ} {rest : List ℕ} → read o bs ≡ got v o' rest → (w : List ℕ) → form_of v ≡ some w → length w + length rest ≤ length bs

pub part_shorter : {item : Reader Part} {Fine : List ℕ → Type 0} → Codec item (λ p. p.bytes) write_part Fine → Shorter item part_form
unfolding part_form
part_shorter codec = record {
  shrinks = λ o bs e. omega (arith, (codec.sound o bs e).shorter);
  shorter = λ o bs e w is. rw (← some_is is) (codec.sound o bs e).shorter;
}

-- Rows, one after the other
module _ {A : Type 0} {read : Reader A} {form_of : A → Option (List ℕ)} (short : Shorter read form_of) where
  -- what is left of the rows, in their fewest bytes
  abbrev rows_to_come : Table A → List ℕ
  rows_to_come t = write_rows (λ x. x) (keep_rows form_of t)

  -- each row takes a byte at least, and where none is longer than its form, none was left out
  record RowsLeft (n : ℕ) (t : Table (List ℕ)) (rest bs : List ℕ) : Type 0 where
    each : n + length rest ≤ length bs
    shorter : length (write_rows (λ x. x) t) + length rest ≤ length bs
    fewer : size t ≤ n
    full : length (write_rows (λ x. x) t) + length rest ≡ length bs → size t ≡ n

  -- one row with its form, and those behind it
  row_length : (k : ℕ) (w : List ℕ) (t : Table (List ℕ)) → length (write_rows (λ x. x) (row k w t)) ≡ length (shortest k) + (length w + length (write_rows (λ x. x) t))
  unfolding write_rows
  row_length k w t = simp length-append refl

  form_is : (t : Table A) → rows_form form_of t ≡ some (rows_to_come t)
  unfolding rows_form
  form_is t = refl

  row_dropped : (k : ℕ) (v : A) (t : Table A) → form_of v ≡ none → rows_form form_of (row k v t) ≡ some (rows_to_come t)
  unfolding rows_form keep_rows
  row_dropped k v t q = rw q

  row_stays : (k : ℕ) (v : A) (t : Table A) {w : List ℕ} → form_of v ≡ some w → rows_form form_of (row k v t) ≡ some (write_rows (λ x. x) (row k w (keep_rows form_of t)))
  unfolding rows_form keep_rows
  row_stays k v t q = rw q

  rows_left : (n least o : ℕ) (bs : List ℕ) {t : Table A} {o' : ℕ} {rest : List ℕ} → rows read n least o bs ≡ got t o' rest → RowsLeft n (keep_rows form_of t) rest bs
  unfolding rows keep_rows write_rows size
  rows_left zero least o bs e = rw (← got_value e, ← got_rest e) (record { each = omega arith; shorter = omega arith; fewer = omega arith; full = λ _. refl })
  rows_left (suc n) least o bs e =
      in_row read n least o bs e λ k o₁ r₁ v o₂ r₂ more e₁ above e₂ e₃ is.
      let num = (number_sound o bs e₁).shorter in
      let some_byte = shortest_positive k in
      let val = short.shrinks o₁ r₁ e₂ in
      let ih = rows_left n (suc k) o₂ r₂ e₃ in
      rw (← is) (by_option (form_of v)
      (λ q. rw q (record {
        each = omega (arith, ih.each);
        shorter = omega (arith, ih.shorter);
        fewer = omega (arith, ih.fewer);
        full = λ h. absurd (omega (arith, ih.shorter));
      }))
      (λ w q.
      let form = short.shorter o₁ r₁ e₂ w q in
      let long = row_length k w (keep_rows form_of more) in
      rw q (record {
        each = omega (arith, ih.each);
        shorter = omega (arith, long, ih.shorter);
        fewer = omega (arith, ih.fewer);
        full = λ h. ap suc (ih.full (omega (arith, long, h, ih.shorter)));
      })))

  -- no row is to come
  pub rows_told_end : (least o : ℕ) (bs : List ℕ) → told (rows_form form_of) bs (rows read 0 least o bs) ≡ behind o bs
  unfolding rows_form rows keep_rows write_rows
  rows_told_end least o bs = told_few {w = []} o bs bs refl (omega arith)

  module _ (n least o : ℕ) (bs : List ℕ) where
    -- no: the number is refused, is padded or is not above the one before
    pub rows_told_none : {m at : ℕ} → number o bs ≡ stop m at → told (rows_form form_of) bs (rows read (suc n) least o bs) ≡ no
    unfolding rows
    rows_told_none e = rw e

    module _ {k o₁ : ℕ} {r₁ : List ℕ} (e : number o bs ≡ got k o₁ r₁) where
      pub rows_told_low : k < least → told (rows_form form_of) bs (rows read (suc n) least o bs) ≡ no
      unfolding rows
      rows_told_low h = rw (e, lt-leb least k h)

      -- by what the value and the rows behind it come to
      by_rest {ℓ} : {C : Type ℓ} → (told (rows_form form_of) bs (rows read (suc n) least o bs) ≡ no → C) → ((v : A) (o₂ : ℕ) (r₂ : List ℕ) (more : Table A) (o₃ : ℕ) (r₃ : List ℕ) → read o₁ r₁ ≡ got v o₂ r₂ → rows read n (suc k) o₂ r₂ ≡ got more o₃ r₃ → told (rows_form form_of) bs (rows read (suc n) least o bs) ≡ told_by (rows_form form_of (row k v more)) o₃ r₃ bs → C) → C
      unfolding rows
      by_rest f g =
          by_test (leb least k)
          (λ t. by_outcome (read o₁ r₁)
          (λ v o₂ r₂ e₁. by_outcome (rows read n (suc k) o₂ r₂)
          (λ more o₃ r₃ e₂. g v o₂ r₂ more o₃ r₃ e₁ e₂ (rw (e, t, e₁, e₂)))
          (λ m at e₂. f (rw (e, t, e₁, e₂))))
          (λ m at e₁. f (rw (e, t, e₁))))
          (λ t. f (rw (e, t)))

      pub rows_told_padded : as_few (shortest k) r₁ bs ≡ false → told (rows_form form_of) bs (rows read (suc n) least o bs) ≡ no
      rows_told_padded p =
          let num = (number_sound o bs e).shorter in
          let longer = eqb-false (length (shortest k) + length r₁) (length bs) p in
          by_rest (λ q. q) λ v o₂ r₂ more o₃ r₃ e₁ e₂ is.
          let ih = rows_left n (suc k) o₂ r₂ e₂ in
          let val = short.shrinks o₁ r₁ e₁ in
          is ∙ by_option (form_of v)
          (λ q. told_more o₃ r₃ bs (row_dropped k v more q) (omega (arith, ih.shorter, shortest_positive k)))
          (λ w q. told_more o₃ r₃ bs (row_stays k v more q) (omega (arith, ih.shorter, row_length k w (keep_rows form_of more), short.shorter o₁ r₁ e₁ w q)))

      -- no: so is the value
      pub rows_told_no : told form_of r₁ (read o₁ r₁) ≡ no → told (rows_form form_of) bs (rows read (suc n) least o bs) ≡ no
      rows_told_no p =
          let num = (number_sound o bs e).shorter in
          by_rest (λ q. q) λ v o₂ r₂ more o₃ r₃ e₁ e₂ is.
          let ih = rows_left n (suc k) o₂ r₂ e₂ in
          let val = short.shrinks o₁ r₁ e₁ in
          is ∙ by_no (form_of v) o₂ r₂ r₁ (rw e₁ at p)
          (λ q. told_more o₃ r₃ bs (row_dropped k v more q) (omega (arith, ih.shorter, shortest_positive k)))
          (λ w q more_bytes. told_more o₃ r₃ bs (row_stays k v more q) (omega (arith, ih.shorter, row_length k w (keep_rows form_of more), short.shorter o₁ r₁ e₁ w q)))

      -- yes so far: what is left to say is said of the rows behind
      pub rows_told_on : as_few (shortest k) r₁ bs ≡ true → least ≤ k → {o₂ : ℕ} {r₂ : List ℕ} → told form_of r₁ (read o₁ r₁) ≡ behind o₂ r₂ → told (rows_form form_of) bs (rows read (suc n) least o bs) ≡ told (rows_form form_of) r₂ (rows read n (suc k) o₂ r₂)
      unfolding rows
      rows_told_on f h {o₂} {r₂} p =
          let num = eqb-true (length (shortest k) + length r₁) (length bs) f in
          in_told form_of r₁ (read o₁ r₁) p λ v w e₁ q val.
          by_outcome (rows read n (suc k) o₂ r₂)
          (λ more o₃ r₃ e₂.
          let long = row_length k w (keep_rows form_of more) in
          let ih = rows_left n (suc k) o₂ r₂ e₂ in
          rw (e, le-leb least k h, e₁, e₂) (by_test (as_few (rows_to_come more) r₃ r₂)
          (λ t. let same = eqb-true (length (rows_to_come more) + length r₃) (length r₂) t in
          told_few o₃ r₃ bs (row_stays k v more q) (omega arith) ∙ sym (told_few o₃ r₃ r₂ (form_is more) same))
          (λ t. let less = eqb-false (length (rows_to_come more) + length r₃) (length r₂) t in
          told_more o₃ r₃ bs (row_stays k v more q) (omega (arith, ih.shorter)) ∙ sym (told_more o₃ r₃ r₂ (form_is more) (omega (arith, ih.shorter))))))
          (λ m at e₂. rw (e, le-leb least k h, e₁, e₂))

  -- A list: how many rows it has, and the rows. What is left of no rows is nothing
  list_length : (t : Table (List ℕ)) → length (write_table (λ x. x) t) ≡ length (shortest (size t)) + length (write_rows (λ x. x) t)
  unfolding write_table
  list_length t = simp length-append refl

  list_form {ℓ} : {C : Type ℓ} (t : Table A) → (table_form form_of t ≡ none → length (rows_to_come t) ≡ 0 → C) → (table_form form_of t ≡ some (write_table (λ x. x) (keep_rows form_of t)) → C) → C
  unfolding table_form unless_empty write_rows
  list_form t = by_rows (keep_rows form_of t)
    where
      by_rows : {C : Type ℓ} (u : Table (List ℕ)) → (map_some (write_table (λ x. x)) (unless_empty u) ≡ none → length (write_rows (λ x. x) u) ≡ 0 → C) → (map_some (write_table (λ x. x)) (unless_empty u) ≡ some (write_table (λ x. x) u) → C) → C
      by_rows nil f g = f refl refl
      by_rows (row k w u) f g = g refl

  pub table_shorter : Shorter (table read) (table_form form_of)
  table_shorter = record {
    shrinks = λ o bs e. in_table read o bs e λ n o₁ r₁ e₁ e₂. omega (arith, (number_sound o bs e₁).shorter, (rows_left n 0 o₁ r₁ e₂).each);
    shorter = λ o bs {v = t} e w is.
        in_table read o bs e λ n o₁ r₁ e₁ e₂.
        let num = (number_sound o bs e₁).shorter in
        let left = rows_left n 0 o₁ r₁ e₂ in
        list_form t
        (λ q _. absurd (not_some (sym q ∙ is)))
        (λ q. rw (← some_is (sym q ∙ is)) (omega (arith, list_length (keep_rows form_of t), shortest_mono (size (keep_rows form_of t)) n left.fewer, left.shorter)));
  }

  module _ (o : ℕ) (bs : List ℕ) where
    pub table_told_none : {m at : ℕ} → number o bs ≡ stop m at → told (table_form form_of) bs (table read o bs) ≡ no
    unfolding table
    table_told_none e = rw e

    module _ {n o₁ : ℕ} {r₁ : List ℕ} (e : number o bs ≡ got n o₁ r₁) where
      pub table_told_empty : n ≡ 0 → told (table_form form_of) bs (table read o bs) ≡ no
      unfolding table rows table_form keep_rows unless_empty
      table_told_empty z = rw (e, z)

      pub table_told_padded : as_few (shortest n) r₁ bs ≡ false → told (table_form form_of) bs (table read o bs) ≡ no
      unfolding table
      table_told_padded p =
          let num = (number_sound o bs e).shorter in
          let longer = eqb-false (length (shortest n) + length r₁) (length bs) p in
          by_outcome (rows read n 0 o₁ r₁)
          (λ t o₂ r₂ e₁.
          let left = rows_left n 0 o₁ r₁ e₁ in
          rw (e, e₁) (list_form t
          (λ q _. told_none o₂ r₂ bs q)
          (λ q. told_more o₂ r₂ bs q (omega (arith, list_length (keep_rows form_of t), shortest_mono (size (keep_rows form_of t)) n left.fewer, left.shorter)))))
          (λ m at e₁. rw (e, e₁))

      pub table_told_rows : as_few (shortest n) r₁ bs ≡ true → 0 < n → told (table_form form_of) bs (table read o bs) ≡ told (rows_form form_of) r₁ (rows read n 0 o₁ r₁)
      unfolding table
      table_told_rows f h =
          let num = eqb-true (length (shortest n) + length r₁) (length bs) f in
          by_outcome (rows read n 0 o₁ r₁)
          (λ t o₂ r₂ e₁.
          let left = rows_left n 0 o₁ r₁ e₁ in
          let few = shortest_mono (size (keep_rows form_of t)) n left.fewer in
          let long = list_length (keep_rows form_of t) in
          rw (e, e₁) (list_form t
          (λ q z. told_none o₂ r₂ bs q ∙ sym (told_more o₂ r₂ r₁ (form_is t) (omega (arith, left.each))))
          (λ q. by_test (as_few (rows_to_come t) r₂ r₁)
          (λ s. let same = eqb-true (length (rows_to_come t) + length r₂) (length r₁) s in
          let all = ap (λ (m : ℕ). length (shortest m)) (left.full same) in
          told_few o₂ r₂ bs q (omega arith) ∙ sym (told_few o₂ r₂ r₁ (form_is t) same))
          (λ s. let less = eqb-false (length (rows_to_come t) + length r₂) (length r₁) s in
          told_more o₂ r₂ bs q (omega (arith, left.shorter)) ∙ sym (told_more o₂ r₂ r₁ (form_is t) (omega (arith, left.shorter)))))))
          (λ m at e₁. rw (e, e₁))
