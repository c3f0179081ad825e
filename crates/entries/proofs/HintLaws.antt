-- Hints: each is one byte, which the third list has.
use Rattle.std.specs.Prelude.{Some}
use Prim.Native.Nat.{ℕ, zero, suc, ◌+◌, ◌<◌}
use mathlib.Core.Bool.{true, false≢true}
use mathlib.Core.List.{List, [], ◌∷◌}
use mathlib.Core.Path.{◌≡◌, refl, sym, ap, ◌∙◌}
use native.Mathlib.Omega.{arith}
use borrow.Author.Rules.{rules}
use lib.ListN.{length, get_or, set}
use lib.Seq.{slice-cons, length-slice}
use Rattle.format.specs.Entries.{hint_columns}
use Rattle.format.specs.Laws.Outcomes.{got_value}
use Rattle.format.specs.Laws.Turns.{in_tested, in_row, in_table}
use Rattle.format.specs.Metadata.{hint_of, hint_item}
use Rattle.format.specs.Options.{is_some}
use Rattle.format.specs.Reading.{got, Reader}
use Rattle.format.specs.Tables.{Table, rows, table}
use Rattle.format.specs.declared.Reason.TheVariants.{NotHint}
use Rattle.reading.specs.Cursors.{part_of}
use Rattle.reading.specs.declared.Cursor.{Cursor}
use Rattle.tables.specs.Stepping.{behind_at, RowSteps}
use Rattle.tables.specs.Returned.{RowStep}
use Rattle.tables.specs.declared.stepping.Rows.{Rows}
use Rattle.tables.proofs.StepLaws.{a_row, row_left, row_fewer}
use Rattle.writing.specs.Columns.{Room, column, no_column}
use Rattle.writing.proofs.Laws.{wrote_byte}
use Rattle.entries.specs.Putting.{StoresHint, Every, no_row, and_row, OneByte}
use Rattle.entries.proofs.PutLaws.{in_first, in_second, in_third, Putting, putting_begins, rows_known, rows_put, row_room, at_fits, row_fits, puts_on, long_first, long_second, long_third}

-- ONE HINT
pub hint_stored : {at first second byte : ℕ} {a b c : List ℕ} → Room (at + 1) (a ∷ b ∷ c ∷ []) → StoresHint at first second byte (a ∷ b ∷ c ∷ []) (set a at first ∷ set b at second ∷ set c at byte ∷ [])
hint_stored {at} {byte = byte} {c = c} r = record { stored = λ x e. column (wrote_byte (in_first r)) (column (wrote_byte (in_second r)) (column {shows = λ h. get_or h.held.bytes 0 0} {l = c} {l' = set c at byte} (rw e (wrote_byte (in_third r))) no_column)) }

pub ruleset hint_storing = (in_first, in_second, in_third, hint_stored, rules)

-- THE HINTS OF A FUNCTION
module _ {s : List ℕ} {all : Rows} {first start : ℕ} {lists lists' : List (List ℕ)} {left : Rows} {at : ℕ} (t : Putting hint_columns OneByte s all first start lists lists' left at) {x : RowStep} (r : RowSteps s left x) {k : ℕ} {part next : Cursor} (e : x ≡ Some (k, part, next)) where
  some_byte : part.at < part.end
  some_byte = let i = (a_row r e).in_part in omega (arith, row_fits t r e, length-slice part.at part.end s i.within)

  pub byte_there : part.at < length s
  byte_there = omega (arith, some_byte, (a_row r e).in_part.within)

  pub hint_put : {byte : ℕ} {lists'' : List (List ℕ)} {after : Rows} → byte ≡ get_or s part.at 0 → StoresHint at first k byte lists' lists'' → after ≡ behind_at left next → Putting hint_columns OneByte s all first start lists lists'' after (at + 1)
  hint_put q w is =
      let there = ap (λ l. get_or l 0 0) (slice-cons part.at part.end s 0 some_byte (a_row r e).in_part.within) in
      puts_on t r e (w.stored (part_of s part) (there ∙ sym q)) is

pub ruleset hint_putting = (putting_begins, rows_known, rows_put, row_room, byte_there, hint_put, at_fits, long_first, long_second, long_third, row_left, row_fewer, rules)

-- EVERY HINT that was accepted is one byte
one_byte : (bytes : List ℕ) → is_some (hint_of bytes) ≡ true → length bytes ≡ 1
unfolding hint_of
one_byte [] e = absurd (false≢true e)
one_byte (b ∷ []) e = refl
one_byte (b ∷ c ∷ bytes) e = absurd (false≢true e)

-- what is so of each value is so of every row
pub record Gives {A : Type 0} (P : A → Type 0) (read : Reader A) : Type 0 where
  pub gives : (o : ℕ) (bs : List ℕ) (v : A) (o' : ℕ) (rest : List ℕ) → read o bs ≡ got v o' rest → P v

hint_gives : Gives OneByte hint_item
unfolding hint_item
hint_gives = record { gives = λ o bs v o' rest e. in_tested (λ x. is_some (hint_of x)) NotHint (λ o p. o) o bs e λ e₁ t. one_byte v.bytes t }

module _ {A : Type 0} {P : A → Type 0} {read : Reader A} (g : Gives P read) where
  rows_give : (n least o : ℕ) (bs : List ℕ) {t : Table A} {o' : ℕ} {rest : List ℕ} → rows read n least o bs ≡ got t o' rest → Every P t
  unfolding rows
  rows_give zero least o bs e = rw (← got_value e) no_row
  rows_give (suc n) least o bs e =
      in_row read n least o bs e λ k o₁ r₁ v o₂ r₂ more e₁ above e₂ e₃ is.
      rw (← is) (and_row (g.gives o₁ r₁ v o₂ r₂ e₂) (rows_give n (suc k) o₂ r₂ e₃))

  table_gives : Gives (Every P) (table read)
  table_gives = record { gives = λ o bs t o' rest e. in_table read o bs e λ n o₁ r₁ e₁ e₂. rows_give n 0 o₁ r₁ e₂ }

pub hints_give : Gives (Every (Every OneByte)) (table (table hint_item))
hints_give = table_gives (table_gives hint_gives)
