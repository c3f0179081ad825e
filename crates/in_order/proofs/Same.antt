-- Two results that meet one promise are equal.
use Prim.Native.Nat.{ℕ}
use mathlib.Core.List.{List, ◌∷◌}
use mathlib.Core.Path.{◌≡◌, refl, sym, ap, ap₂, ◌∙◌}
use lib.ListN.{length}
use Rattle.format.specs.Entries.{Listed, older_columns}
use Rattle.format.specs.Older.{OlderEntry}
use Rattle.format.specs.OlderInOrder.{rising_entries, kept_entries, entries_bytes}
use Rattle.reading.specs.declared.Cursor.{Cursor}
use Rattle.reading.proofs.Standing.{one_value, one_end}
use Rattle.writing.specs.Columns.{Columns, column, no_column}
use Rattle.writing.proofs.Laws.{wrote_same}
use Rattle.in_order.specs.Rows.{entries_rows, SurveysRows, PutsAll}
use Rattle.in_order.specs.Standing.{Surveys}
use Rattle.in_order.specs.declared.EntrySurvey.{EntrySurvey}
use Rattle.in_order.specs.declared.rows.RowSurvey.{RowSurvey}

pub surveys_same : {n : ℕ} {s : List ℕ} {c : Cursor} (r r' : EntrySurvey) → Surveys n s c r → Surveys n s c r' → r ≡ r'
surveys_same r r' p q =
    let value = one_value p.stands q.stands in
    let order = p.order ∙ ap (rising_entries 0) value ∙ sym q.order in
    let many = p.many ∙ ap kept_entries value ∙ sym q.many in
    let long = p.long ∙ ap (λ (es : List OlderEntry). length (entries_bytes es)) value ∙ sym q.long in
    let next = one_end p.stands q.stands in
    λ i. record { rising = order i; kept = many i; length = long i; next = next i }

pub row_surveys_same : {n : ℕ} {s : List ℕ} {c : Cursor} (r r' : RowSurvey) → SurveysRows n s c r → SurveysRows n s c r' → r ≡ r'
row_surveys_same r r' p q =
    let value = one_value p.stands q.stands in
    let order = p.order ∙ ap (rising_entries 0) value ∙ sym q.order in
    let many = p.many ∙ ap (λ (es : List OlderEntry). length (entries_rows es)) value ∙ sym q.many in
    let next = one_end p.stands q.stands in
    λ i. record { rising = order i; rows = many i; next = next i }

-- lists with the same rows put into them
pub columns_same : {X : Type 0} {es : List (Listed X)} {at next : ℕ} {columns : List (Listed X → ℕ)} {lists a b : List (List ℕ)} → Columns es at next columns lists a → Columns es at next columns lists b → a ≡ b
columns_same no_column no_column = refl
columns_same (column w c) (column v d) = ap₂ ◌∷◌ (wrote_same w v).0 (columns_same c d)

pub rows_same : {n : ℕ} {s : List ℕ} {c : Cursor} {lists : List (List ℕ)} (a b : List (List ℕ)) → PutsAll n s c lists a → PutsAll n s c lists b → a ≡ b
rows_same {lists = lists} a b p q =
    let value = one_value p.stands q.stands in
    let its : Columns (entries_rows q.value) 0 (length (entries_rows q.value)) older_columns lists a = rw value at p.put in
    columns_same its q.put
