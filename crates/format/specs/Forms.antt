-- Rule R8.10 of docs/RULES.md.
-- What is told step by step, while a payload is judged: a reading by its canonical form, which it is as long as, or not. Assumes nothing.
use Rattle.std.specs.Prelude.{ℕ, Bool, true, false, cond, List, [], ◌∷◌}
use Rattle.std.proofs.Math.Option.{Option, none, some}
use Rattle.format.specs.Reading.{Outcome, got, stop}
use Rattle.format.specs.Options.{map_some}
use Rattle.format.specs.Parts.{Part}
use Rattle.format.specs.Tables.{Table}
use Rattle.format.specs.Names.{Content}
use Rattle.format.specs.Canonical.{write_part, write_rows, write_table, unless_empty, keep_rows, trim, bare, write_content, rewrite_names}
use Rattle.format.specs.Telling.{as_few}

-- What a reading is told to be: canonical, with the place behind it; or no, of what is refused and of what is not canonical alike
pub data Told : Type 0 where
  behind : ℕ → List ℕ → Told
  no : Told

-- by its canonical form: none where a rewriting leaves it out
abbrev pub told_by : Option (List ℕ) → ℕ → (rest bs : List ℕ) → Told
told_by none o rest bs = no
told_by (some form) o rest bs = cond (as_few form rest bs) (behind o rest) no

abbrev pub told : {A : Type 0} → (A → Option (List ℕ)) → List ℕ → Outcome A → Told
told form_of bs (got v o rest) = told_by (form_of v) o rest bs
told form_of bs (stop n at) = no

-- yes, where nothing is left behind it
abbrev pub told_end : Told → Told
told_end (behind o []) = behind o []
told_end (behind o (b ∷ bs)) = no
told_end no = no

abbrev pub is_yes : Told → Bool
is_yes (behind o rest) = true
is_yes no = false

-- The canonical forms of a sized part, of rows, of a list of them, and of a subsection's contents: no list without rows
unfoldable pub part_form : Part → Option (List ℕ)
part_form p = some (write_part p.bytes)

module _ {A : Type 0} (form_of : A → Option (List ℕ)) where
  unfoldable pub rows_form : Table A → Option (List ℕ)
  rows_form t = some (write_rows (λ x. x) (keep_rows form_of t))

  unfoldable pub table_form : Table A → Option (List ℕ)
  table_form t = map_some (write_table (λ x. x)) (unless_empty (keep_rows form_of t))

unfoldable pub content_form : Content Part → Option (List ℕ)
content_form c = map_some write_content (trim (bare c))

unfoldable pub payload_form : Table (Content Part) → Option (List ℕ)
payload_form t = some (rewrite_names t)
