-- Listing every entry, path by path: refused before, none, without room; and that one answer and one end state alone meet the promise.
use Prim.Native.Nat.{ℕ, suc}
use Rattle.std.specs.Prelude.{false, List, ◌≡◌, length, Ok, Err, None}
use Rattle.std.proofs.Math.Option.{Option, none, some}
use Rattle.std.proofs.Math.Path.{refl, ap}
use Rattle.std.proofs.Common.{sym, ◌∙◌}
use Rattle.format.specs.Refusals.{number_of}
use Rattle.format.specs.Reading.{Judged, accepted, refused}
use Rattle.format.specs.Tables.{Table, nil, row, size}
use Rattle.format.specs.Entries.{Listed, plain_rows, rows_under, fit_each, fitting_rows, Lists}
use Rattle.format.proofs.Laws.Answers.{same_answer}
use Rattle.format.specs.Returned.{Answer}
use Rattle.format.specs.declared.Reason.TheVariants.{OutputTooShort}
use Rattle.format.specs.declared.Refusal.{Refusal}

-- how many rows there are
module _ {X : Type 0} where
  pub plain_count : (t : Table X) → length (plain_rows t) ≡ size t
  unfolding plain_rows size
  plain_count nil = refl
  plain_count (row k x t) = ap suc (plain_count t)

  pub under_count : (k : ℕ) (t : Table X) → length (rows_under k t) ≡ size t
  unfolding rows_under size
  under_count k nil = refl
  under_count k (row j x t) = ap suc (under_count k t)

  -- The paths on which no list changes
  module _ {columns : List (Listed X → ℕ)} {found : Judged (Option (List (Listed X)))} {lists : List (List ℕ)} where
    pub lists_refused : {r : Refusal} → found ≡ refused (number_of r.reason) r.offset.0 → Lists columns found lists lists (Err r)
    unfolding fitting_rows
    lists_refused e = record { says = rw e; leaves = rw e }

    pub lists_none : found ≡ accepted none → Lists columns found lists lists (Ok None)
    unfolding fitting_rows
    lists_none e = record { says = rw e; leaves = rw e }

    pub lists_short : {es : List (Listed X)} → found ≡ accepted (some es) → fit_each (length es) lists ≡ false → Lists columns found lists lists (Err (record { reason = OutputTooShort; offset = record { 0 = length es } }))
    unfolding fitting_rows
    lists_short e h = record { says = rw (e, h); leaves = rw (e, h) }

  -- two results that meet one promise are equal, the lists included
  pub lists_same : {columns : List (Listed X → ℕ)} {found : Judged (Option (List (Listed X)))} {lists new new' : List (List ℕ)} {r r' : Answer} → Lists columns found lists new r → Lists columns found lists new' r' → (r ≡ r') × (new ≡ new')
  lists_same {r = r} {r' = r'} p q = (same_answer r r' (p.says ∙ sym q.says), p.leaves ∙ sym q.leaves)
