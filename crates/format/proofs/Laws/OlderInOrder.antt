-- Entries and tables of the older edition, as one another: entries that stand in order already are the rows of a table, less those without hints, and the rows of a table in order are such entries.
use Rattle.std.specs.Prelude.{ℕ, suc, ◌≤◌, true, ◌≡◌, leb, eqb, length}
use mathlib.Core.List.{List, [], ◌∷◌, ◌++◌, append_assoc}
use Rattle.std.proofs.Math.Option.{none}
use Rattle.std.proofs.Math.Path.{refl}
use Rattle.std.proofs.Common.{sym, ap, ap₂, ◌∙◌, arith, leb-true, le-leb, eqb-true}
use Rattle.format.specs.Numbers.{shortest}
use Rattle.format.specs.Options.{some_then}
use Rattle.format.specs.Tables.{Table, nil, row, size, lookup}
use Rattle.format.specs.Canonical.{unless_empty, keep_rows, write_rows, write_table}
use Rattle.format.specs.Older.{OlderHint, OlderEntry, first_at, first_in, sorted_from, write_older_hints, write_older}
use Rattle.format.specs.OlderInOrder.{rising_hints, rising_entries, hints_bytes, if_hints, kept_entries, entries_bytes}
use Rattle.format.specs.Laws.Outcomes.{by_test, false_true}
use Rattle.format.specs.Laws.Options.{or_none}
use Rattle.format.proofs.Laws.Codecs.{Sorted, end, next}
use Rattle.format.proofs.Laws.Tables.{lookup_below, sorted_keep, keep_all, kept_rows, keep_rows_lem}
use Rattle.format.proofs.Laws.Groups.{groups_answer}
use Rattle.format.proofs.Laws.Vectors.{All, no_more, also, write_each, write_vector}
use Rattle.format.proofs.Laws.OlderEntries.{kind_bytes, hint_bytes, entry_bytes, write_entries}
use Rattle.format.proofs.Laws.OlderSorted.{Numbered, Group, EntryNumbers, Any, any_numbers, sorted_entries, groups_told, first_found}
use Rattle.format.proofs.Laws.OlderShorter.{write_group}
use Rattle.format.specs.declared.Hint.{Hint}

-- entries as rows, and rows as entries
unfoldable pub hint_table : List OlderHint → Table Hint
hint_table [] = nil
hint_table (h ∷ hs) = row h.offset h.kind (hint_table hs)

unfoldable pub entry_table : List OlderEntry → Table (Table Hint)
entry_table [] = nil
entry_table (e ∷ es) = row e.function (hint_table e.hints) (entry_table es)

unfoldable pub hints_of : Table Hint → List OlderHint
hints_of nil = []
hints_of (row at kind u) = record { kind = kind; offset = at } ∷ hints_of u

unfoldable pub entries_of : Table (Table Hint) → List OlderEntry
entries_of nil = []
entries_of (row f u t) = record { function = f; hints = hints_of u } ∷ entries_of t

table_hints : (u : Table Hint) → hint_table (hints_of u) ≡ u
unfolding hint_table hints_of
table_hints nil = refl
table_hints (row at kind u) = ap (row at kind) (table_hints u)

table_entries : (t : Table (Table Hint)) → entry_table (entries_of t) ≡ t
unfolding entry_table entries_of
table_entries nil = refl
table_entries (row f u t) = ap₂ (row f) (table_hints u) (table_entries t)

-- they are written alike
hints_size : (hs : List OlderHint) → size (hint_table hs) ≡ length hs
unfolding hint_table size
hints_size [] = refl
hints_size (h ∷ hs) = ap suc (hints_size hs)

hints_each : (hs : List OlderHint) → write_older_hints (hint_table hs) ≡ write_each hint_bytes hs
unfolding hint_table write_older_hints write_each hint_bytes kind_bytes
hints_each [] = refl
hints_each (h ∷ hs) = rw (append_assoc, hints_each hs)

hints_written : (hs : List OlderHint) → shortest (size (hint_table hs)) ++ write_older_hints (hint_table hs) ≡ write_vector hint_bytes hs
unfolding write_vector
hints_written hs = rw (hints_size hs, hints_each hs)

entries_size : (es : List OlderEntry) → size (entry_table es) ≡ length es
unfolding entry_table size
entries_size [] = refl
entries_size (e ∷ es) = ap suc (entries_size es)

entries_each : (es : List OlderEntry) → write_rows write_group (entry_table es) ≡ write_each entry_bytes es
unfolding entry_table write_rows write_each entry_bytes
entries_each [] = refl
entries_each (e ∷ es) = rw (hints_written e.hints, append_assoc, entries_each es)

pub entries_written : (es : List OlderEntry) → write_older (entry_table es) ≡ write_entries es
unfolding write_older write_table write_vector
entries_written es = rw (entries_size es, entries_each es)

pub table_written : (t : Table (Table Hint)) → write_older t ≡ write_entries (entries_of t)
table_written t = ap write_older (sym (table_entries t)) ∙ entries_written (entries_of t)

-- Entries in order
hints_rise : (least : ℕ) (hs : List OlderHint) → rising_hints least hs ≡ true → Sorted (Numbered Any) least (hint_table hs)
unfolding rising_hints hint_table
hints_rise least [] r = end
hints_rise least (h ∷ hs) r = by_test (leb least h.offset) (λ t. next (leb-true least h.offset t) tt (hints_rise (suc h.offset) hs (rw t at r))) (λ t. false_true (rw t at r))

in_rising {ℓ} : {C : Type ℓ} (least : ℕ) (e : OlderEntry) (es : List OlderEntry) → rising_entries least (e ∷ es) ≡ true → (least ≤ e.function → Sorted (Numbered Any) 0 (hint_table e.hints) → rising_entries (suc e.function) es ≡ true → C) → C
unfolding rising_entries
in_rising least e es r k =
    by_test (leb least e.function)
    (λ t. by_test (rising_hints 0 e.hints)
    (λ u. k (leb-true least e.function t) (hints_rise 0 e.hints u) (rw (t, u) at r))
    (λ u. false_true (rw (t, u) at r)))
    (λ t. false_true (rw t at r))

abbrev HintsSorted : ℕ → Table Hint → Type 0
HintsSorted k u = Sorted (Numbered Any) 0 u

pub entries_rise : (least : ℕ) (es : List OlderEntry) → rising_entries least es ≡ true → Sorted HintsSorted least (entry_table es)
unfolding entry_table
entries_rise least [] r = end
entries_rise least (e ∷ es) r = in_rising least e es r λ l s r₁. next l s (entries_rise (suc e.function) es r₁)

lookup_hints : (o : ℕ) (hs : List OlderHint) → lookup o (hint_table hs) ≡ first_at o hs
unfolding hint_table lookup first_at
lookup_hints o [] = refl
lookup_hints o (h ∷ hs) = rw (lookup_hints o hs)

lookup_entries : (f o least : ℕ) (es : List OlderEntry) → rising_entries least es ≡ true → some_then (lookup f (entry_table es)) (lookup o) ≡ first_in f o es
unfolding entry_table lookup first_in
lookup_entries f o least [] r = refl
lookup_entries f o least (e ∷ es) r =
    in_rising least e es r λ l s r₁.
    let ih = lookup_entries f o (suc e.function) es r₁ in
    by_test (eqb f e.function)
    (λ t. let later : first_in f o es ≡ none = sym ih ∙ ap (λ x. some_then x (lookup o)) (lookup_below f (entries_rise (suc e.function) es r₁) (omega (arith, eqb-true f e.function t))) in
    rw (t, later, lookup_hints o e.hints) (sym (or_none (first_at o e.hints))))
    (λ t. rw t ih)

pub in_order : (es : List OlderEntry) → rising_entries 0 es ≡ true → sorted_from nil es ≡ keep_rows unless_empty (entry_table es)
in_order es r =
    let s = entries_rise 0 es r in
    let kept : Sorted (Group Any) 0 (keep_rows unless_empty (entry_table es)) = sorted_keep unless_empty (λ k u w h e. let (q, n) = kept_rows u e in record { number = tt; rows = n; sorted = rw q at h }) s in
    groups_told (sorted_entries (any_numbers es)) kept (λ k j. first_found k j es ∙ sym (lookup_entries k j 0 es r) ∙ sym (groups_answer s k j))

-- are written as they stand, less those without hints
hints_bytes_lem : (hs : List OlderHint) → write_older_hints (hint_table hs) ≡ hints_bytes hs
unfolding hint_table write_older_hints hints_bytes
hints_bytes_lem [] = refl
hints_bytes_lem (h ∷ hs) = rw (hints_bytes_lem hs)

module _ (f : ℕ) (t : Table (Table Hint)) where
  entry_size : (hs : List OlderHint) → size (keep_rows unless_empty (row f (hint_table hs) t)) ≡ if_hints hs (suc (size (keep_rows unless_empty t))) (size (keep_rows unless_empty t))
  unfolding hint_table keep_rows unless_empty size
  entry_size [] = refl
  entry_size (h ∷ hs) = refl

  entry_bytes_lem : (hs : List OlderHint) → write_rows write_group (keep_rows unless_empty (row f (hint_table hs) t)) ≡ if_hints hs (shortest f ++ ((0 ∷ (shortest (length hs) ++ hints_bytes hs)) ++ write_rows write_group (keep_rows unless_empty t))) (write_rows write_group (keep_rows unless_empty t))
  unfolding hint_table keep_rows unless_empty write_rows
  entry_bytes_lem [] = refl
  entry_bytes_lem (h ∷ hs) = rw (← hints_size (h ∷ hs), ← hints_bytes_lem (h ∷ hs))

kept_size : (es : List OlderEntry) → size (keep_rows unless_empty (entry_table es)) ≡ kept_entries es
unfolding entry_table keep_rows kept_entries size
kept_size [] = refl
kept_size (e ∷ es) = entry_size e.function (entry_table es) e.hints ∙ rw (kept_size es)

kept_bytes : (es : List OlderEntry) → write_rows write_group (keep_rows unless_empty (entry_table es)) ≡ entries_bytes es
unfolding entry_table keep_rows write_rows entries_bytes
kept_bytes [] = refl
kept_bytes (e ∷ es) = entry_bytes_lem e.function (entry_table es) e.hints ∙ rw (kept_bytes es)

pub in_order_written : (es : List OlderEntry) → rising_entries 0 es ≡ true → write_older (sorted_from nil es) ≡ shortest (kept_entries es) ++ entries_bytes es
unfolding write_older write_table
in_order_written es r = rw (in_order es r, kept_size es, kept_bytes es)

-- The rows of a table in order
sorted_hints : {P : ℕ → Hint → Type 0} {u : Table Hint} {least : ℕ} → Sorted P least u → rising_hints least (hints_of u) ≡ true
unfolding rising_hints hints_of
sorted_hints end = refl
sorted_hints (next {least = least} {k = k} l p s) = rw (le-leb least k l) (sorted_hints s)

module _ {P : ℕ → Type 0} where
  pub groups_rise : {t : Table (Table Hint)} {least : ℕ} → Sorted (Group P) least t → rising_entries least (entries_of t) ≡ true
  unfolding rising_entries entries_of
  groups_rise end = refl
  groups_rise (next {least = least} {k = k} l g s) = rw (le-leb least k l, sorted_hints g.sorted) (groups_rise s)

  hints_numbers : {u : Table Hint} {least : ℕ} → Sorted (Numbered P) least u → All (λ h. P h.offset) (hints_of u)
  unfolding hints_of
  hints_numbers end = no_more
  hints_numbers (next l p s) = also p (hints_numbers s)

  pub groups_numbers : {t : Table (Table Hint)} {least : ℕ} → Sorted (Group P) least t → All (EntryNumbers P) (entries_of t)
  unfolding entries_of
  groups_numbers end = no_more
  groups_numbers (next l g s) = also (record { function = g.number; hints = hints_numbers g.sorted }) (groups_numbers s)

  -- put in their places again they make the table
  pub sorted_again : {t : Table (Table Hint)} → Sorted (Group P) 0 t → sorted_from nil (entries_of t) ≡ t
  sorted_again {t} s = in_order (entries_of t) (groups_rise s) ∙ ap (keep_rows unless_empty) (table_entries t) ∙ keep_all unless_empty (λ k u g. keep_rows_lem g.rows) s
