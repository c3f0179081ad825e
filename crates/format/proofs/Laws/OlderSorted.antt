-- The hints of a payload put in their places: what is found of a pair is its first hint, functions and offsets increase, and no function is without hints.
use Rattle.std.specs.Prelude.{ℕ, cond, List, [], ◌∷◌, ◌≡◌, refl, eqb}
use Rattle.std.proofs.Math.Option.{Option, none, some}
use Rattle.std.proofs.Math.Path.{sym, ap}
use Rattle.std.proofs.Common.{◌∙◌, arith}
use Rattle.format.specs.Options.{some_then, or_else}
use Rattle.format.specs.Tables.{Table, nil, row, lookup}
use Rattle.format.specs.Older.{OlderHint, OlderEntry, first_at, first_in, put_first, amend, with_hints, sorted_from}
use Rattle.format.specs.Laws.Outcomes.{by_test}
use Rattle.format.specs.Laws.Options.{or_none, or_else_lem}
use Rattle.format.proofs.Laws.Codecs.{Sorted, end}
use Rattle.format.proofs.Laws.Tables.{NonEmpty, same_lookups, row_found, table_sure}
use Rattle.format.proofs.Laws.Vectors.{All, no_more, also, all_of}
use Rattle.format.proofs.Laws.OlderTables.{put_row, put_sorted, lookup_put, amend_twice, amend_sorted, lookup_amend}
use Rattle.format.specs.declared.Hint.{Hint}

-- The hints of an entry, put in one after the other
unfoldable pub puts : List OlderHint → Table Hint → Table Hint
puts [] u = u
puts (h ∷ hs) u = puts hs (put_first h.offset h.kind u)

-- are one change of their function's row
hints_change : (f : ℕ) (hs : List OlderHint) (change : Table Hint → Table Hint) (t : Table (Table Hint)) → with_hints f hs (amend f change t) ≡ amend f (λ u. puts hs (change u)) t
unfolding with_hints puts
hints_change f [] change t = refl
hints_change f (h ∷ hs) change t = rw (amend_twice f (put_first h.offset h.kind) change t) (hints_change f hs (λ u. put_first h.offset h.kind (change u)) t)

pub one_change : (f : ℕ) (h : OlderHint) (hs : List OlderHint) (t : Table (Table Hint)) → with_hints f (h ∷ hs) t ≡ amend f (puts (h ∷ hs)) t
unfolding with_hints puts
one_change f h hs t = hints_change f hs (put_first h.offset h.kind) t

puts_rows : (hs : List OlderHint) {u : Table Hint} → NonEmpty u → NonEmpty (puts hs u)
unfolding puts
puts_rows [] n = n
puts_rows (h ∷ hs) {u} n = puts_rows hs (put_row h.offset h.kind u)

or_cond : (o : ℕ) (h : OlderHint) (y : Option Hint) → or_else (lookup o (row h.offset h.kind nil)) y ≡ cond (eqb o h.offset) (some h.kind) y
unfolding lookup
or_cond o h y = by_test (eqb o h.offset) (λ t. rw t) (λ t. rw t)

-- Rows whose numbers are as P says
module _ (P : ℕ → Type 0) where
  abbrev pub Numbered : {A : Type 0} → ℕ → A → Type 0
  Numbered k v = P k

  -- a function with hints
  pub record Group {A : Type 0} (k : ℕ) (u : Table A) : Type 0 where
    pub number : P k
    pub rows : NonEmpty u
    pub sorted : Sorted Numbered 0 u

  pub record EntryNumbers (e : OlderEntry) : Type 0 where
    pub function : P e.function
    pub hints : All (λ h. P h.offset) e.hints

module _ {P : ℕ → Type 0} where
  puts_sorted : {hs : List OlderHint} {u : Table Hint} → All (λ h. P h.offset) hs → Sorted (Numbered P) 0 u → Sorted (Numbered P) 0 (puts hs u)
  unfolding puts
  puts_sorted no_more s = s
  puts_sorted (also {x = h} p ps) s = puts_sorted ps (put_sorted h.offset h.kind (omega arith) p s)

  puts_group : {f : ℕ} {h : OlderHint} {hs : List OlderHint} {u : Table Hint} → P f → All (λ h. P h.offset) (h ∷ hs) → Sorted (Numbered P) 0 u → Group P f (puts (h ∷ hs) u)
  unfolding puts
  puts_group {h = h} {hs = hs} {u = u} q ps s = record { number = q; rows = puts_rows hs (put_row h.offset h.kind u); sorted = puts_sorted ps s }

  lookup_puts : (o : ℕ) {hs : List OlderHint} {u : Table Hint} → All (λ h. P h.offset) hs → Sorted (Numbered P) 0 u → lookup o (puts hs u) ≡ or_else (lookup o u) (first_at o hs)
  unfolding puts first_at
  lookup_puts o {u = u} no_more s = sym (or_none (lookup o u))
  lookup_puts o {u = u} (also {x = h} {xs = hs} p ps) s =
      lookup_puts o ps (put_sorted h.offset h.kind (omega arith) p s)
      ∙ ap (λ x. or_else x (first_at o hs)) (lookup_put h.offset h.kind o s)
      ∙ or_else_lem (lookup o u) _ (first_at o hs)
      ∙ ap (or_else (lookup o u)) (or_cond o h (first_at o hs))

  -- an entry's
  with_sorted : (f : ℕ) {hs : List OlderHint} {t : Table (Table Hint)} → P f → All (λ h. P h.offset) hs → Sorted (Group P) 0 t → Sorted (Group P) 0 (with_hints f hs t)
  unfolding with_hints
  with_sorted f q no_more s = s
  with_sorted f {t = t} q (also {x = h} {xs = hs} p ps) s = rw (one_change f h hs t) (amend_sorted f (puts (h ∷ hs)) (omega arith) (puts_group q (also p ps) end) (λ u g. puts_group q (also p ps) g.sorted) s)

  lookup_with : (j o f : ℕ) {hs : List OlderHint} {t : Table (Table Hint)} → All (λ h. P h.offset) hs → Sorted (Group P) 0 t → some_then (lookup j (with_hints f hs t)) (lookup o) ≡ or_else (some_then (lookup j t) (lookup o)) (cond (eqb j f) (first_at o hs) none)
  unfolding with_hints first_at lookup
  lookup_with j o f {t = t} no_more s = by_test (eqb j f) (λ e. rw e (sym (or_none (some_then (lookup j t) (lookup o))))) (λ e. rw e (sym (or_none (some_then (lookup j t) (lookup o)))))
  lookup_with j o f {t = t} (also {x = h} {xs = hs} p ps) s = rw (one_change f h hs t) (lookup_amend f (puts (h ∷ hs)) o (first_at o (h ∷ hs)) (lookup_puts o (also p ps) end) (λ u g. lookup_puts o (also p ps) g.sorted) j s)

  -- all entries'
  from_sorted : {es : List OlderEntry} {t : Table (Table Hint)} → All (EntryNumbers P) es → Sorted (Group P) 0 t → Sorted (Group P) 0 (sorted_from t es)
  unfolding sorted_from
  from_sorted no_more s = s
  from_sorted (also {x = e} p ps) s = from_sorted ps (with_sorted e.function p.function p.hints s)

  lookup_from : (f o : ℕ) {es : List OlderEntry} {t : Table (Table Hint)} → All (EntryNumbers P) es → Sorted (Group P) 0 t → some_then (lookup f (sorted_from t es)) (lookup o) ≡ or_else (some_then (lookup f t) (lookup o)) (first_in f o es)
  unfolding sorted_from first_in
  lookup_from f o {t = t} no_more s = sym (or_none (some_then (lookup f t) (lookup o)))
  lookup_from f o {t = t} (also {x = e} {xs = es} p ps) s =
      lookup_from f o ps (with_sorted e.function p.function p.hints s)
      ∙ ap (λ x. or_else x (first_in f o es)) (lookup_with f o e.function p.hints s)
      ∙ or_else_lem (some_then (lookup f t) (lookup o)) _ (first_in f o es)
      ∙ ap (or_else (some_then (lookup f t) (lookup o))) (by_test (eqb f e.function) (λ q. rw q) (λ q. rw q))

  -- functions and offsets increase, and no function is without hints
  pub sorted_entries : {es : List OlderEntry} → All (EntryNumbers P) es → Sorted (Group P) 0 (sorted_from nil es)
  sorted_entries h = from_sorted h end

  -- lookups tell such tables apart
  pub groups_told : {A : Type 0} {s t : Table (Table A)} {lo lo' : ℕ} → Sorted (Group P) lo s → Sorted (Group P) lo' t → ((k j : ℕ) → some_then (lookup k s) (lookup j) ≡ some_then (lookup k t) (lookup j)) → s ≡ t
  groups_told a b h = table_sure (λ j u. lookup j u) (Group P) (λ k u g. row_found g.rows) (λ k u w g g' same. same_lookups g.sorted g'.sorted same) a b h

-- of whatever entries
abbrev pub Any : ℕ → Type 0
Any k = Unit {0}

pub any_numbers : (es : List OlderEntry) → All (EntryNumbers Any) es
any_numbers es = all_of (λ e. record { function = tt; hints = all_of (λ h. tt) e.hints }) es

-- "the first hint in the file for a pair answers"
pub first_found : (f o : ℕ) (es : List OlderEntry) → some_then (lookup f (sorted_from nil es)) (lookup o) ≡ first_in f o es
unfolding lookup
first_found f o es = lookup_from {P = Any} f o (any_numbers es) end
