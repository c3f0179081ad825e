-- The import list, step by step.
use Rattle.std.specs.Prelude.{Ok, Err}
use Prim.Native.Nat.{ℕ, zero, suc, ◌+◌, ◌-◌, ◌≤◌, ◌<◌}
use mathlib.Core.Bool.{Bool}
use mathlib.Core.List.{List}
use mathlib.Core.Path.{◌≡◌, refl, sym, ◌∙◌}
use native.Mathlib.Omega.{arith}
use borrow.Author.Rules.{rules}
use borrow.Author.Tests.{le-leb, lt-leb}
use Rattle.format.specs.Numbers.{number, limit32}
use Rattle.format.specs.Parts.{name}
use Rattle.format.specs.Reading.{got, stop, and_then}
use Rattle.format.specs.declared.Reason.TheVariants.{NotImport, LeftOver}
use Rattle.format.specs.declared.Refusal.{Refusal}
use Rattle.reading.specs.Cursors.{Inside, left, PartReads}
use Rattle.reading.specs.declared.Cursor.{Cursor}
use Rattle.reading.proofs.Laws.{name_means, name_behind, nothing_left, something_left}
use Rattle.branches.specs.Imports.{byte, bounds, limits, table_type, global_type, description, kind_byte, import_kind, import_entry, functions_in, import_entries, import_list, imports}
use Rattle.branches.specs.Reads.{refusal_with, Reads, Counts}
use Rattle.branches.specs.Returned.{Read}
use Rattle.branches.proofs.ReadLaws.{value_means, value_end, value_inside, value_then, read_refused}

-- bounds
bounds_stop : (flag o : ℕ) (bs : List ℕ) {n at : ℕ} → number o bs ≡ stop n at → bounds flag o bs ≡ stop n at
unfolding bounds
bounds_stop zero o bs e = e
bounds_stop (suc flag) o bs e = rw e

bounds_two : (flag : ℕ) → (flag ≡ 0 → ⊥) → (o : ℕ) (bs : List ℕ) → bounds flag o bs ≡ and_then (number o bs) (λ _. number)
unfolding bounds
bounds_two zero n o bs = absurd (n refl)
bounds_two (suc flag) n o bs = refl

module _ (flag : ℕ) {s : List ℕ} {c : Cursor} where
  pub bounds_refused : {r : Refusal} → Reads number s c (Err r) → Reads (bounds flag) s c (Err r)
  bounds_refused g = record { means = sym (bounds_stop flag c.at (left s c) (sym g.means)); same_part = tt }

  module _ {n : ℕ} {next : Cursor} (g : Reads number s c (Ok (n, next))) where
    pub bounds_one : flag ≡ 0 → Reads (bounds flag) s c (Ok (n, next))
    unfolding bounds
    bounds_one z = rw z (record { means = sym (value_means g); same_part = value_end g })

    pub bounds_more : {y : Read} → (flag ≡ 0 → ⊥) → Reads number s next y → Reads (bounds flag) s c y
    bounds_more z h = let w = value_then g (λ _. number) h in record { means = w.means ∙ sym (bounds_two flag z c.at (left s c)); same_part = w.same_part }

pub ruleset bounds_steps = (bounds_refused, bounds_one, bounds_more, value_inside, rules)

-- limits, and the kind byte
module _ {s : List ℕ} {c : Cursor} where
  module _ {r : Refusal} (g : Reads byte s c (Err r)) where
    pub limits_refused : Reads limits s c (Err r)
    unfolding limits
    limits_refused = record { means = rw (← g.means); same_part = tt }

    pub kind_refused : Reads kind_byte s c (Err r)
    unfolding kind_byte
    kind_refused = record { means = rw (← g.means); same_part = tt }

    pub table_refused : Reads table_type s c (Err r)
    unfolding table_type
    table_refused = read_refused _ g

    pub global_refused : Reads global_type s c (Err r)
    unfolding global_type
    global_refused = read_refused _ g

  module _ {b : ℕ} {next : Cursor} (g : Reads byte s c (Ok (b, next))) where
    pub limits_flag : {r : Refusal} → 1 < b → r ≡ refusal_with NotImport c.at → Reads limits s c (Err r)
    unfolding limits
    limits_flag h is = rw is (record { means = rw (value_means g, lt-leb b 1 h); same_part = tt })

    pub limits_read : {y : Read} → b ≤ 1 → Reads (bounds b) s next y → Reads limits s c y
    unfolding limits
    limits_read h k = record { means = k.means ∙ rw (value_means g, le-leb b 1 h); same_part = let far = value_end g in rw (← far.1) k.same_part }

    pub kind_above : {r : Refusal} → 3 < b → r ≡ refusal_with NotImport c.at → Reads kind_byte s c (Err r)
    unfolding kind_byte
    kind_above h is = rw is (record { means = rw (value_means g, lt-leb b 3 h); same_part = tt })

    pub kind_known : b ≤ 3 → Reads kind_byte s c (Ok (b, next))
    unfolding kind_byte
    kind_known h = record { means = rw (value_means g, le-leb b 3 h); same_part = value_end g }

    pub table_read : {y : Read} → Reads limits s next y → Reads table_type s c y
    unfolding table_type
    table_read h = value_then g (λ _. limits) h

    pub global_read : {y : Read} → Reads byte s next y → Reads global_type s c y
    unfolding global_type
    global_read h = value_then g (λ _. byte) h

pub ruleset limits_steps = (limits_refused, limits_flag, limits_read, table_refused, table_read, global_refused, global_read, kind_refused, kind_above, kind_known, value_inside, rules)

-- by the kind
described : (kind : ℕ) → (kind ≡ 0 → ⊥) → (kind ≡ 1 → ⊥) → (kind ≡ 2 → ⊥) → description kind ≡ global_type
unfolding description
described zero a b c = absurd (a refl)
described (suc zero) a b c = absurd (b refl)
described (suc (suc zero)) a b c = absurd (c refl)
described (suc (suc (suc kind))) a b c = refl

module _ (kind : ℕ) {s : List ℕ} {c : Cursor} {y : Read} where
  pub function_described : kind ≡ 0 → Reads number s c y → Reads (description kind) s c y
  unfolding description
  function_described e g = rw e g

  pub table_described : kind ≡ 1 → Reads table_type s c y → Reads (description kind) s c y
  unfolding description
  table_described e g = rw e g

  pub memory_described : kind ≡ 2 → Reads limits s c y → Reads (description kind) s c y
  unfolding description
  memory_described e g = rw e g

  pub global_described : (kind ≡ 0 → ⊥) → (kind ≡ 1 → ⊥) → (kind ≡ 2 → ⊥) → Reads global_type s c y → Reads (description kind) s c y
  global_described a b d g = rw (described kind a b d) g

pub ruleset descriptions = (function_described, table_described, memory_described, global_described, rules)

-- two names and the kind
module _ {s : List ℕ} {c : Cursor} where
  pub first_name_refused : {r : Refusal} → PartReads name s c (Err r) → Reads import_kind s c (Err r)
  unfolding import_kind
  first_name_refused n = record { means = rw (← n.means); same_part = tt }

  module _ (i : Inside s c) {part d : Cursor} {told : Bool} (n : PartReads name s c (Ok (part, d, told))) where
    pub behind_name : Inside s d
    behind_name = (name_behind i n refl).in_rest

    pub second_name_refused : {r : Refusal} → PartReads name s d (Err r) → Reads import_kind s c (Err r)
    unfolding import_kind
    second_name_refused m = record { means = rw (name_means n refl, ← m.means); same_part = tt }

    pub names_read : {part' f : Cursor} {told' : Bool} {z : Read} → PartReads name s d (Ok (part', f, told')) → Reads kind_byte s f z → Reads import_kind s c z
    unfolding import_kind
    names_read m k =
        let first = name_behind i n refl in
        let second = name_behind behind_name m refl in
        let far : _ ≡ c.end = second.same_end ∙ first.same_end in
        record { means = k.means ∙ rw (name_means n refl, name_means m refl); same_part = rw (← far) k.same_part }

pub ruleset kind_steps = (first_name_refused, second_name_refused, names_read, behind_name, rules)

-- an import
module _ {s : List ℕ} {c : Cursor} where
  pub entry_unnamed : {r : Refusal} → Reads import_kind s c (Err r) → Reads import_entry s c (Err r)
  unfolding import_entry
  entry_unnamed g = read_refused _ g

  module _ {kind : ℕ} {d : Cursor} (g : Reads import_kind s c (Ok (kind, d))) where
    pub entry_undescribed : {r : Refusal} → Reads (description kind) s d (Err r) → Reads import_entry s c (Err r)
    unfolding import_entry
    entry_undescribed h = record { means = rw (value_means g, ← h.means); same_part = tt }

    pub entry_read : {v : ℕ} {next : Cursor} → Reads (description kind) s d (Ok (v, next)) → Reads import_entry s c (Ok (kind, next))
    unfolding import_entry
    entry_read h =
        let first = value_end g in
        let second = value_end h in
        record { means = rw (value_means g, value_means h); same_part = (omega (arith, second.0, first.1), second.1 ∙ first.1) }

pub ruleset entry_steps = (entry_unnamed, entry_undescribed, entry_read, value_inside, rules)

-- a function, or none
pub one_function : (kind : ℕ) → kind ≡ 0 → 1 ≡ functions_in kind
one_function kind e = rw e

pub no_function : (kind : ℕ) → (kind ≡ 0 → ⊥) → 0 ≡ functions_in kind
no_function zero n = absurd (n refl)
no_function (suc kind) n = refl

pub ruleset function_counts = (one_function, no_function, rules)

few_functions : (kind : ℕ) → functions_in kind ≤ 1
few_functions zero = omega arith
few_functions (suc kind) = omega arith

-- Whenever the loop's test is reached: so many functions are counted, and so many entries are still to come
pub record Tallying (n more before : ℕ) (s : List ℕ) (c next : Cursor) : Type 0 where
  pub inside : Inside s next
  pub same_end : next.end ≡ c.end
  pub few : before + more ≤ n
  pub same : import_entries n 0 c.at (left s c) ≡ import_entries more before next.at (left s next)

pub tallying_begins : {n : ℕ} {s : List ℕ} {c : Cursor} → Inside s c → Tallying n n 0 s c c
tallying_begins i = record { inside = i; same_end = refl; few = omega arith; same = refl }

entries_next : (n before : ℕ) → 0 < n → (o : ℕ) (bs : List ℕ) → import_entries n before o bs ≡ and_then (import_entry o bs) (λ kind. import_entries (n - 1) (before + functions_in kind))
unfolding import_entries
entries_next zero before h o bs = absurd (omega arith)
entries_next (suc n) before h o bs = let d : suc n - 1 ≡ n = omega arith in rw d

entries_none : (n before : ℕ) → n ≤ 0 → (o : ℕ) (bs : List ℕ) → import_entries n before o bs ≡ got before o bs
unfolding import_entries
entries_none zero before h o bs = refl
entries_none (suc n) before h o bs = absurd (omega arith)

module _ {n more before : ℕ} {s : List ℕ} {c next : Cursor} (t : Tallying n more before s c next) where
  pub tallying_inside : Inside s next
  tallying_inside = t.inside

  pub tallying_ended : more ≤ 0 → Reads (import_entries n 0) s c (Ok (before, next))
  tallying_ended h =
      let far = t.same_end in
      record { means = sym (t.same ∙ entries_none more before h next.at (left s next)); same_part = (omega (arith, t.inside.ahead, far), far) }

  module _ (h : 0 < more) where
    pub tallying_refused : {r : Refusal} → Reads import_entry s next (Err r) → Reads (import_entries n 0) s c (Err r)
    tallying_refused g = record { means = sym (t.same ∙ entries_next more before h next.at (left s next) ∙ rw (← g.means)); same_part = tt }

    module _ {kind : ℕ} {after : Cursor} (g : Reads import_entry s next (Ok (kind, after))) {f : ℕ} (is : f ≡ functions_in kind) where
      pub tallying_room : n < limit32 → before + f < limit32
      tallying_room l = omega (arith, t.few, is, few_functions kind)

      pub tallying_goes : Tallying n (more - 1) (before + f) s c after
      tallying_goes =
          let far = value_end g in
          record {
            inside = value_inside g t.inside;
            same_end = far.1 ∙ t.same_end;
            few = omega (arith, t.few, is, few_functions kind);
            same = t.same ∙ entries_next more before h next.at (left s next) ∙ rw (value_means g, is);
          }

pub ruleset tallying = (tallying_begins, tallying_inside, tallying_ended, tallying_refused, tallying_room, tallying_goes, rules)

-- how many, and so many
module _ {s : List ℕ} {c : Cursor} where
  pub list_uncounted : {r : Refusal} → Reads number s c (Err r) → Reads import_list s c (Err r)
  unfolding import_list
  list_uncounted g = read_refused _ g

  pub list_counted : {n : ℕ} {next : Cursor} {y : Read} → Reads number s c (Ok (n, next)) → Reads (import_entries n 0) s next y → Reads import_list s c y
  unfolding import_list
  list_counted g h = value_then g (λ n. import_entries n 0) h

pub ruleset list_steps = (list_uncounted, list_counted, value_inside, rules)

-- and nothing behind them
module _ {s : List ℕ} {c : Cursor} where
  pub imports_refused : {r : Refusal} → Reads import_list s c (Err r) → Counts s c (Err r)
  unfolding imports
  imports_refused g = record { says = rw (← g.means) }

  module _ (i : Inside s c) {n : ℕ} {next : Cursor} (g : Reads import_list s c (Ok (n, next))) where
    pub imports_left : {r : Refusal} → next.at < next.end → r ≡ refusal_with LeftOver next.at → Counts s c (Err r)
    unfolding imports
    imports_left h is = rw is (record { says = rw (value_means g, something_left (value_inside g i) h) })

    pub imports_fill : next.end ≤ next.at → Counts s c (Ok n)
    unfolding imports
    imports_fill h = record { says = rw (value_means g, nothing_left (value_inside g i) h) }

pub ruleset imports_steps = (imports_refused, imports_left, imports_fill, rules)
