-- What each step of judging and asking does with what it read.
use Rattle.std.specs.Prelude.{Option as Held, Ok, Err, Some, None}
use Prim.Native.Nat.{ℕ, ◌+◌, ◌-◌, ◌≤◌, ◌<◌}
use mathlib.Core.Bool.{Bool, true, false}
use mathlib.Core.List.{List}
use mathlib.Core.Option.{Option, none}
use mathlib.Core.Path.{◌≡◌, refl, sym, ◌∙◌}
use native.Mathlib.Numerals.{add-one}
use native.Mathlib.Omega.{arith}
use borrow.Author.Rules.{rules}
use borrow.Author.Tests.{eq-eqb, ne_eqb, le-leb, lt-leb}
use lib.Dec.{eqb}
use lib.ListN.{length, get_or}
use Rattle.std.specs.Option.{option_or}
use Rattle.format.specs.Reading.{Outcome, got, stop, Reader, and_then}
use Rattle.format.specs.Numbers.{number}
use Rattle.format.specs.Options.{or_else}
use Rattle.format.specs.Older.{OlderHint, OlderEntry, times, vector, zero_byte, kind_numbered, older_kind, older_hint, older_entry, first_at}
use Rattle.format.specs.Laws.Options.{not_some}
use Rattle.format.specs.Laws.Outcomes.{by_test, by_outcome, not_got, got_value}
use Rattle.format.specs.declared.Hint.{Hint}
use Rattle.format.specs.declared.Reason.TheVariants.{PastItsPart, NotHint, NotZero}
use Rattle.format.specs.declared.Refusal.{Refusal}
use Rattle.reading.specs.Cursors.{Inside, left, NumberReads}
use Rattle.reading.specs.declared.Cursor.{Cursor}
use Rattle.reading.proofs.Laws.{number_means, number_inside, number_end, nothing_left, something_left}
use Rattle.older.specs.Seeking.{nothing, at_offset, first_where, in_function, asked, held_of, held_as, Reads, Seeks}
use Rattle.older.specs.Returned.{Seek}
use Rattle.older.proofs.Times.{Firsts, nothing_firsts, offset_firsts, function_firsts, seek, seek_behind, turn, turned}

-- What is held
at_means : (wanted offset k : ℕ) → held_of (held_as wanted offset k) ≡ at_offset wanted (record { kind = kind_numbered k; offset = offset })
at_means wanted offset k = by_test (eqb wanted offset) (λ e. rw e) (λ e. rw e)

first_means : (held answer : Held Hint) → or_else (held_of held) (held_of answer) ≡ held_of (option_or held answer)
first_means None answer = refl
first_means (Some h) answer = refl

or_nothing : (held : Held Hint) → held ≡ option_or held None
or_nothing None = refl
or_nothing (Some h) = refl

-- What was read as a number
module _ {A : Type 0} {value : ℕ → A} {read : Reader A} {s : List ℕ} {c : Cursor} {v : ℕ} {next : Cursor} {told : Bool} (n : Reads value read s c (Ok (v, next, told))) where
  pub read_inside : Inside s c → Inside s next
  read_inside i = record { ahead = omega (arith, n.same_part.0, n.same_part.1); within = omega (arith, n.same_part.1, i.within) }

-- A kind
module _ {s : List ℕ} {c : Cursor} where
  pub kind_refused : {r : Refusal} → NumberReads s c (Err r) → Reads kind_numbered older_kind s c (Err r)
  unfolding older_kind
  kind_refused n = record { means = rw (← n.means); same_part = tt }

  module _ {k : ℕ} {next : Cursor} {told : Bool} (n : NumberReads s c (Ok (k, next, told))) where
    pub kind_too_large : 1 < k → Reads kind_numbered older_kind s c (Err (record { reason = NotHint; offset = record { 0 = c.at } }))
    unfolding older_kind
    kind_too_large h = record { means = rw (number_means n refl, lt-leb k 1 h); same_part = tt }

    pub kind_read : Inside s c → k ≤ 1 → Reads kind_numbered older_kind s c (Ok (k, next, told))
    unfolding older_kind
    kind_read i h = let far = number_end n refl in record { means = rw (number_means n refl, le-leb k 1 h); same_part = (omega (arith, (number_inside i n refl).ahead), far) }

pub ruleset kind_steps = (kind_refused, kind_too_large, kind_read, rules)

-- What was sought
module _ {read : Reader (Option Hint)} {s : List ℕ} {c : Cursor} {held : Held Hint} {next : Cursor} (n : Seeks read s c (Ok (held, next))) where
  pub sought_inside : Inside s c → Inside s next
  sought_inside i = record { ahead = omega (arith, n.same_part.0, n.same_part.1); within = omega (arith, n.same_part.1, i.within) }

-- A hint
module _ (each : OlderHint → Option Hint) {s : List ℕ} {c : Cursor} where
  pub hint_no_kind : {r : Refusal} → Reads kind_numbered older_kind s c (Err r) → Seeks (asked each older_hint) s c (Err r)
  unfolding asked older_hint
  hint_no_kind n = record { means = rw (← n.means); same_part = tt }

  module _ {k : ℕ} {d : Cursor} {told : Bool} (n : Reads kind_numbered older_kind s c (Ok (k, d, told))) where
    pub hint_no_offset : {r : Refusal} → NumberReads s d (Err r) → Seeks (asked each older_hint) s c (Err r)
    unfolding asked older_hint
    hint_no_offset m = record { means = rw (← n.means, ← m.means); same_part = tt }

    hint_answers : {offset : ℕ} {next : Cursor} {told' : Bool} {h : Held Hint} → Inside s c → NumberReads s d (Ok (offset, next, told')) → held_of h ≡ each (record { kind = kind_numbered k; offset = offset }) → Seeks (asked each older_hint) s c (Ok (h, next))
    unfolding asked older_hint
    hint_answers i m is =
        let inside = number_inside (read_inside n i) m refl in
        let far = number_end m refl in
        record {
          means = rw (← n.means, number_means m refl, is);
          same_part = (omega (arith, inside.ahead, far, n.same_part.1), far ∙ n.same_part.1);
        }

module _ {s : List ℕ} {c : Cursor} {k : ℕ} {d : Cursor} {told : Bool} (i : Inside s c) (n : Reads kind_numbered older_kind s c (Ok (k, d, told))) {offset : ℕ} {next : Cursor} {told' : Bool} (m : NumberReads s d (Ok (offset, next, told'))) where
  pub hint_asked : (wanted : ℕ) {h : Held Hint} → h ≡ held_as wanted offset k → Seeks (asked (at_offset wanted) older_hint) s c (Ok (h, next))
  hint_asked wanted {h} is = let means : held_of h ≡ at_offset wanted (record { kind = kind_numbered k; offset = offset }) = rw is (at_means wanted offset k) in hint_answers (at_offset wanted) n i m means

  pub hint_judged : Seeks (asked nothing older_hint) s c (Ok (None, next))
  hint_judged = hint_answers nothing n i m refl

pub ruleset hint_steps = (hint_no_kind, hint_no_offset, hint_asked, hint_judged, read_inside, rules)

-- The zero byte
module _ {s : List ℕ} {c : Cursor} (i : Inside s c) where
  pub zero_missing : c.end ≤ c.at → Seeks (asked nothing zero_byte) s c (Err (record { reason = PastItsPart; offset = record { 0 = c.at } }))
  unfolding asked zero_byte
  zero_missing h = record { means = rw (nothing_left i h); same_part = tt }

  pub zero_place : c.at < c.end → c.at < length s
  zero_place h = omega (arith, i.within)

  pub not_zero : c.at < c.end → (get_or s c.at 0 ≡ 0 → ⊥) → Seeks (asked nothing zero_byte) s c (Err (record { reason = NotZero; offset = record { 0 = c.at } }))
  unfolding asked zero_byte
  not_zero h z = record { means = rw (something_left i h, ne_eqb (get_or s c.at 0) 0 z); same_part = tt }

  pub zero_read : c.at < c.end → get_or s c.at 0 ≡ 0 → Seeks (asked nothing zero_byte) s c (Ok (None, (record { at = c.at + 1; end = c.end })))
  unfolding asked zero_byte
  zero_read h z = record { means = rw (something_left i h, eq-eqb (get_or s c.at 0) 0 z, add-one); same_part = (omega (arith, h), refl) }

pub ruleset zero_steps = (zero_missing, zero_place, not_zero, zero_read, rules)

-- A hint or an entry after the other: whenever the loop's test is reached
pub record Turn {A : Type 0} (each : A → Option Hint) (all : List A → Option Hint) (read : Reader A) (n : ℕ) (s : List ℕ) (c next : Cursor) (more : ℕ) (held : Held Hint) : Type 0 where
  pub firsts : Firsts each all
  pub inside : Inside s next
  pub same_end : next.end ≡ c.end
  pub same : asked all (times read n) c.at (left s c) ≡ seek firsts (held_of held) (times read more next.at (left s next))

module _ {A : Type 0} {each : A → Option Hint} {all : List A → Option Hint} {read : Reader A} {n : ℕ} {s : List ℕ} {c : Cursor} where
  pub turn_begins : Firsts each all → Inside s c → Turn each all read n s c c n None
  unfolding asked
  turn_begins f i = record { firsts = f; inside = i; same_end = refl; same = refl }

  module _ {next : Cursor} {more : ℕ} {held : Held Hint} (t : Turn each all read n s c next more held) where
    pub turn_inside : Inside s next
    turn_inside = t.inside

    -- the next one, and those behind it
    opened : 0 < more → asked all (times read n) c.at (left s c) ≡ and_then (asked each read next.at (left s next)) (seek_behind t.firsts read (held_of held) (more - 1))
    opened h = t.same ∙ turn t.firsts read (held_of held) more next.at (left s next) h

    pub turn_refused : {r : Refusal} → 0 < more → Seeks (asked each read) s next (Err r) → Seeks (asked all (times read n)) s c (Err r)
    turn_refused h n = record { means = sym (opened h ∙ rw (← n.means)); same_part = tt }

    pub turn_read : {found : Held Hint} {after : Cursor} {h : Held Hint} → 0 < more → Seeks (asked each read) s next (Ok (found, after)) → h ≡ option_or held found → Turn each all read n s c after (more - 1) h
    turn_read {found = found} l n q = record {
      firsts = t.firsts;
      inside = sought_inside n t.inside;
      same_end = n.same_part.1 ∙ t.same_end;
      same = opened l ∙ rw (← n.means, first_means held found, q);
    }

    -- one that answers with nothing leaves what is held
    pub turn_past : {found : Held Hint} {after : Cursor} → 0 < more → Seeks (asked each read) s next (Ok (found, after)) → found ≡ None → Turn each all read n s c after (more - 1) held
    turn_past l n e = turn_read l n (rw e (or_nothing held))

    pub turn_ends : more ≤ 0 → Seeks (asked all (times read n)) s c (Ok (held, next))
    turn_ends h =
        let far = t.same_end in
        record {
          means = sym (t.same ∙ turned t.firsts read (held_of held) more next.at (left s next) h);
          same_part = (omega (arith, t.inside.ahead, far), far);
        }

-- what is judged alone holds nothing
nothing_found : {A : Type 0} (r : Outcome A) {v : Option Hint} {o : ℕ} {bs : List ℕ} → got v o bs ≡ and_then r (λ w. got none) → v ≡ none
nothing_found (got w o bs) e = got_value e
nothing_found (stop n at) e = absurd (not_got (sym e))

nothing_held : (held : Held Hint) → held_of held ≡ none → held ≡ None
nothing_held None e = refl
nothing_held (Some h) e = absurd (not_some (sym e))

pub turn_judged : {A : Type 0} {read : Reader A} {n : ℕ} {s : List ℕ} {c next : Cursor} {more : ℕ} {found : Held Hint} {after : Cursor} → Turn nothing nothing read n s c next more None → 0 < more → Seeks (asked nothing read) s next (Ok (found, after)) → Turn nothing nothing read n s c after (more - 1) None
unfolding asked
turn_judged {read = read} {s = s} {next = next} {found = found} t l n = turn_read t l n (sym (nothing_held found (nothing_found (read next.at (left s next)) n.means)))

pub ruleset turns = (nothing_firsts, offset_firsts, function_firsts, turn_begins, turn_inside, turn_refused, turn_read, turn_past, turn_judged, turn_ends, rules)

-- How many, and so many
module _ {A : Type 0} (all : List A → Option Hint) (read : Reader A) {s : List ℕ} {c : Cursor} where
  pub vector_no_count : {r : Refusal} → NumberReads s c (Err r) → Seeks (asked all (vector read)) s c (Err r)
  unfolding asked vector
  vector_no_count n = record { means = rw (← n.means); same_part = tt }

  pub vector_counted : {m : ℕ} {d : Cursor} {told : Bool} {y : Seek} → NumberReads s c (Ok (m, d, told)) → Seeks (asked all (times read m)) s d y → Seeks (asked all (vector read)) s c y
  unfolding asked vector
  vector_counted n r = let far = number_end n refl in record { means = r.means ∙ rw (number_means n refl); same_part = rw (← far) r.same_part }

-- the hints of an entry are asked where its function is the one that is wanted
module _ {wanted : Bool} (offset : ℕ) {s : List ℕ} {c : Cursor} {m : ℕ} {d : Cursor} {told : Bool} {y : Seek} (n : NumberReads s c (Ok (m, d, told))) where
  pub vector_wanted : wanted ≡ true → Seeks (asked (first_at offset) (times older_hint m)) s d y → Seeks (asked (first_where wanted offset) (vector older_hint)) s c y
  vector_wanted t r = rw t (vector_counted (first_at offset) older_hint n r)

  pub vector_not_wanted : wanted ≡ false → Seeks (asked nothing (times older_hint m)) s d y → Seeks (asked (first_where wanted offset) (vector older_hint)) s c y
  vector_not_wanted t r = rw t (vector_counted nothing older_hint n r)

pub ruleset vector_steps = (vector_no_count, vector_counted, vector_wanted, vector_not_wanted, number_inside, rules)

-- An entry: its function, the zero byte, and its hints
abbrev of_entry : (OlderEntry → Option Hint) → ℕ → List OlderHint → Option Hint
of_entry each k hs = each (record { function = k; hints = hs })

entry_opened : (each : OlderEntry → Option Hint) (o : ℕ) (bs : List ℕ) → asked each older_entry o bs ≡ and_then (number o bs) (λ k o₁ r₁. and_then (asked nothing zero_byte o₁ r₁) (λ u. asked (of_entry each k) (vector older_hint)))
unfolding asked older_entry
entry_opened each o bs =
    by_outcome (number o bs)
    (λ k o₁ r₁ e. rw e (by_outcome (zero_byte o₁ r₁)
    (λ u o₂ r₂ e₁. rw e₁ (by_outcome (vector older_hint o₂ r₂)
    (λ hs o₃ r₃ e₂. rw e₂)
    (λ m at e₂. rw e₂)))
    (λ m at e₁. rw e₁)))
    (λ m at e. rw e)

module _ (each : OlderEntry → Option Hint) {s : List ℕ} {c : Cursor} where
  pub entry_no_function : {r : Refusal} → NumberReads s c (Err r) → Seeks (asked each older_entry) s c (Err r)
  entry_no_function n = record { means = sym (entry_opened each c.at (left s c) ∙ rw (← n.means)); same_part = tt }

  module _ {k : ℕ} {d : Cursor} {told : Bool} (n : NumberReads s c (Ok (k, d, told))) where
    pub entry_no_zero : {r : Refusal} → Seeks (asked nothing zero_byte) s d (Err r) → Seeks (asked each older_entry) s c (Err r)
    entry_no_zero z = record { means = sym (entry_opened each c.at (left s c) ∙ rw (number_means n refl, ← z.means)); same_part = tt }

    entry_answers : {held : Held Hint} {behind : Cursor} {w : Seek} → Seeks (asked nothing zero_byte) s d (Ok (held, behind)) → Seeks (asked (of_entry each k) (vector older_hint)) s behind w → Seeks (asked each older_entry) s c w
    entry_answers z h =
        let far = z.same_part.1 ∙ number_end n refl in
        record { means = h.means ∙ sym (entry_opened each c.at (left s c) ∙ rw (number_means n refl, ← z.means)); same_part = rw (← far) h.same_part }

module _ {s : List ℕ} {c : Cursor} {k : ℕ} {d : Cursor} {told : Bool} (n : NumberReads s c (Ok (k, d, told))) {held : Held Hint} {behind : Cursor} (z : Seeks (asked nothing zero_byte) s d (Ok (held, behind))) {w : Seek} where
  pub entry_asked : (function offset : ℕ) → Seeks (asked (first_where (eqb function k) offset) (vector older_hint)) s behind w → Seeks (asked (in_function function offset) older_entry) s c w
  entry_asked function offset h = entry_answers (in_function function offset) n z h

  pub entry_judged : Seeks (asked nothing (vector older_hint)) s behind w → Seeks (asked nothing older_entry) s c w
  entry_judged h = entry_answers nothing n z h

pub ruleset entry_steps = (entry_no_function, entry_no_zero, entry_asked, entry_judged, sought_inside, number_inside, rules)
