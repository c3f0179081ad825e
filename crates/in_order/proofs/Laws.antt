-- Entries that were accepted, one by one: whether they rise, what is written of them, and how long that is. Nothing here is about code.
use Prim.Native.Nat.{ℕ, zero, suc, ◌+◌, ◌≤◌}
use mathlib.Core.Bool.{Bool, true, false, cond, ◌&&◌}
use mathlib.Core.List.{List, [], ◌∷◌, ◌++◌, append_assoc}
use mathlib.Core.Path.{◌≡◌, refl, sym, ap, ◌∙◌}
use native.Mathlib.Nat.{zero-add}
use native.Mathlib.Omega.{arith}
use borrow.Author.Tests.{ne_eqb}
use lib.Dec.{eqb, leb}
use lib.ListN.{length, length-append}
use Rattle.format.specs.Numbers.{number, shortest}
use Rattle.format.specs.Older.{OlderHint, OlderEntry, times, kind_numbered, older_hint, older_entry}
use Rattle.format.specs.OlderInOrder.{rising_hints, rising_entries, hints_bytes, kept_entries, entries_bytes}
use Rattle.format.proofs.Laws.OlderEntries.{kind_numbered_lem, kind_byte}
use Rattle.format.proofs.Laws.Numbers.{shortest_mono}
use Rattle.format.specs.Laws.Outcomes.{by_test}
use Rattle.reading.specs.Standing.{Stands, Known}
use Rattle.reading.specs.declared.Cursor.{Cursor}
use Rattle.reading.proofs.Standing.{one_value, one_end}
use Rattle.copying.specs.Bytes.{one_if_some}
use Rattle.copying.proofs.Laws.{number_shorter}
use Rattle.older.specs.Seeking.{opening}
use Rattle.older.proofs.ReadAgain.{times_none, hint_passable, entry_passable, hint_kind, hint_offset, hint_again, entry_number, entry_opens, entry_count, entry_hints, entry_stands}
use Rattle.in_order.specs.Entries.{still_rising, entry_of, entry_length}
use Rattle.older.proofs.Along.{split}

abbrev place : Cursor → ℕ
place c = c.at

-- Hints, one by one
pub rising_hint : (rising : Bool) (least : ℕ) (h : OlderHint) (hs : List OlderHint) → cond (still_rising rising least h.offset) (rising_hints (suc h.offset) hs) false ≡ cond rising (rising_hints least (h ∷ hs)) false
unfolding still_rising rising_hints
rising_hint true least h hs = refl
rising_hint false least h hs = refl

pub hints_risen : (rising : Bool) (least : ℕ) → cond rising (rising_hints least []) false ≡ rising
unfolding rising_hints
hints_risen true least = refl
hints_risen false least = refl

pub hints_nil : hints_bytes [] ≡ []
unfolding hints_bytes
hints_nil = refl

pub hints_one : {k : ℕ} (offset : ℕ) (hs : List OlderHint) → k ≤ 1 → hints_bytes (record { kind = kind_numbered k; offset = offset } ∷ hs) ≡ shortest k ++ (shortest offset ++ hints_bytes hs)
unfolding hints_bytes
hints_one {k} offset hs h = rw (kind_numbered_lem k h)

pub hint_length : (h : OlderHint) (hs : List OlderHint) → length (hints_bytes (h ∷ hs)) ≡ 1 + length (shortest h.offset) + length (hints_bytes hs)
unfolding hints_bytes
hint_length h hs = simp (length-append, kind_byte) (omega arith)

-- Entries, one by one
pub rising_entry : (rising up : Bool) (least f : ℕ) (hs : List OlderHint) (es : List OlderEntry) → up ≡ rising_hints 0 hs → cond (still_rising (rising && up) least f) (rising_entries (suc f) es) false ≡ cond rising (rising_entries least (record { function = f; hints = hs } ∷ es)) false
unfolding still_rising rising_entries
rising_entry false up least f hs es e = refl
rising_entry true true least f hs es e = rw (← e)
rising_entry true false least f hs es e = rw (← e) (by_test (leb least f) (λ t. rw t) (λ t. rw t))

pub entries_risen : (rising : Bool) (least : ℕ) → cond rising (rising_entries least []) false ≡ rising
unfolding rising_entries
entries_risen true least = refl
entries_risen false least = refl

pub entries_nil : entries_bytes [] ≡ []
unfolding entries_bytes
entries_nil = refl

pub none_kept : kept_entries [] ≡ 0
unfolding kept_entries
none_kept = refl

pub entries_one : (f : ℕ) (hs : List OlderHint) (es : List OlderEntry) → entries_bytes (record { function = f; hints = hs } ∷ es) ≡ entry_of f hs ++ entries_bytes es
unfolding entries_bytes entry_of
entries_one f [] es = refl
entries_one f (h ∷ hs) es = sym (append_assoc (shortest f) (0 ∷ (shortest (length (h ∷ hs)) ++ hints_bytes (h ∷ hs))) (entries_bytes es))

with_hints : (h : OlderHint) (hs : List OlderHint) → eqb (length (h ∷ hs)) 0 ≡ false
with_hints h hs = ne_eqb (suc (length hs)) 0 (λ q. absurd (omega arith))

at_most_one : (n : ℕ) → one_if_some n ≤ 1
unfolding one_if_some
at_most_one n = by_test (eqb n 0) (λ t. rw t (omega arith)) (λ t. rw t (omega arith))

pub kept_one : (f : ℕ) (hs : List OlderHint) (es : List OlderEntry) → kept_entries (record { function = f; hints = hs } ∷ es) ≡ one_if_some (length hs) + kept_entries es
unfolding kept_entries one_if_some
kept_one f [] es = sym (zero-add (kept_entries es))
kept_one f (h ∷ hs) es = rw (with_hints h hs) (omega arith)

pub entry_nil : (f : ℕ) → entry_of f [] ≡ []
unfolding entry_of
entry_nil f = refl

pub entry_bytes_lem : (f : ℕ) (hs : List OlderHint) → (length hs ≡ 0 → ⊥) → entry_of f hs ≡ shortest f ++ (0 ∷ (shortest (length hs) ++ hints_bytes hs))
unfolding entry_of
entry_bytes_lem f [] h = absurd (h refl)
entry_bytes_lem f (x ∷ hs) h = refl

pub entry_is : (f : ℕ) (hs : List OlderHint) → length (entry_of f hs) ≡ entry_length f (length hs) (length (hints_bytes hs))
unfolding entry_of entry_length
entry_is f [] = refl
entry_is f (h ∷ hs) = rw (with_hints h hs) (simp length-append (omega arith))

entry_most : (f : ℕ) (hs : List OlderHint) → length (entry_of f hs) ≤ length (shortest f) + 1 + length (shortest (length hs)) + length (hints_bytes hs)
unfolding entry_of
entry_most f [] = omega arith
entry_most f (h ∷ hs) = simp length-append (omega arith)

-- How many hints were read, and that they are written in no more bytes than they were read from
module _ {s : List ℕ} where
  pub hints_count : (n : ℕ) {c last : Cursor} {hs : List OlderHint} → Stands (times older_hint n) s c hs last → length hs ≡ n
  hints_count zero w = rw (← (times_none older_hint 0 (omega arith) w).0)
  hints_count (suc n) w = let p = split hint_passable n w in rw p.is (ap suc (hints_count n p.others))

  hint_shorter : {c next : Cursor} {h : OlderHint} → Stands older_hint s c h next → 1 + length (shortest h.offset) + c.at ≤ next.at
  hint_shorter {c} w =
      let known : Known older_hint s c = record { value = _; next = _; stands = w } in
      let kind = hint_kind known in
      let offset = hint_offset known kind.stands in
      let again = hint_again known kind.stands offset.stands in
      let at_least : 1 ≡ length (shortest kind.value) = sym (ap length (kind_byte (kind_numbered kind.value))) ∙ ap (λ k. length (shortest k)) (kind_numbered_lem kind.value again.known_kind_lem) in
      let same = ap (λ (x : OlderHint). length (shortest x.offset)) (one_value again.stands w) in
      omega (arith, at_least, number_shorter kind.stands, number_shorter offset.stands, same, ap place (one_end again.stands w))

  pub hints_shorter : (n : ℕ) {c last : Cursor} {hs : List OlderHint} → Stands (times older_hint n) s c hs last → length (hints_bytes hs) + c.at ≤ last.at
  hints_shorter zero w =
      let end = times_none older_hint 0 (omega arith) w in
      rw (← end.0, hints_nil) (omega (arith, ap place end.1))
  hints_shorter (suc n) w =
      let p = split hint_passable n w in
      let long = ap (λ x. length (hints_bytes x)) p.is ∙ hint_length p.first p.more in
      omega (arith, long, hint_shorter p.one, hints_shorter n p.others)

-- An entry's function with its zero byte, and the entry, likewise
module _ {s : List ℕ} {c : Cursor} (known : Known older_entry s c) where
  opening_shorter : {f : ℕ} {d : Cursor} → Stands opening s c f d → length (shortest f) + 1 + c.at ≤ d.at
  opening_shorter opens =
      let function = (entry_number known).stands in
      let again = entry_opens known function in
      let same = ap (λ k. length (shortest k)) (one_value again opens) in
      omega (arith, number_shorter function, same, ap place (one_end again opens))

  pub fields_shorter : {f : ℕ} {d : Cursor} {n : ℕ} {e : Cursor} {hs : List OlderHint} {last : Cursor} → Stands opening s c f d → Stands number s d n e → Stands (times older_hint n) s e hs last → length (shortest f) + 1 + length (shortest n) + length (hints_bytes hs) + c.at ≤ last.at
  fields_shorter {n = n} opens count hints = omega (arith, opening_shorter opens, number_shorter count, hints_shorter n hints)

module _ {s : List ℕ} where
  entry_shorter : {c last : Cursor} {e : OlderEntry} → Stands older_entry s c e last → length (entry_of e.function e.hints) + c.at ≤ last.at
  entry_shorter {c} w =
      let known : Known older_entry s c = record { value = _; next = _; stands = w } in
      let function = entry_number known in
      let opens = entry_opens known function.stands in
      let count = entry_count known opens in
      let hints = entry_hints known opens count.stands in
      let again = entry_stands opens count.stands hints.stands in
      let most = rw (hints_count count.value hints.stands) at (entry_most function.value hints.value) in
      let same = ap (λ (x : OlderEntry). length (entry_of x.function x.hints)) (one_value again w) in
      omega (arith, most, fields_shorter known opens count.stands hints.stands, same, ap place (one_end again w))

  -- For callers: entries are written in no more bytes than they were read from, also with their count, and no more of them
  pub entries_shorter : (n : ℕ) {c last : Cursor} {es : List OlderEntry} → Stands (times older_entry n) s c es last → length (entries_bytes es) + c.at ≤ last.at
  entries_shorter zero w =
      let end = times_none older_entry 0 (omega arith) w in
      rw (← end.0, entries_nil) (omega (arith, ap place end.1))
  entries_shorter (suc n) w =
      let p = split entry_passable n w in
      let f = p.first.function in
      let hs = p.first.hints in
      let long = ap (λ x. length (entries_bytes x)) p.is ∙ ap length (entries_one f hs p.more) ∙ length-append (entry_of f hs) (entries_bytes p.more) in
      omega (arith, long, entry_shorter p.one, entries_shorter n p.others)

  pub entries_few : (n : ℕ) {c last : Cursor} {es : List OlderEntry} → Stands (times older_entry n) s c es last → kept_entries es ≤ n
  entries_few zero w = rw (← (times_none older_entry 0 (omega arith) w).0, none_kept) (omega arith)
  entries_few (suc n) w =
      let p = split entry_passable n w in
      let many = ap kept_entries p.is ∙ kept_one p.first.function p.first.hints p.more in
      omega (arith, many, at_most_one (length p.first.hints), entries_few n p.others)

  pub counted_shorter : {d : Cursor} {n : ℕ} {c last : Cursor} {es : List OlderEntry} → Stands number s d n c → Stands (times older_entry n) s c es last → length (shortest (kept_entries es)) + length (entries_bytes es) + d.at ≤ last.at
  counted_shorter {n = n} {es = es} count entries = omega (arith, shortest_mono (kept_entries es) n (entries_few n entries), number_shorter count, entries_shorter n entries)
