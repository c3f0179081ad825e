-- The canonical rewriting of hints of the older edition: it reads back, answers as its original, is no longer, comes to rest, and is told by the answers. "A payload whose rewriting is refused 15 has none, and demand 3 leaves it out."
use Rattle.std.specs.Prelude.{ℕ, ◌≤◌, ◌<◌, List, ◌↔◌, ◌≡◌, leb, length}
use Rattle.std.proofs.Math.Option.{none}
use Rattle.std.proofs.Common.{sym, ap, ◌∙◌, arith, length-append}
use borrow.Author.Tests.{leb-true, le-leb}
use Rattle.format.specs.Reading.{accepted, Accepted}
use Rattle.format.specs.Numbers.{limit32}
use Rattle.format.specs.Options.{some_then}
use Rattle.format.specs.Tables.{Table, nil, lookup}
use Rattle.format.specs.Older.{OlderHint, OlderEntry, judge_older, ask_older, sorted_from, write_older, not_too_long, canonical_older}
use Rattle.format.specs.Laws.Outcomes.{not_accepted, accepted_is, by_test, followed}
use Rattle.format.proofs.Laws.Numbers.{shortest_positive}
use Rattle.format.proofs.Laws.Codecs.{Sorted, Fits32}
use Rattle.format.proofs.Laws.Groups.{in_range_or_none}
use Rattle.format.proofs.Laws.Vectors.{All, no_more, also, all_imp, write_each, write_vector, each_longer}
use Rattle.format.proofs.Laws.OlderEntries.{hint_bytes, entry_bytes, EntryFine, EntriesFine, write_entries, entries_whole, entries_back}
use Rattle.format.proofs.Laws.OlderSorted.{Group, EntryNumbers, sorted_entries, groups_told, first_found}
use Rattle.format.proofs.Laws.OlderShorter.{sorted_shorter}
use Rattle.format.proofs.Laws.OlderInOrder.{entries_of, table_written, groups_numbers, sorted_again}
use Rattle.format.specs.declared.FunctionIndex.{FunctionIndex}
use Rattle.format.specs.declared.InstructionOffset.{InstructionOffset}
use Rattle.format.specs.declared.Hint.{Hint}

-- What is written in fewer than 2^32 bytes has fewer entries and hints
hint_positive : (h : OlderHint) → 0 < length (hint_bytes h)
unfolding hint_bytes
hint_positive h = simp length-append (omega (arith, shortest_positive h.offset))

entry_positive : (e : OlderEntry) → 0 < length (entry_bytes e)
unfolding entry_bytes
entry_positive e = simp length-append (omega arith)

entry_fine : (e : OlderEntry) → EntryNumbers Fits32 e → length (entry_bytes e) < limit32 → EntryFine e
unfolding entry_bytes write_vector
entry_fine e n h = record { function = n.function; hints = record { count = omega (arith, simp length-append at h, each_longer hint_bytes hint_positive e.hints); each = n.hints } }

each_fine : {es : List OlderEntry} → All (EntryNumbers Fits32) es → length (write_each entry_bytes es) < limit32 → All EntryFine es
unfolding write_each
each_fine no_more h = no_more
each_fine (also {x = e} {xs = es} n ns) h = also (entry_fine e n (omega (arith, h, length-append (entry_bytes e) (write_each entry_bytes es)))) (each_fine ns (omega (arith, h, length-append (entry_bytes e) (write_each entry_bytes es))))

entries_fine : {es : List OlderEntry} → All (EntryNumbers Fits32) es → length (write_entries es) < limit32 → EntriesFine es
unfolding write_vector
entries_fine {es} n h =
    let each : length (write_each entry_bytes es) < limit32 = omega (arith, simp length-append at h) in
    record { count = omega (arith, each_longer entry_bytes entry_positive es); each = each_fine n each }

-- a table in order reads back as its rows
pub table_back : {t : Table (Table Hint)} → Sorted (Group Fits32) 0 t → length (write_older t) < limit32 → judge_older 0 (write_older t) ≡ accepted (entries_of t)
table_back {t} s h = rw (table_written t) (entries_back (entries_of t) (entries_fine (groups_numbers s) (rw (table_written t) at h)))

-- What an accepted payload holds, put in order
module _ {bs : List ℕ} (a : Accepted (judge_older 0) bs) where
  abbrev pub in_order_table : Table (Table Hint)
  in_order_table = sorted_from nil a.value

  pub older_sorted : Sorted (Group Fits32) 0 in_order_table
  older_sorted = sorted_entries (all_imp (λ x f. record { function = f.function; hints = f.hints.each }) (entries_whole a.judged).fine.each)

  pub older_answer : (f : FunctionIndex) (at : InstructionOffset) → ask_older f at 0 bs ≡ accepted (some_then (lookup f.0 in_order_table) (lookup at.0))
  unfolding ask_older
  older_answer f at = rw (a.judged, first_found f.0 at.0 a.value)

  pub order_shorter : length (write_older in_order_table) ≤ length bs
  order_shorter = omega (arith, sorted_shorter a.value, (entries_whole a.judged).shorter)

  pub older_canonical_is : length (write_older in_order_table) < limit32 → canonical_older bs ≡ accepted (write_older in_order_table)
  unfolding canonical_older not_too_long
  older_canonical_is h = rw (a.judged, le-leb (length (write_older in_order_table)) 4_294_967_295 (omega arith))

-- A payload that has a rewriting
pub record Rewriting (bs x : List ℕ) : Type 0 where
  pub original : Accepted (judge_older 0) bs
  pub small : length (write_older (in_order_table original)) < limit32
  pub written : write_older (in_order_table original) ≡ x

short_enough : (bytes : List ℕ) {x : List ℕ} → not_too_long bytes ≡ accepted x → (length bytes < limit32) × (bytes ≡ x)
unfolding not_too_long
short_enough bytes e = by_test (leb (length bytes) 4_294_967_295) (λ t. (omega (arith, leb-true (length bytes) 4_294_967_295 t), accepted_is (rw t at e))) (λ t. absurd (not_accepted (rw t at e)))

pub rewriting : {bs x : List ℕ} → canonical_older bs ≡ accepted x → Rewriting bs x
unfolding canonical_older
rewriting {bs} c = followed (judge_older 0 bs) _ c λ es e w. let (small, is) = short_enough (write_older (sorted_from nil es)) w in record { original = record { value = es; judged = e }; small = small; written = is }

module _ {bs x : List ℕ} (r : Rewriting bs x) where
  pub older_back : judge_older 0 x ≡ accepted (entries_of (in_order_table r.original))
  older_back = rw (← r.written) (table_back (older_sorted r.original) r.small)

  abbrev pub older_accepted : Accepted (judge_older 0) x
  older_accepted = record { value = entries_of (in_order_table r.original); judged = older_back }

  order_again : in_order_table older_accepted ≡ in_order_table r.original
  order_again = sorted_again (older_sorted r.original)

  pub older_told_lem : (f : FunctionIndex) (at : InstructionOffset) → ask_older f at 0 x ≡ ask_older f at 0 bs
  older_told_lem f at = older_answer older_accepted f at ∙ ap (λ t. accepted (some_then (lookup f.0 t) (lookup at.0))) order_again ∙ sym (older_answer r.original f at)

  pub older_shorter : length x ≤ length bs
  older_shorter = rw r.written at (order_shorter r.original)

  pub older_again : canonical_older x ≡ accepted x
  older_again =
      let same : write_older (in_order_table older_accepted) ≡ x = ap write_older order_again ∙ r.written in
      rw same at (older_canonical_is older_accepted (rw order_again r.small))

-- an index or an offset of more than 32 bits gets none
asked_or_none {ℓ} : {C : Type ℓ} {bs : List ℕ} (a : Accepted (judge_older 0) bs) (k j : ℕ) → (k < limit32 → j < limit32 → C) → (some_then (lookup k (in_order_table a)) (lookup j) ≡ none → C) → C
asked_or_none a k j f g = in_range_or_none (λ _ u p. (p.number, p.sorted)) (λ _ x p. p) (older_sorted a) k j f g

-- every question in range gets the same answer from both
abbrev pub AskedAlike : (x y : List ℕ) → Type 0
AskedAlike x y = (f : FunctionIndex) (at : InstructionOffset) → f.0 < limit32 → at.0 < limit32 → ask_older f at 0 x ≡ ask_older f at 0 y

-- then what they hold is in order the same
module _ {x y : List ℕ} (a : Accepted (judge_older 0) x) (b : Accepted (judge_older 0) y) (alike : AskedAlike x y) where
  told_alike : (k j : ℕ) → some_then (lookup k (in_order_table a)) (lookup j) ≡ some_then (lookup k (in_order_table b)) (lookup j)
  told_alike k j =
      let told : k < limit32 → j < limit32 → some_then (lookup k (in_order_table a)) (lookup j) ≡ some_then (lookup k (in_order_table b)) (lookup j) = λ l m. accepted_is (sym (older_answer a (record { 0 = k }) (record { 0 = j })) ∙ alike (record { 0 = k }) (record { 0 = j }) l m ∙ older_answer b (record { 0 = k }) (record { 0 = j })) in
      asked_or_none a k j told (λ n. asked_or_none b k j told (λ m. n ∙ sym m))

  same_order : in_order_table a ≡ in_order_table b
  same_order = groups_told (older_sorted a) (older_sorted b) told_alike

-- two payloads have one rewriting exactly where every question gets the same answer
pub same_older : {x y v w : List ℕ} → Rewriting x v → Rewriting y w → (v ≡ w) ↔ AskedAlike x y
same_older r q = (
  λ e f at _ _. sym (older_told_lem r f at) ∙ ap (ask_older f at 0) e ∙ older_told_lem q f at,
  λ alike. sym r.written ∙ ap write_older (same_order r.original q.original alike) ∙ q.written,
)

-- and none that answers as a rewriting's original is shorter than the rewriting, also one that has none itself
pub older_least : {p x y : List ℕ} → Rewriting p x → Accepted (judge_older 0) y → AskedAlike p y → length x ≤ length y
older_least {x = x} r b alike =
    let same : write_older (in_order_table b) ≡ x = ap write_older (sym (same_order r.original b alike)) ∙ r.written in
    rw same at (order_shorter b)
