-- The hints of a payload put in their places are written in no more bytes than the entries as they stand: what shares a function shares its head, and what is shadowed or empty is dropped.
use Rattle.std.specs.Prelude.{ℕ, suc, ◌+◌, ◌≤◌, List, [], ◌∷◌, ◌++◌, ltb, eqb, length}
use Rattle.std.proofs.Common.{arith, length-append}
use Rattle.format.specs.Numbers.{shortest}
use Rattle.format.specs.Tables.{Table, nil, row, size}
use Rattle.format.specs.Canonical.{write_rows, write_table}
use Rattle.format.specs.Older.{OlderHint, OlderEntry, put_first, with_hints, sorted_from, write_older_hints, write_older}
use Rattle.format.specs.Laws.Outcomes.{by_test}
use Rattle.format.proofs.Laws.Numbers.{shortest_mono, shortest_sum}
use Rattle.format.proofs.Laws.Vectors.{write_each, write_vector}
use Rattle.format.proofs.Laws.OlderEntries.{kind_bytes, hint_bytes, entry_bytes, write_entries}
use Rattle.format.proofs.Laws.OlderTables.{put_size, amend_size, amend_length}
use Rattle.format.proofs.Laws.OlderSorted.{puts, one_change}
use Rattle.format.specs.declared.Hint.{Hint}

-- a function's hints, with their zero byte and their count
abbrev pub write_group : Table Hint → List ℕ
write_group hints = 0 ∷ (shortest (size hints) ++ write_older_hints hints)

put_length : (h : OlderHint) (u : Table Hint) → length (write_older_hints (put_first h.offset h.kind u)) ≤ length (hint_bytes h) + length (write_older_hints u)
unfolding put_first write_older_hints hint_bytes kind_bytes
put_length h nil = simp length-append (omega arith)
put_length h (row i w u) =
    by_test (eqb h.offset i)
    (λ e. rw e (omega arith))
    (λ e. by_test (ltb h.offset i)
    (λ c. rw (e, c) (simp length-append (omega arith)))
    (λ c. rw (e, c) (simp length-append (omega (arith, simp length-append at (put_length h u))))))

puts_size : (hs : List OlderHint) (u : Table Hint) → size (puts hs u) ≤ size u + length hs
unfolding puts
puts_size [] u = omega arith
puts_size (h ∷ hs) u = omega (arith, puts_size hs (put_first h.offset h.kind u), put_size h.offset h.kind u)

puts_length : (hs : List OlderHint) (u : Table Hint) → length (write_older_hints (puts hs u)) ≤ length (write_older_hints u) + length (write_each hint_bytes hs)
unfolding puts write_each
puts_length [] u = omega arith
puts_length (h ∷ hs) u = simp length-append (omega (arith, puts_length hs (put_first h.offset h.kind u), put_length h u))

-- joined with what is there, an entry's hints take no more than before, their count too
group_length : (hs : List OlderHint) (u : Table Hint) → length (write_group (puts hs u)) ≤ length (write_group u) + suc (length (write_vector hint_bytes hs))
unfolding write_vector
group_length hs u = simp length-append (omega (arith, shortest_mono (size (puts hs u)) (size u + length hs) (puts_size hs u), shortest_sum (size u) (length hs), puts_length hs u))

new_length : (hs : List OlderHint) → length (write_group (puts hs nil)) ≤ suc (length (write_vector hint_bytes hs))
unfolding write_vector size write_older_hints
new_length hs = simp length-append (omega (arith, shortest_mono (size (puts hs nil)) (length hs) (omega (arith, puts_size hs nil)), puts_length hs nil))

with_length : (f : ℕ) (hs : List OlderHint) (t : Table (Table Hint)) → length (write_rows write_group (with_hints f hs t)) ≤ length (shortest f) + suc (length (write_vector hint_bytes hs)) + length (write_rows write_group t)
unfolding with_hints
with_length f [] t = omega arith
with_length f (h ∷ hs) t = rw (one_change f h hs t) (amend_length f (puts (h ∷ hs)) write_group (suc (length (write_vector hint_bytes (h ∷ hs)))) (new_length (h ∷ hs)) (group_length (h ∷ hs)) t)

with_size : (f : ℕ) (hs : List OlderHint) (t : Table (Table Hint)) → size (with_hints f hs t) ≤ suc (size t)
unfolding with_hints
with_size f [] t = omega arith
with_size f (h ∷ hs) t = rw (one_change f h hs t) (amend_size f (puts (h ∷ hs)) t)

from_length : (es : List OlderEntry) (t : Table (Table Hint)) → length (write_rows write_group (sorted_from t es)) ≤ length (write_each entry_bytes es) + length (write_rows write_group t)
unfolding sorted_from write_each entry_bytes
from_length [] t = omega arith
from_length (e ∷ es) t = simp length-append (omega (arith, from_length es (with_hints e.function e.hints t), with_length e.function e.hints t))

from_size : (es : List OlderEntry) (t : Table (Table Hint)) → size (sorted_from t es) ≤ length es + size t
unfolding sorted_from
from_size [] t = omega arith
from_size (e ∷ es) t = omega (arith, from_size es (with_hints e.function e.hints t), with_size e.function e.hints t)

pub sorted_shorter : (es : List OlderEntry) → length (write_older (sorted_from nil es)) ≤ length (write_entries es)
unfolding write_older write_table write_vector write_rows size
sorted_shorter es = simp length-append (omega (arith, shortest_mono (size (sorted_from nil es)) (length es) (omega (arith, from_size es nil)), from_length es nil))
