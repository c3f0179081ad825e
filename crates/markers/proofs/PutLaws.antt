-- The loop that puts markers: every sixteenth entry, into both lists.
use Prim.Native.Nat.{ℕ, zero, suc, ◌+◌, ◌*◌, ◌-◌, ◌/◌, ◌^◌, ◌≤◌, ◌<◌}
use mathlib.Core.List.{List, [], ◌∷◌, ◌++◌, map, map-append}
use mathlib.Core.Path.{◌≡◌, refl, sym, ap, ◌∙◌}
use native.Mathlib.Omega.{arith}
use borrow.Author.Rules.{rules}
use lib.ListN.{length, set, length-set, length-map, length-append}
use lib.Seq.{append_snoc}
use Rattle.format.specs.Reading.{got}
use Rattle.format.specs.Numbers.{number, limit32}
use Rattle.format.specs.Parts.{Part, sized}
use Rattle.format.specs.Tables.{rows}
use Rattle.format.specs.Markers.{Entry, entries, thinned}
use Rattle.format.specs.Laws.Outcomes.{got_value, got_next, got_rest}
use Rattle.format.proofs.Laws.MarkerEntries.{in_entry, in_entries, rows_entries, thinned_first, thinned_passed, thinned_none, markers_count}
use Rattle.reading.specs.Cursors.{left as left_of}
use Rattle.reading.specs.Standing.{Stands, Known}
use Rattle.reading.specs.declared.Cursor.{Cursor}
use Rattle.tables.specs.declared.stepping.Rows.{Rows}
use Rattle.tables.proofs.Accepted.{known_index}
use Rattle.writing.specs.Wrote.{Wrote}
use Rattle.writing.proofs.Laws.{wrote_nothing, wrote_byte, wrote_length, wrote_join}
use Rattle.markers.specs.Making.{Room, PutsAll}
use Rattle.markers.specs.Passing.{SixteenOn}
use Rattle.markers.proofs.PassLaws.{known_from}

-- Entries behind entries: how many there are, and what is behind the first of them
entries_count : (n o : ℕ) (bs : List ℕ) {es : List Entry} {o' : ℕ} {rest : List ℕ} → entries n o bs ≡ got es o' rest → length es ≡ n
unfolding entries
entries_count zero o bs e = ap length (sym (got_value e))
entries_count (suc n) o bs e =
    in_entries n o bs e λ x o₁ r₁ more e₁ e₂ is.
    rw (← is) (ap suc (entries_count n o₁ r₁ e₂))

-- rows are entries
pub as_entries : (n : ℕ) {s : List ℕ} {c : Cursor} → Known (rows sized n 0) s c → Known (entries n) s c
as_entries n {s} {c} w =
    let all = w.stands in
    let e = rows_entries n 0 c.at (left_of s c) all.reads in
    record { value = e.all; next = w.next; stands = record { inside = all.inside; reads = e.reads; behind = all.behind; same_end = all.same_end } }

-- and every sixteenth of so many is a marker
pub marks_of : (n : ℕ) {s : List ℕ} {c last : Cursor} {es : List Entry} → Stands (entries n) s c es last → length (thinned 0 es) ≡ (n + 15) / 16
marks_of n {s} {c} {es = es} w = markers_count es ∙ rw (entries_count n c.at (left_of s c) w.reads)

record Others (n o : ℕ) (bs : List ℕ) (xs es : List Entry) (o' : ℕ) (rest : List ℕ) : Type 0 where
  others : List Entry
  reads : entries n o bs ≡ got others o' rest
  is : es ≡ xs ++ others

entries_split : (a n o : ℕ) (bs : List ℕ) {xs es : List Entry} {o₁ o' : ℕ} {r₁ rest : List ℕ} → a ≤ n → entries a o bs ≡ got xs o₁ r₁ → entries n o bs ≡ got es o' rest → Others (n - a) o₁ r₁ xs es o' rest
unfolding entries
entries_split zero n o bs h f g =
    let all : n - 0 ≡ n = omega arith in
    rw (all, ← got_value f, ← got_next f, ← got_rest f) (record { others = _; reads = g; is = refl })
entries_split (suc a) zero o bs h f g = absurd (omega arith)
entries_split (suc a) (suc n) o bs h f g =
    in_entries a o bs f λ x p r xs e₁ e₂ is.
    in_entries n o bs g λ y q t ys e₃ e₄ is'.
    let same = sym e₃ ∙ e₁ in
    let more = entries_split a n p r (omega arith) e₂ (rw (got_next same, got_rest same) at e₄) in
    let fewer : suc n - suc a ≡ n - a = omega arith in
    rw (fewer, ← is, ← is', got_value same) (record { others = more.others; reads = more.reads; is = ap (λ l. x ∷ l) more.is })

-- The first of the entries that stand there: its index is the number that does
abbrev marker : (v o : ℕ) → Part → Entry
marker v o text = record { index = v; offset = o; text = text }

record Led (v o : ℕ) (es : List Entry) : Type 0 where
  text : Part
  others : List Entry
  is : es ≡ marker v o text ∷ others

module _ {s : List ℕ} {c d last : Cursor} {v : ℕ} {es : List Entry} (i : Stands number s c v d) where
  led : (n : ℕ) → 0 < n → Stands (entries n) s c es last → Led v c.at es
  led zero h w = absurd (omega arith)
  led (suc n) h w =
      in_entries n c.at (left_of s c) w.reads λ e o₁ r₁ more e₁ e₂ is.
      in_entry c.at (left_of s c) e₁ λ k o₂ r₂ text e₃ e₄ is'.
      record { text = text; others = more; is = sym is ∙ rw (← is', got_value (sym e₃ ∙ i.reads)) }

index_known : {s : List ℕ} {c : Cursor} (n : ℕ) → 0 < n → Known (rows sized n 0) s c → Known number s c
index_known zero h w = absurd (omega arith)
index_known (suc n) h w = known_index sized n 0 w.stands

-- The first of all entries is a marker, and fifteen are passed over behind it
led_marks : {v o : ℕ} {es : List Entry} (l : Led v o es) → thinned 0 es ≡ marker v o l.text ∷ thinned 15 l.others
led_marks l = ap (thinned 0) l.is ∙ thinned_first _ l.others

-- Whenever the loop is at its beginning: some were put, and those of the entries to come are to be put
pub record Putting (s : List ℕ) (all : Rows) (is os is' os' : List ℕ) (left : Rows) (k : ℕ) : Type 0 where
  pub its : List Entry
  pub done : List Entry
  pub to_come_lem : List Entry
  pub last : Cursor
  pub whole : Stands (entries all.more) s all.next its last
  pub rest : Stands (entries left.more) s left.next to_come_lem last
  pub marks : thinned 0 its ≡ done ++ thinned 0 to_come_lem
  pub indices : Wrote is is' 0 k (map (λ e. e.index) done)
  pub offsets : Wrote os os' 0 k (map (λ e. e.offset) done)
  pub known : Known (rows sized left.more 0) s left.next
  pub some_there : 0 < left.more
  pub in_indices : length (thinned 0 its) ≤ length is
  pub in_offsets : length (thinned 0 its) ≤ length os
  pub short : length s < limit32

pub putting_first : {s : List ℕ} {all : Rows} {is os : List ℕ} → Room s all is os → Putting s all is os is os all 0
putting_first {all = all} r =
    let e = as_entries all.more r.known in
    let count = marks_of all.more e.stands in
    record {
      its = e.value;
      done = [];
      to_come_lem = e.value;
      last = e.next;
      whole = e.stands;
      rest = e.stands;
      marks = refl;
      indices = wrote_nothing (omega arith);
      offsets = wrote_nothing (omega arith);
      known = r.known;
      some_there = r.some_there;
      in_indices = omega (arith, count, r.in_indices);
      in_offsets = omega (arith, count, r.in_offsets);
      short = r.short;
    }

-- one more in both lists
one_more : {old new : List ℕ} {k : ℕ} (part : Entry → ℕ) (done : List Entry) (e : Entry) → Wrote old new 0 k (map part done) → k < length new → Wrote old (set new k (part e)) 0 (k + 1) (map part (done ++ e ∷ []))
one_more part done e w h = rw (map-append part done (e ∷ [])) (wrote_join w (wrote_byte h))

module _ {s : List ℕ} {all : Rows} {is os is' os' : List ℕ} {left : Rows} {k : ℕ} (t : Putting s all is os is' os' left k) where
  pub put_known : Known number s left.next
  put_known = index_known left.more t.some_there t.known

  module _ {v : ℕ} {d : Cursor} (i : Stands number s left.next v d) where
    first_there : Led v left.next.at t.to_come_lem
    first_there = led i left.more t.some_there t.rest

    room : k < length (thinned 0 t.its)
    room =
        let so_far : k ≡ length t.done = omega (arith, t.indices.next_is, length-map t.done (λ (e : Entry). e.index)) in
        let next = ap length (led_marks first_there) in
        let all_of = ap length t.marks ∙ length-append t.done _ in
        omega (arith, so_far, next, all_of)

    pub indices_lent : k < length is'
    indices_lent = omega (arith, room, t.in_indices, wrote_length t.indices)

    pub offsets_lent : k < length os'
    offsets_lent = omega (arith, room, t.in_offsets, wrote_length t.offsets)

    pub in_words : length is' * 4 < 2 ^ 63 → k * 4 < 2 ^ 64
    in_words h = omega (arith, indices_lent, h)

    pub k_fits : length is' < 2 ^ 64 → k + 1 < 2 ^ 64
    k_fits h = omega (arith, indices_lent, h)

    -- with the next marker
    module _ (text : Part) where
      put_indices : Wrote is (set is' k v) 0 (k + 1) (map (λ e. e.index) (t.done ++ marker v left.next.at text ∷ []))
      put_indices = one_more (λ e. e.index) t.done (marker v left.next.at text) t.indices indices_lent

      put_offsets : Wrote os (set os' k left.next.at) 0 (k + 1) (map (λ e. e.offset) (t.done ++ marker v left.next.at text ∷ []))
      put_offsets = one_more (λ e. e.offset) t.done (marker v left.next.at text) t.offsets offsets_lent

    -- where sixteen entries or fewer are left it is the last one
    last_marks : left.more ≤ 16 → thinned 0 t.its ≡ t.done ++ marker v left.next.at first_there.text ∷ []
    last_marks h =
        let count = entries_count left.more left.next.at (left_of s left.next) t.rest.reads in
        let few : length first_there.others ≤ 15 = omega (arith, count, ap length first_there.is, h) in
        t.marks ∙ ap (λ l. t.done ++ l) (led_marks first_there ∙ ap (λ l. marker v left.next.at first_there.text ∷ l) (thinned_none 15 first_there.others few))

    pub put_all : left.more ≤ 16 → PutsAll s all is os (set is' k v) (set os' k left.next.at)
    put_all h =
        let all_are = last_marks h in
        let its_indices = put_indices first_there.text in
        let count : k + 1 ≡ length (t.done ++ marker v left.next.at first_there.text ∷ []) = omega (arith, its_indices.next_is, length-map (t.done ++ marker v left.next.at first_there.text ∷ []) (λ (e : Entry). e.index)) in
        record { its = t.its; last = t.last; stands = t.whole; indices = rw (all_are, ← count) its_indices; offsets = rw (all_are, ← count) (put_offsets first_there.text) }

    -- otherwise the way goes on behind sixteen
    pub put_ahead : Known (rows sized left.more v) s left.next
    put_ahead = known_from left.more t.known i

    module _ {r : Rows} (h : 16 < left.more) (on : SixteenOn s left r) where
      pub put_fewer : r.more < left.more
      put_fewer = omega (arith, on.fewer, h)

      split : Others r.more r.next.at (left_of s r.next) on.passed t.to_come_lem t.last.at (left_of s t.last)
      split = rw on.fewer (entries_split 16 left.more left.next.at (left_of s left.next) (omega (arith, h)) on.stands.reads t.rest.reads)

      passed : Led v left.next.at on.passed
      passed = led i 16 (omega arith) on.stands

      marks_on : thinned 0 t.to_come_lem ≡ marker v left.next.at passed.text ∷ thinned 0 split.others
      marks_on =
          let count = entries_count 16 left.next.at (left_of s left.next) on.stands.reads in
          let fifteen : length passed.others ≡ 15 = omega (arith, count, ap length passed.is) in
          ap (thinned 0) (split.is ∙ ap (λ l. l ++ split.others) passed.is)
          ∙ thinned_first _ _
          ∙ ap (λ l. marker v left.next.at passed.text ∷ l) (thinned_passed 15 passed.others split.others fifteen)

      pub put_on : Putting s all is os (set is' k v) (set os' k left.next.at) r (k + 1)
      put_on = record {
        its = t.its;
        done = t.done ++ marker v left.next.at passed.text ∷ [];
        to_come_lem = split.others;
        last = t.last;
        whole = t.whole;
        rest = record { inside = on.stands.behind; reads = split.reads; behind = t.rest.behind; same_end = t.rest.same_end ∙ sym on.stands.same_end };
        marks = t.marks ∙ ap (λ l. t.done ++ l) marks_on ∙ sym (append_snoc t.done _ _);
        indices = put_indices passed.text;
        offsets = put_offsets passed.text;
        known = on.known;
        some_there = omega (arith, on.fewer, h);
        in_indices = t.in_indices;
        in_offsets = t.in_offsets;
        short = t.short;
      }

  pub put_short : left.next.at < 2 ^ 32
  put_short = let i = t.rest.inside in omega (arith, i.ahead, i.within, t.short)

  pub put_long_indices : (v : ℕ) → length (set is' k v) ≡ length is
  put_long_indices v = length-set is' k v ∙ wrote_length t.indices

  pub put_long_offsets : (v : ℕ) → length (set os' k v) ≡ length os
  put_long_offsets v = length-set os' k v ∙ wrote_length t.offsets

pub ruleset putting = (putting_first, put_known, indices_lent, offsets_lent, in_words, k_fits, put_short, put_long_indices, put_long_offsets, put_all, put_ahead, put_fewer, put_on, rules)
