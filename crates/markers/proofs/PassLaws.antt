-- Entries of an accepted map, passed over.
use Prim.Native.Nat.{ℕ, zero, suc, ◌+◌, ◌*◌, ◌-◌, ◌%◌, ◌^◌, ◌≤◌, ◌<◌}
use mathlib.Core.Bool.{not, false, ◌&&◌}
use mathlib.Core.List.{List, [], ◌∷◌, ◌++◌}
use mathlib.Core.Path.{◌≡◌, refl, sym, ap, ◌∙◌}
use native.Mathlib.Omega.{arith}
use borrow.Author.Rules.{rules}
use borrow.Author.Tests.{le-leb, ltb-true, not-false}
use lib.Dec.{ltb}
use lib.ListN.{length, get_or}
use lib.Seq.{get_or-drop, get_or-take}
use Rattle.format.specs.Reading.{got}
use Rattle.format.specs.Numbers.{number}
use Rattle.format.specs.Parts.{Part, sized}
use Rattle.format.specs.Tables.{Table, rows}
use Rattle.format.specs.Markers.{Entry, entry, entries}
use Rattle.format.specs.Laws.Outcomes.{got_value, got_next, got_rest, on_both}
use Rattle.format.specs.Laws.Turns.{in_row}
use Rattle.format.proofs.Laws.Passing.{number_passes}
use Rattle.format.proofs.Laws.MarkerEntries.{in_entry, in_entries, entry_reads, entry_passes}
use Rattle.reading.specs.Cursors.{left as left_of}
use Rattle.reading.specs.Standing.{Stands, Known, TakesPart}
use Rattle.reading.specs.declared.Cursor.{Cursor}
use Rattle.reading.specs.declared.again.Piece.{Piece}
use Rattle.reading.proofs.AgainSteps.{Going, first_lent, going_first, next_lent, going_on, number_stands, size_known, part_stands}
use Rattle.reading.proofs.Laws.{reached}
use Rattle.reading.proofs.Same.{same_cursor}
use Rattle.reading.proofs.Standing.{stand, one_end}
use Rattle.tables.specs.declared.stepping.Rows.{Rows}
use Rattle.tables.proofs.Accepted.{from_any}
use Rattle.markers.specs.Passing.{Wide, EntryThere, BehindIndex, BehindEntry, Ahead, SixteenOn}
use Rattle.markers.proofs.Widths.{Ends, wide_above, number_ends}

-- An entry: its index stands there, and its text behind that
record Two (s : List ℕ) (c : Cursor) (e : Entry) (next : Cursor) : Type 0 where
  between : Cursor
  index : Stands number s c e.index between
  text : Stands sized s between e.text next

both : {s : List ℕ} {c next : Cursor} {e : Entry} → Stands entry s c e next → Two s c e next
both {s} {c} w =
    in_entry c.at (left_of s c) w.reads λ k o₁ r₁ text e₁ e₂ is.
    let index = stand number_passes w.inside e₁ in
    rw (← is) (record {
      between = record { at = o₁; end = c.end };
      index = index;
      text = record { inside = index.behind; reads = rw (reached number_passes w.inside e₁).left_there at e₂; behind = w.behind; same_end = w.same_end };
    })

-- and an entry from the two
entry_of : {s : List ℕ} {c d : Cursor} {k : ℕ} {p : Piece} → Stands number s c k d → TakesPart s d p → BehindEntry s c p.next
entry_of {s} {c} i t = record { value = _; stands = record { inside = i.inside; reads = entry_reads c.at (left_of s c) i.reads t.stands.reads; behind = t.stands.behind; same_end = t.stands.same_end ∙ i.same_end } }

-- a byte of what a cursor has left is one of what was lent
get_d_left : (s : List ℕ) (c : Cursor) (n : ℕ) → n < c.end - c.at → get_or (left_of s c) n 0 ≡ get_or s (c.at + n) 0
get_d_left s c n h = rw get_or-drop (get_or-take c.end s (c.at + n) 0 (omega arith))

-- An entry with a wide index
module _ {width : ℕ} {s : List ℕ} {c : Cursor} (t : EntryThere width s c) where
  two : Two s c t.value t.next
  two = both t.stands

  ends : Ends width c.at (left_of s c) two.between.at
  ends = number_ends two.index.reads t.wide

  pub index_known : Known number s c
  index_known = record { value = t.value.index; next = two.between; stands = two.index }

  module _ {k : ℕ} {d : Cursor} (i : Stands number s c k d) where
    text_known : Known sized s d
    text_known = record { value = t.value.text; next = t.next; stands = rw (one_end i two.index) two.text }

  pub last_lent : c.at + width < length s
  last_lent = omega (arith, ends.far, two.index.behind.ahead, two.index.behind.within)

  -- a text has a byte at least
  pub behind_lent : c.at + width + 1 < length s
  behind_lent = omega (arith, ends.far, first_lent (size_known (text_known two.index)))

  pub last_fits : length s < 2 ^ 64 → c.at + width < 2 ^ 64
  last_fits h = omega (arith, last_lent, h)

  pub behind_fits : length s < 2 ^ 64 → c.at + width + 1 < 2 ^ 64
  behind_fits h = omega (arith, behind_lent, h)

  -- the index ends where the byte so far on is a last one
  pub index_short : get_or s (c.at + width) 0 < 128 → BehindIndex s c (record { at = c.at + width + 1; end = c.end })
  index_short h =
      let d = two.between in
      let i = two.index in
      let same : get_or (left_of s c) width 0 ≡ get_or s (c.at + width) 0 = get_d_left s c width (omega (arith, ends.far, i.behind.ahead, i.same_end)) in
      let there : d ≡ record { at = c.at + width + 1; end = c.end } = same_cursor d _ (ends.last (rw same h)) i.same_end in
      record { index = t.value.index; stands = rw there at i }

  pub text_there : {d : Cursor} → BehindIndex s c d → Known sized s d
  text_there b = text_known b.stands

  pub whole_entry : {d : Cursor} {p : Piece} → BehindIndex s c d → TakesPart s d p → BehindEntry s c p.next
  whole_entry b p = entry_of b.stands p

pub ruleset one_entry = (index_known, last_lent, last_fits, behind_fits, index_short, text_there, whole_entry, rules)

-- ROWS AHEAD. The first of them is an entry, and the others are behind it
record First (n least : ℕ) (s : List ℕ) (c : Cursor) : Type 0 where
  value : Entry
  next : Cursor
  stands : Stands entry s c value next
  above : least ≤ value.index
  others : Known (rows sized n (suc value.index)) s next

first_of : {n least : ℕ} {s : List ℕ} {c : Cursor} → Known (rows sized (suc n) least) s c → First n least s c
first_of {n} {least} {s} {c} w =
    let whole = w.stands in
    in_row sized n least c.at (left_of s c) whole.reads λ k o₁ r₁ text o₂ r₂ more e₁ above e₂ e₃ is.
    let here = entry_reads c.at (left_of s c) e₁ e₂ in
    let there = stand entry_passes whole.inside here in
    record {
      value = _;
      next = _;
      stands = there;
      above = above;
      others = record {
        value = more;
        next = w.next;
        stands = record { inside = there.behind; reads = rw (reached entry_passes whole.inside here).left_there at e₃; behind = whole.behind; same_end = whole.same_end };
      };
    }

module _ {width : ℕ} {s : List ℕ} {c : Cursor} where
  ahead_there : (n : ℕ) → 0 < n → Ahead width n s c → EntryThere width s c
  ahead_there zero h a = absurd (omega arith)
  ahead_there (suc n) h a = let f = first_of a.known in record { value = f.value; next = f.next; stands = f.stands; wide = wide_above a.wide f.above }

  ahead_behind : {r : Cursor} (n : ℕ) → 0 < n → Ahead width n s c → BehindEntry s c r → Ahead width (n - 1) s r
  ahead_behind zero h a b = absurd (omega arith)
  ahead_behind (suc n) h a b =
      let f = first_of a.known in
      let less : suc n - 1 ≡ n = omega arith in
      rw less (record { least = suc f.value.index; wide = wide_above a.wide (omega (arith, f.above)); known = rw (one_end b.stands f.stands) f.others })

-- one entry behind others
entries_grow : (n o : ℕ) (bs : List ℕ) {es : List Entry} {e : Entry} {o₁ o₂ : ℕ} {r₁ r₂ : List ℕ} → entries n o bs ≡ got es o₁ r₁ → entry o₁ r₁ ≡ got e o₂ r₂ → entries (n + 1) o bs ≡ got (es ++ e ∷ []) o₂ r₂
unfolding entries
entries_grow zero o bs f g = rw (got_next f, got_rest f, g, ← got_value f)
entries_grow (suc n) o bs f g =
    in_entries n o bs f λ e o₁ r₁ more e₁ e₂ is.
    let next : suc n + 1 ≡ suc (n + 1) = omega arith in
    rw (next, e₁, entries_grow n o₁ r₁ e₂ g, ← is)

stands_grow : (n : ℕ) {s : List ℕ} {c d r : Cursor} {es : List Entry} {e : Entry} → Stands (entries n) s c es d → Stands entry s d e r → Stands (entries (n + 1)) s c (es ++ e ∷ []) r
stands_grow n {s} {c} f g = record { inside = f.inside; reads = entries_grow n c.at (left_of s c) f.reads g.reads; behind = g.behind; same_end = g.same_end ∙ f.same_end }

-- Of the rows to come k were passed over, as entries
pub record On (k width : ℕ) (s : List ℕ) (left : Rows) (c : Cursor) : Type 0 where
  pub few : k ≤ 16
  pub many : 16 < left.more
  pub passed : List Entry
  pub stands : Stands (entries k) s left.next passed c
  pub ahead : Ahead width (left.more - k) s c

module _ {width : ℕ} {s : List ℕ} {left : Rows} where
  pub on_first : Ahead width left.more s left.next → 16 < left.more → On 0 width s left left.next
  unfolding entries
  on_first a h =
      let all : left.more - 0 ≡ left.more = omega arith in
      let i = a.known.stands.inside in
      record { few = omega arith; many = h; passed = []; stands = record { inside = i; reads = refl; behind = i; same_end = refl }; ahead = rw all a }

  module _ {k : ℕ} {c : Cursor} (t : On k width s left c) where
    module _ (h : k < 16) where
      pub on_there : EntryThere width s c
      on_there = ahead_there (left.more - k) (omega (arith, t.many)) t.ahead

      pub on_next : {r : Cursor} → BehindEntry s c r → On (k + 1) width s left r
      on_next b =
          let less : left.more - (k + 1) ≡ left.more - k - 1 = omega arith in
          record { few = omega arith; many = t.many; passed = _; stands = stands_grow k t.stands b.stands; ahead = rw less (ahead_behind (left.more - k) (omega (arith, t.many)) t.ahead b) }

    pub on_ended : 16 ≤ k → SixteenOn s left (record { next = c; more = left.more - 16 })
    on_ended h =
        let all : k ≡ 16 = omega (arith, t.few) in
        let a : Ahead width (left.more - 16) s c = rw all at t.ahead in
        let w = a.known in
        record { passed = t.passed; stands = rw all at t.stands; known = record { value = w.value; next = w.next; stands = from_any sized (left.more - 16) a.least w.stands }; fewer = refl }

    pub sixteen_left : 16 ≤ left.more
    sixteen_left = omega (arith, t.many)

pub ruleset one_by_one = (on_first, on_there, on_next, on_ended, sixteen_left, rules)

-- The same where two bytes of an entry tell that its index ends there and its text is short
module _ {width v : ℕ} {s : List ℕ} {left : Rows} (k : Known (rows sized left.more v) s left.next) (w : Wide width v) where
  -- with any width of the first index
  pub ahead_from : Ahead width left.more s left.next
  ahead_from = record { least = v; wide = w; known = k }

  pub short_first : 16 < left.more → On 0 width s left (record { at = left.next.at; end = left.next.end })
  short_first h = on_first ahead_from h

both_small : (a b : ℕ) → not (ltb a 128 && ltb b 128) ≡ false → (a < 128) × (b < 128)
both_small a b e = on_both (ltb a 128) (ltb b 128) (not-false _ e) λ x y. (ltb-true a 128 x, ltb-true b 128 y)

module _ {k width : ℕ} {s : List ℕ} {left : Rows} {at end : ℕ} (t : On k width s left (record { at = at; end = end })) (h : k < 16) where
  there : EntryThere width s (record { at = at; end = end })
  there = on_there t h

  pub at_lent : at + width < length s
  at_lent = last_lent there

  pub length_lent : at + width + 1 < length s
  length_lent = behind_lent there

  module _ (small : length s < 2 ^ 64) where
    pub at_fits : at + width < 2 ^ 64
    at_fits = last_fits there small

    pub length_fits : at + width + 1 < 2 ^ 64
    length_fits = behind_fits there small

    pub text_fits_lem : at + width + 2 < 2 ^ 64
    text_fits_lem = omega (arith, length_lent, small)

  module _ (e : not (ltb (get_or s (at + width) 0) 128 && ltb (get_or s (at + width + 1) 0) 128) ≡ false) where
    short_entry : BehindEntry s (record { at = at; end = end }) (record { at = at + width + 2 + get_or s (at + width + 1) 0; end = end })
    short_entry =
        let (Ends_there, short_text) = both_small (get_or s (at + width) 0) (get_or s (at + width + 1) 0) e in
        let i = index_short there Ends_there in
        let text = text_there there i in
        let size = number_stands (going_first (size_known text) refl) short_text in
        let far : at + width + 1 + 1 + (0 + 1 * get_or s (at + width + 1) 0) ≡ at + width + 2 + get_or s (at + width + 1) 0 = omega arith in
        rw far at (whole_entry there i (part_stands text size))

    pub length_narrow : get_or s (at + width + 1) 0 < 2 ^ 64
    length_narrow = omega (arith, (both_small (get_or s (at + width) 0) (get_or s (at + width + 1) 0) e).1)

    pub on_short : On (k + 1) width s left (record { at = at + width + 2 + get_or s (at + width + 1) 0; end = end })
    on_short = on_next t h short_entry

    pub next_fits : length s < 2 ^ 64 → at + width + 2 + get_or s (at + width + 1) 0 < 2 ^ 64
    next_fits small = let b = short_entry.stands.behind in omega (arith, b.ahead, b.within, small)

pub ruleset in_short = (ahead_from, short_first, length_narrow, at_lent, length_lent, at_fits, length_fits, text_fits_lem, on_short, next_fits, on_ended, sixteen_left, rules)

-- The same where three bytes of an entry tell that its index ends there and its text's length has two bytes
pub long_first : {width : ℕ} {s : List ℕ} {left : Rows} → Ahead width left.more s left.next → 16 < left.more → On 0 width s left (record { at = left.next.at; end = left.next.end })
long_first a h = on_first a h

module _ {k width : ℕ} {s : List ℕ} {left : Rows} {at end : ℕ} (t : On k width s left (record { at = at; end = end })) (h : k < 16) (Ends_there : get_or s (at + width) 0 < 128) where
  long_index : BehindIndex s (record { at = at; end = end }) (record { at = at + width + 1; end = end })
  long_index = index_short (there t h) Ends_there

  long_text : Known sized s (record { at = at + width + 1; end = end })
  long_text = text_there (there t h) long_index

  module _ (followed : 128 ≤ get_or s (at + width + 1) 0) where
    first_byte : Going s (record { at = at + width + 1; end = end }) 0 1 (at + width + 1) (get_or s (at + width + 1) 0)
    first_byte = going_first (size_known long_text) refl

    -- the first says that there is a second
    pub high_lent : at + width + 2 < length s
    high_lent = omega (arith, next_lent first_byte followed)

    pub past_fits : length s < 2 ^ 64 → at + width + 3 < 2 ^ 64
    past_fits small = omega (arith, high_lent, small)

    module _ {high size : ℕ} (last : get_or s (at + width + 2) 0 < 128) (e : high ≡ get_or s (at + width + 2) 0) (f : size ≡ get_or s (at + width + 1) 0 % 128 + 128 * high) where
      -- and the text ends as far behind the second as both say
      long_entry : BehindEntry s (record { at = at; end = end }) (record { at = at + width + 3 + size; end = end })
      long_entry =
          let next : at + width + 1 + 1 ≡ at + width + 2 = omega arith in
          let its_size = number_stands (going_on first_byte followed (ap (λ i. get_or s i 0) (sym next))) last in
          let far : at + width + 1 + 1 + 1 + (0 + 1 * (get_or s (at + width + 1) 0 % 128) + 1 * 128 * get_or s (at + width + 2) 0) ≡ at + width + 3 + size = omega (arith, e, f) in
          rw far at (whole_entry (there t h) long_index (part_stands long_text its_size))

      pub on_long : On (k + 1) width s left (record { at = at + width + 3 + size; end = end })
      on_long = on_next t h long_entry

      pub behind_long_fits : length s < 2 ^ 64 → at + width + 3 + size < 2 ^ 64
      behind_long_fits small = let b = long_entry.stands.behind in omega (arith, b.ahead, b.within, small)

pub ruleset in_long = (long_first, at_lent, length_lent, at_fits, length_fits, text_fits_lem, high_lent, past_fits, on_long, behind_long_fits, on_ended, sixteen_left, rules)

-- Rows have no index below their first one
rows_least : (n : ℕ) (o : ℕ) (bs : List ℕ) {t : Table Part} {k o₁ o' : ℕ} {r₁ rest : List ℕ} → number o bs ≡ got k o₁ r₁ → rows sized n 0 o bs ≡ got t o' rest → rows sized n k o bs ≡ got t o' rest
unfolding rows
rows_least zero o bs e f = f
rows_least (suc n) o bs {k = k} e f =
    in_row sized n 0 o bs f λ k' o₁ r₁ v o₂ r₂ more e₁ above e₂ e₃ is.
    let same : k ≡ k' = got_value (sym e ∙ e₁) in
    rw (e₁, le-leb k k' (omega arith), e₂, e₃, is)

pub known_from : (n : ℕ) {s : List ℕ} {c d : Cursor} {k : ℕ} → Known (rows sized n 0) s c → Stands number s c k d → Known (rows sized n k) s c
known_from n {s} {c} w i =
    let all = w.stands in
    record { value = w.value; next = w.next; stands = record { inside = all.inside; reads = rows_least n c.at (left_of s c) i.reads all.reads; behind = all.behind; same_end = all.same_end } }
