-- The loops that list: how many rows there are, and what was put of them so far.
use Prim.Native.Nat.{ℕ, ◌+◌, ◌-◌, ◌^◌, ◌≤◌, ◌<◌}
use mathlib.Core.Bool.{Bool, true, false, cond, ◌&&◌}
use mathlib.Core.List.{List, [], ◌∷◌, ◌++◌, append_assoc, append-nil}
use mathlib.Core.Path.{◌≡◌, refl, sym, ap, ◌∙◌}
use native.Mathlib.Nat.{zero-add}
use native.Mathlib.Numerals.{add-one}
use native.Mathlib.Omega.{arith}
use borrow.Author.Rules.{rules}
use lib.ListN.{length, set, length-append, length-map, length-set}
use Rattle.copying.specs.declared.Put.{Put}
use Rattle.format.specs.Entries.{Listed, older_columns}
use Rattle.format.specs.Numbers.{number}
use Rattle.format.specs.Older.{OlderHint, OlderEntry, kind_number, times, older_hint, older_entry}
use Rattle.format.specs.OlderInOrder.{rising_entries, hints_bytes, entries_bytes}
use Rattle.format.specs.Reading.{Reader}
use Rattle.format.proofs.Laws.OlderEntries.{kind_numbered_lem}
use Rattle.format.specs.declared.Hint.{Hint}
use Rattle.older.specs.Again.{hint_of, StandsHint}
use Rattle.older.specs.Seeking.{opening}
use Rattle.older.specs.declared.again.HintHere.{HintHere}
use Rattle.older.proofs.Along.{Along, Onward, setting_out, first_known, ended, onward}
use Rattle.older.proofs.ReadAgain.{hint_passable, entry_passable, entry_count, entry_hints, entry_stands}
use Rattle.reading.specs.Standing.{Stands, Known}
use Rattle.reading.specs.declared.Cursor.{Cursor}
use Rattle.reading.proofs.Standing.{Passable}
use Rattle.writing.specs.Columns.{Room, another, Columns, column, no_column}
use Rattle.writing.specs.Wrote.{Wrote}
use Rattle.writing.proofs.Columns.{less_room, same_room, no_rows_put, columns_join}
use Rattle.writing.proofs.Laws.{wrote_byte, wrote_length}
use Rattle.in_order.specs.Entries.{still_rising, entry_of}
use Rattle.in_order.specs.Rows.{hints_rows, entries_rows, SurveysRows, StoresRow, FitsRows, PutsRows, PutsAll}
use Rattle.in_order.specs.Standing.{SurveysHints}
use Rattle.in_order.specs.declared.HintSurvey.{HintSurvey}
use Rattle.in_order.proofs.Laws.{hint_length, hints_count, rising_entry, entries_risen, entries_one, entry_bytes_lem, entries_shorter}

-- Rows, one by one
pub hints_no_rows : (f : ℕ) → hints_rows f [] ≡ []
unfolding hints_rows
hints_no_rows f = refl

pub hints_one_row : (f : ℕ) (h : OlderHint) (hs : List OlderHint) → hints_rows f (h ∷ hs) ≡ (record { first = f; second = h.offset; held = h.kind } ∷ []) ++ hints_rows f hs
unfolding hints_rows
hints_one_row f h hs = refl

pub hints_rows_long : (f : ℕ) (hs : List OlderHint) → length (hints_rows f hs) ≡ length hs
unfolding hints_rows
hints_rows_long f [] = refl
hints_rows_long f (h ∷ hs) = rw (hints_rows_long f hs)

pub entries_no_rows : entries_rows [] ≡ []
unfolding entries_rows
entries_no_rows = refl

pub entries_one_row : (f : ℕ) (hs : List OlderHint) (es : List OlderEntry) → entries_rows (record { function = f; hints = hs } ∷ es) ≡ hints_rows f hs ++ entries_rows es
unfolding entries_rows
entries_one_row f hs es = refl

-- there are no more of them than bytes
hints_few : (hs : List OlderHint) → length hs ≤ length (hints_bytes hs)
hints_few [] = omega arith
hints_few (h ∷ hs) = omega (arith, hint_length h hs, hints_few hs)

entry_few : (f : ℕ) (hs : List OlderHint) → length hs ≤ length (entry_of f hs)
entry_few f [] = omega arith
entry_few f (h ∷ hs) = rw (entry_bytes_lem f (h ∷ hs) (λ e. omega (arith, e))) (simp length-append (omega (arith, hints_few (h ∷ hs))))

rows_few : (es : List OlderEntry) → length (entries_rows es) ≤ length (entries_bytes es)
rows_few [] = rw entries_no_rows (omega arith)
rows_few (e ∷ es) =
    let f = e.function in
    let hs = e.hints in
    let rows = ap length (entries_one_row f hs es) ∙ length-append (hints_rows f hs) (entries_rows es) in
    let bytes = ap length (entries_one f hs es) ∙ length-append (entry_of f hs) (entries_bytes es) in
    omega (arith, rows, bytes, hints_rows_long f hs, entry_few f hs, rows_few es)

-- How many
pub record SurveyingRows (n : ℕ) (s : List ℕ) (c next : Cursor) (more : ℕ) (rising : Bool) (least rows : ℕ) : Type 0 where
  pub along : Along older_entry n s c next more
  pub order : cond rising (rising_entries least along.to_come_lem) false ≡ rising_entries 0 along.all
  pub many : rows + length (entries_rows along.to_come_lem) ≡ length (entries_rows along.all)
  pub small : c.end < 2 ^ 64

module _ {n : ℕ} {s : List ℕ} {c : Cursor} where
  pub survey_begun : Known (times older_entry n) s c → c.end < 2 ^ 64 → SurveyingRows n s c c n true 0 0
  survey_begun k h = record { along = setting_out k.stands; order = refl; many = zero-add (length (entries_rows k.value)); small = h }

  module _ {next : Cursor} {more : ℕ} {rising : Bool} {least rows : ℕ} (t : SurveyingRows n s c next more rising least rows) where
    pub survey_known : 0 < more → Known older_entry s next
    survey_known h = first_known t.along entry_passable h

    module _ {f : ℕ} {d : Cursor} (opens : Stands opening s next f d) (h : 0 < more) where
      pub survey_count : Known number s d
      survey_count = entry_count (survey_known h) opens

      module _ {m : ℕ} {e : Cursor} (count : Stands number s d m e) where
        pub survey_hints : Known (times older_hint m) s e
        survey_hints = entry_hints (survey_known h) opens count

        module _ {r : HintSurvey} (w : SurveysHints m s e r) where
          survey_goes_on : SurveyingRows n s c r.next (more - 1) (still_rising (rising && r.rising) least f) (f + 1) (rows + m)
          survey_goes_on =
              let o = onward t.along h (entry_stands opens count w.stands) in
              let rest = o.along.to_come_lem in
              let counted : length (entries_rows t.along.to_come_lem) ≡ m + length (entries_rows rest) = ap length (ap entries_rows o.split ∙ entries_one_row f w.value rest) ∙ simp length-append (rw (hints_rows_long f w.value, hints_count m w.stands)) in
              record {
                along = o.along;
                order = rw (o.same_all, add-one, rising_entry rising r.rising least f w.value rest w.order, ← o.split) t.order;
                many = rw o.same_all (omega (arith, counted, t.many));
                small = t.small;
              }

          pub survey_on : {up : Bool} → up ≡ still_rising (rising && r.rising) least f → SurveyingRows n s c r.next (more - 1) up (f + 1) (rows + m)
          survey_on is = rw is survey_goes_on

          pub rows_fit : rows + m < 2 ^ 64
          rows_fit =
              let u = survey_goes_on in
              let z = u.along.whole in
              omega (arith, u.many, rows_few u.along.all, entries_shorter n z, z.behind.ahead, z.same_end, t.small)

    pub survey_ends : more ≤ 0 → SurveysRows n s c (record { rising = rising; rows = rows; next = next })
    survey_ends h =
        let end = ended t.along h in
        let none : length (entries_rows t.along.to_come_lem) ≡ 0 = rw (end.nothing, entries_no_rows) in
        record {
          value = t.along.all;
          stands = end.stands;
          order = sym (entries_risen rising least) ∙ rw (← end.nothing) t.order;
          many = omega (arith, none, t.many);
        }

pub ruleset surveying_rows = (survey_begun, survey_known, survey_count, survey_hints, rows_fit, survey_on, survey_ends, rules)

-- Three lists: their room, one row, and what is read off of rows that were put
module _ {end : ℕ} {fs os ks : List ℕ} where
  functions_room : Room end (fs ∷ os ∷ ks ∷ []) → end ≤ length fs
  functions_room (another f r) = f

  offsets_room : Room end (fs ∷ os ∷ ks ∷ []) → end ≤ length os
  offsets_room (another f (another o r)) = o

  likely_room : Room end (fs ∷ os ∷ ks ∷ []) → end ≤ length ks
  likely_room (another f (another o (another k r))) = k

row_stored : {fs os ks : List ℕ} {at k : ℕ} (e : Listed Hint) → kind_number e.held ≡ k → at < length fs → at < length os → at < length ks → Columns (e ∷ []) at (at + 1) older_columns (fs ∷ os ∷ ks ∷ []) (set fs at e.first ∷ set os at e.second ∷ set ks at k ∷ [])
row_stored {ks = ks} {at} {k} e q f o h =
    let kind : Wrote ks (set ks at k) at (at + 1) (kind_number e.held ∷ []) = rw q (wrote_byte h) in
    column (wrote_byte f) (column (wrote_byte o) (column kind no_column))

module _ {es : List (Listed Hint)} {at next : ℕ} where
  rows_next : {lists lists' : List (List ℕ)} → Columns es at next older_columns lists lists' → next ≡ at + length es
  rows_next (column w c) = w.next_is ∙ ap (λ n. at + n) (length-map es (λ e. e.first))

  module _ {fs os ks fs' os' ks' : List ℕ} where
    functions_long : Columns es at next older_columns (fs ∷ os ∷ ks ∷ []) (fs' ∷ os' ∷ ks' ∷ []) → length fs' ≡ length fs
    functions_long (column f c) = wrote_length f

    offsets_long : Columns es at next older_columns (fs ∷ os ∷ ks ∷ []) (fs' ∷ os' ∷ ks' ∷ []) → length os' ≡ length os
    offsets_long (column f (column o c)) = wrote_length o

    likely_long : Columns es at next older_columns (fs ∷ os ∷ ks ∷ []) (fs' ∷ os' ∷ ks' ∷ []) → length ks' ≡ length ks
    likely_long (column f (column o (column k c))) = wrote_length k

-- What was put of a list on the way through it, whatever it is a list of
pub record PuttingRows {A : Type 0} (read : Reader A) (rows : List A → List (Listed Hint)) (n : ℕ) (s : List ℕ) (c : Cursor) (lists : List (List ℕ)) (start : ℕ) (lists' : List (List ℕ)) (at : ℕ) (next : Cursor) (more : ℕ) : Type 0 where
  pub along : Along read n s c next more
  pub done : List (Listed Hint)
  pub so_far : Columns done start at older_columns lists lists'
  pub joined : done ++ rows along.to_come_lem ≡ rows along.all
  pub room : Room (start + length (rows along.all)) lists

module _ {A : Type 0} {read : Reader A} {rows : List A → List (Listed Hint)} {n : ℕ} {s : List ℕ} {c : Cursor} {lists : List (List ℕ)} {start : ℕ} where
  pub put_begun : FitsRows (times read n) rows s c lists start → length older_columns ≡ length lists → PuttingRows read rows n s c lists start lists start c n
  put_begun f e = record { along = setting_out f.stands; done = []; so_far = no_rows_put older_columns e (less_room f.room (omega arith)); joined = refl; room = f.room }

  module _ {lists' : List (List ℕ)} {at : ℕ} {next : Cursor} {more : ℕ} (t : PuttingRows read rows n s c lists start lists' at next more) where
    pub put_known : Passable read → 0 < more → Known read s next
    put_known passes h = first_known t.along passes h

    -- the next one, by its rows
    module _ {v : A} {behind : Cursor} (o : Onward t.along v behind) (its : List (Listed Hint)) (split : rows (v ∷ o.along.to_come_lem) ≡ its ++ rows o.along.to_come_lem) where
      put_joined : (t.done ++ its) ++ rows o.along.to_come_lem ≡ rows t.along.all
      put_joined = append_assoc t.done its (rows o.along.to_come_lem) ∙ rw (← (ap rows o.split ∙ split)) t.joined

      put_room : Room (at + length its) lists'
      put_room =
          let lengths : length t.done + length its + length (rows o.along.to_come_lem) ≡ length (rows t.along.all) = sym (simp length-append) ∙ ap length put_joined in
          same_room t.so_far (less_room t.room (omega (arith, lengths, rows_next t.so_far)))

      put_more : {lists'' : List (List ℕ)} {place : ℕ} → Columns its at place older_columns lists' lists'' → PuttingRows read rows n s c lists start lists'' place behind (more - 1)
      put_more w = record {
        along = o.along;
        done = t.done ++ its;
        so_far = columns_join t.so_far w;
        joined = rw o.same_all put_joined;
        room = rw o.same_all t.room;
      }

    put_end : rows [] ≡ [] → more ≤ 0 → PutsRows (times read n) rows s c lists lists' start (record { at = at; next = next })
    put_end none h =
        let end = ended t.along h in
        let all : rows t.along.all ≡ t.done = sym t.joined ∙ rw (end.nothing, none) (append-nil t.done) in
        record { value = t.along.all; stands = end.stands; put = rw all t.so_far }

-- the lists are as long as before
module _ {A : Type 0} {read : Reader A} {rows : List A → List (Listed Hint)} {n : ℕ} {s : List ℕ} {c : Cursor} {start : ℕ} {fs os ks fs' os' ks' : List ℕ} {at : ℕ} {next : Cursor} {more : ℕ} (t : PuttingRows read rows n s c (fs ∷ os ∷ ks ∷ []) start (fs' ∷ os' ∷ ks' ∷ []) at next more) where
  pub put_functions : length fs' ≡ length fs
  put_functions = functions_long t.so_far

  pub put_offsets : length os' ≡ length os
  put_offsets = offsets_long t.so_far

  pub put_likely : length ks' ≡ length ks
  put_likely = likely_long t.so_far

-- One row
module _ {fs os ks : List ℕ} (at : ℕ) (room : Room (at + 1) (fs ∷ os ∷ ks ∷ [])) where
  pub in_functions : at < length fs
  in_functions = omega (arith, functions_room room)

  pub in_offsets : at < length os
  in_offsets = omega (arith, offsets_room room)

  pub in_likely : at < length ks
  in_likely = omega (arith, likely_room room)

  pub next_fits : length fs < 2 ^ 64 → at + 1 < 2 ^ 64
  next_fits l = omega (arith, in_functions, l)

  pub row_put : (f o k : ℕ) → StoresRow at f o k (fs ∷ os ∷ ks ∷ []) (set fs at f ∷ set os at o ∷ set ks at k ∷ []) (at + 1)
  row_put f o k = record { next_is = refl; stored = λ x e. row_stored (record { first = f; second = o; held = x }) e in_functions in_offsets in_likely }

pub ruleset listing_row = (in_functions, in_offsets, in_likely, next_fits, row_put, length-set, rules)

-- Hints
module _ (f : ℕ) {n : ℕ} {s : List ℕ} {c : Cursor} {lists lists' : List (List ℕ)} {start at : ℕ} {next : Cursor} {more : ℕ} (t : PuttingRows older_hint (hints_rows f) n s c lists start lists' at next more) where
  module _ {r : HintHere} (here : StandsHint s next r) (h : 0 < more) where
    hint_ahead : Onward t.along (hint_of r) r.next
    hint_ahead = onward t.along h here.stands

    abbrev its_row : Listed Hint
    its_row = record { first = f; second = r.offset; held = (hint_of r).kind }

    hint_split : hints_rows f (hint_of r ∷ hint_ahead.along.to_come_lem) ≡ (its_row ∷ []) ++ hints_rows f hint_ahead.along.to_come_lem
    hint_split = hints_one_row f (hint_of r) hint_ahead.along.to_come_lem

    pub hint_room : Room (at + 1) lists'
    hint_room = put_room t hint_ahead (its_row ∷ []) hint_split

    pub hint_put : {lists'' : List (List ℕ)} {to : ℕ} → StoresRow at f r.offset r.kind lists' lists'' to → PuttingRows older_hint (hints_rows f) n s c lists start lists'' to r.next (more - 1)
    hint_put w = put_more t hint_ahead (its_row ∷ []) hint_split (w.stored (hint_of r).kind (kind_numbered_lem r.kind here.known_kind_lem))

  pub hint_rows_end : more ≤ 0 → PutsRows (times older_hint n) (hints_rows f) s c lists lists' start (record { at = at; next = next })
  hint_rows_end h = put_end t (hints_no_rows f) h

pub ruleset listing_hints = (put_begun, put_known, hint_passable, hint_room, hint_put, put_functions, put_offsets, put_likely, hint_rows_end, rules)

-- Entries
module _ {n : ℕ} {s : List ℕ} {c : Cursor} {lists lists' : List (List ℕ)} {at : ℕ} {next : Cursor} {more : ℕ} (t : PuttingRows older_entry entries_rows n s c lists 0 lists' at next more) where
  module _ {f : ℕ} {d : Cursor} (opens : Stands opening s next f d) (h : 0 < more) where
    pub rows_count : Known number s d
    rows_count = entry_count (put_known t entry_passable h) opens

    module _ {m : ℕ} {e : Cursor} (count : Stands number s d m e) where
      entry_ahead : {hs : List OlderHint} {behind : Cursor} → Stands (times older_hint m) s e hs behind → Onward t.along (record { function = f; hints = hs }) behind
      entry_ahead w = onward t.along h (entry_stands opens count w)

      pub entry_room : FitsRows (times older_hint m) (hints_rows f) s e lists' at
      entry_room =
          let k = entry_hints (put_known t entry_passable h) opens count in
          let o = entry_ahead k.stands in
          record { value = k.value; next = k.next; stands = k.stands; room = put_room t o (hints_rows f k.value) (entries_one_row f k.value o.along.to_come_lem) }

      pub entry_put : {lists'' : List (List ℕ)} {r : Put} → PutsRows (times older_hint m) (hints_rows f) s e lists' lists'' at r → PuttingRows older_entry entries_rows n s c lists 0 lists'' r.at r.next (more - 1)
      entry_put p = let o = entry_ahead p.stands in put_more t o (hints_rows f p.value) (entries_one_row f p.value o.along.to_come_lem) p.put

  pub entry_rows_end : more ≤ 0 → PutsAll n s c lists lists'
  entry_rows_end h =
      let p = put_end t entries_no_rows h in
      let is : at ≡ length (entries_rows p.value) = rows_next p.put ∙ zero-add (length (entries_rows p.value)) in
      record { value = p.value; next = next; stands = p.stands; put = rw (← is) p.put }

pub ruleset listing_entries = (put_begun, put_known, entry_passable, rows_count, entry_room, entry_put, put_functions, put_offsets, put_likely, entry_rows_end, rules)
