-- The loops that write: what is written so far, and what is still to come.
use Prim.Native.Nat.{ℕ, ◌+◌, ◌-◌, ◌≤◌, ◌<◌}
use mathlib.Core.List.{List, [], ◌∷◌, ◌++◌, append_assoc, append-nil}
use mathlib.Core.Path.{◌≡◌, refl, sym, ap, ◌∙◌}
use native.Mathlib.Omega.{arith}
use borrow.Author.Rules.{rules}
use lib.ListN.{length, length-append}
use Rattle.format.specs.Numbers.{number, shortest}
use Rattle.format.specs.Reading.{Reader}
use Rattle.format.specs.Older.{OlderHint, times, older_hint, older_entry}
use Rattle.format.specs.OlderInOrder.{hints_bytes, entries_bytes}
use Rattle.reading.specs.Standing.{Stands, Known}
use Rattle.reading.specs.declared.Cursor.{Cursor}
use Rattle.reading.proofs.Standing.{Passable, one_value}
use Rattle.writing.specs.Wrote.{Wrote}
use Rattle.writing.proofs.Laws.{wrote_nothing, wrote_join, wrote_length}
use Rattle.copying.specs.Standing.{Fits, Puts}
use Rattle.copying.specs.declared.Put.{Put}
use Rattle.older.specs.Again.{hint_of, StandsHint}
use Rattle.older.specs.Seeking.{opening}
use Rattle.older.specs.declared.again.HintHere.{HintHere}
use Rattle.older.proofs.ReadAgain.{hint_passable, entry_passable, entry_count, entry_hints, entry_stands}
use Rattle.in_order.specs.Entries.{entry_of}
use Rattle.older.proofs.Along.{Along, Onward, setting_out, first_known, ended, onward}
use Rattle.in_order.proofs.Laws.{hints_nil, hints_one, hints_count, entries_nil, entries_one, entry_nil, entry_bytes_lem}

-- One hint: behind what is written first there is room for what follows it
pub second_room : {old mid : List ℕ} {at next : ℕ} {first : List ℕ} (second : ℕ) → Wrote old mid at next first → at + length first + second ≤ length old → next + second ≤ length mid
second_room second w h = omega (arith, w.next_is, wrote_length w)

pub ruleset putting_hint = (second_room, wrote_join, wrote_length, rules)

-- What is written of a list on the way through it, whatever it is a list of
pub record Putting {A : Type 0} (read : Reader A) (write : List A → List ℕ) (n : ℕ) (s : List ℕ) (c : Cursor) (old : List ℕ) (start : ℕ) (new : List ℕ) (at : ℕ) (next : Cursor) (more : ℕ) : Type 0 where
  pub along : Along read n s c next more
  pub done : List ℕ
  pub so_far : Wrote old new start at done
  pub joined : done ++ write along.to_come_lem ≡ write along.all
  pub room : start + length (write along.all) ≤ length old

module _ {A : Type 0} {read : Reader A} {write : List A → List ℕ} {n : ℕ} {s : List ℕ} {c : Cursor} {old : List ℕ} {start : ℕ} where
  pub put_begun : Fits (times read n) write s c old start → Putting read write n s c old start old start c n
  put_begun f = record { along = setting_out f.stands; done = []; so_far = wrote_nothing (omega (arith, f.room)); joined = refl; room = f.room }

  module _ {new : List ℕ} {at : ℕ} {next : Cursor} {more : ℕ} (t : Putting read write n s c old start new at next more) where
    pub put_known : Passable read → 0 < more → Known read s next
    put_known passes h = first_known t.along passes h

    pub put_same_length : length new ≡ length old
    put_same_length = wrote_length t.so_far

    -- the next one, by its bytes
    module _ {v : A} {behind : Cursor} (o : Onward t.along v behind) (bytes : List ℕ) (split : write (v ∷ o.along.to_come_lem) ≡ bytes ++ write o.along.to_come_lem) where
      put_joined : (t.done ++ bytes) ++ write o.along.to_come_lem ≡ write t.along.all
      put_joined = append_assoc t.done bytes (write o.along.to_come_lem) ∙ rw (← (ap write o.split ∙ split)) t.joined

      put_room : at + length bytes ≤ length new
      put_room =
          let lengths : length t.done + length bytes + length (write o.along.to_come_lem) ≡ length (write t.along.all) = sym (simp length-append) ∙ ap length put_joined in
          omega (arith, lengths, t.room, t.so_far.next_is, wrote_length t.so_far)

      put_more : {after : List ℕ} {place : ℕ} → Wrote new after at place bytes → Putting read write n s c old start after place behind (more - 1)
      put_more w = record {
        along = o.along;
        done = t.done ++ bytes;
        so_far = wrote_join t.so_far w;
        joined = rw o.same_all put_joined;
        room = rw o.same_all t.room;
      }

    put_end : write [] ≡ [] → more ≤ 0 → Puts (times read n) write s c old new start (record { at = at; next = next })
    put_end none h =
        let end = ended t.along h in
        let nothing : write t.along.to_come_lem ≡ [] = rw (end.nothing, none) in
        let done_is : t.done ≡ write t.along.all = sym (append-nil t.done) ∙ rw (← nothing) t.joined in
        record { value = t.along.all; stands = end.stands; wrote = rw done_is at t.so_far }

-- Hints
module _ {n : ℕ} {s : List ℕ} {c : Cursor} {old : List ℕ} {start : ℕ} {new : List ℕ} {at : ℕ} {next : Cursor} {more : ℕ} (t : Putting older_hint hints_bytes n s c old start new at next more) where
  module _ {r : HintHere} (here : StandsHint s next r) (h : 0 < more) where
    -- the hint that is to be written, and what comes behind it
    hint_ahead : Onward t.along (hint_of r) r.next
    hint_ahead = onward t.along h here.stands

    hint_split : hints_bytes (hint_of r ∷ hint_ahead.along.to_come_lem) ≡ (shortest r.kind ++ shortest r.offset) ++ hints_bytes hint_ahead.along.to_come_lem
    hint_split = let rest = hint_ahead.along.to_come_lem in hints_one r.offset rest here.known_kind_lem ∙ sym (append_assoc (shortest r.kind) (shortest r.offset) (hints_bytes rest))

    pub hint_room : at + length (shortest r.kind) + length (shortest r.offset) ≤ length new
    hint_room = let e = length-append (shortest r.kind) (shortest r.offset) in omega (arith, put_room t hint_ahead (shortest r.kind ++ shortest r.offset) hint_split, e)

    pub hints_more : {after : List ℕ} {place : ℕ} → Wrote new after at place (shortest r.kind ++ shortest r.offset) → Putting older_hint hints_bytes n s c old start after place r.next (more - 1)
    hints_more w = put_more t hint_ahead (shortest r.kind ++ shortest r.offset) hint_split w

  pub hints_end : more ≤ 0 → Puts (times older_hint n) hints_bytes s c old new start (record { at = at; next = next })
  hints_end h = put_end t hints_nil h

pub ruleset putting_hints = (put_begun, put_known, hint_passable, hint_room, hints_more, put_same_length, hints_end, wrote_length, rules)

-- One entry
module _ (f m : ℕ) {s : List ℕ} {c : Cursor} {old : List ℕ} {at : ℕ} (fits : Fits (times older_hint m) (entry_of f) s c old at) where
  pub entry_left_out : m ≡ 0 → Puts (times older_hint m) (entry_of f) s c old old at (record { at = at; next = c })
  entry_left_out e =
      let end = ended (setting_out fits.stands) (omega arith) in
      let nothing : entry_of f fits.value ≡ [] = rw end.nothing (entry_nil f) in
      record { value = fits.value; stands = end.stands; wrote = rw nothing (wrote_nothing (omega (arith, fits.room))) }

  module _ (h : m ≡ 0 → ⊥) where
    bytes : entry_of f fits.value ≡ shortest f ++ ((0 ∷ []) ++ (shortest m ++ hints_bytes fits.value))
    bytes = let count = hints_count m fits.stands in entry_bytes_lem f fits.value (λ q. h (sym count ∙ q)) ∙ rw count

    long : length (entry_of f fits.value) ≡ length (shortest f) + (1 + (length (shortest m) + length (hints_bytes fits.value)))
    long = ap length bytes ∙ simp length-append (omega arith)

    pub function_room : at + length (shortest f) ≤ length old
    function_room = omega (arith, fits.room, long)

    module _ {mid : List ℕ} {zero : ℕ} (u : Wrote old mid at zero (shortest f)) where
      pub zero_room : zero < length mid
      zero_room = omega (arith, fits.room, long, u.next_is, wrote_length u)

      module _ {mid' : List ℕ} {size : ℕ} (v : Wrote mid mid' zero size (0 ∷ [])) where
        pub count_room : size + length (shortest m) ≤ length mid'
        count_room = omega (arith, fits.room, long, u.next_is, wrote_length u, v.next_is, wrote_length v)

        module _ {mid'' : List ℕ} {from : ℕ} (w : Wrote mid' mid'' size from (shortest m)) where
          pub hints_room : Fits (times older_hint m) hints_bytes s c mid'' from
          hints_room = record { value = fits.value; next = fits.next; stands = fits.stands; room = omega (arith, fits.room, long, u.next_is, wrote_length u, v.next_is, wrote_length v, w.next_is, wrote_length w) }

          pub entry_put : {new : List ℕ} {r : Put} → Puts (times older_hint m) hints_bytes s c mid'' new from r → Puts (times older_hint m) (entry_of f) s c old new at r
          entry_put p =
              let same : fits.value ≡ p.value = one_value fits.stands p.stands in
              record { value = fits.value; stands = rw same p.stands; wrote = rw bytes (wrote_join u (wrote_join v (wrote_join w (rw same p.wrote)))) }

pub ruleset putting_entry = (entry_left_out, function_room, zero_room, count_room, hints_room, entry_put, wrote_length, rules)

-- Entries
module _ {n : ℕ} {s : List ℕ} {c : Cursor} {old : List ℕ} {start : ℕ} {new : List ℕ} {at : ℕ} {next : Cursor} {more : ℕ} (t : Putting older_entry entries_bytes n s c old start new at next more) where
  module _ {f : ℕ} {d : Cursor} (opens : Stands opening s next f d) (h : 0 < more) where
    pub count_known : Known number s d
    count_known = entry_count (put_known t entry_passable h) opens

    module _ {m : ℕ} {e : Cursor} (count : Stands number s d m e) where
      -- the entry that is to be written, and what comes behind it
      entry_ahead : {hs : List OlderHint} {behind : Cursor} → Stands (times older_hint m) s e hs behind → Onward t.along (record { function = f; hints = hs }) behind
      entry_ahead w = onward t.along h (entry_stands opens count w)

      pub entry_room : Fits (times older_hint m) (entry_of f) s e new at
      entry_room =
          let k = entry_hints (put_known t entry_passable h) opens count in
          let o = entry_ahead k.stands in
          record { value = k.value; next = k.next; stands = k.stands; room = put_room t o (entry_of f k.value) (entries_one f k.value o.along.to_come_lem) }

      pub entries_more : {after : List ℕ} {r : Put} → Puts (times older_hint m) (entry_of f) s e new after at r → Putting older_entry entries_bytes n s c old start after r.at r.next (more - 1)
      entries_more p = let o = entry_ahead p.stands in put_more t o (entry_of f p.value) (entries_one f p.value o.along.to_come_lem) p.wrote

  pub entries_end : more ≤ 0 → Puts (times older_entry n) entries_bytes s c old new start (record { at = at; next = next })
  entries_end h = put_end t entries_nil h

pub ruleset putting_entries = (put_begun, put_known, entry_passable, count_known, entry_room, entries_more, put_same_length, entries_end, wrote_length, rules)
