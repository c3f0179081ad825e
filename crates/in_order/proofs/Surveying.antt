-- The loops that survey: what was found so far, and what is still to come.
use Prim.Native.Nat.{ℕ, ◌+◌, ◌-◌, ◌^◌, ◌≤◌, ◌<◌}
use mathlib.Core.Bool.{Bool, true, false, cond, ◌&&◌}
use mathlib.Core.List.{List}
use mathlib.Core.Path.{◌≡◌, refl, sym, ap, ◌∙◌}
use native.Mathlib.Nat.{zero-add}
use native.Mathlib.Numerals.{add-one}
use native.Mathlib.Omega.{arith}
use borrow.Author.Rules.{rules}
use borrow.Author.Tests.{eq-eqb, ne_eqb}
use lib.Dec.{leb}
use lib.ListN.{length, length-append}
use Rattle.format.specs.Numbers.{number, shortest}
use Rattle.format.specs.Older.{times, older_hint, older_entry}
use Rattle.format.specs.OlderInOrder.{rising_hints, rising_entries, hints_bytes, kept_entries, entries_bytes}
use Rattle.reading.specs.Standing.{Stands, Known}
use Rattle.reading.specs.declared.Cursor.{Cursor}
use Rattle.copying.specs.Bytes.{one_if_some}
use Rattle.copying.proofs.Measuring.{shortest_short, none_counts, some_count}
use Rattle.older.specs.Again.{hint_of, StandsHint}
use Rattle.older.specs.Seeking.{opening}
use Rattle.older.specs.declared.again.HintHere.{HintHere}
use Rattle.older.proofs.ReadAgain.{hint_passable, entry_passable, entry_count, entry_hints, entry_stands}
use Rattle.in_order.specs.Entries.{still_rising, entry_length}
use Rattle.in_order.specs.Standing.{SurveysHints, Surveys}
use Rattle.in_order.specs.declared.HintSurvey.{HintSurvey}
use Rattle.older.proofs.Along.{Along, setting_out, first_known, ended, onward}
use Rattle.in_order.proofs.Laws.{rising_hint, hints_risen, hints_nil, hint_length, hints_count, hints_shorter, rising_entry, entries_risen, entries_nil, none_kept, entries_one, kept_one, entry_is, fields_shorter, entries_shorter, entries_few}

-- One number more
module _ {rising : Bool} (least n : ℕ) where
  pub rises_on : rising ≡ true → leb least n ≡ still_rising rising least n
  unfolding still_rising
  rises_on e = rw e

  pub rises_no_more : rising ≡ false → false ≡ still_rising rising least n
  unfolding still_rising
  rises_no_more e = rw e

pub ruleset rising_steps = (rises_on, rises_no_more, rules)

-- Hints
pub record SurveyingHints (n : ℕ) (s : List ℕ) (c next : Cursor) (more : ℕ) (rising : Bool) (least total : ℕ) : Type 0 where
  pub along : Along older_hint n s c next more
  pub order : cond rising (rising_hints least along.to_come_lem) false ≡ rising_hints 0 along.all
  pub so_far : total + length (hints_bytes along.to_come_lem) ≡ length (hints_bytes along.all)
  pub small : c.end < 2 ^ 64

module _ {n : ℕ} {s : List ℕ} {c : Cursor} where
  pub hints_begun : Known (times older_hint n) s c → c.end < 2 ^ 64 → SurveyingHints n s c c n true 0 0
  hints_begun k h = record { along = setting_out k.stands; order = refl; so_far = zero-add (length (hints_bytes k.value)); small = h }

  module _ {next : Cursor} {more : ℕ} {rising : Bool} {least total : ℕ} (t : SurveyingHints n s c next more rising least total) where
    pub hint_known : 0 < more → Known older_hint s next
    hint_known h = first_known t.along hint_passable h

    module _ {r : HintHere} (here : StandsHint s next r) {l : ℕ} (long : l ≡ length (shortest r.offset)) (h : 0 < more) where
      hints_on : SurveyingHints n s c r.next (more - 1) (still_rising rising least r.offset) (r.offset + 1) (total + 1 + l)
      hints_on =
          let o = onward t.along h here.stands in
          let rest = o.along.to_come_lem in
          let bytes : length (hints_bytes t.along.to_come_lem) ≡ 1 + l + length (hints_bytes rest) = ap (λ x. length (hints_bytes x)) o.split ∙ hint_length (hint_of r) rest ∙ rw long in
          record {
            along = o.along;
            order = rw (o.same_all, add-one, rising_hint rising least (hint_of r) rest, ← o.split) t.order;
            so_far = rw o.same_all (omega (arith, bytes, t.so_far));
            small = t.small;
          }

      pub hints_more : {up : Bool} → up ≡ still_rising rising least r.offset → SurveyingHints n s c r.next (more - 1) up (r.offset + 1) (total + 1 + l)
      hints_more is = rw is hints_on

      pub hints_fit : total + 1 + l < 2 ^ 64
      hints_fit =
          let u = hints_on in
          let w = u.along.whole in
          omega (arith, u.so_far, hints_shorter n w, w.behind.ahead, w.same_end, t.small)

    pub kinds_fit : {r : HintHere} → StandsHint s next r → 0 < more → total + 1 < 2 ^ 64
    kinds_fit here h = omega (arith, hints_fit here refl h)

    pub hints_end : more ≤ 0 → SurveysHints n s c (record { rising = rising; length = total; next = next })
    hints_end h =
        let end = ended t.along h in
        let nothing : length (hints_bytes t.along.to_come_lem) ≡ 0 = rw (end.nothing, hints_nil) in
        record {
          value = t.along.all;
          stands = end.stands;
          order = sym (hints_risen rising least) ∙ rw (← end.nothing) t.order;
          long = omega (arith, nothing, t.so_far);
        }

pub ruleset surveying_hints = (hints_begun, hint_known, hints_more, hints_fit, kinds_fit, hints_end, rules)

-- One entry
module _ (function count hints : ℕ) where
  pub entry_left_out : count ≡ 0 → 0 ≡ entry_length function count hints
  unfolding entry_length
  entry_left_out e = rw (eq-eqb count 0 e)

  module _ {a b : ℕ} (p : a ≡ length (shortest function)) (q : b ≡ length (shortest count)) where
    pub entry_stays : (count ≡ 0 → ⊥) → a + 1 + b + hints ≡ entry_length function count hints
    unfolding entry_length
    entry_stays e = rw (ne_eqb count 0 e, p, q)

    pub entry_sum_fits : length (shortest function) + 1 + length (shortest count) + hints < 2 ^ 64 → a + 1 + b + hints < 2 ^ 64
    entry_sum_fits h = omega arith

    pub entry_key_fits : a + 1 + b < 2 ^ 64
    entry_key_fits = omega (arith, shortest_short function, shortest_short count)

pub ruleset one_entry = (entry_left_out, entry_stays, entry_sum_fits, entry_key_fits, none_counts, some_count, rules)

-- Entries
pub record Surveying (n : ℕ) (s : List ℕ) (c next : Cursor) (more : ℕ) (rising : Bool) (least kept total : ℕ) : Type 0 where
  pub along : Along older_entry n s c next more
  pub order : cond rising (rising_entries least along.to_come_lem) false ≡ rising_entries 0 along.all
  pub many : kept + kept_entries along.to_come_lem ≡ kept_entries along.all
  pub so_far : total + length (entries_bytes along.to_come_lem) ≡ length (entries_bytes along.all)
  pub few : n < 2 ^ 32
  pub small : c.end < 2 ^ 64

module _ {n : ℕ} {s : List ℕ} {c : Cursor} where
  pub entries_begun : Known (times older_entry n) s c → n < 2 ^ 32 → c.end < 2 ^ 64 → Surveying n s c c n true 0 0 0
  entries_begun k f h = record { along = setting_out k.stands; order = refl; many = zero-add (kept_entries k.value); so_far = zero-add (length (entries_bytes k.value)); few = f; small = h }

  module _ {next : Cursor} {more : ℕ} {rising : Bool} {least kept total : ℕ} (t : Surveying n s c next more rising least kept total) where
    pub entry_known : 0 < more → Known older_entry s next
    entry_known h = first_known t.along entry_passable h

    module _ {f : ℕ} {d : Cursor} (opens : Stands opening s next f d) (h : 0 < more) where
      pub count_known : Known number s d
      count_known = entry_count (entry_known h) opens

      module _ {m : ℕ} {e : Cursor} (count : Stands number s d m e) where
        pub hints_known : Known (times older_hint m) s e
        hints_known = entry_hints (entry_known h) opens count

        module _ {r : HintSurvey} (w : SurveysHints m s e r) where
          pub entry_sum : length (shortest f) + 1 + length (shortest m) + r.length < 2 ^ 64
          entry_sum = omega (arith, fields_shorter (entry_known h) opens count w.stands, w.long, w.stands.behind.ahead, w.stands.same_end, count.same_end, opens.same_end, t.along.rest.same_end, t.along.whole.same_end, t.small)

          module _ {one : ℕ} (counts : one ≡ one_if_some m) {l : ℕ} (long : l ≡ entry_length f m r.length) where
            entries_on : Surveying n s c r.next (more - 1) (still_rising (rising && r.rising) least f) (f + 1) (kept + one) (total + l)
            entries_on =
                let o = onward t.along h (entry_stands opens count w.stands) in
                let rest = o.along.to_come_lem in
                let number = hints_count m w.stands in
                let counted : kept_entries t.along.to_come_lem ≡ one + kept_entries rest = ap kept_entries o.split ∙ kept_one f w.value rest ∙ rw (number, counts) in
                let bytes : length (entries_bytes t.along.to_come_lem) ≡ l + length (entries_bytes rest) = ap length (ap entries_bytes o.split ∙ entries_one f w.value rest) ∙ simp length-append (rw (entry_is f w.value, number, ← w.long, long)) in
                record {
                  along = o.along;
                  order = rw (o.same_all, add-one, rising_entry rising r.rising least f w.value rest w.order, ← o.split) t.order;
                  many = rw o.same_all (omega (arith, counted, t.many));
                  so_far = rw o.same_all (omega (arith, bytes, t.so_far));
                  few = t.few;
                  small = t.small;
                }

            pub entries_more : {up : Bool} → up ≡ still_rising (rising && r.rising) least f → Surveying n s c r.next (more - 1) up (f + 1) (kept + one) (total + l)
            entries_more is = rw is entries_on

          pub kept_fits : {one : ℕ} → one ≡ one_if_some m → kept + one < 2 ^ 32
          kept_fits counts =
              let u = entries_on counts refl in
              omega (arith, u.many, entries_few n u.along.whole, t.few)

          pub entries_fit : {l : ℕ} → l ≡ entry_length f m r.length → total + l < 2 ^ 64
          entries_fit long =
              let u = entries_on refl long in
              let z = u.along.whole in
              omega (arith, u.so_far, entries_shorter n z, z.behind.ahead, z.same_end, t.small)

    pub entries_end : more ≤ 0 → Surveys n s c (record { rising = rising; kept = kept; length = total; next = next })
    entries_end h =
        let end = ended t.along h in
        let nothing : length (entries_bytes t.along.to_come_lem) ≡ 0 = rw (end.nothing, entries_nil) in
        let none : kept_entries t.along.to_come_lem ≡ 0 = rw end.nothing none_kept in
        record {
          value = t.along.all;
          stands = end.stands;
          order = sym (entries_risen rising least) ∙ rw (← end.nothing) t.order;
          many = omega (arith, none, t.many);
          long = omega (arith, nothing, t.so_far);
        }

pub ruleset surveying = (entries_begun, entry_known, count_known, hints_known, entry_sum, kept_fits, entries_fit, entries_more, entries_end, rules)
