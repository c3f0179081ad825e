-- Entries that stand at a cursor, written anew: in order already, or in any order.
use Rattle.std.specs.Prelude.{Ok, Err}
use Prim.Native.Nat.{ℕ, ◌+◌, ◌^◌, ◌≤◌, ◌<◌}
use mathlib.Core.List.{List, ◌++◌}
use mathlib.Core.Logic.{⊎_elim}
use mathlib.Core.Path.{◌≡◌, sym, ap, ◌∙◌}
use native.Mathlib.Omega.{arith}
use borrow.Author.Rules.{rules}
use borrow.Author.Tests.{le-leb, lt-leb}
use lib.ListN.{length, length-append}
use Rattle.copying.specs.Standing.{Fits, Puts}
use Rattle.copying.specs.declared.Put.{Put}
use Rattle.format.specs.Numbers.{shortest}
use Rattle.format.specs.Older.{OlderEntry, times, older_entry, sorted_from, write_older, not_too_long}
use Rattle.format.specs.OlderInOrder.{entries_bytes}
use Rattle.format.specs.Reading.{accepted, refused}
use Rattle.format.specs.Tables.{nil}
use Rattle.format.proofs.Laws.OlderInOrder.{in_order_written}
use Rattle.format.specs.Laws.Outputs.{writes_refused, writes_short}
use Rattle.format.specs.declared.Reason.TheVariants.{SubsectionTooLarge, OutputTooShort}
use Rattle.in_order.specs.declared.EntrySurvey.{EntrySurvey}
use Rattle.out_of_order.specs.Backward.{ReadyPut}
use Rattle.out_of_order.specs.Gathering.{Windowed, entries_here, falling_here}
use Rattle.out_of_order.specs.Tally.{most, no_tally, tallied, totalled}
use Rattle.out_of_order.proofs.Backwards.{measured_so}
use Rattle.out_of_order.proofs.Sources.{Source, source}
use Rattle.reading.proofs.Standing.{one_value}
use Rattle.reading.specs.Standing.{Known}
use Rattle.reading.specs.declared.Cursor.{Cursor}
use Rattle.writing.specs.Wrote.{Wrote}
use Rattle.writing.proofs.Laws.{wrote_join, wrote_length, writes_wrote}
use Rattle.reordering.specs.Rewritten.{ReadyRising, RewritesEntries}

-- 15, or not
pub too_long : (bytes : List ℕ) → most < length bytes → not_too_long bytes ≡ refused 15 0
unfolding not_too_long
too_long bytes h = rw (lt-leb (length bytes) most h)

pub not_long : (bytes : List ℕ) → length bytes ≤ most → not_too_long bytes ≡ accepted bytes
unfolding not_too_long
not_long bytes h = rw (le-leb (length bytes) most h)

-- In order
module _ {n : ℕ} {s : List ℕ} {c : Cursor} {found : EntrySurvey} (ready : ReadyRising n s c found) where
  abbrev es : List OlderEntry
  es = ready.surveyed.value

  written : write_older (sorted_from nil es) ≡ shortest found.kept ++ entries_bytes es
  written = in_order_written es (sym ready.surveyed.order ∙ ready.in_order) ∙ ap (λ k. shortest k ++ entries_bytes es) (sym ready.surveyed.many)

  module _ {size : ℕ} (long : size ≡ length (shortest found.kept)) where
    pub rising_fits : size + found.length < 2 ^ 64
    rising_fits = rw long ready.fits

    needed_is : length (write_older (sorted_from nil es)) ≡ size + found.length
    needed_is = let e = ap length written ∙ length-append (shortest found.kept) (entries_bytes es) in omega (arith, e, long, ready.surveyed.long)

    module _ (old : List ℕ) where
      pub rising_long : most < size + found.length → RewritesEntries n s c old old (Err (record { reason = SubsectionTooLarge; offset = record { 0 = 0 } }))
      rising_long h = record {
        value = es;
        next = found.next;
        stands = ready.surveyed.stands;
        writes = writes_refused (too_long (write_older (sorted_from nil es)) (let e = needed_is in omega (arith, e, h)));
      }

      module _ (small : size + found.length ≤ most) where
        wanted : not_too_long (write_older (sorted_from nil es)) ≡ accepted (write_older (sorted_from nil es))
        wanted = not_long (write_older (sorted_from nil es)) (let e = needed_is in omega (arith, e, small))

        pub rising_short : length old < size + found.length → RewritesEntries n s c old old (Err (record { reason = OutputTooShort; offset = record { 0 = size + found.length } }))
        rising_short h = record {
          value = es;
          next = found.next;
          stands = ready.surveyed.stands;
          writes = rw (← needed_is) (writes_short wanted (rw needed_is h));
        }

        module _ (room : size + found.length ≤ length old) where
          pub rising_count_room : 0 + length (shortest found.kept) ≤ length old
          rising_count_room = omega (arith, room, long)

          module _ {mid : List ℕ} {at : ℕ} (count : Wrote old mid 0 at (shortest found.kept)) where
            pub rising_room : Fits (times older_entry n) entries_bytes s c mid at
            rising_room = record {
              value = es;
              next = found.next;
              stands = ready.surveyed.stands;
              room = let l = wrote_length count in omega (arith, l, count.next_is, room, long, ready.surveyed.long);
            }

            pub rising_put : {new : List ℕ} {r : Put} → Puts (times older_entry n) entries_bytes s c mid new at r → RewritesEntries n s c old new (Ok r.at)
            rising_put p =
                let same : p.value ≡ es = one_value p.stands ready.surveyed.stands in
                let bytes : shortest found.kept ++ entries_bytes p.value ≡ write_older (sorted_from nil es) = ap (λ v. shortest found.kept ++ entries_bytes v) same ∙ sym written in
                record {
                  value = es;
                  next = found.next;
                  stands = ready.surveyed.stands;
                  writes = writes_wrote wanted (rw bytes at (wrote_join count p.wrote));
                }

pub ruleset rising_steps = (rising_fits, rising_long, rising_short, rising_count_room, rising_room, rising_put, rules)

-- In any order
pub windowed : {keys orders : List ℕ} → length keys ≡ 2048 → length orders ≡ 2048 → Windowed keys orders
windowed k o = record { same_long = k ∙ sym o; some = omega (arith, k) }

module _ (n : ℕ) {s : List ℕ} {c : Cursor} (known : Known (times older_entry n) s c) where
  pub unordered_ready : {keys orders : List ℕ} → length keys ≡ 2048 → length orders ≡ 2048 → Known (times older_entry n) s c × Windowed keys orders
  unordered_ready k o = (known, windowed k o)

  module _ (far : c.end < 2 ^ 64) {needed : ℕ} (is : needed ≡ totalled (tallied no_tally (falling_here n s c))) where
    src : Source n s c
    src = source n far known

    abbrev bytes : List ℕ
    bytes = write_older (sorted_from nil (entries_here n s c))

    long_so : most < needed → most < length bytes
    long_so h = let e = is in ⊎_elim (λ q. omega (arith, q, e, h)) (λ q. q.1) (measured_so src)

    short_so : needed ≤ most → needed ≡ length bytes
    short_so h = let e = is in ⊎_elim (λ q. e ∙ q) (λ q. absurd (let l = q.0 in omega (arith, l, e, h))) (measured_so src)

    module _ (old : List ℕ) where
      pub unordered_long : most < needed → RewritesEntries n s c old old (Err (record { reason = SubsectionTooLarge; offset = record { 0 = 0 } }))
      unordered_long h = record { value = entries_here n s c; next = src.last; stands = src.stands; writes = writes_refused (too_long bytes (long_so h)) }

      module _ (small : needed ≤ most) where
        wanted' : not_too_long bytes ≡ accepted bytes
        wanted' = not_long bytes (let e = short_so small in omega (arith, e, small))

        pub unordered_short : length old < needed → RewritesEntries n s c old old (Err (record { reason = OutputTooShort; offset = record { 0 = needed } }))
        unordered_short h = record { value = entries_here n s c; next = src.last; stands = src.stands; writes = rw (short_so small) (writes_short wanted' (rw (short_so small) at h)) }

        module _ (room : needed ≤ length old) where
          pub unordered_room : {keys orders : List ℕ} → length keys ≡ 2048 → length orders ≡ 2048 → ReadyPut old needed keys orders n s c
          unordered_room k o = record { known = known; window = windowed k o; whole = is; short = small; within = room }

          pub unordered_put : {new : List ℕ} → Wrote old new 0 needed bytes → RewritesEntries n s c old new (Ok needed)
          unordered_put w = record { value = entries_here n s c; next = src.last; stands = src.stands; writes = writes_wrote wanted' w }

pub ruleset unordered_steps = (unordered_ready, unordered_long, unordered_short, unordered_room, unordered_put, rules)
