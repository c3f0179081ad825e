-- Hints of the older edition that are their own rewriting: these stand in order; and what stands in order and is as long as its rewriting is its rewriting.
use Rattle.std.specs.Prelude.{ℕ, true, ◌≡◌}
use mathlib.Core.List.{List, []}
use Rattle.std.proofs.Common.{sym, ◌∙◌, arith}
use Rattle.std.proofs.Math.Path.{ap}
use Rattle.std.proofs.Math.ListN.{length}
use Rattle.format.specs.Bytes.{Bytes}
use Rattle.format.specs.Reading.{accepted, Accepted}
use Rattle.format.specs.Tables.{Table}
use Rattle.format.specs.Canonical.{unless_empty, keep_rows}
use Rattle.format.specs.Older.{judge_older, write_older, canonical_older}
use Rattle.format.specs.OlderInOrder.{rising_entries}
use Rattle.format.specs.Laws.Outcomes.{accepted_is}
use Rattle.format.specs.Laws.Tight.{tight_whole}
use Rattle.format.proofs.Laws.Groups.{groups_shorter}
use Rattle.format.proofs.Laws.Unchanged.{groups_unchanged}
use Rattle.format.proofs.Laws.OlderEntries.{write_entries, entries_whole}
use Rattle.format.proofs.Laws.OlderShorter.{write_group}
use Rattle.format.proofs.Laws.OlderInOrder.{entry_table, entries_written, entries_rise, in_order, groups_rise}
use Rattle.format.proofs.Laws.CanonicalOlder.{in_order_table, older_sorted, rewriting, older_back}
use Rattle.format.specs.declared.Hint.{Hint}

module _ {bs : List ℕ} (a : Accepted (judge_older 0) bs) where
  pub older_rises : canonical_older bs ≡ accepted bs → rising_entries 0 a.value ≡ true
  older_rises c =
      let r = rewriting c in
      rw (accepted_is (sym a.judged ∙ older_back r)) (groups_rise (older_sorted r.original))

  pub older_tight : Bytes bs → rising_entries 0 a.value ≡ true → length (write_older (in_order_table a)) ≡ length bs → write_older (in_order_table a) ≡ bs
  unfolding write_older
  older_tight h r long =
      let whole = entries_whole a.judged in
      let s = entries_rise 0 a.value r in
      let t : Table (Table Hint) = entry_table a.value in
      let long' : length (write_older (keep_rows unless_empty t)) ≡ length bs = rw (in_order a.value r) at long in
      let is : write_older t ≡ write_entries a.value = entries_written a.value in
      let short : length (write_entries a.value) ≡ length (write_older t) = ap length (sym is) in
      let fewer = groups_shorter write_group s in
      let stays : keep_rows unless_empty t ≡ t = groups_unchanged write_group s (omega (arith, long', whole.shorter, short, fewer)) in
      ap write_older (in_order a.value r ∙ stays) ∙ is ∙ tight_whole [] whole.tight whole.shorter h (omega (arith, long', whole.shorter, short, fewer))
