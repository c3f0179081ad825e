-- What a search of both lists says of the payload that they must fill: its judgement.
use Rattle.std.specs.Prelude.{Ok, Err, Some, None}
use Prim.Native.Nat.{ℕ, ◌≤◌, ◌<◌}
use mathlib.Core.List.{List, [], ◌∷◌}
use mathlib.Core.Option.{Option}
use mathlib.Core.Path.{◌≡◌, sym}
use borrow.Author.Rules.{rules}
use borrow.Author.Tests.{ltb-true, ltb-false, le-ltb, lt-ltb}
use lib.Dec.{ltb}
use Rattle.format.specs.Reading.{got, stop, Reader, accepted, refused}
use Rattle.format.specs.Parts.{Part}
use Rattle.format.specs.Tables.{table}
use Rattle.format.specs.Metadata.{metadata, judge_metadata}
use Rattle.format.specs.Laws.Outcomes.{by_test, filling_stops, filling_fills, filling_leaves}
use Rattle.format.specs.declared.Reason.TheVariants.{LeftOver}
use Rattle.format.specs.declared.Refusal.{Refusal}
use Rattle.reading.proofs.Laws.{nothing_left, something_left}
use Rattle.reading.specs.Cursors.{Inside, left}
use Rattle.reading.specs.declared.Cursor.{Cursor}
use Rattle.tables.specs.Finding.{HeldInside}
use Rattle.tables.specs.Seeking.{sought_within, Seeks}
use Rattle.tables.specs.declared.Wanted.{Wanted}
use Rattle.tables.specs.Returned.{Seek}
use Rattle.tables.proofs.Laws.{refused_means, none_means, none_inside, found_means, found_inside, found_part}
use Rattle.tables.specs.Steps.{held_of}
use Rattle.metadata.specs.Asking.{Judgement, filled_with, wanted_of, JudgesFor}
use Rattle.tables.specs.Returned.{Held}

-- by what the search came to
module _ (value : Reader Part) (f at : Wanted) (o : ℕ) (bs : List ℕ) where
  sought_stops : {n p : ℕ} → sought_within value f at o bs ≡ stop n p → wanted_of value f at o bs ≡ refused n p
  unfolding sought_within wanted_of judge_metadata metadata
  sought_stops e = filling_stops _ (table (table value) o bs) e

  sought_fills : {x : Option Part} {o' : ℕ} → sought_within value f at o bs ≡ got x o' [] → wanted_of value f at o bs ≡ accepted x
  unfolding sought_within wanted_of judge_metadata metadata
  sought_fills e = filling_fills _ (table (table value) o bs) e

  sought_leaves : {x : Option Part} {o' b : ℕ} {rest : List ℕ} → sought_within value f at o bs ≡ got x o' (b ∷ rest) → wanted_of value f at o bs ≡ refused 10 o'
  unfolding sought_within wanted_of judge_metadata metadata
  sought_leaves e = filling_leaves _ (table (table value) o bs) e

-- nothing behind the lists, or something
module _ (held : Held) {next : Cursor} where
  pub fills : next.end ≤ next.at → Ok held ≡ filled_with held next
  fills h = rw (le-ltb next.at next.end h)

  pub leaves_over : {j : Judgement} → j ≡ Err (record { reason = LeftOver; offset = record { 0 = next.at } }) → next.at < next.end → j ≡ filled_with held next
  leaves_over e h = rw (lt-ltb next.at next.end h) e

pub ruleset fillings = (fills, leaves_over, rules)

-- what the judgement comes to
module _ {s : List ℕ} {c : Cursor} (value : Reader Part) (f at : Wanted) {x : Seek} (i : Inside s c) (k : Seeks (sought_within value f at) s c x) where
  pub judged_refused : {r : Refusal} → x ≡ Err r → JudgesFor value f at s c (Err r)
  judged_refused e = record { says = sym (sought_stops value f at c.at (left s c) (refused_means k e)); inside = tt }

  by_filling : {y : Judgement} (held : Held) {next : Cursor} → HeldInside s held → Inside s next → sought_within value f at c.at (left s c) ≡ got (held_of s held) next.at (left s next) → y ≡ filled_with held next → JudgesFor value f at s c y
  by_filling held {next} there j means is =
      by_test (ltb next.at next.end)
      (λ t. let over = something_left j (ltb-true next.at next.end t) in rw (is, t) (record { says = sym (sought_leaves value f at c.at (left s c) (rw over at means)); inside = tt }))
      (λ t. let none = nothing_left j (ltb-false next.at next.end t) in rw (is, t) (record { says = sym (sought_fills value f at c.at (left s c) (rw none at means)); inside = there }))

  pub judged_found : {y : Judgement} (held : Held) {next : Cursor} → x ≡ Ok (held, next) → y ≡ filled_with held next → JudgesFor value f at s c y
  judged_found None e is = by_filling None tt (none_inside i k e) (none_means k e) is
  judged_found (Some part) e is = by_filling (Some part) (found_part i k e) (found_inside i k e) (found_means k e) is

pub ruleset judgings = (judged_refused, judged_found, rules)
