-- The first row of a map, read ahead; and what comes next of two maps, by the rows that were.
use Rattle.std.specs.Prelude.{Some, None}
use Prim.Native.Nat.{ℕ, ◌≤◌, ◌<◌}
use mathlib.Core.List.{List}
use mathlib.Core.Path.{◌≡◌, refl, sym}
use borrow.Author.Rules.{rules}
use Rattle.format.specs.declared.Whose.TheVariants.{Separate, Own}
use Rattle.reading.specs.declared.Cursor.{Cursor}
use Rattle.tables.specs.Stepping.{behind_at, RowSteps}
use Rattle.tables.specs.declared.stepping.Rows.{Rows}
use Rattle.tables.specs.Returned.{RowStep}
use Rattle.joining.specs.Ahead.{KnownRows, ReadAhead, Reads, Goes, ReadyStep, Ready, NextOf}
use Rattle.tables.proofs.StepLaws.{a_row}
use Rattle.joining.specs.declared.rows.Ahead.{Ahead}
use Rattle.joining.proofs.StepLaws.{rows_end, ours_alone, ours_first, theirs_alone, theirs_first, of_both}

module _ {s : List ℕ} {left : Rows} where
  pub reads_step : {x : RowStep} → RowSteps s left x → Reads s left (record { rows = left; step = x })
  reads_step p = record { same_rows = refl; ahead = record { steps = p } }

pub ruleset reading_ahead = (reads_step, rules)

module _ {s : List ℕ} {before : Ahead} {left : Rows} (w : Goes s before left) where
  pub reads_same : left.more ≡ before.rows.more → Reads s left before
  reads_same h = record { same_rows = sym (w.same h); ahead = w.ahead }

  pub goes_known : KnownRows s left
  goes_known = w.known

pub ruleset Going_on = (reads_same, goes_known, rules)

-- a row that was read is to come
module _ {a : Ahead} where
  pub ready_row : Ready a → {k : ℕ} {part next : Cursor} → a.step ≡ Some (k, part, next) → 0 < a.rows.more
  ready_row w e = rw e at w.some_left

-- What comes next of two maps
module _ {left right : Ahead} where
  pub both_end : left.step ≡ None → right.step ≡ None → NextOf left right None
  both_end g h = record { next = λ s o p q w. rows_end p.steps q.steps g h }

  module _ {i : ℕ} {part next : Cursor} {l : Rows} (e : left.step ≡ Some (i, part, next)) (is : l ≡ behind_at left.rows next) where
    pub left_alone_next : right.step ≡ None → NextOf left right (Some (record { whose = Separate; index = i; part = part; first = l; second = right.rows }))
    left_alone_next h = record { next = λ s o p q w. ours_alone p.steps q.steps w e is h }

    pub left_first_next : {j : ℕ} {other after : Cursor} → right.step ≡ Some (j, other, after) → i < j → NextOf left right (Some (record { whose = Separate; index = i; part = part; first = l; second = right.rows }))
    left_first_next f h = record { next = λ s o p q w. ours_first p.steps q.steps w e is f h }

    pub both_next : {j : ℕ} {other after : Cursor} {r : Rows} → right.step ≡ Some (j, other, after) → r ≡ behind_at right.rows after → j ≤ i → i ≤ j → NextOf left right (Some (record { whose = Separate; index = i; part = part; first = l; second = r }))
    both_next f is' g h = record { next = λ s o p q w. of_both p.steps q.steps e f g h is is' }

  module _ {j : ℕ} {other after : Cursor} {r : Rows} (f : right.step ≡ Some (j, other, after)) (is : r ≡ behind_at right.rows after) where
    pub right_alone_next : left.step ≡ None → NextOf left right (Some (record { whose = Own; index = j; part = other; first = left.rows; second = r }))
    right_alone_next h = record { next = λ s o p q w. theirs_alone p.steps q.steps w f is h }

    pub right_first_next : {i : ℕ} {part next : Cursor} → left.step ≡ Some (i, part, next) → j < i → NextOf left right (Some (record { whose = Own; index = j; part = other; first = left.rows; second = r }))
    right_first_next e h = record { next = λ s o p q w. theirs_first p.steps q.steps w f is e h }

pub ruleset next_rows = (ready_row, both_end, left_alone_next, left_first_next, both_next, right_alone_next, right_first_next, rules)

-- what was read can be gone on from
pub read_ready : {s : List ℕ} (a : Ahead) → ReadAhead s a → Ready a
read_ready {s} a w = record { some_left = of_step a.step w.steps }
  where
    of_step : (x : RowStep) → RowSteps s a.rows x → ReadyStep a.rows x
    of_step None p = tt
    of_step (Some (k, part, next)) p = (a_row p refl).splits.some_left
