-- Two results that meet one promise about a table are equal.
use Rattle.std.specs.Prelude.{Ok, Err, Some, None}
use Prim.Native.Nat.{ℕ}
use mathlib.Core.List.{List}
use mathlib.Core.Option.{Option}
use mathlib.Core.Path.{◌≡◌, refl, sym, ap, ◌∙◌}
use native.Mathlib.Omega.{arith}
use Rattle.format.specs.Reading.{Reader}
use Rattle.format.specs.Numbers.{number}
use Rattle.format.specs.Parts.{Part}
use Rattle.format.specs.Laws.Options.{not_some, some_is}
use Rattle.format.proofs.Laws.Telling.{not_behind, behind_at}
use Rattle.format.specs.Laws.Outcomes.{not_got, got_next}
use Rattle.format.specs.Laws.Refusals.{same_stop}
use Rattle.reading.specs.Standing.{Stands}
use Rattle.reading.specs.declared.Cursor.{Cursor}
use Rattle.reading.proofs.Same.{same_cursor, same_part}
use Rattle.reading.proofs.Standing.{one_value, one_end}
use Rattle.tables.specs.Stepping.{Splits, RowSteps, GroupSteps}
use Rattle.tables.specs.Finding.{Finds, Skips}
use Rattle.tables.specs.Judging.{Judges}
use Rattle.tables.specs.Steps.{held_of}
use Rattle.tables.specs.Telling.{Tells}
use Rattle.tables.specs.Returned.{Held}
use Rattle.tables.specs.Returned.{Judged}
use Rattle.tables.specs.declared.stepping.Rows.{Rows}
use Rattle.tables.specs.Returned.{RowStep}
use Rattle.tables.specs.Returned.{GroupStep}
use Rattle.tables.specs.Returned.{Tidy}

pub rows_here_same : {s : List ℕ} {c : Cursor} (r r' : Rows) → Stands number s c r.more r.next → Stands number s c r'.more r'.next → r ≡ r'
rows_here_same r r' p q = let more = one_value p q in let next = one_end p q in λ i. record { next = next i; more = more i }

-- one row alone is the first of the rows to come
module _ {A : Type 0} (read : Reader A) {s : List ℕ} {left : Rows} {k k' : ℕ} {place place' : Cursor} {v v' : A} {next next' : Cursor} (p : Splits read s left k place v next) (q : Splits read s left k' place' v' next') where
  same_index : k ≡ k'
  same_index = one_value p.index q.index

  same_place : place ≡ place'
  same_place = one_end p.index q.index

  same_value : v ≡ v'
  same_value = one_value (rw same_place at p.value) q.value

  same_behind : next ≡ next'
  same_behind = one_end (rw same_place at p.value) q.value

pub row_step_same : {s : List ℕ} {left : Rows} (r r' : RowStep) → RowSteps s left r → RowSteps s left r' → r ≡ r'
row_step_same None None a b = refl
row_step_same None (Some (k, part, next)) a b = absurd (omega (arith, a.steps, b.steps.splits.some_left))
row_step_same (Some (k, part, next)) None a b = absurd (omega (arith, b.steps, a.steps.splits.some_left))
row_step_same {s} (Some (k, part, next)) (Some (k', part', next')) a b =
    let p = a.steps.splits in
    let q = b.steps.splits in
    let index = same_index _ p q in
    let parts = same_part part part' a.steps.in_part b.steps.in_part (same_value _ p q) in
    let nexts = same_behind _ p q in
    λ i. Some ((index i), (parts i), (nexts i))

pub group_step_same : {s : List ℕ} {left : Rows} (r r' : GroupStep) → GroupSteps s left r → GroupSteps s left r' → r ≡ r'
group_step_same None None a b = refl
group_step_same None (Some (k, place)) a b = absurd (omega (arith, a.steps, b.steps.splits.some_left))
group_step_same (Some (k, place)) None a b = absurd (omega (arith, b.steps, a.steps.splits.some_left))
group_step_same (Some (k, place)) (Some (k', place')) a b =
    let p = a.steps.splits in
    let q = b.steps.splits in
    let index = same_index _ p q in
    let places = same_place _ p q in
    λ i. Some ((index i), (places i))

module _ {A : Type 0} (read : Reader A) (answer : A → Option Part) {s : List ℕ} {c : Cursor} where
  same_found : {r r' : Held} → Finds read answer s c r → Finds read answer s c r' → held_of s r ≡ held_of s r'
  same_found p q = p.found ∙ ap answer (one_value p.stands q.stands) ∙ sym q.found

  pub finds_same : (r r' : Held) → Finds read answer s c r → Finds read answer s c r' → r ≡ r'
  finds_same None None p q = refl
  finds_same None (Some part) p q = absurd (not_some (same_found p q))
  finds_same (Some part) None p q = absurd (not_some (sym (same_found p q)))
  finds_same (Some part) (Some part') p q = ap Some (same_part part part' p.inside q.inside (some_is (same_found p q)))

pub skips_same : {s : List ℕ} {c : Cursor} (next next' : Cursor) → Skips s c next → Skips s c next' → next ≡ next'
skips_same next next' p q = one_end p.stands q.stands

-- what a list is told to be
pub tells_same : {A : Type 0} {read : Reader A} {form_of : A → Option (List ℕ)} {s : List ℕ} {c : Cursor} (r r' : Tidy) → Tells read form_of s c r → Tells read form_of s c r' → r ≡ r'
tells_same (Some d) (Some e) p q = ap Some (same_cursor d e (behind_at (p.means ∙ sym q.means)) (p.same_part.1 ∙ sym q.same_part.1))
tells_same (Some d) None p q = absurd (not_behind (sym (p.means ∙ sym q.means)))
tells_same None (Some e) p q = absurd (not_behind (p.means ∙ sym q.means))
tells_same None None p q = refl

-- what judging a map found
pub judges_same : {read : Reader (Unit {0})} {s : List ℕ} {c : Cursor} (r r' : Judged) → Judges read s c r → Judges read s c r' → r ≡ r'
judges_same (Ok d) (Ok e) p q = ap Ok (same_cursor d e (got_next (p.means ∙ sym q.means)) (p.same_part.1 ∙ sym q.same_part.1))
judges_same (Ok d) (Err r) p q = absurd (not_got (sym (p.means ∙ sym q.means)))
judges_same (Err r) (Ok e) p q = absurd (not_got (p.means ∙ sym q.means))
judges_same (Err r) (Err r') p q = ap Err (same_stop (p.means ∙ sym q.means))
