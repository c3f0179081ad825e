-- The way to a hinted place, an instruction after the other.
use Rattle.std.specs.Prelude.{Some, None}
use Prim.Native.Nat.{ℕ, suc, ◌+◌, ◌-◌, ◌≤◌, ◌<◌}
use mathlib.Core.Bool.{Bool, true, false, cond}
use mathlib.Core.List.{List}
use mathlib.Core.Path.{◌≡◌, refl, sym, ap, ◌∙◌}
use native.Mathlib.Omega.{arith}
use borrow.Author.Rules.{rules}
use borrow.Author.Tests.{eq-eqb, ne_eqb}
use lib.Dec.{eqb}
use lib.ListN.{length, get_or}
use lib.Seq.{slice}
use Rattle.format.specs.Laws.Outcomes.{by_test}
use Rattle.reading.specs.Cursors.{Inside, left}
use Rattle.reading.specs.declared.Cursor.{Cursor}
use Rattle.reading.proofs.Laws.{nothing_left, something_left}
use Rattle.instructions.specs.Immediates.{instruction}
use Rattle.instructions.specs.Laws.Passing.{instruction_passes}
use Rattle.instructions.specs.Ways.{Goes}
use Rattle.instructions.specs.Returned.{Way}
use Rattle.instructions.proofs.WayLaws.{went, halted, goes_far, goes_inside}
use Rattle.branches.specs.Bodies.{Seat, on_branch_lem, elsewhere, is_branch, seat_then, seat_from}
use Rattle.branches.specs.Laws.Seats.{seat_ended, seat_past, seat_here, seat_steps}
use Rattle.branches.specs.Seats.{seat_at, arrived_at, Onward, ReachesTo}
use Rattle.branches.specs.declared.seats.Reach.{Reach}
use Rattle.branches.specs.declared.seats.Reach.TheVariants.{At, Unreadable, Elsewhere}

-- if and br_if
pub branch_if : (op : ℕ) → op ≡ 0x04 → true ≡ is_branch op
unfolding is_branch
branch_if op e = rw (eq-eqb op 0x04 e)

pub branch_br_if : (op : ℕ) {r : Bool} → (op ≡ 0x04 → ⊥) → r ≡ eqb op 0x0D → r ≡ is_branch op
unfolding is_branch
branch_br_if op n e = rw (ne_eqb op 0x04 n, e)

pub ruleset branches_told = (branch_if, branch_br_if, rules)

module _ (here : Cursor) (op : ℕ) {b : Bool} (is : b ≡ is_branch op) where
  pub on_branch : b ≡ true → At here ≡ arrived_at here op
  on_branch t = rw (← is, t)

  pub off_branch : b ≡ false → Elsewhere ≡ arrived_at here op
  off_branch t = rw (← is, t)

pub ruleset arrivals = (on_branch, off_branch, rules)

-- whenever the loop begins again
pub record Walking (s : List ℕ) (code : Cursor) (base offset : ℕ) (here : Cursor) : Type 0 where
  pub onward : Onward s code base offset here

pub walking_begins : {s : List ℕ} {code : Cursor} {base offset : ℕ} → Inside s code → base ≤ code.at → Walking s code base offset code
walking_begins i h = record { onward = record { inside = i; behind_base = h; same = λ further l. refl } }

module _ {s : List ℕ} {code : Cursor} {base offset : ℕ} {here : Cursor} (w : Walking s code base offset here) where
  told : seat_at s base code offset ≡ seat_at s base here offset
  told = w.onward.same offset (omega arith)

  pub walking_inside : Inside s here
  walking_inside = w.onward.inside

  pub walking_base : base ≤ here.at
  walking_base = w.onward.behind_base

  pub walking_ended : here.end ≤ here.at → ReachesTo s code base offset Elsewhere
  walking_ended h = record { says = sym (told ∙ rw (nothing_left w.onward.inside h) (seat_ended (base + offset) here.at)); goes_on = tt }

  module _ (h : here.at < here.end) where
    pub walking_byte : here.at < length s
    walking_byte = omega (arith, w.onward.inside.within)

    pub walking_past : offset < here.at - base → ReachesTo s code base offset Elsewhere
    walking_past l = record { says = sym (told ∙ rw (something_left w.onward.inside h) (seat_past (base + offset) here.at (get_or s here.at 0) (slice (suc here.at) here.end s) (omega (arith, l)))); goes_on = tt }

    seated : {seat : Seat} → here.at ≡ base + offset → cond (is_branch (get_or s here.at 0)) on_branch_lem elsewhere ≡ seat → seat ≡ seat_at s base code offset
    seated arrived q = sym (told ∙ rw (something_left w.onward.inside h) (seat_here (base + offset) here.at (get_or s here.at 0) (slice (suc here.at) here.end s) arrived q))

    pub walking_arrived : {y : Reach} → here.at - base ≤ offset → offset ≤ here.at - base → y ≡ arrived_at here (get_or s here.at 0) → ReachesTo s code base offset y
    walking_arrived not_past there is =
        let arrived : here.at ≡ base + offset = omega (arith, not_past, there, w.onward.behind_base) in
        by_test (is_branch (get_or s here.at 0))
        (λ t. rw (is, t) (record { says = seated arrived (rw t); goes_on = w.onward }))
        (λ t. rw (is, t) (record { says = seated arrived (rw t); goes_on = tt }))

    module _ (before : here.at - base < offset) {x : Way} (g : Goes instruction s here x) where
      steps : (further : ℕ) → offset ≤ further → seat_at s base here further ≡ seat_then (instruction here.at (left s here)) (seat_from (base + further))
      steps further l = rw (something_left w.onward.inside h) (seat_steps (base + further) here.at (get_or s here.at 0) (slice (suc here.at) here.end s) (omega (arith, before, l, w.onward.behind_base)))

      pub walking_stops : x ≡ None → ReachesTo s code base offset Unreadable
      walking_stops e =
          let (n, at, is) = halted (instruction here.at (left s here)) (rw e at g.means) in
          record { says = sym (told ∙ steps offset (omega arith) ∙ rw is); goes_on = tt }

      module _ {next : Cursor} (e : x ≡ Some next) where
        forward : here.at < next.at
        forward =
            let (v, is) = went (instruction here.at (left s here)) (rw e at g.means) in
            instruction_passes (λ o _. here.at < o) (λ o b bs l. omega (arith, l)) here.at (get_or s here.at 0) (slice (suc here.at) here.end s) (omega arith) (sym (ap (instruction here.at) (something_left w.onward.inside h)) ∙ is)

        pub walking_goes : Walking s code base offset next
        walking_goes =
            let (v, is) = went (instruction here.at (left s here)) (rw e at g.means) in
            let far = goes_far (rw e at g) in
            record {
              onward = record {
                inside = goes_inside (rw e at g) w.onward.inside;
                behind_base = omega (arith, far.0, w.onward.behind_base);
                same = λ further l. w.onward.same further l ∙ steps further l ∙ rw is;
              };
            }

        pub walking_shorter : next.end - next.at < here.end - here.at
        walking_shorter = let far = goes_far (rw e at g) in omega (arith, forward, far.1, far.2)

pub ruleset walking = (walking_begins, walking_inside, walking_base, walking_ended, walking_byte, walking_past, walking_arrived, walking_stops, walking_goes, walking_shorter, rules)
