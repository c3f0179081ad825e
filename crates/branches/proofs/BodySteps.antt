-- The list of bodies, judged.
use Rattle.std.specs.Prelude.{Ok, Err}
use Prim.Native.Nat.{ℕ, zero, suc, ◌-◌, ◌≤◌, ◌<◌}
use mathlib.Core.Bool.{Bool}
use mathlib.Core.List.{List}
use mathlib.Core.Path.{◌≡◌, refl, sym, ◌∙◌}
use native.Mathlib.Omega.{arith}
use borrow.Author.Rules.{rules}
use Rattle.format.specs.Numbers.{number}
use Rattle.format.specs.Older.{times, vector}
use Rattle.format.specs.Parts.{Part, sized}
use Rattle.format.specs.Reading.{Outcome, got, stop, Reader, and_then, return}
use Rattle.format.specs.Laws.Outcomes.{not_got, by_outcome, in_turn, got_next, got_rest}
use Rattle.format.specs.declared.Reason.TheVariants.{LeftOver}
use Rattle.format.specs.declared.Refusal.{Refusal}
use Rattle.reading.specs.Cursors.{Inside, left, refusal_of, PartReads}
use Rattle.reading.specs.declared.Cursor.{Cursor}
use Rattle.reading.proofs.Laws.{sized_means, part_behind, nothing_left, something_left}
use Rattle.branches.specs.Bodies.{bodies}
use Rattle.branches.specs.Lists.{pass_bodies, JudgesBodies}
use Rattle.branches.specs.Reads.{refusal_with, Reads}
use Rattle.branches.proofs.ReadLaws.{value_means, value_end, value_inside}

-- of n bodies, `more` are still to come
abbrev passing : (n more : ℕ) → Reader ℕ
passing n more o bs = and_then (times sized more o bs) (λ _. return n)

passing_next : (n more o : ℕ) (bs : List ℕ) → 0 < more → passing n more o bs ≡ and_then (sized o bs) (λ _. passing n (more - 1))
unfolding times
passing_next n zero o bs h = absurd (omega arith)
passing_next n (suc more) o bs h =
    let d : suc more - 1 ≡ more = omega arith in
    rw d (by_outcome (sized o bs)
    (λ p o₁ r₁ e. rw e (by_outcome (times sized more o₁ r₁) (λ ps o₂ r₂ e₁. rw e₁) (λ m at e₁. rw e₁)))
    (λ m at e. rw e))

passing_none : (n more o : ℕ) (bs : List ℕ) → more ≤ 0 → passing n more o bs ≡ got n o bs
unfolding times
passing_none n zero o bs h = refl
passing_none n (suc more) o bs h = absurd (omega arith)

pub record Turn (n more : ℕ) (s : List ℕ) (c next : Cursor) : Type 0 where
  pub inside : Inside s next
  pub same_end : next.end ≡ c.end
  pub same : pass_bodies n c.at (left s c) ≡ passing n more next.at (left s next)

pub turn_begins : {n : ℕ} {s : List ℕ} {c : Cursor} → Inside s c → Turn n n s c c
unfolding pass_bodies
turn_begins i = record { inside = i; same_end = refl; same = refl }

module _ {n more : ℕ} {s : List ℕ} {c next : Cursor} (t : Turn n more s c next) where
  pub turn_inside : Inside s next
  turn_inside = t.inside

  pub turn_ended : more ≤ 0 → Reads (pass_bodies n) s c (Ok (n, next))
  turn_ended h =
      let far = t.same_end in
      record { means = sym (t.same ∙ passing_none n more next.at (left s next) h); same_part = (omega (arith, t.inside.ahead, far), far) }

  module _ (h : 0 < more) where
    pub turn_refused : {r : Refusal} → PartReads sized s next (Err r) → Reads (pass_bodies n) s c (Err r)
    turn_refused g = record { means = sym (t.same ∙ passing_next n more next.at (left s next) h ∙ rw (← g.means)); same_part = tt }

    pub turn_goes : {part after : Cursor} {told : Bool} → PartReads sized s next (Ok (part, after, told)) → Turn n (more - 1) s c after
    turn_goes g =
        let b = part_behind t.inside g refl in
        record {
          inside = b.in_rest;
          same_end = b.same_end ∙ t.same_end;
          same = t.same ∙ passing_next n more next.at (left s next) h ∙ rw (sized_means g refl);
        }

pub ruleset body_turns = (turn_begins, turn_inside, turn_ended, turn_refused, turn_goes, rules)

passed_stops : {A : Type 0} (n : ℕ) (r : Outcome A) {m at : ℕ} → and_then r (λ _. return n) ≡ stop m at → r ≡ stop m at
passed_stops n (got v o bs) e = absurd (not_got (sym e))
passed_stops n (stop k p) e = same e
  where
    same : {A : Type 0} {k p m at : ℕ} → ◌≡◌ {A = Outcome ℕ} (stop k p) (stop m at) → ◌≡◌ {A = Outcome A} (stop k p) (stop m at)
    same q = cc

-- how many, so many, and nothing behind them
module _ {s : List ℕ} {c : Cursor} where
  pub list_uncounted : {r : Refusal} → Reads number s c (Err r) → JudgesBodies s c (Err r)
  unfolding bodies vector
  list_uncounted g = record { says = rw (← g.means) }

  module _ (i : Inside s c) {n : ℕ} {first : Cursor} (g : Reads number s c (Ok (n, first))) where
    pub list_refused : {r : Refusal} → Reads (pass_bodies n) s first (Err r) → JudgesBodies s c (Err r)
    unfolding bodies vector pass_bodies
    list_refused {r} h =
        let stops : pass_bodies n first.at (left s first) ≡ refusal_of r = sym h.means in
        record { says = rw (value_means g, passed_stops n (times sized n first.at (left s first)) stops) }

    module _ {v : ℕ} {behind : Cursor} (h : Reads (pass_bodies n) s first (Ok (v, behind))) where
      read_whole {ℓ} : {C : Type ℓ} → ((ps : List Part) → times sized n first.at (left s first) ≡ got ps behind.at (left s behind) → C) → C
      unfolding pass_bodies
      read_whole k =
          in_turn (times sized n first.at (left s first)) _ (value_means h) λ ps o r e₁ e₂.
          k ps (rw (got_next e₂, got_rest e₂) at e₁)

      in_behind : Inside s behind
      in_behind = value_inside h (value_inside g i)

      pub list_left : {r : Refusal} → behind.at < behind.end → r ≡ refusal_with LeftOver behind.at → JudgesBodies s c (Err r)
      unfolding bodies vector
      list_left l is = read_whole λ ps e₁. rw is (record { says = rw (value_means g, e₁, something_left in_behind l) })

      pub list_fills : behind.end ≤ behind.at → JudgesBodies s c (Ok (first, n))
      unfolding bodies vector
      list_fills l = read_whole λ ps e₁. record {
        says = record {
          parts = ps;
          last = behind;
          are = rw (value_means g, e₁, nothing_left in_behind l);
          stand = record { inside = value_inside g i; reads = e₁; behind = in_behind; same_end = (value_end h).1 };
        };
      }

pub ruleset bodies_steps = (list_uncounted, list_refused, list_left, list_fills, value_inside, rules)
