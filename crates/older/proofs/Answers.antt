-- What a search of the whole payload answers.
use Rattle.std.specs.Prelude.{Option as Held, Ok, Err, Some, None}
use Prim.Native.Nat.{ℕ, ◌≤◌, ◌<◌}
use mathlib.Core.List.{List, [], ◌∷◌}
use mathlib.Core.Option.{Option}
use mathlib.Core.Path.{◌≡◌, refl, sym, ◌∙◌}
use borrow.Author.Rules.{rules}
use borrow.Author.Tests.{ltb-true, ltb-false}
use lib.Dec.{ltb}
use Rattle.format.specs.Reading.{got, stop, accepted, refused, map_judged, verdict}
use Rattle.format.specs.Refusals.{number_of}
use Rattle.format.specs.Metadata.{hint_answered}
use Rattle.format.specs.Older.{OlderEntry, vector, older_entry, judge_older, first_in, ask_older}
use Rattle.format.specs.Laws.Outcomes.{by_test, mapped, refused_exactly, filling_stops, filling_fills, filling_leaves}
use Rattle.format.specs.Verdicts.{verdict_of}
use Rattle.format.specs.declared.FunctionIndex.{FunctionIndex}
use Rattle.format.specs.declared.Hint.{Hint}
use Rattle.format.specs.Returned.{HintAnswer}
use Rattle.format.specs.declared.InstructionOffset.{InstructionOffset}
use Rattle.format.specs.declared.Reason.TheVariants.{LeftOver}
use Rattle.format.specs.declared.Refusal.{Refusal}
use Rattle.format.specs.Returned.{Verdict}
use Rattle.reading.proofs.Laws.{nothing_left, something_left, left_all, over_inside}
use Rattle.reading.specs.Cursors.{Inside, over_all, left}
use Rattle.reading.specs.declared.Cursor.{Cursor}
use Rattle.older.specs.Seeking.{nothing, asked, held_of, filled_with, Seeks}
use Rattle.older.proofs.Steps.{sought_inside}

-- by what the search came to
module _ (all : List OlderEntry → Option Hint) (o : ℕ) (bs : List ℕ) where
  sought_stops : {n p : ℕ} → asked all (vector older_entry) o bs ≡ stop n p → map_judged all (judge_older o bs) ≡ refused n p
  unfolding asked judge_older
  sought_stops e = filling_stops _ (vector older_entry o bs) e

  sought_fills : {x : Option Hint} {o' : ℕ} → asked all (vector older_entry) o bs ≡ got x o' [] → map_judged all (judge_older o bs) ≡ accepted x
  unfolding asked judge_older
  sought_fills e = filling_fills _ (vector older_entry o bs) e

  sought_leaves : {x : Option Hint} {o' b : ℕ} {rest : List ℕ} → asked all (vector older_entry) o bs ≡ got x o' (b ∷ rest) → map_judged all (judge_older o bs) ≡ refused 10 o'
  unfolding asked judge_older
  sought_leaves e = filling_leaves _ (vector older_entry o bs) e

-- the same of what was sought where the cursor says
module _ (all : List OlderEntry → Option Hint) {s : List ℕ} {c : Cursor} where
  came_to_refusal : {r : Refusal} → Seeks (asked all (vector older_entry)) s c (Err r) → map_judged all (judge_older c.at (left s c)) ≡ refused (number_of r.reason) r.offset.0
  came_to_refusal k = sought_stops all c.at (left s c) (sym k.means)

  module _ {held : Held Hint} {next : Cursor} (i : Inside s c) (k : Seeks (asked all (vector older_entry)) s c (Ok (held, next))) where
    came_short : next.at < next.end → map_judged all (judge_older c.at (left s c)) ≡ refused 10 next.at
    came_short h = sought_leaves all c.at (left s c) (rw (something_left (sought_inside k i) h) at (sym k.means))

    came_to_end : next.end ≤ next.at → map_judged all (judge_older c.at (left s c)) ≡ accepted (held_of held)
    came_to_end h = sought_fills all c.at (left s c) (rw (nothing_left (sought_inside k i) h) at (sym k.means))

answer_means : (held : Held Hint) → hint_answered (Ok held) ≡ accepted (held_of held)
answer_means None = refl
answer_means (Some h) = refl

module _ (f : FunctionIndex) (at : InstructionOffset) {s : List ℕ} {c : Cursor} where
  pub asked_refused : {r : Refusal} → Seeks (asked (first_in f.0 at.0) (vector older_entry)) s c (Err r) → hint_answered (Err r) ≡ ask_older f at c.at (left s c)
  unfolding ask_older
  asked_refused k = sym (came_to_refusal _ k)

  pub asked_filled : {held : Held Hint} {next : Cursor} {y : HintAnswer} → Inside s c → Seeks (asked (first_in f.0 at.0) (vector older_entry)) s c (Ok (held, next)) → y ≡ filled_with held next → hint_answered y ≡ ask_older f at c.at (left s c)
  unfolding ask_older
  asked_filled {held} {next} i k is =
      by_test (ltb next.at next.end)
      (λ t. rw (is, t) (sym (came_short _ i k (ltb-true next.at next.end t))))
      (λ t. rw (is, t) (answer_means held ∙ sym (came_to_end _ i k (ltb-false next.at next.end t))))

pub ruleset askings = (asked_refused, asked_filled, rules)

-- judged alone
module _ (s : List ℕ) (c : Cursor) where
  refuses : {n p : ℕ} → map_judged nothing (judge_older c.at (left s c)) ≡ refused n p → verdict (judge_older c.at (left s c)) ≡ refused n p
  refuses e = let j = judge_older c.at (left s c) in (refused_exactly (λ _. tt) j).1 ((refused_exactly _ j).0 e)

  pub judged_refused : {r : Refusal} → Seeks (asked nothing (vector older_entry)) s c (Err r) → verdict_of (Err r) ≡ verdict (judge_older c.at (left s c))
  judged_refused k = sym (refuses (came_to_refusal nothing k))

  module _ {held : Held Hint} {next : Cursor} (i : Inside s c) (k : Seeks (asked nothing (vector older_entry)) s c (Ok (held, next))) where
    pub judged_short : next.at < next.end → verdict_of (Err (record { reason = LeftOver; offset = record { 0 = next.at } })) ≡ verdict (judge_older c.at (left s c))
    judged_short h = sym (refuses (came_short nothing i k h))

    pub judged_filled : next.end ≤ next.at → verdict_of (Ok tt) ≡ verdict (judge_older c.at (left s c))
    judged_filled h = mapped _ (judge_older c.at (left s c)) (came_to_end nothing i k h) λ t e₁ _. rw e₁

pub ruleset judgings = (judged_refused, judged_short, judged_filled, rules)

-- a payload that was lent by itself
module _ (p : List ℕ) {c : Cursor} (over : c ≡ over_all p) where
  pub whole_judged : (r : Verdict) → verdict_of r ≡ verdict (judge_older c.at (left p c)) → verdict_of r ≡ verdict (judge_older 0 p)
  whole_judged r e = rw (over, left_all p) at e

  pub whole_hint : (f : FunctionIndex) (at : InstructionOffset) (r : HintAnswer) → hint_answered r ≡ ask_older f at c.at (left p c) → hint_answered r ≡ ask_older f at 0 p
  whole_hint f at r e = rw (over, left_all p) at e

pub ruleset wholes = (whole_judged, whole_hint, over_inside, rules)
