-- The checks one after the other: the first refusal is the judgement, and lists that pass are measured.
use Rattle.std.specs.Prelude.{Ok, Err}
use Prim.Native.Nat.{ℕ, ◌≤◌}
use mathlib.Core.Bool.{Bool, true, false, not}
use mathlib.Core.List.{List}
use mathlib.Core.Option.{Option, none, some}
use mathlib.Core.Path.{◌≡◌, refl, sym, ◌∙◌}
use native.Mathlib.Omega.{arith}
use borrow.Author.Rules.{rules}
use borrow.Author.Tests.{not-true, not-false, eqb-true}
use lib.Dec.{eqb}
use lib.ListN.{length}
use Rattle.format.specs.Reading.{Judged, accepted, refused}
use Rattle.format.specs.Lists.{sum, unsorted_at, bad_text_at, unless}
use Rattle.format.specs.Laws.Outcomes.{not_accepted, on_both}
use Rattle.format.specs.declared.Reason.{Reason}
use Rattle.format.specs.declared.Reason.TheVariants.{ListsDisagree, NotAbove, NotText}
use Rattle.lists.specs.Steps.{agree, checked_as, index_check, text_check, contents_as, size_check, lists_judged, Joined}
use Rattle.lists.specs.Returned.{Contents}

-- A check that refused, and one that passed
module _ {A : Type 0} (why : Reason) (next : Judged A) where
  stopped : (o : Option ℕ) {n at : ℕ} → refused n at ≡ unless o why (accepted (tt {0})) → refused n at ≡ unless o why next
  stopped none e = absurd (not_accepted e)
  stopped (some p) e = again e
    where
      again : {B : Type 0} {n m p q : ℕ} → ◌≡◌ {A = Judged (Unit {0})} (refused n p) (refused m q) → ◌≡◌ {A = Judged B} (refused n p) (refused m q)
      again q = cc

  went_on : (o : Option ℕ) → accepted tt ≡ unless o why (accepted (tt {0})) → unless o why next ≡ next
  went_on none e = refl
  went_on (some p) e = absurd (not_accepted (sym e))

pub agreed_joined : (is ns text : List ℕ) → agree is ns text ≡ true → Joined is ns text
unfolding agree
agreed_joined is ns text e =
    on_both (eqb (length is) (length ns)) (eqb (sum ns) (length text)) e λ p q.
    record { same_count = eqb-true (length is) (length ns) p; add_up = eqb-true (sum ns) (length text) q }

module _ (is ns text : List ℕ) {b : Bool} (a : b ≡ agree is ns text) where
  pub judge_disagree : not b ≡ true → contents_as (Err (record { reason = ListsDisagree; offset = record { 0 = 0 } })) ≡ lists_judged is ns text
  unfolding lists_judged
  judge_disagree v = rw (← a, not-true b v)

  module _ (v : not b ≡ false) where
    agreed : agree is ns text ≡ true
    agreed = sym a ∙ not-false b v

    judge_joined : Joined is ns text
    judge_joined = agreed_joined is ns text agreed

    pub judge_count : length is ≡ length ns
    judge_count = judge_joined.same_count

    pub judge_sum : sum ns ≤ length text
    judge_sum = omega (arith, judge_joined)

    pub judge_indices : {n at : ℕ} → refused n at ≡ index_check is → refused n at ≡ lists_judged is ns text
    unfolding lists_judged index_check
    judge_indices i = rw agreed (stopped NotAbove _ (unsorted_at 0 0 is) i)

    module _ (i : checked_as (Ok tt) ≡ index_check is) where
      index_passed : unless (unsorted_at 0 0 is) NotAbove (unless (bad_text_at 0 ns text) NotText (size_check is ns)) ≡ unless (bad_text_at 0 ns text) NotText (size_check is ns)
      unfolding index_check
      index_passed = went_on NotAbove _ (unsorted_at 0 0 is) i

      pub judge_name : {n at : ℕ} → refused n at ≡ text_check ns text → refused n at ≡ lists_judged is ns text
      unfolding lists_judged text_check
      judge_name j = rw (agreed, index_passed) (stopped NotText _ (bad_text_at 0 ns text) j)

      pub judge_measured : (z : Contents) → checked_as (Ok tt) ≡ text_check ns text → contents_as z ≡ size_check is ns → contents_as z ≡ lists_judged is ns text
      unfolding lists_judged text_check
      judge_measured z j m = rw (agreed, index_passed) (m ∙ sym (went_on NotText _ (bad_text_at 0 ns text) j))

pub ruleset verdicts = (judge_disagree, judge_count, judge_sum, judge_indices, judge_name, judge_measured, rules)
