-- A part and the finish: one law for each way through the code.
use Rattle.std.specs.Prelude.{Ok}
use Prim.Native.Nat.{ℕ, zero, suc, ◌+◌, ◌-◌, ◌≤◌, ◌<◌}
use mathlib.Core.Bool.{Bool, true, false, not}
use mathlib.Core.List.{List}
use mathlib.Core.Path.{◌≡◌, refl, sym, ap, ◌∙◌}
use native.Mathlib.Omega.{arith}
use borrow.Author.Rules.{rules}
use borrow.Author.Tests.{eqb-true, eqb-false, leb-true, leb-false, le-leb, lt-leb}
use lib.Dec.{leb, eqb}
use lib.ListN.{length, drop}
use lib.Seq.{drop-cons}
use Rattle.format.specs.Reading.{accepted, refused}
use Rattle.format.specs.Walk.{preamble}
use Rattle.format.specs.Laws.Outcomes.{on_both, by_test}
use Rattle.format.specs.declared.Reason.TheVariants.{AfterFinish, TotalTooLarge}
use Rattle.walk.specs.Sections.{bit}
use Rattle.stream.specs.Contents.{Contents}
use Rattle.stream.specs.Stream.{Done, Phase, skipping, in_custom_lem, start_end, end, finish, steps}
use Rattle.stream.specs.Calls.{most, is_open, untaken, taken, told_of, ending_of, ended}
use Rattle.stream.specs.Fields.{place_from, done_from, held, over, state_from}
use Rattle.stream.specs.Phases.{blank_at, Fit, Feeding}
use Rattle.stream.specs.declared.Ending.{Ending}
use Rattle.stream.specs.declared.Spot.{Spot}
use Rattle.stream.specs.declared.Stream.{Stream}
use Rattle.stream.specs.declared.Taken.{Taken}
use Rattle.stream.specs.declared.Told.{Told}
use Rattle.stream.specs.Laws.Calls.{part_taken, part_too_large, part_too_late, open_ends, shut_ends}
use Rattle.stream.proofs.States.{at, as_starting, as_between, as_refused, as_measuring, as_skipping, as_custom, measuring_at, skipping_left, skipping_at, custom_left, custom_at}
use Rattle.stream.proofs.SectionLaws.{limit64, drop_all, blank_done}
use Rattle.stream.proofs.HoldLaws.{in_custom}

-- WHAT THE FINISH SAYS

pub told_there : {there : Bool} (p : Spot) → there ≡ true → record { there = 1; offset = p.offset; length = p.length } ≡ told_of (place_from there p)
told_there p e = rw e

pub told_none : {there : Bool} (p : Spot) → there ≡ false → record { there = 0; offset = 0; length = 0 } ≡ told_of (place_from there p)
told_none p e = rw e

end_at : (f : Stream) {p : Phase} → state_from f ≡ at f.total p → finish (state_from f) ≡ end p f.total
unfolding finish
end_at f e = ap finish e

-- in the preamble, and behind it where nobody began
module _ {total : ℕ} {x : Ending} where
  pub preamble_short : total < 8 → x ≡ ending_of (refused 1 0) → x ≡ ending_of (start_end (drop total preamble))
  unfolding start_end preamble
  preamble_short h e = e ∙ sym (ap (λ l. ending_of (start_end l)) (drop-cons preamble total 0 h))

  pub preamble_over : {g : Stream} → g ≡ blank_at total 1 → 8 ≤ total → x ≡ ending_of (finish (state_from g)) → x ≡ ending_of (start_end (drop total preamble))
  unfolding start_end preamble end
  preamble_over {g} is h e = e ∙ ap ending_of (end_at g (as_between g (rw is refl))) ∙ ap (λ d. ending_of (accepted d.told)) (blank_done is) ∙ sym (ap (λ l. ending_of (start_end l)) (drop_all preamble total h))

pub blank_between : {g : Stream} {total : ℕ} → g ≡ blank_at total 1 → g.phase ≡ 1
blank_between is = rw is refl

pub ruleset preamble_endings = (preamble_short, preamble_over, blank_between, rules)

module _ (f : Stream) where
  pub told_all : {name hints older : Told} → f.phase ≡ 1 → name ≡ told_of (place_from (bit f.there 0) f.name) → hints ≡ told_of (place_from (bit f.there 1) f.hints) → older ≡ told_of (place_from (bit f.there 2) f.older)
      → record { accepted = true; refusal = 0; offset = 0; count = f.count; name = name; hints = hints; older = older } ≡ ending_of (finish (state_from f))
  unfolding end
  told_all p n h o = (λ i. record { accepted = true; refusal = 0; offset = 0; count = f.count; name = n i; hints = h i; older = o i }) ∙ sym (ap ending_of (end_at f (as_between f p)))

  pub ends_refused : {x : Ending} → f.phase ≡ 2 → x ≡ ending_of (refused f.refusal f.text) → x ≡ ending_of (finish (state_from f))
  unfolding end
  ends_refused p e = e ∙ sym (ap ending_of (end_at f (as_refused f p)))

  pub ends_starting : {x : Ending} → f.phase ≡ 0 → x ≡ ending_of (start_end (drop f.total preamble)) → x ≡ ending_of (finish (state_from f))
  unfolding end
  ends_starting p e = e ∙ sym (ap ending_of (end_at f (as_starting f p)))

  skip_short : (d : Done) (id left o : ℕ) → 0 < left → end (skipping d id left) o ≡ refused 2 (suc id)
  unfolding end
  skip_short d id zero o h = absurd (omega arith)
  skip_short d id (suc left) o h = refl

  custom_short : (d : Done) (id left : ℕ) (c : Contents) (o : ℕ) → 0 < left → end (in_custom_lem d id left c) o ≡ refused 2 (suc id)
  unfolding end
  custom_short d id zero c o h = absurd (omega arith)
  custom_short d id (suc left) c o h = refl

  module _ (k : Fit f) (a : f.phase ≡ 1 → ⊥) (b : f.phase ≡ 2 → ⊥) (c : f.phase ≡ 0 → ⊥) where
    -- by what is left of the phases
    short {ℓ} : {C : Type ℓ} → (f.phase ≡ 3 → C) → (f.phase ≡ 4 → C) → (4 < f.phase → C) → C
    short x y z =
        by_test (eqb f.phase 3) (λ t. x (eqb-true f.phase 3 t)) λ t.
        by_test (eqb f.phase 4) (λ u. y (eqb-true f.phase 4 u)) λ u. z (in_custom f.phase c b a (eqb-false f.phase 4 u) (eqb-false f.phase 3 t))

    short_at : f.at < f.total
    short_at = short (λ p. measuring_at k p) (λ p. skipping_at k p) (λ p. custom_at k p)

    pub short_adds : f.total < limit64 → f.at + 1 < limit64
    short_adds m = let h = short_at in omega arith

    short_ends : finish (state_from f) ≡ refused 2 (suc f.at)
    unfolding end
    short_ends = short
        (λ p. end_at f (as_measuring f p))
        (λ p. end_at f (as_skipping f p) ∙ skip_short (done_from f) f.at f.left f.total (skipping_left k p))
        (λ p. end_at f (as_custom f p) ∙ custom_short (done_from f) f.at f.left _ f.total (custom_left k p))

    pub ends_short : {x : Ending} → x ≡ ending_of (refused 2 (f.at + 1)) → x ≡ ending_of (finish (state_from f))
    ends_short e = let up : f.at + 1 ≡ suc f.at = omega arith in e ∙ ap (λ n. ending_of (refused 2 n)) up ∙ sym (ap ending_of short_ends)

pub ruleset endings = (told_there, told_none, told_all, ends_refused, ends_starting, short_adds, ends_short, rules)

-- A PART

open_fit : (f : Stream) → is_open f ≡ true → Fit f
open_fit f e = record { fits = on_both (not (eqb f.phase over)) _ e λ _ t. t }

module _ (f : Stream) (part : List ℕ) {open' : Bool} (e : open' ≡ is_open f) where
  module _ (t : open' ≡ true) where
    module _ {room : Bool} (n : room ≡ leb (f.total + length part) most) where
      pub part_feeds : room ≡ true → Feeding f part
      part_feeds h = record { fit = open_fit f (sym e ∙ t); room = leb-true (f.total + length part) most (sym n ∙ h) }

      pub takes : {x : Stream} → room ≡ true → x ≡ held (steps (state_from f) part) → record { stream = x; verdict = (Ok tt) } ≡ taken f part
      takes h q = (λ i. record { stream = q i; verdict = (Ok tt) }) ∙ sym (part_taken f part (sym e ∙ t) (leb-true (f.total + length part) most (sym n ∙ h)))

      pub takes_not : {x : Taken} → room ≡ false → x ≡ untaken f TotalTooLarge → x ≡ taken f part
      takes_not h q = q ∙ sym (part_too_large f part (sym e ∙ t) (leb-false (f.total + length part) most (sym n ∙ h)))

  pub takes_late : {x : Taken} → open' ≡ false → x ≡ untaken f AfterFinish → x ≡ taken f part
  takes_late t q = q ∙ sym (part_too_late f part (sym e ∙ t))

-- as far as 64 bits go
pub room_is : (total more : ℕ) → total < limit64 → leb more (most - total) ≡ leb (total + more) most
room_is total more h =
    by_test (leb more (most - total))
    (λ t. t ∙ sym (le-leb (total + more) most (let l = leb-true more (most - total) t in omega arith)))
    (λ t. t ∙ sym (lt-leb (total + more) most (let l = leb-false more (most - total) t in omega arith)))

pub ruleset parts = (part_feeds, takes, takes_not, takes_late, room_is, rules)

-- THE FINISH

module _ (f : Stream) {open' : Bool} (e : open' ≡ is_open f) where
  pub finish_fit : open' ≡ true → Fit f
  finish_fit t = open_fit f (sym e ∙ t)

  pub finishes : {x : Ending} {y : Stream} → open' ≡ true → x ≡ ending_of (finish (state_from f)) → y ≡ blank_at f.total over → record { stream = y; ending = x } ≡ ended f
  finishes t p q = (λ i. record { stream = q i; ending = p i }) ∙ sym (open_ends f (sym e ∙ t))

  pub finishes_not : {x : Ending} → open' ≡ false → x ≡ ending_of (refused 18 0) → record { stream = f; ending = x } ≡ ended f
  finishes_not t p = (λ i. record { stream = f; ending = p i }) ∙ sym (shut_ends f (sym e ∙ t))

pub ruleset finishing = (finish_fit, finishes, finishes_not, rules)
