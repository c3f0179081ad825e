-- K8. Making markers, check by check: the payload's refusals, then 15, then 13; and what was made is the payload's own.
use Rattle.std.specs.Prelude.{ℕ, ◌≤◌, ◌<◌, ◌&&◌, List, ◌≡◌, ltb, length}
use borrow.Author.Tests.{ltb-true, leb-true, lt-ltb, le-ltb, le-leb, lt-leb}
use Rattle.std.proofs.Math.Dec.{leb}
use Rattle.format.specs.Refusals.{number_of}
use Rattle.format.specs.Reading.{accepted, refused}
use Rattle.format.specs.Numbers.{limit32}
use Rattle.format.specs.Names.{known_kind, judge_names}
use Rattle.format.specs.Questions.{ask}
use Rattle.format.specs.Markers.{Markers, markers_of, unless_long, fitting_both, made, indices_of, offsets_of, quick}
use Rattle.format.specs.Laws.Outcomes.{not_accepted, accepted_is, by_test, on_both, and_false, followed}
use Rattle.format.proofs.Laws.Lists.{on_provided}
use Rattle.format.proofs.Laws.Markers.{own_markers}
use Rattle.format.proofs.Laws.MarkerParts.{markers_refused}
use Rattle.format.specs.declared.FunctionIndex.{FunctionIndex}
use Rattle.format.specs.declared.Question.TheVariants.{FunctionName}
use Rattle.format.specs.declared.Reason.TheVariants.{OutputTooShort, SubsectionTooLarge}

module _ (bs is os : List ℕ) where
  pub made_refused : {n at : ℕ} → judge_names known_kind 0 bs ≡ refused n at → made bs is os ≡ refused n at
  unfolding made
  made_refused e = rw ((markers_refused bs).1 e)

  -- of an accepted payload
  module _ {m : Markers} (e : markers_of bs ≡ accepted m) where
    pub made_long : limit32 ≤ length bs → made bs is os ≡ refused (number_of SubsectionTooLarge) 0
    unfolding made unless_long
    made_long h = rw (e, le-ltb (length bs) limit32 h)

    module _ (short : length bs < limit32) where
      pub made_few_indices : length is < length m.marked → made bs is os ≡ refused (number_of OutputTooShort) (length m.marked)
      unfolding made unless_long fitting_both
      made_few_indices h = rw (e, lt-ltb (length bs) limit32 short, lt-leb (length m.marked) (length is) h)

      pub made_few_offsets : length os < length m.marked → made bs is os ≡ refused (number_of OutputTooShort) (length m.marked)
      unfolding made unless_long fitting_both
      made_few_offsets h = rw (e, lt-ltb (length bs) limit32 short, lt-leb (length m.marked) (length os) h, and_false (leb (length m.marked) (length is)))

      pub made_fits : length m.marked ≤ length is → length m.marked ≤ length os → made bs is os ≡ accepted m
      unfolding made unless_long fitting_both
      made_fits h g = rw (e, lt-ltb (length bs) limit32 short, le-leb (length m.marked) (length is) h, le-leb (length m.marked) (length os) g)

  -- what was made, taken apart
  pub record Made (m : Markers) : Type 0 where
    pub own : markers_of bs ≡ accepted m
    pub short : length bs < limit32
    pub indices : length m.marked ≤ length is
    pub offsets : length m.marked ≤ length os

  pub made_is : {m : Markers} → made bs is os ≡ accepted m → Made m
  unfolding made unless_long fitting_both
  made_is {m} e =
      followed (markers_of bs) _ e λ n own e₁. on_provided (ltb (length bs) limit32) _ _ e₁ λ t e₂.
      by_test (leb (length n.marked) (length is) && leb (length n.marked) (length os))
      (λ both. on_both (leb (length n.marked) (length is)) _ both λ a b.
      rw (← accepted_is (rw both at e₂)) (record { own = own; short = ltb-true (length bs) limit32 t; indices = leb-true (length n.marked) (length is) a; offsets = leb-true (length n.marked) (length os) b }))
      (λ both. absurd (not_accepted (rw both at e₂)))

  -- the quick question with what was made answers as the full one
  pub own_made : {m : Markers} → made bs is os ≡ accepted m → (f : FunctionIndex) → quick bs (indices_of m) (offsets_of m) m.end f ≡ ask known_kind (FunctionName f) bs
  own_made e f = let h = made_is e in own_markers bs h.own h.short f
