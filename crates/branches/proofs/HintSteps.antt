-- The hints of one function, one after the other.
use Rattle.std.specs.Prelude.{Ok, Err, Some, None}
use Prim.Native.Nat.{ℕ, suc, ◌-◌, ◌≤◌, ◌<◌}
use mathlib.Core.List.{List, [], ◌∷◌}
use mathlib.Core.Path.{◌≡◌, refl, sym, ap, subst, ◌∙◌}
use native.Mathlib.Omega.{arith}
use borrow.Author.Rules.{rules}
use denote.Enum.Declared.{tag_of}
use Rattle.format.specs.Numbers.{number}
use Rattle.format.specs.Older.{times}
use Rattle.format.specs.Parts.{Part, sized}
use Rattle.format.specs.Reading.{accepted, refused}
use Rattle.format.specs.declared.Reason.TheVariants.{NotReadable, NotOnBranch}
use Rattle.format.specs.declared.Refusal.{Refusal}
use Rattle.reading.specs.Cursors.{Inside, left, part_of}
use Rattle.reading.specs.Standing.{Stands, Known, TakesPart}
use Rattle.reading.specs.declared.Cursor.{Cursor}
use Rattle.reading.specs.declared.again.Number.{Number}
use Rattle.reading.specs.declared.again.Piece.{Piece}
use Rattle.reading.proofs.Standing.{one_value, one_end}
use Rattle.older.proofs.ReadAgain.{times_none}
use Rattle.instructions.specs.Locals.{locals}
use Rattle.instructions.specs.Ways.{Goes}
use Rattle.instructions.specs.Returned.{Way}
use Rattle.instructions.proofs.WayLaws.{went, halted, goes_far, goes_inside}
use Rattle.branches.specs.Bodies.{Seat, on_branch_lem, not_readable, elsewhere, seat_in}
use Rattle.branches.specs.Branches.{each_hint}
use Rattle.branches.specs.Hints.{Placed, placed_row, Hints}
use Rattle.branches.specs.Laws.Hints.{Rising, a_row, RisingHints}
use Rattle.branches.specs.Seats.{seat_at, ReachesTo}
use Rattle.branches.specs.Reads.{refusal_with}
use Rattle.branches.specs.Sitting.{Ready, SatSaid, SitsFrom, SitsIn}
use Rattle.branches.specs.Returned.{Sat}
use Rattle.branches.specs.declared.seats.Reach.{Reach}
use Rattle.branches.specs.declared.seats.Reach.TheVariants.{At, Unreadable, Elsewhere}
use Rattle.branches.specs.contracts.seats.Reach as reach_type
use Rattle.branches.proofs.RowLaws.{sized_passable, NextRow, next_row}

as_stopped : (r : Reach) → tag_of reach_type.the_type r ≡ 1 → r ≡ Unreadable
as_stopped (At c) h = absurd (omega arith)
as_stopped Unreadable h = refl
as_stopped Elsewhere h = absurd (omega arith)

as_elsewhere : (r : Reach) → tag_of reach_type.the_type r ≡ 2 → r ≡ Elsewhere
as_elsewhere (At c) h = absurd (omega arith)
as_elsewhere Unreadable h = absurd (omega arith)
as_elsewhere Elsewhere h = refl

-- rows that rise, taken apart
pub rising_first : {A : Type 0} {P : A → Type 0} {least : ℕ} {p : Placed A} {ps : List (Placed A)} → Rising P least (p ∷ ps) → (least ≤ p.number) × P p.value × Rising P (suc p.number) ps
rising_first (a_row l so more) = (l, so, more)

-- one hint, by what stands at its offset
module _ (seat : ℕ → Seat) (h : Placed Part) (hs : Hints) where
  hint_sits : seat h.number ≡ on_branch_lem → each_hint seat (h ∷ hs) ≡ each_hint seat hs
  unfolding each_hint
  hint_sits e = rw e

  hint_unread : seat h.number ≡ not_readable → each_hint seat (h ∷ hs) ≡ refused 20 h.at
  unfolding each_hint
  hint_unread e = rw e

  hint_elsewhere : seat h.number ≡ elsewhere → each_hint seat (h ∷ hs) ≡ refused 21 h.at
  unfolding each_hint
  hint_elsewhere e = rw e

no_hint : (seat : ℕ → Seat) → each_hint seat [] ≡ accepted tt
unfolding each_hint
no_hint seat = refl

-- the same seats judge alike
each_same : {f g : ℕ → Seat} → ((k : ℕ) → f k ≡ g k) → (hs : Hints) → each_hint f hs ≡ each_hint g hs
unfolding each_hint
each_same q [] = refl
each_same q (h ∷ hs) = rw (q h.number, each_same q hs)

-- Whenever the loop's test is reached: so many hints are still to come, and what stands at their offsets is found from here on
pub record Sitting (n more : ℕ) (s : List ℕ) (base : ℕ) (rows code next here : Cursor) : Type 0 where
  pub ready : Ready s rows n
  pub to_come_lem : Hints
  pub least : ℕ
  pub rest : Stands (times (placed_row sized) more) s next to_come_lem ready.last
  pub rising : RisingHints least to_come_lem
  pub inside : Inside s here
  pub behind_base : base ≤ here.at
  pub seats : (k : ℕ) → least ≤ k → seat_at s base code k ≡ seat_at s base here k
  pub same : each_hint (seat_at s base code) ready.hints ≡ each_hint (seat_at s base code) to_come_lem

pub sitting_begins : {n : ℕ} {s : List ℕ} {base : ℕ} {rows code : Cursor} → Ready s rows n → Inside s code → base ≤ code.at → Sitting n n s base rows code rows code
sitting_begins r i h = record { ready = r; to_come_lem = r.hints; least = 0; rest = r.stand; rising = r.rising; inside = i; behind_base = h; seats = λ k l. refl; same = refl }

module _ {n more : ℕ} {s : List ℕ} {base : ℕ} {rows code next here : Cursor} (t : Sitting n more s base rows code next here) where
  pub sitting_inside : Inside s here
  sitting_inside = t.inside

  pub sitting_base : base ≤ here.at
  sitting_base = t.behind_base

  pub sitting_ended : more ≤ 0 → SitsFrom s rows n base code (Ok next)
  sitting_ended h =
      let end = times_none (placed_row sized) more h t.rest in
      record { ready = t.ready; says = (end.1, t.same ∙ ap (each_hint (seat_at s base code)) (sym end.0) ∙ no_hint (seat_at s base code)) }

  module _ (h : 0 < more) where
    next_hint : NextRow sized s next more t.to_come_lem t.ready.last
    next_hint = next_row sized_passable more h t.rest

    pub number_known : Known number s next
    number_known = let r = next_hint in record { value = r.first; next = r.middle; stands = r.index }

    module _ {x : Number} (a : Stands number s next x.value x.next) where
      same_offset : next_hint.first ≡ x.value
      same_offset = one_value next_hint.index a

      same_middle : next_hint.middle ≡ x.next
      same_middle = one_end next_hint.index a

      pub part_known : Known sized s x.next
      part_known = let r = next_hint in rw (← same_middle) (record { value = r.value; next = r.behind; stands = r.content })

      seat_told : {y : Reach} → ReachesTo s here base x.value y → seat_at s base code next_hint.first ≡ seat_at s base here x.value
      seat_told g =
          let r = next_hint in
          let above = (rising_first (rw r.is at t.rising)).0 in
          t.seats r.first above ∙ ap (seat_at s base here) same_offset

      module _ {y : Reach} (g : ReachesTo s here base x.value y) where
        pub sitting_unread : {r : Refusal} → tag_of reach_type.the_type y ≡ 1 → r ≡ refusal_with NotReadable next.at → SitsFrom s rows n base code (Err r)
        sitting_unread q is =
            let r = next_hint in
            rw is (record { ready = t.ready; says = t.same ∙ ap (each_hint (seat_at s base code)) r.is ∙ hint_unread (seat_at s base code) _ _ (seat_told g ∙ sym (rw (as_stopped y q) at g.says)) })

        pub sitting_elsewhere : {r : Refusal} → tag_of reach_type.the_type y ≡ 2 → r ≡ refusal_with NotOnBranch next.at → SitsFrom s rows n base code (Err r)
        sitting_elsewhere q is =
            let r = next_hint in
            rw is (record { ready = t.ready; says = t.same ∙ ap (each_hint (seat_at s base code)) r.is ∙ hint_elsewhere (seat_at s base code) _ _ (seat_told g ∙ sym (rw (as_elsewhere y q) at g.says)) })

        pub sitting_goes : {there : Cursor} {piece : Piece} → y ≡ At there → TakesPart s x.next piece → Sitting n (more - 1) s base rows code piece.next there
        sitting_goes {there} {piece} q b =
            let r = next_hint in
            let rises = rising_first (rw r.is at t.rising) in
            let on = rw q at g.goes_on in
            let behind : r.behind ≡ piece.next = one_end (rw same_middle at r.content) b.stands in
            record {
              ready = t.ready;
              to_come_lem = r.others;
              least = suc r.first;
              rest = rw behind at r.rest;
              rising = rises.2;
              inside = on.inside;
              behind_base = on.behind_base;
              seats = λ k l. t.seats k (omega (arith, rises.0, l)) ∙ on.same k (omega (arith, l, same_offset));
              same = t.same ∙ ap (each_hint (seat_at s base code)) r.is ∙ hint_sits (seat_at s base code) _ _ (seat_told g ∙ sym (rw q at g.says));
            }

pub ruleset sitting = (sitting_begins, sitting_inside, sitting_base, sitting_ended, number_known, part_known, sitting_unread, sitting_elsewhere, sitting_goes, rules)

-- from the locals on
module _ {s : List ℕ} {body : Cursor} {x : Way} (g : Goes locals s body x) where
  pub locals_unread : {rows : Cursor} {n : ℕ} {r : Refusal} → Ready s rows n → 0 < n → x ≡ None → r ≡ refusal_with NotReadable rows.at → SitsIn s rows n body (Err r)
  unfolding seat_in
  locals_unread {n = n} ready h e is =
      let (m, at, stops) = halted (locals body.at (left s body)) (rw e at g.means) in
      let r = next_row sized_passable n h ready.stand in
      rw is (record { ready = ready; says = ap (each_hint (seat_in (part_of s body))) r.is ∙ hint_unread (seat_in (part_of s body)) _ _ (rw stops) })

  module _ {code : Cursor} (e : x ≡ Some code) where
    pub locals_before : body.at ≤ code.at
    locals_before = (goes_far (rw e at g)).0

    pub locals_inside : Inside s body → Inside s code
    locals_inside i = goes_inside (rw e at g) i

    same_seat : (k : ℕ) → seat_in (part_of s body) k ≡ seat_at s body.at code k
    unfolding seat_in
    same_seat k = let (v, is) = went (locals body.at (left s body)) (rw e at g.means) in rw is

    pub locals_read : {rows : Cursor} {n : ℕ} {z : Sat} → SitsFrom s rows n body.at code z → SitsIn s rows n body z
    locals_read {z = z} f =
        let alike = each_same same_seat f.ready.hints in
        record { ready = f.ready; says = subst (λ j. SatSaid f.ready.last j z) (sym alike) f.says }

pub ruleset sitting_in = (locals_unread, locals_before, locals_inside, locals_read, rules)
