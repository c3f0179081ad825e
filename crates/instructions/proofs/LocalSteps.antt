-- The locals, a group after the other.
use Rattle.std.specs.Prelude.{Ok, Err, Some, None}
use Prim.Native.Nat.{ℕ, zero, suc, ◌+◌, ◌-◌, ◌≤◌, ◌<◌}
use mathlib.Core.Bool.{Bool}
use mathlib.Core.List.{List}
use mathlib.Core.Path.{◌≡◌, refl, sym, ◌∙◌}
use native.Mathlib.Omega.{arith}
use borrow.Author.Rules.{rules}
use borrow.Author.Tests.{lt-ltb, le-ltb}
use lib.Dec.{ltb}
use Rattle.format.specs.Reading.{got, and_then, ◌>>◌, checked}
use Rattle.format.specs.Numbers.{number, limit32}
use Rattle.format.specs.declared.Reason.TheVariants.{NotReadable}
use Rattle.format.specs.declared.Refusal.{Refusal}
use Rattle.reading.specs.Cursors.{Inside, left, NumberReads}
use Rattle.reading.specs.declared.Cursor.{Cursor}
use Rattle.reading.specs.Returned.{NumberRead}
use Rattle.reading.proofs.Laws.{number_means, number_inside, number_end, number_moves}
use Rattle.instructions.specs.Immediates.{byte_of}
use Rattle.instructions.specs.Locals.{local_groups, locals}
use Rattle.instructions.specs.Ways.{Goes}
use Rattle.instructions.specs.declared.pieces.ByteKind.TheVariants.{ValueType}
use Rattle.instructions.specs.Returned.{Way}
use Rattle.instructions.proofs.PieceSteps.{Still}
use Rattle.instructions.proofs.WayLaws.{no_number, went, halted, goes_far, goes_inside, number_stops, number_goes}

groups_next : (n before : ℕ) → 0 < n → (o : ℕ) (bs : List ℕ) → local_groups n before o bs ≡ and_then (number o bs) (λ count. checked (ltb (before + count) limit32) NotReadable o >> (byte_of ValueType >> local_groups (n - 1) (before + count)))
unfolding local_groups
groups_next zero before h o bs = absurd (omega arith)
groups_next (suc n) before h o bs = let d : suc n - 1 ≡ n = omega arith in rw d

groups_none : (n before : ℕ) → n ≤ 0 → (o : ℕ) (bs : List ℕ) → local_groups n before o bs ≡ got tt o bs
unfolding local_groups
groups_none zero before h o bs = refl
groups_none (suc n) before h o bs = absurd (omega arith)

-- whenever the loop's test is reached
pub record Counting (n more before : ℕ) (s : List ℕ) (c next : Cursor) : Type 0 where
  pub still : Still (local_groups n 0) (local_groups more before) s c next
  pub small : before < limit32

pub counting_begins : {n : ℕ} {s : List ℕ} {c : Cursor} → Inside s c → Counting n n 0 s c c
counting_begins i = record { still = record { inside = i; forward = omega arith; same_end = refl; same = refl }; small = omega arith }

module _ {n more before : ℕ} {s : List ℕ} {c next : Cursor} (t : Counting n more before s c next) where
  pub counting_inside : Inside s next
  counting_inside = t.still.inside

  pub counting_small : before < limit32
  counting_small = t.small

  pub counting_ended : more ≤ 0 → Goes (local_groups n 0) s c (Some next)
  counting_ended h =
      let w = t.still in
      let far = w.same_end in
      record { means = sym (w.same ∙ rw (groups_none more before h next.at (left s next))); same_part = (w.forward, omega (arith, w.inside.ahead, far), far) }

  module _ (h : 0 < more) {x : NumberRead} (r : NumberReads s next x) where
    pub no_count : {why : Refusal} → x ≡ Err why → Goes (local_groups n 0) s c None
    no_count e =
        let (m, at, is) = no_number r e in
        record { means = sym (t.still.same ∙ rw (groups_next more before h next.at (left s next), is)); same_part = tt }

    module _ {count : ℕ} {d : Cursor} {told : Bool} (e : x ≡ Ok (count, d, told)) where
      pub counting_number : Inside s d
      counting_number = number_inside t.still.inside r e

      pub too_many : limit32 ≤ before + count → Goes (local_groups n 0) s c None
      too_many l = record { means = sym (t.still.same ∙ rw (groups_next more before h next.at (left s next), number_means r e, le-ltb (before + count) limit32 l)); same_part = tt }

      module _ (l : before + count < limit32) where
        pub no_type : Goes (byte_of ValueType) s d None → Goes (local_groups n 0) s c None
        no_type g =
            let (m, at, is) = halted (byte_of ValueType d.at (left s d)) g.means in
            record { means = sym (t.still.same ∙ rw (groups_next more before h next.at (left s next), number_means r e, lt-ltb (before + count) limit32 l, is)); same_part = tt }

        pub one_group : {after : Cursor} → Goes (byte_of ValueType) s d (Some after) → Counting n (more - 1) (before + count) s c after
        one_group g =
            let w = t.still in
            let (v, is) = went (byte_of ValueType d.at (left s d)) g.means in
            let far = goes_far g in
            let moves = number_moves w.inside r e in
            record {
              still = record {
                inside = goes_inside g counting_number;
                forward = omega (arith, far.0, w.forward);
                same_end = far.2 ∙ number_end r e ∙ w.same_end;
                same = w.same ∙ rw (groups_next more before h next.at (left s next), number_means r e, lt-ltb (before + count) limit32 l, is);
              };
              small = l;
            }

pub ruleset counting = (counting_begins, counting_inside, counting_small, counting_ended, no_count, counting_number, too_many, no_type, one_group, rules)

-- how many groups, and so many
module _ {s : List ℕ} {c : Cursor} {x : NumberRead} (r : NumberReads s c x) where
  pub locals_uncounted : {why : Refusal} → x ≡ Err why → Goes locals s c None
  unfolding locals
  locals_uncounted e = number_stops (λ n. local_groups n 0) r e

  pub locals_counted : {n : ℕ} {d : Cursor} {told : Bool} {y : Way} → Inside s c → x ≡ Ok (n, d, told) → Goes (local_groups n 0) s d y → Goes locals s c y
  unfolding locals
  locals_counted i e g = number_goes (λ n. local_groups n 0) r i e g

pub ruleset locals_steps = (locals_uncounted, locals_counted, number_inside, rules)
