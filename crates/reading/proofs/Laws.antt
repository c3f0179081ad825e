-- Laws for callers: a reading stays inside its part and moves forward, and a part that was read lies where it says. Callers cite these and never open a definition of reading.
use Rattle.std.specs.Prelude.{Ok}
use Prim.Native.Nat.{ℕ, suc, ◌-◌, ◌≤◌, ◌<◌}
use mathlib.Core.Bool.{Bool}
use mathlib.Core.List.{List, [], ◌∷◌, append_assoc}
use mathlib.Core.Path.{◌≡◌, refl, sym, ap, ◌∙◌}
use native.Mathlib.Omega.{arith}
use borrow.Author.Tests.{ltb-true, ltb-false}
use lib.Dec.{ltb}
use lib.ListN.{length, get_or, take, drop, take-append-drop}
use lib.Seq.{slice, slice-cons, slice_empty, length-slice, length-take-le, take-length}
use Rattle.format.specs.Reading.{got, Reader}
use Rattle.format.specs.Numbers.{number, shortest}
use Rattle.format.specs.Parts.{sized, name}
use Rattle.format.specs.Telling.{as_few}
use Rattle.format.specs.Text.{utf8}
use Rattle.format.specs.Laws.Outcomes.{by_test}
use Rattle.format.proofs.Laws.Numbers.{shortest_positive}
use Rattle.format.proofs.Laws.Codecs.{number_sound}
use Rattle.format.specs.Laws.Turns.{in_sized, in_tested}
use Rattle.format.proofs.Laws.Places.{Lies}
use Rattle.format.proofs.Laws.Passing.{Passes, number_passes, sized_passes}
use Rattle.format.specs.declared.Reason.TheVariants.{NotText}
use Rattle.reading.specs.Cursors.{Inside, over_all, left, part_of, NumberReads, PartReads}
use Rattle.reading.specs.declared.Cursor.{Cursor}
use Rattle.reading.specs.Returned.{NumberRead}
use Rattle.reading.specs.Returned.{PartRead}

-- A reading that goes byte by byte stays inside, and the bytes left are those of the slice from the offset to the part's end
pub record Reached (s : List ℕ) (end o : ℕ) (rest : List ℕ) : Type 0 where
  pub inside : o ≤ end
  pub left_there : rest ≡ slice o end s

reached_step : (s : List ℕ) (end : ℕ) → end ≤ length s → (o b : ℕ) (bs : List ℕ) → Reached s end o (b ∷ bs) → Reached s end (suc o) bs
reached_step s end h o b bs a =
    by_test (ltb o end)
    (λ t. record { inside = ltb-true o end t; left_there = let c = slice-cons o end s 0 (ltb-true o end t) h in let l = a.left_there in cc })
    (λ t. absurd (omega (arith, ltb-false o end t, a.inside, ap length a.left_there, length-slice o end s h)))

module _ {s : List ℕ} {c : Cursor} where
  here : Inside s c → Reached s c.end c.at (left s c)
  here i = record { inside = i.ahead; left_there = refl }

  length_left : Inside s c → length (left s c) ≡ c.end - c.at
  length_left i = length-slice c.at c.end s i.within

pub reached : {A : Type 0} {read : Reader A} → ((Holds : ℕ → List ℕ → Type 0) → ((o b : ℕ) (bs : List ℕ) → Holds o (b ∷ bs) → Holds (suc o) bs) → Passes Holds read) → {s : List ℕ} {c : Cursor} → Inside s c → {v : A} {o : ℕ} {rest : List ℕ} → read c.at (left s c) ≡ got v o rest → Reached s c.end o rest
reached passes {s} {c} i e = passes (Reached s c.end) (reached_step s c.end i.within) c.at (left s c) _ _ _ (here i) e

-- A number
pub number_read : {s : List ℕ} {c next : Cursor} {v : ℕ} → number c.at (left s c) ≡ got v next.at (left s next) → next.end ≡ c.end → NumberReads s c (Ok (v, next, (as_few (shortest v) (left s next) (left s c))))
number_read e far = record { means = sym e; same_part = far; tells = refl }

module _ {s : List ℕ} {c : Cursor} {x : NumberRead} {v : ℕ} {next : Cursor} {told : Bool} where
  pub number_means : NumberReads s c x → x ≡ Ok (v, next, told) → number c.at (left s c) ≡ got v next.at (left s next)
  number_means r e = sym (rw e at r.means)

  pub number_tells : NumberReads s c x → x ≡ Ok (v, next, told) → told ≡ as_few (shortest v) (left s next) (left s c)
  number_tells r e = rw e at r.tells

  pub number_end : NumberReads s c x → x ≡ Ok (v, next, told) → next.end ≡ c.end
  number_end r e = rw e at r.same_part

  pub number_inside : Inside s c → NumberReads s c x → x ≡ Ok (v, next, told) → Inside s next
  number_inside i r e =
      let there = reached number_passes i (number_means r e) in
      let same = number_end r e in
      record { ahead = omega (arith, there.inside); within = omega (arith, i.within) }

  pub number_ahead : Inside s c → NumberReads s c x → x ≡ Ok (v, next, told) → next.at ≤ next.end
  number_ahead i r e = (number_inside i r e).ahead

  pub number_moves : Inside s c → NumberReads s c x → x ≡ Ok (v, next, told) → c.at < next.at
  number_moves i r e =
      let sound = (number_sound c.at (left s c) (number_means r e)).shorter in
      let there = number_inside i r e in
      omega (arith, sound, shortest_positive v, length_left i, length_left there, number_end r e)

-- A sized part, or a name: the part, and the cursor behind it
pub record Behind (s : List ℕ) (c part next : Cursor) : Type 0 where
  pub in_part : Inside s part
  pub in_rest : Inside s next
  pub forward : c.at < part.at
  pub ends : part.end ≡ next.at
  pub same_end : next.end ≡ c.end

module _ {s : List ℕ} {c part next : Cursor} where
  sized_behind : Inside s c → sized c.at (left s c) ≡ got (part_of s part) next.at (left s next) → part.end ≡ next.at → next.end ≡ c.end → Behind s c part next
  sized_behind i e ends same =
      in_sized c.at (left s c) e λ n o r e₁ fit is far rest.
      let there = reached number_passes i e₁ in
      let after = reached sized_passes i e in
      let sound = (number_sound c.at (left s c) e₁).shorter in
      let o_is : o ≡ part.at = ap (λ p. p.at) is in
      let far_left : length r ≡ c.end - o = ap length there.left_there ∙ length-slice o c.end s i.within in
      record {
        in_part = record { ahead = omega arith; within = omega (arith, after.inside, i.within) };
        in_rest = record { ahead = omega (arith, after.inside); within = omega (arith, i.within) };
        forward = omega (arith, sound, shortest_positive n, length_left i, there.inside);
        ends = ends;
        same_end = same;
      }

  module _ {x : PartRead} {told : Bool} where
    pub sized_means : PartReads sized s c x → x ≡ Ok (part, next, told) → sized c.at (left s c) ≡ got (part_of s part) next.at (left s next)
    sized_means r e = sym (rw e at r.means)

    pub name_means : PartReads name s c x → x ≡ Ok (part, next, told) → name c.at (left s c) ≡ got (part_of s part) next.at (left s next)
    name_means r e = sym (rw e at r.means)

    pub part_behind : Inside s c → PartReads sized s c x → x ≡ Ok (part, next, told) → Behind s c part next
    part_behind i r e = let same = rw e at r.same_part in sized_behind i (sized_means r e) same.0 same.1

    pub name_behind : Inside s c → PartReads name s c x → x ≡ Ok (part, next, told) → Behind s c part next
    unfolding name
    name_behind i r e =
        let same = rw e at r.same_part in
        in_tested utf8 NotText (λ o p. p.at) c.at (left s c) (name_means r e) λ e₁ t. sized_behind i e₁ same.0 same.1

-- what a cursor has left lies in what was lent
pub lies_left : {s : List ℕ} {c : Cursor} → Inside s c → Lies s c.at (left s c)
lies_left {s} {c} i = record {
  before = take c.at (take c.end s);
  after = drop c.end s;
  joined = rw (← append_assoc (take c.at (take c.end s)) (drop c.at (take c.end s)) (drop c.end s), take-append-drop, take-append-drop);
  far = length-take-le c.at (take c.end s) (omega (arith, length-take-le c.end s i.within, i.ahead));
}

-- nothing is left at the end, and a byte before it
pub nothing_left : {s : List ℕ} {c : Cursor} → Inside s c → c.end ≤ c.at → left s c ≡ []
nothing_left {s} {c} i h = let e : c.at ≡ c.end = omega (arith, i.ahead) in rw (e, slice_empty)

pub something_left : {s : List ℕ} {c : Cursor} → Inside s c → c.at < c.end → left s c ≡ get_or s c.at 0 ∷ slice (suc c.at) c.end s
something_left {s} {c} i h = slice-cons c.at c.end s 0 h i.within

-- the cursor over all that was lent lies in it, and has all of it left
pub left_all : (s : List ℕ) → slice 0 (length s) s ≡ s
left_all s = take-length s

module _ {s : List ℕ} {c : Cursor} (e : c ≡ over_all s) where
  pub over_inside : Inside s c
  over_inside = rw e (record { ahead = omega arith; within = omega arith })

  pub over_left : left s c ≡ s
  over_left = rw e (left_all s)
