-- A payload looked for in the store: compared block by block, row by row.
use Rattle.std.specs.Prelude.{Some, None}
use Prim.Native.Nat.{ℕ, zero, suc, ◌+◌, ◌-◌, ◌*◌, ◌/◌, ◌≤◌, ◌<◌}
use mathlib.Core.Bool.{Bool, true, false, cond, not, ◌&&◌}
use mathlib.Core.List.{List, [], ◌∷◌, ◌++◌}
use mathlib.Core.Option.{Option, none, some}
use mathlib.Core.Path.{◌≡◌, refl, sym, ap, ap₂, ◌∙◌}
use native.Mathlib.Numerals.{add-one}
use native.Mathlib.Omega.{arith}
use borrow.Author.Rules.{rules}
use borrow.Author.Tests.{eq-eqb, ne_eqb}
use lib.Dec.{eqb}
use lib.ListN.{length, take, drop, get_or, length-drop, take-append-drop}
use lib.Seq.{drop-drop, length-take-le, take_all}
use Rattle.format.specs.Bytes.{same}
use Rattle.format.specs.Laws.Bytes.{same_true}
use Rattle.format.specs.Laws.Outcomes.{by_test, on_both, false_true}
use Rattle.sharing.specs.Arrays.{marks_from}
use Rattle.sharing.specs.Blocks.{need, right, are_all_right, gather}
use Rattle.sharing.specs.Laws.Arrays.{marks_cons}
use Rattle.sharing.specs.Laws.Bytes.{blocks_cons, blocks_end, blocks_length}
use Rattle.sharing.specs.Laws.Walks.{later}
use Rattle.sharing.specs.Marks.{Walkable, RightRows, FitsRow, SizeFits, RowHolds, FindsRow}
use Rattle.sharing.specs.Model.{after}
use Rattle.sharing.specs.Table.{Mark, blocks, rows_right, find}
use Rattle.sharing.proofs.PieceLaws.{piece, piece_long, rest_of, rest_all, rest_more, rest_last, gather_long, need_next, need_some}

-- Block by block

same_append : (x y x' y' : List ℕ) → length x ≡ length x' → same (x ++ y) (x' ++ y') ≡ (same x x' && same y y')
unfolding same
same_append [] y [] y' e = refl
same_append [] y (b ∷ x') y' e = absurd (omega arith)
same_append (a ∷ x) y [] y' e = absurd (omega arith)
same_append (a ∷ x) y (b ∷ x') y' e = by_test (eqb a b) (λ t. rw t (same_append x y x' y' (omega arith))) (λ t. rw t)

-- the bytes before `at` and `from` are equal
pub record Held (s : List ℕ) (first : ℕ) (q : List ℕ) (at from : ℕ) : Type 0 where
  pub done : ℕ
  pub at_is : at ≡ (first + done) * 512
  pub from_is : from ≡ done * 508
  pub less : done < need (length q)
  pub inside : from ≤ length q
  pub is : same (gather (length q) (drop first (blocks s))) q ≡ same (rest_of s first (length q) done) (drop from q)

pub held_none : (s : List ℕ) (first : ℕ) (q : List ℕ) → SizeFits s first (length q) → Held s first q (first * 512) 0
held_none s first q w = record { done = 0; at_is = omega arith; from_is = omega arith; less = need_some (length q); inside = omega arith; is = ap (λ (l : List ℕ). same l q) (rest_all s first (length q) w.fits) }

module _ {s : List ℕ} {first : ℕ} {q : List ℕ} {at from : ℕ} (t : Held s first q at from) (w : SizeFits s first (length q)) where
  pub held_room : at + 512 ≤ length s
  held_room = omega (arith, t.at_is, t.less, w.fits)

  pub held_piece : at + 508 ≤ length s
  held_piece = omega (arith, held_room)

  pub held_end : length q - from ≤ 508 → at + (length q - from) ≤ length s
  held_end h = omega (arith, held_room)

  module _ (h : 508 < length q - from) where
    two : same (gather (length q) (drop first (blocks s))) q ≡ (same (take 508 (drop at s)) (take 508 (drop from q)) && same (rest_of s first (length q) (suc t.done)) (drop (from + 508) q))
    two =
        let k = t.done in
        let b : first + k < length s / 512 = omega (arith, t.less, w.fits) in
        let l = piece_long s (first + k) b in
        let m : length (take 508 (drop from q)) ≡ 508 = length-take-le 508 (drop from q) (rw length-drop (omega arith)) in
        t.is
        ∙ ap₂ same (rest_more s first (length q) w.fits k (omega (arith, t.from_is))) (sym (take-append-drop 508 (drop from q)))
        ∙ same_append (piece s (first + k)) (rest_of s first (length q) (suc k)) (take 508 (drop from q)) (drop 508 (drop from q)) (l ∙ sym m)
        ∙ rw (drop-drop 508 from q, ← t.at_is) refl

    pub held_more : {r : Bool} → r ≡ same (take 508 (drop at s)) (take 508 (drop from q)) → r ≡ true → Held s first q (at + 512) (from + 508)
    held_more e g = record {
      done = suc t.done;
      at_is = omega (arith, t.at_is);
      from_is = omega (arith, t.from_is);
      less = need_next (length q) t.done (omega (arith, t.from_is));
      inside = omega arith;
      is = two ∙ rw (← e, g) refl;
    }

    pub held_wrong : {r : Bool} → r ≡ same (take 508 (drop at s)) (take 508 (drop from q)) → r ≡ false → false ≡ same (gather (length q) (drop first (blocks s))) q
    held_wrong e g = sym (two ∙ rw (← e, g) refl)

  pub held_last : {r : Bool} → length q - from ≤ 508 → r ≡ same (take (length q - from) (drop at s)) (take (length q - from) (drop from q)) → r ≡ same (gather (length q) (drop first (blocks s))) q
  held_last h e =
      let z : length q - t.done * 508 ≡ length q - from = omega (arith, t.from_is) in
      let a : rest_of s first (length q) t.done ≡ take (length q - from) (drop at s) = rest_last s first (length q) w.fits t.done t.less (omega arith) ∙ rw (z, ← t.at_is) refl in
      let b : take (length q - from) (drop from q) ≡ drop from q = take_all (length q - from) (drop from q) (rw length-drop (omega arith)) in
      sym (t.is ∙ ap₂ same a (sym b) ∙ sym e)

pub ruleset holds = (held_none, held_piece, held_end, held_more, held_wrong, held_last, rules)

-- Row by row

pub right_there : (k : ℕ) (bs : List (List ℕ)) → are_all_right k bs ≡ true → k ≤ length bs
unfolding are_all_right
right_there zero bs e = omega arith
right_there (suc k) [] e = false_true e
right_there (suc k) (b ∷ bs) e = on_both (right b) (are_all_right k bs) e λ _ r. omega (arith, right_there k bs r)

rows_there : (ms : List Mark) (bs : List (List ℕ)) (b : ℕ) (m : Mark) (ns : List Mark) → rows_right ms bs ≡ true → drop b ms ≡ m ∷ ns → b < length bs → (m.users ≡ 0 → ⊥) → need m.size ≤ length (drop b bs)
unfolding rows_right
rows_there [] bs zero m ns r e h f = absurd (let z : ◌≡◌ {A = ℕ} 0 (suc (length ns)) = ap length e in omega arith)
rows_there [] bs (suc b) m ns r e h f = absurd (let z : ◌≡◌ {A = ℕ} 0 (suc (length ns)) = ap length e in omega arith)
rows_there (x ∷ ms) [] b m ns r e h f = absurd (omega arith)
rows_there (x ∷ ms) (k ∷ bs) zero m ns r e h f =
    let z : x ≡ m = cc in
    let g : eqb x.users 0 ≡ false = ne_eqb x.users 0 (λ i. f (ap (λ (y : Mark). y.users) (sym z) ∙ i)) in
    on_both (are_all_right (need x.size) (k ∷ bs)) (rows_right ms bs) (rw g at r) λ a _. rw (← z) (right_there (need x.size) (k ∷ bs) a)
rows_there (x ∷ ms) (k ∷ bs) (suc b) m ns r e h f = by_test (eqb x.users 0)
    (λ t. rows_there ms bs b m ns (rw t at r) e (omega arith) f)
    (λ t. on_both (are_all_right (need x.size) (k ∷ bs)) (rows_right ms bs) (rw t at r) λ _ a. rows_there ms bs b m ns a e (omega arith) f)

pub fits_row : {us ns s : List ℕ} {b : ℕ} → Walkable us ns s → RightRows us ns s → b < length s / 512 → FitsRow us ns s b
fits_row {us} {ns} {s} {b} w r h = record {
  place = omega (arith, w.few);
  fits = λ f.
      let m = marks_cons us ns b (w.users_long ∙ sym w.sizes_long) (omega (arith, w.users_long, w.few)) in
      omega (arith, rows_there (marks_from us ns) (blocks s) b _ _ r.right m (omega (arith, blocks_length s)) f, length-drop b (blocks s), blocks_length s);
}

module _ (s : List ℕ) (at size : ℕ) {n : ℕ} (q : List ℕ) (e : n ≡ size) where
  pub sized_fits : SizeFits s at size → n ≡ length q → SizeFits s at (length q)
  sized_fits w g = record { fits = rw (← g, e) w.fits }

  pub sized_same : {r : Bool} → n ≡ length q → r ≡ same (gather (length q) (drop at (blocks s))) q → r ≡ same (gather size (drop at (blocks s))) q
  sized_same g x = x ∙ rw (← g, e) refl

  pub sized_other : SizeFits s at size → (n ≡ length q → ⊥) → false ≡ same (gather size (drop at (blocks s))) q
  sized_other w g = by_test (same (gather size (drop at (blocks s))) q)
      (λ t. absurd (g (e ∙ sym (gather_long s at size w.fits) ∙ ap length (same_true (gather size (drop at (blocks s))) q t))))
      (λ t. sym t)

pub ruleset sizes_told = (sized_fits, sized_same, sized_other, rules)

module _ {us ns s : List ℕ} {at : ℕ} where
  pub row_fits : FitsRow us ns s at → (get_or us at 0 ≡ 0 → ⊥) → SizeFits s at (get_or ns at 0)
  row_fits w f = record { fits = w.fits f }

  pub holds_none : {q : List ℕ} → get_or us at 0 ≡ 0 → RowHolds us ns s at q false
  holds_none e = record { is = rw (eq-eqb (get_or us at 0) 0 e) refl }

  pub holds_same : {q : List ℕ} {r : Bool} → (get_or us at 0 ≡ 0 → ⊥) → r ≡ same (gather (get_or ns at 0) (drop at (blocks s))) q → RowHolds us ns s at q r
  holds_same f x = record { is = x ∙ rw (ne_eqb (get_or us at 0) 0 f) refl }

pub ruleset row_holds = (row_fits, holds_none, holds_same, rules)

-- The first row

pub later_after : (n : ℕ) (o : Option ℕ) → later n (after o) ≡ after (later n o)
later_after zero o = refl
later_after (suc n) o = ap after (later_after n o)

pub later_none_is : (n : ℕ) → later n none ≡ none
unfolding after
later_none_is zero = refl
later_none_is (suc n) = ap after (later_none_is n)

pub later_zero : (n : ℕ) → later n (some 0) ≡ some n
unfolding after
later_zero zero = refl
later_zero (suc n) = ap after (later_zero n)

pub record Sought (us ns s q : List ℕ) (b : ℕ) : Type 0 where
  pub is : find q (marks_from us ns) (blocks s) ≡ later b (find q (drop b (marks_from us ns)) (drop b (blocks s)))

pub sought_none : (us ns s q : List ℕ) → Sought us ns s q 0
sought_none us ns s q = record { is = refl }

find_test : (q : List ℕ) (m : Mark) (ms : List Mark) (k : List ℕ) (ks : List (List ℕ)) → find q (m ∷ ms) (k ∷ ks) ≡ cond (not (eqb m.users 0) && same (gather m.size (k ∷ ks)) q) (some 0) (after (find q ms ks))
unfolding find
find_test q m ms k ks = refl

find_end : (q : List ℕ) (ms : List Mark) → find q ms [] ≡ none
unfolding find
find_end q [] = refl
find_end q (m ∷ ms) = refl

module _ {us ns s q : List ℕ} {b : ℕ} (t : Sought us ns s q b) where
  module _ (w : Walkable us ns s) (h : b < length s / 512) where
    tried : {r : Bool} → RowHolds us ns s b q r → find q (marks_from us ns) (blocks s) ≡ later b (cond r (some 0) (after (find q (drop (suc b) (marks_from us ns)) (drop (suc b) (blocks s)))))
    tried x =
        let m = marks_cons us ns b (w.users_long ∙ sym w.sizes_long) (omega (arith, w.users_long, w.few)) in
        let k = blocks_cons s b h in
        t.is ∙ ap (later b) (ap₂ (find q) m k ∙ find_test q _ (drop (suc b) (marks_from us ns)) _ (drop (suc b) (blocks s)) ∙ rw (← k, ← x.is) refl)

    pub sought_more : {r : Bool} → RowHolds us ns s b q r → r ≡ false → Sought us ns s q (b + 1)
    sought_more x e = record { is = tried x ∙ rw (e, add-one b) (later_after b _) }

    pub sought_found : {r : Bool} → RowHolds us ns s b q r → r ≡ true → FindsRow us ns s q (Some b)
    sought_found x e = record { is = sym (tried x ∙ rw e (later_zero b)) }

  pub sought_all : length s / 512 ≤ b → FindsRow us ns s q None
  sought_all h = record { is = sym (t.is ∙ ap (later b) (ap (find q (drop b (marks_from us ns))) (blocks_end s b h) ∙ find_end q (drop b (marks_from us ns))) ∙ later_none_is b) }

pub ruleset finds = (fits_row, sought_none, sought_more, sought_found, sought_all, rules)
