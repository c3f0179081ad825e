-- Standing before another in a list is having the lower place in it; and the ids up to the greatest are those of the order. The lists themselves are computed over.
use Rattle.std.specs.Prelude.{ℕ, zero, suc, ◌≤◌, ◌<◌, Bool, true, false, not, ◌&&◌, ◌||◌, List, [], ◌∷◌, ◌≢◌, ◌≡◌, refl, leb, eqb}
use Rattle.std.proofs.Common.{arith, leb-true, leb-false, eqb-true, eq-eqb, ne_eqb}
use Rattle.std.proofs.lemmas.Bool.{eqb-false}
use Rattle.format.specs.Walk.{greatest, greatest_id, place_from, rank}
use Rattle.format.specs.Laws.Outcomes.{by_test, false_true, on_both}
use Rattle.grammar.specs.Modules.{Among, here, further, Before, from_here, from_further, section_order}

pub either {ℓ} : {C : Type ℓ} (a b : Bool) → (a || b) ≡ true → (a ≡ true → C) → (b ≡ true → C) → C
either true b e f g = f refl
either false b e f g = g e

pub left : (a b : Bool) → a ≡ true → (a || b) ≡ true
left true b e = refl
left false b e = false_true e

pub right : (a b : Bool) → b ≡ true → (a || b) ≡ true
right true b e = refl
right false b e = e

-- Tests of lists, by which two are the same
module _ {A : Type 0} (alike : A → A → Bool) where
  abbrev pub is_in : A → List A → Bool
  is_in x [] = false
  is_in x (y ∷ ys) = alike x y || is_in x ys

  abbrev pub all_differ : List A → Bool
  all_differ [] = true
  all_differ (x ∷ xs) = not (is_in x xs) && all_differ xs

  pub among_in : {x y : A} {ys : List A} → alike x y ≡ true → Among y ys → is_in x ys ≡ true
  among_in {x} {y} t (here {xs = xs}) = left (alike x y) (is_in x xs) t
  among_in {x} t (further {x = z} {xs = xs} a) = right (alike x z) (is_in x xs) (among_in t a)

  pub first_differs {ℓ} : {C : Type ℓ} (x : A) (xs : List A) → all_differ (x ∷ xs) ≡ true → (((y : A) → Among y xs → alike x y ≡ false) → all_differ xs ≡ true → C) → C
  first_differs x xs e k =
      on_both (not (is_in x xs)) (all_differ xs) e λ n d.
      k (λ y a. by_test (alike x y) (λ t. let out : not true ≡ true = rw (among_in t a) at n in false_true out) (λ t. t)) d

in_among : (x : ℕ) (ys : List ℕ) → is_in eqb x ys ≡ true → Among x ys
in_among x [] e = false_true e
in_among x (y ∷ ys) e = either (eqb x y) (is_in eqb x ys) e (λ t. rw (eqb-true x y t) here) (λ t. further (in_among x ys t))

-- PLACES
pub placed : {n : ℕ} (k : ℕ) {xs : List ℕ} → Among n xs → k ≤ place_from k xs n
placed {n} k here = rw (eq-eqb n n refl) (omega arith)
placed {n} k (further {x = x} a) = by_test (eqb n x) (λ t. rw t (omega arith)) (λ t. rw t (omega (arith, placed (suc k) a)))

stands : (k : ℕ) (xs : List ℕ) (n : ℕ) → 0 < place_from k xs n → Among n xs
stands k [] n h = absurd (omega arith)
stands k (x ∷ xs) n h = by_test (eqb n x) (λ t. rw (eqb-true n x t) here) (λ t. further (stands (suc k) xs n (rw t at h)))

both_among : {i j : ℕ} {xs : List ℕ} → Before i j xs → Among i xs × Among j xs
both_among (from_here a) = (here, further a)
both_among (from_further b) = let (p, q) = both_among b in (further p, further q)

before_place : (k : ℕ) (xs : List ℕ) {i j : ℕ} → all_differ eqb xs ≡ true → Before i j xs → place_from k xs i < place_from k xs j
before_place k [] d b = elim b [ ]
before_place k (x ∷ xs) {i} {j} d (from_here a) =
    first_differs eqb x xs d λ differ _.
    rw (eq-eqb i i refl, ne_eqb j i (λ e. eqb-false i j (differ j a) (rw e))) (omega (arith, placed (suc k) a))
before_place k (x ∷ xs) {i} {j} d (from_further b) =
    first_differs eqb x xs d λ differ rest.
    let (p, q) = both_among b in
    rw (ne_eqb i x (λ e. eqb-false x i (differ i p) (rw e)), ne_eqb j x (λ e. eqb-false x j (differ j q) (rw e))) (before_place (suc k) xs rest b)

place_before : (k : ℕ) (xs : List ℕ) (i j : ℕ) → 0 < place_from k xs i → place_from k xs i < place_from k xs j → Before i j xs
place_before k [] i j p q = absurd (omega arith)
place_before k (x ∷ xs) i j p q =
    by_test (eqb i x)
    (λ t. by_test (eqb j x)
    (λ u. let same : k < k = rw (t, u) at q in absurd (omega arith))
    (λ u. let later : k < place_from (suc k) xs j = rw (t, u) at q in rw (eqb-true i x t) (from_here (stands (suc k) xs j (omega arith)))))
    (λ t.
    let p₁ : 0 < place_from (suc k) xs i = rw t at p in
    by_test (eqb j x)
    (λ u. let earlier : place_from (suc k) xs i < k = rw (t, u) at q in absurd (omega (arith, placed (suc k) (stands (suc k) xs i p₁))))
    (λ u. from_further (place_before (suc k) xs i j p₁ (rw (t, u) at q))))

-- THE ORDER
pub before_rank : {i j : ℕ} → Before i j section_order → rank i < rank j
unfolding rank
before_rank b = before_place 1 section_order refl b

pub rank_before : (i j : ℕ) → 0 < rank i → rank i < rank j → Before i j section_order
unfolding rank
rank_before i j p q = place_before 1 section_order i j p q

pub ranked : {id : ℕ} → id ≢ 0 → Among id (0 ∷ section_order) → 0 < rank id
unfolding rank
ranked n here = absurd (n refl)
ranked n (further a) = placed 1 a

-- THE IDS
at_most_greatest : {n : ℕ} {xs : List ℕ} → Among n xs → n ≤ greatest xs
at_most_greatest {n} (here {xs = xs}) = by_test (leb (greatest xs) n) (λ t. rw t (omega arith)) (λ t. rw t (omega (arith, leb-false (greatest xs) n t)))
at_most_greatest {n} (further {x = x} {xs = xs} a) =
    by_test (leb (greatest xs) x)
    (λ t. rw t (omega (arith, leb-true (greatest xs) x t, at_most_greatest a)))
    (λ t. rw t (at_most_greatest a))

abbrev all_below : ℕ → (ℕ → Bool) → Bool
all_below zero test = true
all_below (suc n) test = test n && all_below n test

all_below_lem : (n : ℕ) (test : ℕ → Bool) → all_below n test ≡ true → (i : ℕ) → i < n → test i ≡ true
all_below_lem zero test e i h = absurd (omega arith)
all_below_lem (suc n) test e i h =
    on_both (test n) (all_below n test) e λ now rest.
    by_test (eqb i n)
    (λ t. rw (eqb-true i n t) now)
    (λ t. let other = eqb-false i n t in all_below_lem n test rest i (omega (arith, other)))

pub id_known : {id : ℕ} → Among id (0 ∷ section_order) → id ≤ greatest_id
unfolding greatest_id
id_known here = omega arith
id_known (further a) = at_most_greatest a

pub known_id : (id : ℕ) → id ≤ greatest_id → Among id (0 ∷ section_order)
unfolding greatest_id
known_id id h = in_among id (0 ∷ section_order) (all_below_lem (suc greatest_id) (λ i. is_in eqb i (0 ∷ section_order)) refl id (omega arith))
