-- Numbers: what is read has 32 bits and is no shorter than its fewest bytes, and as long only where it is these; the fewest bytes read back; a smaller number takes no more bytes, and a sum no more than both.
use Rattle.std.specs.Prelude.{ℕ, zero, suc, ◌+◌, ◌*◌, ◌%◌, ◌/◌, ◌≤◌, ◌<◌, List, [], ◌∷◌, ◌++◌, ◌≡◌, refl, ltb, leb, length}
use Rattle.std.proofs.Common.{ap, ap₂, arith, ltb-true, ltb-false, leb-true, le-ltb, le-leb}
use Rattle.format.specs.Reading.{got, return}
use Rattle.format.specs.Numbers.{groups, fewest, shortest}
use Rattle.format.specs.Laws.Outcomes.{not_got, got_value, got_rest, by_test, in_turn}
use Rattle.format.specs.Laws.Tight.{Tight}

-- what `more` bytes after the next one can hold
abbrev pub limit : ℕ → ℕ
limit zero = 16
limit (suc k) = 128 * limit k

pub record NumberRead (k v : ℕ) (rest bs : List ℕ) : Type 0 where
  pub small : v < limit k
  pub shorter : length (fewest k v) + length rest ≤ length bs
  pub tight : Tight (fewest k v) rest bs

pub limit_positive : (k : ℕ) → 0 < limit k
limit_positive zero = omega arith
limit_positive (suc k) = omega (arith, limit_positive k)

fewest_positive : (k v : ℕ) → 0 < length (fewest k v)
unfolding fewest
fewest_positive zero v = omega arith
fewest_positive (suc k) v = by_test (ltb v 128) (λ t. rw t (omega arith)) (λ t. rw t (omega arith))

pub groups_sound : (k s o : ℕ) (bs : List ℕ) {v o' : ℕ} {rest : List ℕ} → groups k s o bs ≡ got v o' rest → NumberRead k v rest bs
unfolding groups fewest
groups_sound k s o [] e = absurd (not_got e)
groups_sound zero s o (b ∷ bs) {v} {o'} {rest} e =
    by_test (leb b 15)
    (λ t. let e' : got b (suc o) bs ≡ got v o' rest = rw t at e in
    let v_is = got_value e' in
    let r_is = got_rest e' in
    record { small = omega (arith, leb-true b 15 t); shorter = rw (← r_is) (omega arith); tight = record { same = λ _ _. ap₂ (λ (x : ℕ) (xs : List ℕ). x ∷ xs) v_is r_is } })
    (λ t. absurd (not_got (rw t at e)))
groups_sound (suc k) s o (b ∷ bs) {v} {o'} {rest} e =
    by_test (ltb b 128)
    (λ t. let e' : got b (suc o) bs ≡ got v o' rest = rw t at e in
    let v_is = got_value e' in
    let r_is = got_rest e' in
    let h = ltb-true b 128 t in
    record { small = omega (arith, limit_positive k); shorter = rw (← r_is, ← v_is, t) (omega arith); tight = rw (← r_is, ← v_is, t) (record { same = λ _ _. refl }) })
    (λ t. in_turn (groups k s (suc o) bs) (λ w. return (b % 128 + 128 * w)) (rw t at e) λ w o₁ r₁ e₁ e₂.
    let ih = groups_sound k s (suc o) bs e₁ in
    let v_is = got_value e₂ in
    let d : v / 128 ≡ w = omega arith in
    record {
      small = omega arith;
      shorter = rw (← got_rest e₂) (by_test (ltb v 128) (λ z. rw z (omega (arith, ih.shorter))) (λ z. rw (z, d) (omega (arith, ih.shorter))));
      tight = rw (← got_rest e₂) (by_test (ltb v 128)
          (λ z. rw z (record { same = λ h long. absurd (omega (arith, long, ih.shorter, fewest_positive k w)) }))
          (λ z. rw (z, d) (record { same = λ h long. ap₂ (λ (x : ℕ) (xs : List ℕ). x ∷ xs) (omega (arith, h 0, ltb-false b 128 t, v_is)) (ih.tight.same (λ i. h (suc i)) (omega (arith, long))) })));
    })

-- reading back the fewest bytes
pub groups_back : (k s o v : ℕ) (rest : List ℕ) → v < limit k → (o' : ℕ) × (groups k s o (fewest k v ++ rest) ≡ got v o' rest)
unfolding groups fewest
groups_back zero s o v rest h = (suc o, rw (le-leb v 15 (omega arith)))
groups_back (suc k) s o v rest h =
    by_test (ltb v 128)
    (λ t. (suc o, rw (t, t)))
    (λ t. let ih = groups_back k s (suc o) (v / 128) rest (omega arith) in
    (ih.0, rw (t, le-ltb (128 + v % 128) 128 (omega arith), ih.1) (ap (λ (x : ℕ). got x ih.0 rest) (omega arith))))

-- a smaller number takes no more bytes
pub fewest_mono : (k m n : ℕ) → m ≤ n → length (fewest k m) ≤ length (fewest k n)
unfolding fewest
fewest_mono zero m n h = omega arith
fewest_mono (suc k) m n h =
    by_test (ltb m 128)
    (λ s. rw s (by_test (ltb n 128) (λ t. rw t (omega arith)) (λ t. rw t (omega arith))))
    (λ s. let hm = ltb-false m 128 s in
    rw (s, le-ltb n 128 (omega arith)) (omega (arith, fewest_mono k (m / 128) (n / 128) (omega arith))))

pub shortest_mono : (m n : ℕ) → m ≤ n → length (shortest m) ≤ length (shortest n)
unfolding shortest
shortest_mono m n h = fewest_mono 4 m n h

pub shortest_positive : (v : ℕ) → 0 < length (shortest v)
unfolding shortest
shortest_positive v = fewest_positive 4 v

-- the sum of two numbers takes no more bytes than both
fewest_one : (k : ℕ) → length (fewest k 1) ≡ 1
unfolding fewest
fewest_one zero = refl
fewest_one (suc k) = refl

fewest_sum : (k m n : ℕ) → length (fewest k (m + n)) ≤ length (fewest k m) + length (fewest k n)
unfolding fewest
fewest_sum zero m n = omega arith
fewest_sum (suc k) m n =
    by_test (ltb (m + n) 128)
    (λ t. rw t (omega (arith, fewest_positive (suc k) m)))
    (λ t. rw t (by_test (ltb m 128)
    (λ a. rw a (by_test (ltb n 128)
    (λ b. rw b (omega (arith, ltb-true m 128 a, ltb-true n 128 b, fewest_one k, fewest_mono k ((m + n) / 128) 1 (omega (arith, ltb-true m 128 a, ltb-true n 128 b)))))
    (λ b. rw b (omega (arith, fewest_one k, fewest_sum k (n / 128) 1, fewest_mono k ((m + n) / 128) (n / 128 + 1) (omega (arith, ltb-true m 128 a)))))))
    (λ a. rw a (by_test (ltb n 128)
    (λ b. rw b (omega (arith, fewest_one k, fewest_sum k (m / 128) 1, fewest_mono k ((m + n) / 128) (m / 128 + 1) (omega (arith, ltb-true n 128 b)))))
    (λ b. rw b (omega (arith, fewest_one k, fewest_sum k (m / 128) (n / 128), fewest_sum k (m / 128 + n / 128) 1, fewest_mono k ((m + n) / 128) (m / 128 + n / 128 + 1) (omega arith))))))))

pub shortest_sum : (m n : ℕ) → length (shortest (m + n)) ≤ length (shortest m) + length (shortest n)
unfolding shortest
shortest_sum m n = fewest_sum 4 m n
