-- The reader of numbers accepts exactly what the grammar of unsigned integers has a meaning for.
use Rattle.std.specs.Prelude.{ℕ, zero, suc, ◌+◌, ◌-◌, ◌*◌, ◌%◌, ◌^◌, ◌<◌, List, [], ◌∷◌, ◌++◌, ◌↔◌, ◌≡◌, refl, ltb, leb, length}
use Rattle.std.proofs.Common.{sym, ap, ap₂, ◌∙◌, le_trans, arith, ltb-true, ltb-false, leb-true, lt-ltb, le-ltb, le-leb, pow_mono}
use Rattle.format.specs.Bytes.{Bytes}
use Rattle.format.specs.Reading.{got, return}
use Rattle.format.specs.Numbers.{groups, number}
use Rattle.format.specs.Laws.Outcomes.{not_got, got_value, got_next, got_rest, by_test, in_turn}
use Rattle.grammar.specs.Numbers.{Unsigned, last, more, U32}
use Rattle.grammar.specs.Laws.Exact.{Stretch}

-- a number of N bits, of which `k` bytes may follow the next one
groups_complete : {N : ℕ} {bs : List ℕ} {v : ℕ} → Unsigned N bs v → (k first o : ℕ) (rest : List ℕ) → N ≡ 4 + 7 * k → groups k first o (bs ++ rest) ≡ got v (o + length bs) rest
unfolding groups
groups_complete (last {n = n} small fits) zero first o rest e =
    let below : n < 2 ^ 4 = rw e at fits in
    rw (le-leb n 15 (omega arith)) (ap (λ (x : ℕ). got n x rest) (omega arith))
groups_complete (last {n = n} small fits) (suc k) first o rest e = rw (lt-ltb n 128 small) (ap (λ (x : ℕ). got n x rest) (omega arith))
groups_complete (more byte big wide m) zero first o rest e = absurd (omega arith)
groups_complete (more {n = n} {m = v} {bs = bs} byte big wide m) (suc k) first o rest e =
    rw (le-ltb n 128 big, groups_complete m k first (suc o) rest (omega arith))
    (ap₂ (λ (x y : ℕ). got x y rest) (omega arith) (omega arith))

groups_sound : (k N first o : ℕ) (bs : List ℕ) {v o' : ℕ} {rest : List ℕ} → N ≡ 4 + 7 * k → Bytes bs → groups k first o bs ≡ got v o' rest → Stretch (Unsigned N) v rest bs
unfolding groups
groups_sound k N first o [] w h e = absurd (not_got e)
groups_sound zero N first o (b ∷ bs) {v} {o'} {rest} w h e =
    by_test (leb b 15)
    (λ t. let e' : got b (suc o) bs ≡ got v o' rest = rw t at e in
    let small = leb-true b 15 t in
    rw (← got_value e', ← got_rest e', w) (record { front = b ∷ []; is = refl; means = last {N = 4} {n = b} (omega arith) (omega arith) }))
    (λ t. absurd (not_got (rw t at e)))
groups_sound (suc k) N first o (b ∷ bs) {v} {o'} {rest} w h e =
    by_test (ltb b 128)
    (λ t. let e' : got b (suc o) bs ≡ got v o' rest = rw t at e in
    let small = ltb-true b 128 t in
    rw (← got_value e', ← got_rest e') (record { front = b ∷ []; is = refl; means = last {n = b} small (le_trans small (pow_mono {i = 7} {j = N} (omega arith))) }))
    (λ t. in_turn (groups k first (suc o) bs) (λ m. return (b % 128 + 128 * m)) (rw t at e) λ m o₁ r₁ e₁ e₂.
    let s = groups_sound k (N - 7) first (suc o) bs (omega arith) (λ i. h (suc i)) e₁ in
    let byte = h 0 in
    let big = ltb-false b 128 t in
    let q : b % 128 + 128 * m ≡ 2 ^ 7 * m + (b - 2 ^ 7) = omega arith in
    rw (← got_value e₂, ← got_rest e₂, q) (record { front = b ∷ s.front; is = ap (λ x. b ∷ x) s.is; means = more {N = N} byte big (omega arith) s.means }))

pub number_complete : {front : List ℕ} {v : ℕ} → U32 front v → (o : ℕ) (rest : List ℕ) → number o (front ++ rest) ≡ got v (o + length front) rest
unfolding number
number_complete u o rest = groups_complete u 4 o o rest refl

pub number_sound : (o : ℕ) (bs : List ℕ) {v o' : ℕ} {rest : List ℕ} → Bytes bs → number o bs ≡ got v o' rest → Stretch U32 v rest bs
unfolding number
number_sound o bs h e = groups_sound 4 32 o o bs refl h e

pub number_exactly : (o : ℕ) (bs : List ℕ) → Bytes bs → (v o' : ℕ) (rest : List ℕ) → (number o bs ≡ got v o' rest) ↔ ((front : List ℕ) × U32 front v × (bs ≡ front ++ rest) × (o' ≡ o + length front))
number_exactly o bs h v o' rest = (
  λ e. let s = number_sound o bs h e in (s.front, s.means, s.is, got_next (sym e ∙ ap (number o) s.is ∙ number_complete s.means o rest)),
  λ f. ap (number o) f.2 ∙ number_complete f.1 o rest ∙ ap (λ x. got v x rest) (sym f.3),
)

pub number_one_value : (bs : List ℕ) (v w : ℕ) → U32 bs v → U32 bs w → v ≡ w
number_one_value bs v w u x = got_value (sym (number_complete u 0 []) ∙ number_complete x 0 [])
