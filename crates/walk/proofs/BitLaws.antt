-- Bits of a number: how one is read and set, and that they are the number.
use Prim.Native.Nat.{ℕ, zero, suc, ◌+◌, ◌*◌, ◌/◌, ◌%◌, ◌^◌, ◌≤◌, ◌<◌, max}
use mathlib.Core.Bool.{true, false, ◌||◌}
use mathlib.Core.Path.{◌≡◌, refl, sym, ap, ◌∙◌}
use native.Mathlib.Nat.{pow-suc, pow-succ', div-div-eq-div-mul, div-add-mod', div-one, mod-lt, mul-div_cancel, mul-mod_left, one-mul, zero-lt-suc}
use native.Mathlib.Omega.{arith}
use borrow.Author.Tests.{eqb-true, eqb-false, eq-eqb, ne_eqb}
use lib.Arith.{digits_div, digits_mod, half_le}
use lib.Bits.{bit_or, or_step}
use lib.Dec.{eqb}
use lib.Pow.{shl_exact}
use Rattle.format.specs.Laws.Outcomes.{by_test}
use Rattle.walk.specs.Sections.{bit}

pub zero_bits : (k : ℕ) → bit 0 k ≡ false
zero_bits zero = refl
zero_bits (suc k) = zero_bits k

-- read by a shift
pub shifted_bit : (n k : ℕ) → eqb (n / 2 ^ k % 2) 1 ≡ bit n k
shifted_bit n zero = ap (λ m. eqb (m % 2) 1) (div-one n)
shifted_bit n (suc k) = ap (λ m. eqb (m % 2) 1) (ap (λ p. n / p) (pow-succ' 2 k) ∙ sym (div-div-eq-div-mul n 2 (2 ^ k))) ∙ shifted_bit (n / 2) k

-- set by an or
digit : (n : ℕ) → n % 2 < 2
digit n = mod-lt n (zero-lt-suc 1)

greater_small : (a b : ℕ) → max (a % 2) (b % 2) < 2
greater_small a b = omega (arith, digit a, digit b)

or_digit : (x y : ℕ) → x < 2 → y < 2 → eqb (max x y) 1 ≡ (eqb x 1 || eqb y 1)
or_digit zero zero p q = refl
or_digit zero (suc zero) p q = refl
or_digit (suc zero) zero p q = refl
or_digit (suc zero) (suc zero) p q = refl
or_digit zero (suc (suc y)) p q = absurd (omega arith)
or_digit (suc zero) (suc (suc y)) p q = absurd (omega arith)
or_digit (suc (suc x)) y p q = absurd (omega arith)

or_bit : (a b k : ℕ) → bit (bit_or a b) k ≡ (bit a k || bit b k)
or_bit a b zero = ap (λ n. eqb (n % 2) 1) (or_step a b) ∙ ap (λ n. eqb n 1) (digits_mod (bit_or (a / 2) (b / 2)) (greater_small a b)) ∙ or_digit (a % 2) (b % 2) (digit a) (digit b)
or_bit a b (suc k) = ap (λ n. bit (n / 2) k) (or_step a b) ∙ ap (λ n. bit n k) (digits_div (bit_or (a / 2) (b / 2)) (greater_small a b)) ∙ or_bit (a / 2) (b / 2) k

suc_eqb : (a b : ℕ) → eqb a b ≡ eqb (suc a) (suc b)
suc_eqb a b =
    by_test (eqb a b)
    (λ t. t ∙ sym (eq-eqb (suc a) (suc b) (ap suc (eqb-true a b t))))
    (λ t. t ∙ sym (ne_eqb (suc a) (suc b) (λ e. eqb-false a b t (omega arith))))

power_bit : (row k : ℕ) → bit (2 ^ row) k ≡ eqb row k
power_bit zero zero = refl
power_bit zero (suc k) = zero_bits k ∙ sym (ne_eqb 0 (suc k) (λ e. omega arith))
power_bit (suc row) zero = ap (λ n. eqb (n % 2) 1) (pow-suc 2 row) ∙ ap (λ n. eqb n 1) (mul-mod_left (2 ^ row) 2) ∙ sym (ne_eqb (suc row) 0 (λ e. omega arith))
power_bit (suc row) (suc k) = ap (λ n. bit (n / 2) k) (pow-suc 2 row) ∙ ap (λ n. bit n k) (mul-div_cancel (2 ^ row) (zero-lt-suc 1)) ∙ power_bit row k ∙ suc_eqb row k

pub with_bit : (n row k : ℕ) → row < 8 → bit (bit_or n (1 * 2 ^ row % 2 ^ 8)) k ≡ (bit n k || eqb row k)
with_bit n row k h =
    let one : 1 * 2 ^ row % 2 ^ 8 ≡ 2 ^ row = shl_exact 1 row 8 (omega arith) (omega arith) ∙ one-mul (2 ^ row) in
    ap (λ p. bit (bit_or n p) k) one ∙ or_bit n (2 ^ row) k ∙ ap (λ b. bit n k || b) (power_bit row k)

-- numbers with the same bits are the same
same_digit : (x y : ℕ) → x < 2 → y < 2 → eqb x 1 ≡ eqb y 1 → x ≡ y
same_digit x y p q e =
    by_test (eqb x 1)
    (λ t. let u : eqb y 1 ≡ true = sym e ∙ t in eqb-true x 1 t ∙ sym (eqb-true y 1 u))
    (λ t. let u : eqb y 1 ≡ false = sym e ∙ t in omega (arith, eqb-false x 1 t, eqb-false y 1 u))

same_below : (most a b : ℕ) → a ≤ most → b ≤ most → ((k : ℕ) → bit a k ≡ bit b k) → a ≡ b
same_below zero a b p q e = omega arith
same_below (suc most) a b p q e =
    let halves = same_below most (a / 2) (b / 2) (half_le p) (half_le q) (λ k. e (suc k)) in
    let digits = same_digit (a % 2) (b % 2) (digit a) (digit b) (e 0) in
    omega (arith, div-add-mod' a 2, div-add-mod' b 2)

pub same_bits : (a b : ℕ) → ((k : ℕ) → bit a k ≡ bit b k) → a ≡ b
same_bits a b e = same_below (a + b) a b (omega arith) (omega arith) e
