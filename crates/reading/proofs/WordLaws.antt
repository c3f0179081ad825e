-- Words of bytes are ASCII where the highest bit of none of their bytes is set.
use Prim.Native.Nat.{ℕ, ◌+◌, ◌*◌, ◌/◌, ◌%◌, ◌<◌}
use mathlib.Core.List.{List}
use mathlib.Core.Path.{◌≡◌, sym, ap, ◌∙◌}
use native.Mathlib.Omega.{arith}
use lib.Bits.{bit_and, and_mask, and_mod, and_shr}
use lib.ListN.{get_or}
use Rattle.reading.specs.Texts.{Holds}

-- one byte
no_highest : (b : ℕ) → b < 256 → bit_and b 0x80 ≡ 0 → b < 0x80
no_highest b h e =
    let bit : b / 128 % 2 ≡ 0 = sym (and_mask (b / 128) 1) ∙ sym (and_shr b 0x80 7) ∙ ap (λ (x : ℕ). x / 128) e in
    omega (arith, bit)

-- Numbers without a bit in common have none above a bit and none below it
module _ (a b : ℕ) (e : bit_and a b ≡ 0) where
  above_8 : bit_and (a / 256) (b / 256) ≡ 0
  above_8 = sym (and_shr a b 8) ∙ ap (λ (x : ℕ). x / 256) e

  below_8 : bit_and (a % 256) (b % 256) ≡ 0
  below_8 = sym (and_mod a b 8) ∙ ap (λ (x : ℕ). x % 256) e

  pub above_32 : bit_and (a / 0x100000000) (b / 0x100000000) ≡ 0
  above_32 = sym (and_shr a b 32) ∙ ap (λ (x : ℕ). x / 0x100000000) e

  pub below_32 : bit_and (a % 0x100000000) (b % 0x100000000) ≡ 0
  below_32 = sym (and_mod a b 32) ∙ ap (λ (x : ℕ). x % 0x100000000) e

-- The lowest byte of a word, and what is above it
module _ (word b rest highest : ℕ) (h : b < 256) (f : word ≡ b + rest * 256) (e : bit_and word (highest * 256 + 0x80) ≡ 0) where
  lowest_ascii : b < 0x80
  lowest_ascii =
      let here : word % 256 ≡ b = omega (arith, f) in
      let bit : (highest * 256 + 0x80) % 256 ≡ 0x80 = omega arith in
      no_highest b h (rw (here, bit) at (below_8 word (highest * 256 + 0x80) e))

  rest_bare : bit_and rest highest ≡ 0
  rest_bare =
      let here : word / 256 ≡ rest = omega (arith, f) in
      let bits : (highest * 256 + 0x80) / 256 ≡ highest = omega arith in
      rw (here, bits) at (above_8 word (highest * 256 + 0x80) e)

-- All four
module _ {s : List ℕ} {i : ℕ} (word : ℕ) (w : Holds s i word) (e : bit_and word 0x80808080 ≡ 0) where
  abbrev third : ℕ
  third = get_or s (i + 2) 0 + get_or s (i + 3) 0 * 256

  abbrev second : ℕ
  second = get_or s (i + 1) 0 + third * 256

  bare_second : bit_and second 0x808080 ≡ 0
  bare_second = rest_bare word (get_or s i 0) second 0x808080 w.first (omega (arith, w.all_four)) e

  bare_third : bit_and third 0x8080 ≡ 0
  bare_third = rest_bare second (get_or s (i + 1) 0) third 0x8080 w.second (omega arith) bare_second

  bare_fourth : bit_and (get_or s (i + 3) 0) 0x80 ≡ 0
  bare_fourth = rest_bare third (get_or s (i + 2) 0) (get_or s (i + 3) 0) 0x80 w.third (omega arith) bare_third

  pub first_ascii : get_or s i 0 < 0x80
  first_ascii = lowest_ascii word (get_or s i 0) second 0x808080 w.first (omega (arith, w.all_four)) e

  pub second_ascii : get_or s (i + 1) 0 < 0x80
  second_ascii = lowest_ascii second (get_or s (i + 1) 0) third 0x8080 w.second (omega arith) bare_second

  pub third_ascii : get_or s (i + 2) 0 < 0x80
  third_ascii = lowest_ascii third (get_or s (i + 2) 0) (get_or s (i + 3) 0) 0x80 w.third (omega arith) bare_third

  pub fourth_ascii : get_or s (i + 3) 0 < 0x80
  fourth_ascii = no_highest (get_or s (i + 3) 0) w.fourth bare_fourth
