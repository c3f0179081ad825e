-- Text, character by character: which form a first byte begins, and the bytes behind it.
use Prim.Native.Nat.{ℕ, zero, suc, ◌-◌, ◌%◌, ◌≤◌, ◌<◌}
use Rattle.std.specs.Prelude.{true, false, cond, ◌&&◌, List, [], ◌∷◌, ◌≡◌, length}
use Rattle.std.proofs.Math.Path.{refl}
use native.Mathlib.Omega.{arith}
use borrow.Author.Tests.{lt-ltb, le-ltb, le-leb, ne_eqb}
use Rattle.format.specs.Laws.Outcomes.{and_false}
use Rattle.format.specs.Text.{is_allowed, is_later, with_later, completes, character, characters, utf8}

pub later_is : (b : ℕ) → 0x80 ≤ b → b < 0xC0 → is_later b ≡ true
later_is b l h = rw (le-leb 0x80 b l, lt-ltb b 0xC0 h)

-- The form that a first byte begins
module _ (b : ℕ) (bs : List ℕ) where
  pub form_one : b < 0x80 → character (b ∷ bs) ≡ 1
  unfolding character
  form_one h = rw (lt-ltb b 0x80 h)

  pub form_none : 0x80 ≤ b → b < 0xC0 → character (b ∷ bs) ≡ 0
  unfolding character
  form_none l h = rw (le-ltb b 0x80 l, lt-ltb b 0xC0 h)

  pub form_two : 0xC0 ≤ b → b < 0xE0 → character (b ∷ bs) ≡ cond (completes 1 0x80 (b % 32) bs) 2 0
  unfolding character
  form_two l h = rw (le-ltb b 0x80 (omega arith), le-ltb b 0xC0 l, lt-ltb b 0xE0 h)

  pub form_three : 0xE0 ≤ b → b < 0xF0 → character (b ∷ bs) ≡ cond (completes 2 0x800 (b % 16) bs) 3 0
  unfolding character
  form_three l h = rw (le-ltb b 0x80 (omega arith), le-ltb b 0xC0 (omega arith), le-ltb b 0xE0 l, lt-ltb b 0xF0 h)

  pub form_four : 0xF0 ≤ b → b < 0xF8 → character (b ∷ bs) ≡ cond (completes 3 0x10000 (b % 8) bs) 4 0
  unfolding character
  form_four l h = rw (le-ltb b 0x80 (omega arith), le-ltb b 0xC0 (omega arith), le-ltb b 0xE0 (omega arith), le-ltb b 0xF0 l, lt-ltb b 0xF8 h)

  pub form_above : 0xF8 ≤ b → character (b ∷ bs) ≡ 0
  unfolding character
  form_above l = rw (le-ltb b 0x80 (omega arith), le-ltb b 0xC0 (omega arith), le-ltb b 0xE0 (omega arith), le-ltb b 0xF0 (omega arith), le-ltb b 0xF8 l)

-- The bytes behind it
module _ (n least code : ℕ) where
  pub completes_none : completes (suc n) least code [] ≡ false
  unfolding completes
  completes_none = refl

  pub completes_next : (b : ℕ) (bs : List ℕ) → completes (suc n) least code (b ∷ bs) ≡ (is_later b && completes n least (with_later code b) bs)
  unfolding completes
  completes_next b bs = refl

pub completes_end : (least code : ℕ) (bs : List ℕ) → completes 0 least code bs ≡ is_allowed least code
unfolding completes
completes_end least code bs = refl

pub completes_short : (n least code : ℕ) (bs : List ℕ) → length bs < n → completes n least code bs ≡ false
unfolding completes
completes_short zero least code bs h = absurd (omega arith)
completes_short (suc n) least code [] h = refl
completes_short (suc n) least code (b ∷ bs) h = rw (completes_short n least (with_later code b) bs (omega arith)) (and_false (is_later b))

-- From character to character
module _ (b : ℕ) (bs : List ℕ) where
  pub text_from : {n : ℕ} → character (b ∷ bs) ≡ suc n → utf8 (b ∷ bs) ≡ characters n bs
  unfolding utf8 characters
  text_from {n} e = let one : suc n - 1 ≡ n = omega arith in rw (e, ne_eqb (suc n) 0 (λ z. absurd (omega arith)), one) refl

  pub no_text_from : character (b ∷ bs) ≡ 0 → utf8 (b ∷ bs) ≡ false
  unfolding utf8 characters
  no_text_from e = rw e refl

pub text_end : utf8 [] ≡ true
unfolding utf8 characters
text_end = refl

pub passed_all : (bs : List ℕ) → characters 0 bs ≡ utf8 bs
unfolding utf8
passed_all bs = refl

pub passed_one : (n b : ℕ) (bs : List ℕ) → characters (suc n) (b ∷ bs) ≡ characters n bs
unfolding characters
passed_one n b bs = refl
