-- Why the text reader is right: the character that begins at a byte, by the bytes that it has, and what is left behind it.
use Prim.Native.Nat.{ℕ, zero, suc, ◌+◌, ◌-◌, ◌≤◌, ◌<◌}
use mathlib.Core.Bool.{Bool, true, false, cond, ◌&&◌}
use mathlib.Core.List.{List, ◌∷◌}
use mathlib.Core.Path.{◌≡◌, refl, sym, ap, ◌∙◌}
use native.Mathlib.Nat.{add-zero}
use native.Mathlib.Numerals.{add-one}
use native.Mathlib.Omega.{arith}
use lib.ListN.{length, get_or}
use lib.Seq.{slice, slice-cons, length-slice}
use Rattle.format.specs.Laws.Text.{completes_next, completes_end, completes_short, text_from, no_text_from, passed_all, passed_one}
use Rattle.format.specs.Text.{is_allowed, is_later, with_later, completes, character, characters, utf8}
use Rattle.reading.specs.Texts.{Stands}

module _ (s : List ℕ) {end : ℕ} (lent : end ≤ length s) where
  -- behind the rest of a character
  pub passed_rest : (n j : ℕ) → j + n ≤ end → characters n (slice j end s) ≡ utf8 (slice (j + n) end s)
  passed_rest zero j h = rw add-zero (passed_all (slice j end s))
  passed_rest (suc n) j h =
      let far : suc j + n ≡ j + suc n = omega arith in
      ap (characters (suc n)) (slice-cons j end s 0 (omega arith) lent) ∙ passed_one n (get_or s j 0) (slice (suc j) end s) ∙ passed_rest n (suc j) (omega arith) ∙ ap (λ k. utf8 (slice k end s)) far

  -- the bytes that complete a code point, one by one
  completes_at : (n least code j : ℕ) → j < end → completes (suc n) least code (slice j end s) ≡ (is_later (get_or s j 0) && completes n least (with_later code (get_or s j 0)) (slice (suc j) end s))
  completes_at n least code j h = ap (completes (suc n) least code) (slice-cons j end s 0 h lent) ∙ completes_next n least code (get_or s j 0) (slice (suc j) end s)

  module _ (i least code : ℕ) where
    pub completes_one : 2 ≤ end - i → completes 1 least code (slice (i + 1) end s) ≡ (is_later (get_or s (i + 1) 0) && is_allowed least (with_later code (get_or s (i + 1) 0)))
    completes_one h = completes_at 0 least code (i + 1) (omega arith) ∙ ap (λ t. is_later (get_or s (i + 1) 0) && t) (completes_end least _ _)

  module _ (i least code : ℕ) where
    pub completes_two : 3 ≤ end - i → completes 2 least code (slice (i + 1) end s) ≡ (is_later (get_or s (i + 1) 0) && (is_later (get_or s (i + 2) 0) && is_allowed least (with_later (with_later code (get_or s (i + 1) 0)) (get_or s (i + 2) 0))))
    completes_two h =
        let far : suc (i + 1) ≡ i + 2 = omega arith in
        let on : i + 1 + 1 ≡ i + 2 = omega arith in
        completes_at 1 least code (i + 1) (omega arith)
        ∙ ap (λ t. is_later (get_or s (i + 1) 0) && t) (rw far (rw on at (completes_one (i + 1) least (with_later code (get_or s (i + 1) 0)) (omega arith))))

  module _ (i least code : ℕ) where
    pub completes_three : 4 ≤ end - i → completes 3 least code (slice (i + 1) end s) ≡ (is_later (get_or s (i + 1) 0) && (is_later (get_or s (i + 2) 0) && (is_later (get_or s (i + 3) 0) && is_allowed least (with_later (with_later (with_later code (get_or s (i + 1) 0)) (get_or s (i + 2) 0)) (get_or s (i + 3) 0)))))
    completes_three h =
        let far : suc (i + 1) ≡ i + 2 = omega arith in
        let on : i + 1 + 1 ≡ i + 2 = omega arith in
        let last : i + 1 + 2 ≡ i + 3 = omega arith in
        completes_at 2 least code (i + 1) (omega arith)
        ∙ ap (λ t. is_later (get_or s (i + 1) 0) && t) (rw far (rw (on, last) at (completes_two (i + 1) least (with_later code (get_or s (i + 1) 0)) (omega arith))))

  -- What stands at `i`, by the character that begins there
  module _ {i : ℕ} (before : i < end) where
    here : slice i end s ≡ get_or s i 0 ∷ slice (i + 1) end s
    here = rw add-one (slice-cons i end s 0 before lent)

    pub stands_some : (n : ℕ) → i + suc n ≤ end → character (get_or s i 0 ∷ slice (i + 1) end s) ≡ suc n → Stands s i end (suc n)
    stands_some n h e =
        let far : i + 1 + n ≡ i + suc n = omega arith in
        let same = ap utf8 here ∙ text_from (get_or s i 0) (slice (i + 1) end s) e ∙ passed_rest n (i + 1) (omega arith) ∙ ap (λ k. utf8 (slice k end s)) far in
        record { within = h; none = λ z. absurd (omega arith); one = λ _. record { forward = omega arith; within = h; same = same } }

    pub stands_none : character (get_or s i 0 ∷ slice (i + 1) end s) ≡ 0 → Stands s i end 0
    stands_none e = record { within = omega arith; none = λ _. ap utf8 here ∙ no_text_from (get_or s i 0) (slice (i + 1) end s) e; one = λ p. absurd (p refl) }

    -- a form of `suc n` bytes: too short, completed or not
    module _ (n least code : ℕ) (form : character (get_or s i 0 ∷ slice (i + 1) end s) ≡ cond (completes n least code (slice (i + 1) end s)) (suc n) 0) where
      pub form_short : end - i < suc n → Stands s i end 0
      form_short h = stands_none (form ∙ ap (λ t. cond t (suc n) 0) (completes_short n least code (slice (i + 1) end s) (omega (arith, length-slice (i + 1) end s lent))))

      module _ {t : Bool} (e : t ≡ completes n least code (slice (i + 1) end s)) where
        pub form_stands : t ≡ true → suc n ≤ end - i → Stands s i end (suc n)
        form_stands f h = stands_some n (omega arith) (form ∙ ap (λ x. cond x (suc n) 0) (sym e ∙ f))

        pub form_fails : t ≡ false → Stands s i end 0
        form_fails f = stands_none (form ∙ ap (λ x. cond x (suc n) 0) (sym e ∙ f))
