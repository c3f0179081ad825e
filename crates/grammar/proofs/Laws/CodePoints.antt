-- What is worked out character by character is a text, and every text is; so both rules, the limits of code points and the byte ranges, hold of the same bytes.
use Rattle.std.specs.Prelude.{ℕ, zero, suc, ◌+◌, ◌*◌, ◌/◌, ◌%◌, ◌≤◌, ◌<◌, Bool, true, false, cond, ◌||◌, List, [], ◌∷◌, ◌++◌, ◌≡◌, refl, leb, ltb, length}
use Rattle.std.proofs.Common.{sym, ap, ◌∙◌, arith, lt-ltb, le-ltb, le-leb, ltb-true, ltb-false, leb-true}
use Rattle.format.specs.Laws.Outcomes.{by_test, false_true, on_both}
use Rattle.format.specs.Laws.Text.{later_is, form_one, form_none, form_two, form_three, form_four, form_above, completes_none, completes_next, completes_end, text_from, no_text_from, text_end, passed_all, passed_one}
use Rattle.format.specs.Text.{is_allowed, is_later, with_later, completes, characters, utf8}
use Rattle.format.specs.Text as worked
use Rattle.grammar.specs.Ranges.{by_ranges}
use Rattle.grammar.specs.Texts.{Character, before_surrogates, after_surrogates, Encoding, one, two, three, four, Text, empty, character}
use Rattle.grammar.proofs.Laws.Texts.{HasText, a_one, a_two, a_three, a_four, ranges_text}
use Rattle.grammar.proofs.Laws.Ranges.{text_ranges}

-- THE LIMITS: a code point is allowed exactly when it is a character that needs so many bytes
allowed_character : (least c : ℕ) → least ≤ c → Character c → is_allowed least c ≡ true
allowed_character least c l (before_surrogates h) = rw (le-leb least c l, lt-ltb c 0xD800 h, le-leb c 0x10FFFF (omega arith))
allowed_character least c l (after_surrogates h k) = rw (le-leb least c l, le-ltb c 0xD800 (omega arith), lt-ltb 0xDFFF c (omega arith), le-leb c 0x10FFFF (omega arith))

character_allowed : (least c : ℕ) → is_allowed least c ≡ true → (least ≤ c) × Character c
character_allowed least c e =
    on_both (leb least c) _ e λ l e'. on_both (ltb c 0xD800 || ltb 0xDFFF c) (leb c 0x10FFFF) e' λ s h. (
      leb-true least c l,
      by_test (ltb c 0xD800)
          (λ t. before_surrogates (ltb-true c 0xD800 t))
          (λ t. after_surrogates (let u = ltb-true 0xDFFF c (rw t at s) in omega arith) (let u = leb-true c 0x10FFFF h in omega arith)),
    )

-- A TEXT IS WORKED OUT

-- a byte of an encoding adds its six bits
module _ (n least code x : ℕ) (bs : List ℕ) where
  goes_on : x < 64 → completes (suc n) least code ((0x80 + x) ∷ bs) ≡ completes n least (code * 64 + x) bs
  goes_on h =
      let six : (0x80 + x) % 64 ≡ x = omega arith in
      completes_next n least code (0x80 + x) bs ∙ rw (later_is (0x80 + x) (omega arith) (omega arith), six) refl

-- and in the end stands the character
ends_with : (least code c : ℕ) (bs : List ℕ) → code ≡ c → least ≤ c → Character c → completes 0 least code bs ≡ true
ends_with least code c bs e l ch = completes_end least code bs ∙ rw e (allowed_character least c l ch)

encoding_worked : {c : ℕ} {code : List ℕ} → Character c → Encoding c code → (bs : List ℕ) → utf8 (code ++ bs) ≡ utf8 bs
encoding_worked ch (one {c = c} h) bs = text_from c bs (form_one c bs h) ∙ passed_all bs
encoding_worked ch (two {c = c} l h) bs =
    let b = 0xC0 + c / 64 in
    let x = c % 64 in
    let done = goes_on 0 0x80 (b % 32) x bs (omega arith) ∙ ends_with 0x80 (b % 32 * 64 + x) c bs (omega arith) l ch in
    text_from b ((0x80 + x) ∷ bs) (form_two b _ (omega arith) (omega arith) ∙ ap (λ t. cond t 2 0) done) ∙ passed_one 0 _ bs ∙ passed_all bs
encoding_worked ch (three {c = c} l h) bs =
    let b = 0xE0 + c / 4096 in
    let x = c / 64 % 64 in
    let y = c % 64 in
    let done = goes_on 1 0x800 (b % 16) x _ (omega arith) ∙ goes_on 0 0x800 (b % 16 * 64 + x) y bs (omega arith) ∙ ends_with 0x800 ((b % 16 * 64 + x) * 64 + y) c bs (omega arith) l ch in
    text_from b ((0x80 + x) ∷ (0x80 + y) ∷ bs) (form_three b _ (omega arith) (omega arith) ∙ ap (λ t. cond t 3 0) done) ∙ passed_one 1 _ _ ∙ passed_one 0 _ bs ∙ passed_all bs
encoding_worked ch (four {c = c} l h) bs =
    let b = 0xF0 + c / 262144 in
    let x = c / 4096 % 64 in
    let y = c / 64 % 64 in
    let z = c % 64 in
    let top : b % 8 ≡ c / 262144 = omega arith in
    let second : c / 262144 * 64 + x ≡ c / 4096 = omega arith in
    let third : c / 4096 * 64 + y ≡ c / 64 = omega arith in
    let whole : ((b % 8 * 64 + x) * 64 + y) * 64 + z ≡ c = rw (top, second, third) (omega arith) in
    let done =
    goes_on 2 0x10000 (b % 8) x _ (omega arith) ∙ goes_on 1 0x10000 (b % 8 * 64 + x) y _ (omega arith) ∙ goes_on 0 0x10000 ((b % 8 * 64 + x) * 64 + y) z bs (omega arith)
    ∙ ends_with 0x10000 (((b % 8 * 64 + x) * 64 + y) * 64 + z) c bs whole l ch in
    text_from b ((0x80 + x) ∷ (0x80 + y) ∷ (0x80 + z) ∷ bs) (form_four b _ (omega arith) (omega arith) ∙ ap (λ t. cond t 4 0) done) ∙ passed_one 2 _ _ ∙ passed_one 1 _ _ ∙ passed_one 0 _ bs ∙ passed_all bs

pub text_utf8 : {bs cs : List ℕ} → Text bs cs → utf8 bs ≡ true
text_utf8 empty = text_end
text_utf8 (character {bs = bs} ch e t) = encoding_worked ch e bs ∙ text_utf8 t

-- WHAT IS WORKED OUT IS A TEXT

-- a byte that was taken for a later one
taken {ℓ} : {C : Type ℓ} (n least code : ℕ) (bs : List ℕ) → completes (suc n) least code bs ≡ true → ((x : ℕ) (more : List ℕ) → bs ≡ x ∷ more → 0x80 ≤ x → x < 0xC0 → completes n least (with_later code x) more ≡ true → C) → C
taken n least code [] e k = false_true (sym (completes_none n least code) ∙ e)
taken n least code (x ∷ more) e k =
    on_both (is_later x) (completes n least (with_later code x) more) (sym (completes_next n least code x more) ∙ e) λ s e'.
    on_both (leb 0x80 x) (ltb x 0xC0) s λ l h. k x more refl (leb-true 0x80 x l) (ltb-true x 0xC0 h) e'

ended {ℓ} : {C : Type ℓ} (least code : ℕ) (bs : List ℕ) → completes 0 least code bs ≡ true → (least ≤ code → Character code → C) → C
ended least code bs e k = let (l, ch) = character_allowed least code (sym (completes_end least code bs) ∙ e) in k l ch

-- a form that was completed, or nothing that is text
completed {ℓ} : {C : Type ℓ} (n b : ℕ) (bs : List ℕ) (test : Bool) → worked.character (b ∷ bs) ≡ cond test (suc n) 0 → utf8 (b ∷ bs) ≡ true → (test ≡ true → characters n bs ≡ true → C) → C
completed n b bs true e t k = k refl (sym (text_from b bs e) ∙ t)
completed n b bs false e t k = false_true (sym (no_text_from b bs e) ∙ t)

module _ (most : ℕ) (shorter : (bs : List ℕ) → length bs ≤ most → utf8 bs ≡ true → HasText bs) where
  by_one : (b : ℕ) (bs : List ℕ) → length bs ≤ most → b < 0x80 → utf8 (b ∷ bs) ≡ true → HasText (b ∷ bs)
  by_one b bs f h t = a_one b bs (omega arith) (shorter bs f (sym (passed_all bs) ∙ sym (text_from b bs (form_one b bs h)) ∙ t))

  by_two : (b : ℕ) (bs : List ℕ) → length bs ≤ most → 0xC0 ≤ b → b < 0xE0 → utf8 (b ∷ bs) ≡ true → HasText (b ∷ bs)
  by_two b bs f l h t =
      completed 1 b bs _ (form_two b bs l h) t λ e t'.
      taken 0 0x80 (b % 32) bs e λ x more is lx hx e₁. ended 0x80 (b % 32 * 64 + x % 64) more e₁ λ least ch.
      let fits : suc (length more) ≤ most = rw is at f in
      let behind : characters 1 (x ∷ more) ≡ true = rw is at t' in
      rw is (a_two (b % 32 * 64 + x % 64) b x more (omega arith) (omega arith) least (omega arith) (shorter more (omega arith) (sym (passed_one 0 x more ∙ passed_all more) ∙ behind)))

  by_three : (b : ℕ) (bs : List ℕ) → length bs ≤ most → 0xE0 ≤ b → b < 0xF0 → utf8 (b ∷ bs) ≡ true → HasText (b ∷ bs)
  by_three b bs f l h t =
      completed 2 b bs _ (form_three b bs l h) t λ e t'.
      taken 1 0x800 (b % 16) bs e λ x more is lx hx e₁. taken 0 0x800 (b % 16 * 64 + x % 64) more e₁ λ y more' is' ly hy e₂. ended 0x800 ((b % 16 * 64 + x % 64) * 64 + y % 64) more' e₂ λ least ch.
      let fits : suc (suc (length more')) ≤ most = rw (is, is') at f in
      let behind : characters 2 (x ∷ y ∷ more') ≡ true = rw (is, is') at t' in
      rw (is, is') (a_three ((b % 16 * 64 + x % 64) * 64 + y % 64) b x y more' (omega arith) (omega arith) (omega arith) least (omega arith) ch (shorter more' (omega arith) (sym (passed_one 1 x _ ∙ passed_one 0 y more' ∙ passed_all more') ∙ behind)))

  by_four : (b : ℕ) (bs : List ℕ) → length bs ≤ most → 0xF0 ≤ b → b < 0xF8 → utf8 (b ∷ bs) ≡ true → HasText (b ∷ bs)
  by_four b bs f l h t =
      completed 3 b bs _ (form_four b bs l h) t λ e t'.
      taken 2 0x10000 (b % 8) bs e λ x more is lx hx e₁. taken 1 0x10000 (b % 8 * 64 + x % 64) more e₁ λ y more' is' ly hy e₂. taken 0 0x10000 ((b % 8 * 64 + x % 64) * 64 + y % 64) more' e₂ λ z more'' is'' lz hz e₃.
      ended 0x10000 (((b % 8 * 64 + x % 64) * 64 + y % 64) * 64 + z % 64) more'' e₃ λ least ch.
      let fits : suc (suc (suc (length more''))) ≤ most = rw (is, is', is'') at f in
      let behind : characters 3 (x ∷ y ∷ z ∷ more'') ≡ true = rw (is, is', is'') at t' in
      rw (is, is', is'') (a_four (((b % 8 * 64 + x % 64) * 64 + y % 64) * 64 + z % 64) b x y z more'' (omega arith) (omega arith) (omega arith) (omega arith) least (below_all ch) (shorter more'' (omega arith) (sym (passed_one 2 x _ ∙ passed_one 1 y _ ∙ passed_one 0 z more'' ∙ passed_all more'') ∙ behind)))
    where
      below_all : {c : ℕ} → Character c → c < 0x110000
      below_all (before_surrogates k) = omega arith
      below_all (after_surrogates k m) = m

  by_first : (b : ℕ) (bs : List ℕ) → length bs ≤ most → utf8 (b ∷ bs) ≡ true → HasText (b ∷ bs)
  by_first b bs f t =
      by_test (ltb b 0x80) (λ c. by_one b bs f (ltb-true b 0x80 c) t) λ c₁.
      by_test (ltb b 0xC0) (λ c. false_true (sym (no_text_from b bs (form_none b bs (ltb-false b 0x80 c₁) (ltb-true b 0xC0 c))) ∙ t)) λ c₂.
      by_test (ltb b 0xE0) (λ c. by_two b bs f (ltb-false b 0xC0 c₂) (ltb-true b 0xE0 c) t) λ c₃.
      by_test (ltb b 0xF0) (λ c. by_three b bs f (ltb-false b 0xE0 c₃) (ltb-true b 0xF0 c) t) λ c₄.
      by_test (ltb b 0xF8) (λ c. by_four b bs f (ltb-false b 0xF0 c₄) (ltb-true b 0xF8 c) t) λ c₅.
      false_true (sym (no_text_from b bs (form_above b bs (ltb-false b 0xF8 c₅))) ∙ t)

worked_text : (most : ℕ) (bs : List ℕ) → length bs ≤ most → utf8 bs ≡ true → HasText bs
worked_text zero [] f e = ([], empty)
worked_text zero (b ∷ bs) f e = absurd (omega arith)
worked_text (suc most) [] f e = ([], empty)
worked_text (suc most) (b ∷ bs) f e = by_first most (worked_text most) b bs (omega arith) e

pub utf8_text : (bs : List ℕ) → utf8 bs ≡ true → (cs : List ℕ) × Text bs cs
utf8_text bs e = worked_text (length bs) bs (omega arith) e

-- BOTH RULES HOLD OF THE SAME BYTES
pub same_text : (bs : List ℕ) → utf8 bs ≡ by_ranges bs
same_text bs =
    by_test (by_ranges bs)
    (λ r. text_utf8 (ranges_text bs r).1 ∙ sym r)
    (λ r. by_test (utf8 bs) (λ u. false_true (sym r ∙ text_ranges (utf8_text bs u).1)) (λ u. u ∙ sym r))
