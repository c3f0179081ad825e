-- Text told byte by byte is the walk's text.
use Rattle.std.specs.Prelude.{ℕ, zero, suc, ◌%◌, Bool, false, cond, ◌&&◌, List, [], ◌∷◌, ◌≡◌, refl, ltb}
use Rattle.std.proofs.Common.{◌∙◌, arith, ltb-true, ltb-false}
use Rattle.std.proofs.lemmas.Bool.{lt-leb}
use Rattle.format.specs.Text.{least_of_two, least_of_three, least_of_four, is_allowed, is_later, with_later, completes, character, characters, utf8}
use Rattle.format.specs.Laws.Outcomes.{by_test, and_false}
use Rattle.format.specs.Laws.Text.{form_one, form_none, form_two, form_three, form_four, form_above, completes_none, completes_next, completes_end, text_from, no_text_from, passed_all, passed_one}
use Rattle.stream.specs.Texts.{Text, none_wanted, empty_text, leading_byte, wanting, wanted_byte, text_byte, nothing_wanted, text_ends}

-- whether the rest makes it text, by the walk's rule
unfoldable pub rest_is_text : (wanted least code : ℕ) → List ℕ → Bool
rest_is_text zero least code bs = utf8 bs
rest_is_text (suc more) least code bs = completes (suc more) least code bs && characters (suc more) bs

unfoldable pub is_text : Text → List ℕ → Bool
is_text t bs = rest_is_text t.wanted t.least t.code bs

pub text_first : (bs : List ℕ) → utf8 bs ≡ is_text none_wanted bs
unfolding is_text rest_is_text
text_first bs = refl

-- what is no text stays none
none_allowed : (b : ℕ) → is_allowed 0x110000 (with_later 0 b) ≡ false
none_allowed b = rw (lt-leb 0x110000 (with_later 0 b) (omega arith))

no_text : (bs : List ℕ) → false ≡ is_text empty_text bs
unfolding is_text rest_is_text
no_text [] = rw (completes_none 0 0x110000 0)
no_text (b ∷ bs) = rw (completes_next 0 0x110000 0 b bs, completes_end 0x110000 (with_later 0 b) bs, none_allowed b, and_false (is_later b))

-- a first byte of a form that the bytes behind it complete
form_then : (n least code b : ℕ) (bs : List ℕ) → character (b ∷ bs) ≡ cond (completes (suc n) least code bs) (suc (suc n)) 0 → utf8 (b ∷ bs) ≡ rest_is_text (suc n) least code bs
unfolding rest_is_text
form_then n least code b bs e =
    by_test (completes (suc n) least code bs)
    (λ t. rw t (text_from b bs (rw t at e)))
    (λ t. rw t (no_text_from b bs (rw t at e)))

first_byte : (b : ℕ) (bs : List ℕ) → utf8 (b ∷ bs) ≡ is_text (leading_byte b) bs
unfolding is_text leading_byte
first_byte b bs =
    by_test (ltb b 0x80) (λ t. rw t (text_from b bs (form_one b bs (ltb-true b 0x80 t)) ∙ passed_all bs ∙ text_first bs)) λ t₁. rw t₁
    (by_test (ltb b 0xC0) (λ t. rw t (no_text_from b bs (form_none b bs (ltb-false b 0x80 t₁) (ltb-true b 0xC0 t)) ∙ no_text bs)) λ t₂. rw t₂
    (by_test (ltb b 0xE0) (λ t. rw t (form_then 0 least_of_two (b % 32) b bs (form_two b bs (ltb-false b 0xC0 t₂) (ltb-true b 0xE0 t)))) λ t₃. rw t₃
    (by_test (ltb b 0xF0) (λ t. rw t (form_then 1 least_of_three (b % 16) b bs (form_three b bs (ltb-false b 0xE0 t₃) (ltb-true b 0xF0 t)))) λ t₄. rw t₄
    (by_test (ltb b 0xF8) (λ t. rw t (form_then 2 least_of_four (b % 8) b bs (form_four b bs (ltb-false b 0xF0 t₄) (ltb-true b 0xF8 t)))) λ t₅. rw t₅
    (no_text_from b bs (form_above b bs (ltb-false b 0xF8 t₅)) ∙ no_text bs)))))

-- a later byte, behind which so many are wanted
later_then : (more least code : ℕ) (bs : List ℕ) → (completes more least code bs && characters more bs) ≡ is_text (wanting more least code) bs
unfolding is_text wanting rest_is_text
later_then zero least code bs =
    rw (completes_end least code bs)
    (by_test (is_allowed least code) (λ t. rw t (passed_all bs)) (λ t. rw t (no_text bs)))
later_then (suc more) least code bs = refl

byte_wanted : (wanted least code b : ℕ) (bs : List ℕ) → rest_is_text wanted least code (b ∷ bs) ≡ is_text (wanted_byte wanted least code b) bs
unfolding rest_is_text wanted_byte
byte_wanted zero least code b bs = first_byte b bs
byte_wanted (suc more) least code b bs =
    rw (completes_next more least code b bs, passed_one more b bs)
    (by_test (is_later b) (λ t. rw t (later_then more least (with_later code b) bs)) (λ t. rw t (no_text bs)))

pub text_byte_lem : (t : Text) (b : ℕ) (bs : List ℕ) → is_text t (b ∷ bs) ≡ is_text (text_byte t b) bs
unfolding is_text text_byte
text_byte_lem t b bs = byte_wanted t.wanted t.least t.code b bs

ends_wanted : (wanted least code : ℕ) → rest_is_text wanted least code [] ≡ nothing_wanted wanted
unfolding rest_is_text nothing_wanted completes utf8 characters
ends_wanted zero least code = refl
ends_wanted (suc more) least code = refl

pub text_ends_lem : (t : Text) → is_text t [] ≡ text_ends t
unfolding is_text text_ends
text_ends_lem t = ends_wanted t.wanted t.least t.code
