-- The byte ranges accept the encodings of characters.
use Rattle.std.specs.Prelude.{ℕ, ◌+◌, ◌/◌, ◌%◌, ◌≤◌, ◌<◌, true, false, List, [], ◌∷◌, ◌++◌, ◌≡◌, refl, ltb, leb}
use Rattle.std.proofs.Common.{ap, ◌∙◌, arith, ltb-true, ltb-false, le-leb}
use Rattle.std.proofs.lemmas.Bool.{lt-leb}
use Rattle.format.specs.Laws.Outcomes.{by_test}
use Rattle.grammar.specs.Ranges.{Range, ◌to◌, in_range, well_formed, following, continues, by_ranges}
use Rattle.grammar.specs.Texts.{Character, before_surrogates, after_surrogates, Encoding, one, two, three, four, Text, empty, character}

within : (b low high : ℕ) → low ≤ b → b ≤ high → in_range b (low to high) ≡ true
within b low high l h = rw (le-leb low b l, le-leb b high h)

beyond : (b low high : ℕ) → high < b → in_range b (low to high) ≡ false
beyond b low high h = by_test (leb low b) (λ t. rw (t, lt-leb b high h)) (λ t. rw t)

-- what must follow a first byte
abbrev pub tail : Range
tail = 0x80 to 0xBF

first_of_one : (b : ℕ) → b ≤ 0x7F → following b well_formed ≡ []
unfolding following well_formed
first_of_one b h = rw (within b 0 0x7F (omega arith) h)

first_of_two : (b : ℕ) → 0xC2 ≤ b → b ≤ 0xDF → following b well_formed ≡ tail ∷ []
unfolding following well_formed
first_of_two b l h = rw (beyond b 0 0x7F (omega arith), within b 0xC2 0xDF l h)

lower_three : (b : ℕ) → 0xE1 ≤ b → b ≤ 0xEC → following b well_formed ≡ tail ∷ tail ∷ []
unfolding following well_formed
lower_three b l h = rw (beyond b 0 0x7F (omega arith), beyond b 0xC2 0xDF (omega arith), beyond b 0xE0 0xE0 (omega arith), within b 0xE1 0xEC l h)

upper_three : (b : ℕ) → 0xEE ≤ b → b ≤ 0xEF → following b well_formed ≡ tail ∷ tail ∷ []
unfolding following well_formed
upper_three b l h = rw (beyond b 0 0x7F (omega arith), beyond b 0xC2 0xDF (omega arith), beyond b 0xE0 0xE0 (omega arith), beyond b 0xE1 0xEC (omega arith), beyond b 0xED 0xED (omega arith), within b 0xEE 0xEF l h)

middle_four : (b : ℕ) → 0xF1 ≤ b → b ≤ 0xF3 → following b well_formed ≡ tail ∷ tail ∷ tail ∷ []
unfolding following well_formed
middle_four b l h =
    rw (beyond b 0 0x7F (omega arith), beyond b 0xC2 0xDF (omega arith), beyond b 0xE0 0xE0 (omega arith), beyond b 0xE1 0xEC (omega arith))
    (rw (beyond b 0xED 0xED (omega arith), beyond b 0xEE 0xEF (omega arith), beyond b 0xF0 0xF0 (omega arith), within b 0xF1 0xF3 l h))

begun : (b : ℕ) (rs : List Range) (bs : List ℕ) → following b well_formed ≡ rs → continues [] (b ∷ bs) ≡ continues rs bs
unfolding continues
begun b rs bs e = ap (λ x. continues x bs) e

goes_on : (b low high : ℕ) (rs : List Range) (bs : List ℕ) → low ≤ b → b ≤ high → continues (low to high ∷ rs) (b ∷ bs) ≡ continues rs bs
unfolding continues
goes_on b low high rs bs l h = rw (within b low high l h)

tail_goes_on : (x : ℕ) (rs : List Range) (bs : List ℕ) → x < 64 → continues (tail ∷ rs) ((0x80 + x) ∷ bs) ≡ continues rs bs
tail_goes_on x rs bs h = goes_on (0x80 + x) 0x80 0xBF rs bs (omega arith) (omega arith)

two_go_on : (b x : ℕ) (bs : List ℕ) → following b well_formed ≡ tail ∷ [] → x < 64 → continues [] (b ∷ (0x80 + x) ∷ bs) ≡ continues [] bs
two_go_on b x bs e h = begun b _ _ e ∙ tail_goes_on x [] bs h

three_go_on : (b x y low high : ℕ) (bs : List ℕ) → following b well_formed ≡ low to high ∷ tail ∷ [] → low ≤ 0x80 + x → 0x80 + x ≤ high → y < 64 → continues [] (b ∷ (0x80 + x) ∷ (0x80 + y) ∷ bs) ≡ continues [] bs
three_go_on b x y low high bs e l h k = begun b _ _ e ∙ goes_on (0x80 + x) low high _ _ l h ∙ tail_goes_on y [] bs k

four_go_on : (b x y z low high : ℕ) (bs : List ℕ) → following b well_formed ≡ low to high ∷ tail ∷ tail ∷ [] → low ≤ 0x80 + x → 0x80 + x ≤ high → y < 64 → z < 64 → continues [] (b ∷ (0x80 + x) ∷ (0x80 + y) ∷ (0x80 + z) ∷ bs) ≡ continues [] bs
four_go_on b x y z low high bs e l h k m = begun b _ _ e ∙ goes_on (0x80 + x) low high _ _ l h ∙ tail_goes_on y _ _ k ∙ tail_goes_on z [] bs m

-- E0 and ED, and F0 and F4, bound the second byte: no overlong form, no surrogate, nothing above U+10FFFF
three_below : (c : ℕ) (bs : List ℕ) → 0x800 ≤ c → c < 0xD800 → continues [] ((0xE0 + c / 4096) ∷ (0x80 + c / 64 % 64) ∷ (0x80 + c % 64) ∷ bs) ≡ continues [] bs
unfolding following well_formed
three_below c bs l h =
    by_test (ltb c 0x1000)
    (λ t. let u = ltb-true c 0x1000 t in let q : c / 4096 ≡ 0 = omega arith in
    rw q (three_go_on 0xE0 (c / 64 % 64) (c % 64) 0xA0 0xBF bs refl (omega arith) (omega arith) (omega arith)))
    (λ t. let u = ltb-false c 0x1000 t in
    by_test (ltb c 0xD000)
    (λ t'. let u' = ltb-true c 0xD000 t' in
    three_go_on (0xE0 + c / 4096) (c / 64 % 64) (c % 64) 0x80 0xBF bs (lower_three (0xE0 + c / 4096) (omega arith) (omega arith)) (omega arith) (omega arith) (omega arith))
    (λ t'. let u' = ltb-false c 0xD000 t' in let q : c / 4096 ≡ 13 = omega arith in
    rw q (three_go_on 0xED (c / 64 % 64) (c % 64) 0x80 0x9F bs refl (omega arith) (omega arith) (omega arith))))

three_above : (c : ℕ) (bs : List ℕ) → 0xE000 ≤ c → c < 0x10000 → continues [] ((0xE0 + c / 4096) ∷ (0x80 + c / 64 % 64) ∷ (0x80 + c % 64) ∷ bs) ≡ continues [] bs
three_above c bs l h = three_go_on (0xE0 + c / 4096) (c / 64 % 64) (c % 64) 0x80 0xBF bs (upper_three (0xE0 + c / 4096) (omega arith) (omega arith)) (omega arith) (omega arith) (omega arith)

four_good : (c : ℕ) (bs : List ℕ) → 0x10000 ≤ c → c < 0x110000 → continues [] ((0xF0 + c / 262144) ∷ (0x80 + c / 4096 % 64) ∷ (0x80 + c / 64 % 64) ∷ (0x80 + c % 64) ∷ bs) ≡ continues [] bs
unfolding following well_formed
four_good c bs l h =
    by_test (ltb c 0x40000)
    (λ t. let u = ltb-true c 0x40000 t in let q : c / 262144 ≡ 0 = omega arith in
    rw q (four_go_on 0xF0 (c / 4096 % 64) (c / 64 % 64) (c % 64) 0x90 0xBF bs refl (omega arith) (omega arith) (omega arith) (omega arith)))
    (λ t. let u = ltb-false c 0x40000 t in
    by_test (ltb c 0x100000)
    (λ t'. let u' = ltb-true c 0x100000 t' in
    four_go_on (0xF0 + c / 262144) (c / 4096 % 64) (c / 64 % 64) (c % 64) 0x80 0xBF bs (middle_four (0xF0 + c / 262144) (omega arith) (omega arith)) (omega arith) (omega arith) (omega arith) (omega arith))
    (λ t'. let u' = ltb-false c 0x100000 t' in let q : c / 262144 ≡ 4 = omega arith in
    rw q (four_go_on 0xF4 (c / 4096 % 64) (c / 64 % 64) (c % 64) 0x80 0x8F bs refl (omega arith) (omega arith) (omega arith) (omega arith))))

encoding_good : {c : ℕ} {code : List ℕ} → Character c → Encoding c code → (bs : List ℕ) → continues [] (code ++ bs) ≡ continues [] bs
encoding_good ch (one {c = c} h) bs = begun c [] bs (first_of_one c (omega arith))
encoding_good ch (two {c = c} l h) bs = two_go_on (0xC0 + c / 64) (c % 64) bs (first_of_two (0xC0 + c / 64) (omega arith) (omega arith)) (omega arith)
encoding_good (before_surrogates k) (three {c = c} l h) bs = three_below c bs l k
encoding_good (after_surrogates k m) (three {c = c} l h) bs = three_above c bs k h
encoding_good ch (four {c = c} l h) bs = four_good c bs l h

pub text_ranges : {bs cs : List ℕ} → Text bs cs → by_ranges bs ≡ true
unfolding by_ranges continues
text_ranges empty = refl
text_ranges (character {bs = bs} ch e t) = encoding_good ch e bs ∙ text_ranges t
