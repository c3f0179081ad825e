-- What the byte ranges accept is a text.
use Rattle.std.specs.Prelude.{ℕ, zero, suc, ◌+◌, ◌-◌, ◌*◌, ◌/◌, ◌%◌, ◌≤◌, ◌<◌, true, List, [], ◌∷◌, ◌≡◌, refl, leb, length}
use native.Mathlib.Omega.{arith}
use Rattle.std.proofs.Common.{leb-true}
use Rattle.format.specs.Laws.Outcomes.{by_test, false_true, on_both}
use Rattle.grammar.specs.Ranges.{Range, ◌to◌, in_range, Row, form, well_formed, following, continues, by_ranges}
use Rattle.grammar.specs.Texts.{Character, before_surrogates, after_surrogates, one, two, three, four, Text, empty, character}
use Rattle.grammar.proofs.Laws.Ranges.{tail}

abbrev pub HasText : List ℕ → Type 0
HasText bs = (cs : List ℕ) × Text bs cs

pub a_one : (b : ℕ) (bs : List ℕ) → b ≤ 0x7F → HasText bs → HasText (b ∷ bs)
a_one b bs h t = (b ∷ t.0, character (before_surrogates {c = b} (omega arith)) (one {c = b} (omega arith)) t.1)

pub a_two : (c b x : ℕ) (bs : List ℕ) → 0xC0 + c / 64 ≡ b → 0x80 + c % 64 ≡ x → 0x80 ≤ c → c < 0x800 → HasText bs → HasText (b ∷ x ∷ bs)
a_two c b x bs p q l h t = rw (← p, ← q) (c ∷ t.0, character (before_surrogates {c = c} (omega arith)) (two l h) t.1)

pub a_three : (c b x y : ℕ) (bs : List ℕ) → 0xE0 + c / 4096 ≡ b → 0x80 + c / 64 % 64 ≡ x → 0x80 + c % 64 ≡ y → 0x800 ≤ c → c < 0x10000 → Character c → HasText bs → HasText (b ∷ x ∷ y ∷ bs)
a_three c b x y bs p q r l h ch t = rw (← p, ← q, ← r) (c ∷ t.0, character ch (three l h) t.1)

pub a_four : (c b x y z : ℕ) (bs : List ℕ) → 0xF0 + c / 262144 ≡ b → 0x80 + c / 4096 % 64 ≡ x → 0x80 + c / 64 % 64 ≡ y → 0x80 + c % 64 ≡ z → 0x10000 ≤ c → c < 0x110000 → HasText bs → HasText (b ∷ x ∷ y ∷ z ∷ bs)
a_four c b x y z bs p q r s l h t = rw (← p, ← q, ← r, ← s) (c ∷ t.0, character (after_surrogates {c = c} (omega arith) h) (four l h) t.1)

-- a byte in the range that is wanted next, and a first byte in a row of the table
in_range_next {ℓ} : {C : Type ℓ} (low high : ℕ) (rs : List Range) (bs : List ℕ) → continues (low to high ∷ rs) bs ≡ true → ((b : ℕ) (more : List ℕ) → bs ≡ b ∷ more → low ≤ b → b ≤ high → continues rs more ≡ true → C) → C
unfolding continues
in_range_next low high rs [] e k = false_true e
in_range_next low high rs (b ∷ more) e k =
    on_both (in_range b (low to high)) _ e λ r e'. on_both (leb low b) (leb b high) r λ l h. k b more refl (leb-true low b l) (leb-true b high h) e'

record Begins (b : ℕ) (rows : List Row) (bs : List ℕ) : Type 0 where
  goes : continues (following b rows) bs ≡ true

in_row {ℓ} : {C : Type ℓ} {b low high : ℕ} {rs : List Range} {rows : List Row} {bs : List ℕ} → Begins b (form (low to high) rs ∷ rows) bs → (low ≤ b → b ≤ high → continues rs bs ≡ true → C) → (Begins b rows bs → C) → C
unfolding following
in_row {b} {low} {high} e k other =
    by_test (in_range b (low to high))
    (λ t. on_both (leb low b) (leb b high) t λ l h. k (leb-true low b l) (leb-true b high h) (rw t at e.goes))
    (λ t. other (record { goes = rw t at e.goes }))

in_no_row {ℓ} : {C : Type ℓ} {b : ℕ} (bs : List ℕ) → Begins b [] bs → C
unfolding following
in_no_row bs e = in_range_next 1 0 [] bs e.goes λ x more is l h c. absurd (omega arith)

module _ (most : ℕ) (shorter : (bs : List ℕ) → length bs ≤ most → continues [] bs ≡ true → HasText bs) where
  by_two : (b : ℕ) (bs : List ℕ) → length bs ≤ most → 0xC2 ≤ b → b ≤ 0xDF → continues (tail ∷ []) bs ≡ true → HasText (b ∷ bs)
  by_two b bs f l h e =
      in_range_next 0x80 0xBF [] bs e λ x more is lx hx e₁.
      let fits : suc (length more) ≤ most = rw is at f in
      rw is (a_two (64 * (b - 0xC0) + (x - 0x80)) b x more (omega arith) (omega arith) (omega arith) (omega arith) (shorter more (omega arith) e₁))

  by_three : (b low high : ℕ) (bs : List ℕ) → length bs ≤ most → 0xE0 ≤ b → b ≤ 0xEF → 0x80 ≤ low → high ≤ 0xBF
      → ((x y : ℕ) → low ≤ x → x ≤ high → 0x80 ≤ y → y ≤ 0xBF → (0x800 ≤ 4096 * (b - 0xE0) + 64 * (x - 0x80) + (y - 0x80)) × Character (4096 * (b - 0xE0) + 64 * (x - 0x80) + (y - 0x80)))
      → continues (low to high ∷ tail ∷ []) bs ≡ true → HasText (b ∷ bs)
  by_three b low high bs f l h lr hr good e =
      in_range_next low high (tail ∷ []) bs e λ x more is lx hx e₁. in_range_next 0x80 0xBF [] more e₁ λ y more' is' ly hy e₂.
      let fits : suc (suc (length more')) ≤ most = rw (is, is') at f in
      let (least, ch) = good x y lx hx ly hy in
      rw (is, is') (a_three (4096 * (b - 0xE0) + 64 * (x - 0x80) + (y - 0x80)) b x y more' (omega arith) (omega arith) (omega arith) least (omega arith) ch (shorter more' (omega arith) e₂))

  by_four : (b low high : ℕ) (bs : List ℕ) → length bs ≤ most → 0xF0 ≤ b → b ≤ 0xF4 → 0x80 ≤ low → high ≤ 0xBF
      → ((x : ℕ) → low ≤ x → x ≤ high → (16 ≤ 64 * (b - 0xF0) + (x - 0x80)) × (64 * (b - 0xF0) + (x - 0x80) < 272))
      → continues (low to high ∷ tail ∷ tail ∷ []) bs ≡ true → HasText (b ∷ bs)
  by_four b low high bs f l h lr hr good e =
      in_range_next low high (tail ∷ tail ∷ []) bs e λ x more is lx hx e₁. in_range_next 0x80 0xBF (tail ∷ []) more e₁ λ y more' is' ly hy e₂. in_range_next 0x80 0xBF [] more' e₂ λ z more'' is'' lz hz e₃.
      let fits : suc (suc (suc (length more''))) ≤ most = rw (is, is', is'') at f in
      let (least, most') = good x lx hx in
      rw (is, is', is'') (a_four (262144 * (b - 0xF0) + 4096 * (x - 0x80) + 64 * (y - 0x80) + (z - 0x80)) b x y z more'' (omega arith) (omega arith) (omega arith) (omega arith) (omega arith) (omega arith) (shorter more'' (omega arith) e₃))

  by_first : (b : ℕ) (bs : List ℕ) → length bs ≤ most → Begins b well_formed bs → HasText (b ∷ bs)
  unfolding well_formed
  by_first b bs f e =
      in_row e (λ l h c. a_one b bs h (shorter bs f c)) λ e₁.
      in_row e₁ (λ l h c. by_two b bs f l h c) λ e₂.
      in_row e₂ (λ l h c. by_three b 0xA0 0xBF bs f (omega arith) (omega arith) (omega arith) (omega arith) (λ x y lx hx ly hy. (omega arith, before_surrogates (omega arith))) c) λ e₃.
      in_row e₃ (λ l h c. by_three b 0x80 0xBF bs f (omega arith) (omega arith) (omega arith) (omega arith) (λ x y lx hx ly hy. (omega arith, before_surrogates (omega arith))) c) λ e₄.
      in_row e₄ (λ l h c. by_three b 0x80 0x9F bs f (omega arith) (omega arith) (omega arith) (omega arith) (λ x y lx hx ly hy. (omega arith, before_surrogates (omega arith))) c) λ e₅.
      in_row e₅ (λ l h c. by_three b 0x80 0xBF bs f (omega arith) (omega arith) (omega arith) (omega arith) (λ x y lx hx ly hy. (omega arith, after_surrogates (omega arith) (omega arith))) c) λ e₆.
      in_row e₆ (λ l h c. by_four b 0x90 0xBF bs f (omega arith) (omega arith) (omega arith) (omega arith) (λ x lx hx. (omega arith, omega arith)) c) λ e₇.
      in_row e₇ (λ l h c. by_four b 0x80 0xBF bs f (omega arith) (omega arith) (omega arith) (omega arith) (λ x lx hx. (omega arith, omega arith)) c) λ e₈.
      in_row e₈ (λ l h c. by_four b 0x80 0x8F bs f (omega arith) (omega arith) (omega arith) (omega arith) (λ x lx hx. (omega arith, omega arith)) c) λ e₉.
      in_no_row bs e₉

continued_text : (most : ℕ) (bs : List ℕ) → length bs ≤ most → continues [] bs ≡ true → HasText bs
unfolding continues
continued_text zero [] f e = ([], empty)
continued_text zero (b ∷ bs) f e = absurd (omega arith)
continued_text (suc most) [] f e = ([], empty)
continued_text (suc most) (b ∷ bs) f e = by_first most (continued_text most) b bs (omega arith) (record { goes = e })

pub ranges_text : (bs : List ℕ) → by_ranges bs ≡ true → (cs : List ℕ) × Text bs cs
unfolding by_ranges
ranges_text bs e = continued_text (length bs) bs (omega arith) e
