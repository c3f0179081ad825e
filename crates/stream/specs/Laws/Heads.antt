-- A section's head that a part has whole is read at once: its id, its size and, of a custom one, its name. Where the walk's readers read it, the bytes lead there too.
use Prim.Native.Nat.{ℕ, zero, suc, ◌+◌, ◌-◌, ◌≤◌, ◌<◌}
use Rattle.std.specs.Prelude.{true, cond, ◌≡◌, refl, leb, length, drop}
use mathlib.Core.List.{List, [], ◌∷◌, ◌++◌}
use Rattle.std.proofs.Math.Path.{sym, ap, ap₂}
use Rattle.std.proofs.Common.{◌∙◌, zero-add, suc-add, leb-true, length-take-le}
use native.Mathlib.Omega.{arith}
use Rattle.std.proofs.Math.ListN.{take}
use Rattle.format.specs.Refusals.{number_of}
use Rattle.format.specs.Reading.{got, accepted}
use Rattle.format.specs.Numbers.{number}
use Rattle.format.specs.Parts as Parts
use Rattle.format.specs.Parts.{Part, cut}
use Rattle.format.specs.Text.{utf8}
use Rattle.format.specs.Walk.{id_rules}
use Rattle.format.specs.Laws.Outcomes.{not_got, got_value, got_next, got_rest, in_turn, passed}
use Rattle.format.specs.declared.Reason.TheVariants.{PastItsPart, NotText}
use Rattle.stream.specs.Counting.{Number, fresh, Counted, whole, partly, over, counted}
use Rattle.stream.specs.Texts.{none_wanted}
use Rattle.stream.specs.Naming.{none_met}
use Rattle.stream.specs.Contents.{sizing, paying, failing, name, sized, content}
use Rattle.stream.specs.Stream.{Done, seen_in, Phase, settled, measuring, custom, enter, measured, admit, opening, byte, standing, step, steps}
use Rattle.stream.specs.Laws.Counting.{counting, onward, counting_first, counting_short, counting_byte}
use Rattle.stream.specs.Laws.Naming.{row_named, meeting_first}
use Rattle.stream.specs.Laws.Texts.{text_first}
use Rattle.stream.specs.Laws.Resumed.{steps_append}
use Rattle.stream.specs.Laws.Bulk.{name_many}

-- which of the three a count is
by_counted {ℓ} : {C : Type ℓ} (c : Counted) → ((v : ℕ) → c ≡ whole v → C) → ((n : Number) → c ≡ partly n → C) → (c ≡ over → C) → C
by_counted (whole v) f g h = f v refl
by_counted (partly n) f g h = g n refl
by_counted over f g h = h refl

-- A NUMBER, which is read up to an offset: what is left behind it

pub record Consumed (bs rest : List ℕ) (p p₁ : ℕ) : Type 0 where
  pub moves : p < p₁
  pub behind : rest ≡ drop (p₁ - p) bs
  pub within : p₁ - p ≤ length bs

one_more : {bs rest : List ℕ} {p p₁ : ℕ} (b : ℕ) → Consumed bs rest (suc p) p₁ → Consumed (b ∷ bs) rest p p₁
one_more {bs} {rest} {p} {p₁} b c =
    let m = c.moves in let w = c.within in
    let further : p₁ - p ≡ suc (p₁ - suc p) = omega arith in
    record { moves = omega arith; behind = c.behind ∙ ap (λ k. drop k (b ∷ bs)) (sym further); within = omega arith }

counting_consumes : (bs : List ℕ) (first : ℕ) (n : Number) (p : ℕ) {v p₁ : ℕ} {rest : List ℕ} → counting first n p bs ≡ got v p₁ rest → Consumed bs rest p p₁
unfolding onward
counting_consumes [] first n p e = absurd (not_got (sym (counting_short first n p) ∙ e))
counting_consumes (b ∷ bs) first n p {v} {p₁} {rest} e =
    let on = sym (counting_byte first n p b bs) ∙ e in
    by_counted (counted n b)
    (λ w c. let is = rw c at on in
    let there : p₁ ≡ suc p = sym (got_next is) in
    let one : p₁ - p ≡ 1 = omega arith in
    record { moves = omega arith; behind = sym (got_rest is) ∙ ap (λ k. drop k (b ∷ bs)) (sym one); within = omega arith })
    (λ m c. one_more b (counting_consumes bs first m (suc p) (rw c at on)))
    (λ c. absurd (not_got (rw c at on)))

-- a phase in the middle of a number, and what a count leads to; `left` bytes are still to come
module _ (P : (left : ℕ) → Number → (o : ℕ) → Phase) (Q : (left : ℕ) → Counted → (o : ℕ) → Phase)
    (on : (left : ℕ) (n : Number) (o b : ℕ) → byte (P (suc left) n o) o b ≡ Q left (counted n b) (suc o))
    (again : (left : ℕ) (n : Number) (o : ℕ) → Q left (partly n) o ≡ P left n o) where
  counts : (bs : List ℕ) (first : ℕ) (n : Number) (p : ℕ) {v p₁ : ℕ} {rest : List ℕ} → counting first n p bs ≡ got v p₁ rest → (left o : ℕ) → p₁ - p ≤ left
      → steps (standing o (P left n o)) (take (p₁ - p) bs) ≡ standing (o + (p₁ - p)) (Q (left - (p₁ - p)) (whole v) (o + (p₁ - p)))
  unfolding onward steps step
  counts [] first n p e left o h = absurd (not_got (sym (counting_short first n p) ∙ e))
  counts (b ∷ bs) first n p e zero o h = absurd (let m = (counting_consumes (b ∷ bs) first n p e).moves in omega arith)
  counts (b ∷ bs) first n p {v} {p₁} e (suc left) o h =
      let read = sym (counting_byte first n p b bs) ∙ e in
      by_counted (counted n b)
      (λ w c. let is = rw c at read in
      let there : p₁ ≡ suc p = sym (got_next is) in
      let one : p₁ - p ≡ 1 = omega arith in
      let next : suc o ≡ o + 1 = omega arith in
      let fewer : left ≡ suc left - 1 = omega arith in
      rw one ((λ i. standing (suc o) ((on left n o b ∙ ap (λ x. Q left x (suc o)) (c ∙ ap whole (got_value is))) i))
      ∙ ap₂ (λ x y. standing y (Q x (whole v) y)) fewer next))
      (λ m c. let is = rw c at read in
      let far = (counting_consumes bs first m (suc p) is).moves in
      let k = p₁ - suc p in
      let further : p₁ - p ≡ suc (p₁ - suc p) = omega arith in
      let next : suc o + (p₁ - suc p) ≡ o + suc (p₁ - suc p) = omega arith in
      let fewer : left - (p₁ - suc p) ≡ suc left - suc (p₁ - suc p) = omega arith in
      rw further (ap (λ x. steps (standing (suc o) x) (take (p₁ - suc p) bs)) (on left n o b ∙ ap (λ x. Q left x (suc o)) c ∙ again left m (suc o))
      ∙ counts bs first m (suc p) is left (suc o) (omega arith)
      ∙ ap₂ (λ x y. standing y (Q x (whole v) y)) fewer next))
      (λ c. absurd (not_got (rw c at read)))

-- A SECTION'S SIZE
pub size_many : (d : Done) (id at : ℕ) (bs : List ℕ) (p : ℕ) {v p₁ : ℕ} {rest : List ℕ} → number p bs ≡ got v p₁ rest → (o : ℕ)
    → steps (standing o (measuring d id at fresh)) (take (p₁ - p) bs) ≡ standing (o + (p₁ - p)) (enter d id at v (o + (p₁ - p)))
unfolding byte measured
size_many d id at bs p {p₁ = p₁} e o =
    counts (λ left n o. measuring d id at n) (λ left c o. measured d id at c o) (λ left n o b. refl) (λ left n o. refl) bs p fresh p (sym (counting_first p bs) ∙ e) (p₁ - p) o (omega arith)

split_at : (k n : ℕ) (bs : List ℕ) → take (k + n) bs ≡ take k bs ++ take n (drop k bs)
split_at zero n bs = rw zero-add
split_at (suc k) n [] = rw suc-add (sym (take_none n))
  where
    take_none : (n : ℕ) → ◌≡◌ {A = List ℕ} (take n []) []
    take_none zero = refl
    take_none (suc n) = refl
split_at (suc k) n (b ∷ bs) = rw suc-add (ap (λ l. b ∷ l) (split_at k n bs))

-- A NAME, whose number begins the contents of a custom section
module _ (d : Done) (at : ℕ) where
  number_of_name : (begins : ℕ) (bs : List ℕ) (p : ℕ) {v p₁ : ℕ} {rest : List ℕ} → number p bs ≡ got v p₁ rest → (left o : ℕ) → p₁ - p ≤ left
      → steps (standing o (custom d at left (sizing begins fresh) o)) (take (p₁ - p) bs) ≡ standing (o + (p₁ - p)) (custom d at (left - (p₁ - p)) (name begins (o + (p₁ - p)) v none_wanted none_met (o + (p₁ - p))) (o + (p₁ - p)))
  unfolding byte custom content sized
  number_of_name begins bs p e left o h =
      counts (λ left n o. custom d at left (sizing begins n) o) (λ left c o. custom d at left (sized begins c o) o) (λ left n o b. refl) (λ left n o. refl) bs p fresh p (sym (counting_first p bs) ∙ e) left o h

  -- the text behind it, which is text
  text_of_name : (begins text : ℕ) (xs : List ℕ) (left o : ℕ) → length xs ≤ left → utf8 xs ≡ true
      → steps (standing o (custom d at left (name begins text (length xs) none_wanted none_met o) o)) xs ≡ standing (o + length xs) (custom d at (left - length xs) (paying (row_named xs) (o + length xs)) (o + length xs))
  text_of_name begins text xs left o h t =
      name_many begins text d at left o none_wanted none_met xs h
      ∙ (λ i. standing (o + length xs) (custom d at (left - length xs) (cond ((sym (text_first xs) ∙ t) i) (paying (sym (meeting_first xs) i) (o + length xs)) (failing (number_of NotText) text)) (o + length xs)))

  both_of_name : (begins : ℕ) (bs rest : List ℕ) (p p₁ n : ℕ) → Consumed bs rest p p₁ → number p bs ≡ got n p₁ rest → n ≤ length rest → utf8 (take n rest) ≡ true → (left o : ℕ) → p₁ - p + n ≤ left
      → steps (standing o (custom d at left (sizing begins fresh) o)) (take (p₁ - p + n) bs) ≡ standing (o + (p₁ - p + n)) (custom d at (left - (p₁ - p + n)) (paying (row_named (take n rest)) (o + (p₁ - p + n))) (o + (p₁ - p + n)))
  both_of_name begins bs rest p p₁ n c e l t left o h =
      let long = length-take-le n rest l in
      let further : (o + (p₁ - p)) + n ≡ o + (p₁ - p + n) = omega arith in
      let fewer : (left - (p₁ - p)) - n ≡ left - (p₁ - p + n) = omega arith in
      ap (steps (standing o (custom d at left (sizing begins fresh) o))) (split_at (p₁ - p) n bs ∙ ap (λ x. take (p₁ - p) bs ++ take n x) (sym c.behind))
      ∙ steps_append (standing o (custom d at left (sizing begins fresh) o)) (take (p₁ - p) bs) (take n rest)
      ∙ ap (λ s. steps s (take n rest)) (number_of_name begins bs p e left o (omega arith) ∙ ap (λ n. standing (o + (p₁ - p)) (custom d at (left - (p₁ - p)) (name begins (o + (p₁ - p)) n none_wanted none_met (o + (p₁ - p))) (o + (p₁ - p)))) (sym long))
      ∙ text_of_name begins (o + (p₁ - p)) (take n rest) (left - (p₁ - p)) (o + (p₁ - p)) (omega arith) t
      ∙ ap (λ n'. standing ((o + (p₁ - p)) + n') (custom d at ((left - (p₁ - p)) - n') (paying (row_named (take n rest)) ((o + (p₁ - p)) + n')) ((o + (p₁ - p)) + n'))) long
      ∙ ap₂ (λ x y. standing y (custom d at x (paying (row_named (take n rest)) y) y)) fewer further

  -- a name that the walk reads
  pub name_read_many : (begins : ℕ) (bs : List ℕ) (p : ℕ) {t : Part} {p₁ : ℕ} {rest : List ℕ} → Parts.name p bs ≡ got t p₁ rest → (left o : ℕ) → p₁ - p ≤ left
      → steps (standing o (custom d at left (sizing begins fresh) o)) (take (p₁ - p) bs) ≡ standing (o + (p₁ - p)) (custom d at (left - (p₁ - p)) (paying (row_named t.bytes) (o + (p₁ - p))) (o + (p₁ - p)))
  unfolding Parts.name Parts.sized
  name_read_many begins bs p {t} {p₁} e left o h =
      in_turn (Parts.sized p bs) _ e λ text o₁ r₁ e₁ f₁.
      in_turn (number p bs) _ e₁ λ n o₂ r₂ e₂ f₂.
      passed (leb n (length r₂)) PastItsPart p (cut n) o₂ r₂ f₂ λ l g₂.
      passed (utf8 text.bytes) NotText text.at (λ o bs. got text o bs) o₁ r₁ f₁ λ u g₁.
      let c = counting_consumes bs p fresh p (sym (counting_first p bs) ∙ e₂) in
      let m = c.moves in
      let is : text ≡ record { at = o₂; bytes = take n r₂ } = sym (got_value g₂) in
      let same : t ≡ text = sym (got_value g₁) in
      let behind : p₁ ≡ o₂ + n = sym (got_next g₁) ∙ sym (got_next g₂) in
      let far : p₁ - p ≡ o₂ - p + n = omega arith in
      rw (far, same, is) (both_of_name begins bs r₂ p o₂ n c e₂ (leb-true n (length r₂) l) (ap (λ x. utf8 x.bytes) (sym is) ∙ u) left o (omega arith))

-- AN ID that the walk's rules admit
pub id_then : (d : Done) (o id : ℕ) (bs : List ℕ) → id_rules (seen_in d) o id 0 [] ≡ got tt 0 [] → steps (standing o (settled (accepted d))) (id ∷ bs) ≡ steps (standing (suc o) (measuring d id o fresh)) bs
unfolding steps step byte opening admit
id_then d o id bs e = ap (λ x. steps (standing (suc o) (admit x (measuring d id o fresh))) bs) e
