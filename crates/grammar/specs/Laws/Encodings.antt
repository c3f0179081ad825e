-- A text's bytes have one reading as characters.
use Rattle.std.specs.Prelude.{ℕ, ◌+◌, ◌/◌, ◌%◌, List, [], ◌∷◌, ◌++◌, ◌≡◌, refl, length}
use Rattle.std.proofs.Common.{sym, ap, ap₂, ◌∙◌, arith}
use Rattle.grammar.specs.Texts.{Encoding, one, two, three, four, Text, empty, character}

module _ {A : Type 0} where
  cons_head : {x y : A} {xs ys : List A} → x ∷ xs ≡ y ∷ ys → x ≡ y
  cons_head e = cc

  cons_tail : {x y : A} {xs ys : List A} → x ∷ xs ≡ y ∷ ys → xs ≡ ys
  cons_tail e = cc

-- six bits at a time
same_by_six : (c d : ℕ) → c / 64 ≡ d / 64 → 0x80 + c % 64 ≡ 0x80 + d % 64 → c ≡ d
same_by_six c d p q = omega arith

twelve : (c : ℕ) → c / 4096 ≡ c / 64 / 64
twelve c = omega arith

eighteen : (c : ℕ) → c / 262144 ≡ c / 4096 / 64
eighteen c = omega arith

same_by_twelve : (c d : ℕ) → c / 4096 ≡ d / 4096 → 0x80 + c / 64 % 64 ≡ 0x80 + d / 64 % 64 → 0x80 + c % 64 ≡ 0x80 + d % 64 → c ≡ d
same_by_twelve c d p q r = same_by_six c d (same_by_six (c / 64) (d / 64) (sym (twelve c) ∙ p ∙ twelve d) q) r

same_by_eighteen : (c d : ℕ) → c / 262144 ≡ d / 262144 → 0x80 + c / 4096 % 64 ≡ 0x80 + d / 4096 % 64 → 0x80 + c / 64 % 64 ≡ 0x80 + d / 64 % 64 → 0x80 + c % 64 ≡ 0x80 + d % 64 → c ≡ d
same_by_eighteen c d p q r s = same_by_twelve c d (same_by_six (c / 4096) (d / 4096) (sym (eighteen c) ∙ p ∙ eighteen d) q) r s

-- two encodings that begin the same bytes are of one character
same_start : {c d : ℕ} {p q : List ℕ} → Encoding c p → Encoding d q → (bs bs' : List ℕ) → p ++ bs ≡ q ++ bs' → (c ≡ d) × (bs ≡ bs')
same_start (one h) (one h') bs bs' e = (cons_head e, cons_tail e)
same_start (one h) (two l' h') bs bs' e = let z = cons_head e in absurd (omega arith)
same_start (one h) (three l' h') bs bs' e = let z = cons_head e in absurd (omega arith)
same_start (one h) (four l' h') bs bs' e = let z = cons_head e in absurd (omega arith)
same_start (two l h) (one h') bs bs' e = let z = cons_head e in absurd (omega arith)
same_start (two l h) (two l' h') bs bs' e = let z = cons_head e in let y = cons_head (cons_tail e) in (omega arith, cons_tail (cons_tail e))
same_start (two l h) (three l' h') bs bs' e = let z = cons_head e in absurd (omega arith)
same_start (two l h) (four l' h') bs bs' e = let z = cons_head e in absurd (omega arith)
same_start (three l h) (one h') bs bs' e = let z = cons_head e in absurd (omega arith)
same_start (three l h) (two l' h') bs bs' e = let z = cons_head e in absurd (omega arith)
same_start (three l h) (three l' h') bs bs' e = (same_by_twelve _ _ (omega (arith, cons_head e)) (cons_head (cons_tail e)) (cons_head (cons_tail (cons_tail e))), cons_tail (cons_tail (cons_tail e)))
same_start (three l h) (four l' h') bs bs' e = let z = cons_head e in absurd (omega arith)
same_start (four l h) (one h') bs bs' e = let z = cons_head e in absurd (omega arith)
same_start (four l h) (two l' h') bs bs' e = let z = cons_head e in absurd (omega arith)
same_start (four l h) (three l' h') bs bs' e = let z = cons_head e in absurd (omega arith)
same_start (four l h) (four l' h') bs bs' e = (same_by_eighteen _ _ (omega (arith, cons_head e)) (cons_head (cons_tail e)) (cons_head (cons_tail (cons_tail e))) (cons_head (cons_tail (cons_tail (cons_tail e)))), cons_tail (cons_tail (cons_tail (cons_tail e))))

no_code : {c : ℕ} {p : List ℕ} → Encoding c p → (bs : List ℕ) → p ++ bs ≡ [] → ⊥
no_code (one h) bs e = absurd (omega (arith, ap length e))
no_code (two l h) bs e = absurd (omega (arith, ap length e))
no_code (three l h) bs e = absurd (omega (arith, ap length e))
no_code (four l h) bs e = absurd (omega (arith, ap length e))

same_text : {bs bs' cs ds : List ℕ} → Text bs cs → Text bs' ds → bs ≡ bs' → cs ≡ ds
same_text empty empty e = refl
same_text empty (character {bs = bs} ch p t) e = absurd (no_code p bs (sym e))
same_text (character {bs = bs} ch p t) empty e = absurd (no_code p bs e)
same_text (character {bs = bs} ch p t) (character {bs = bs'} ch' p' t') e = let (c, r) = same_start p p' bs bs' e in ap₂ (λ x xs. x ∷ xs) c (same_text t t' r)

pub text_one_reading : (bs cs ds : List ℕ) → Text bs cs → Text bs ds → cs ≡ ds
text_one_reading bs cs ds t u = same_text t u refl
