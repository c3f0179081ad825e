-- Padding: a number took its fewest bytes exactly where it has one byte alone or its last byte is not 0.
use Rattle.std.specs.Prelude.{ℕ, zero, suc, ◌+◌, ◌-◌, ◌%◌, ◌/◌, ◌*◌, ◌<◌, true, false, not, List, [], ◌∷◌, ◌≡◌, refl, ltb, leb, eqb, length, get_or}
use Rattle.std.proofs.Math.Path.{sym}
use Rattle.std.proofs.Common.{◌∙◌}
use native.Mathlib.Omega.{arith}
use borrow.Author.Tests.{ltb-true, ltb-false, eq-eqb, ne_eqb, eqb-true, eqb-false}
use Rattle.format.specs.Reading.{got, return}
use Rattle.format.specs.Numbers.{groups, number, fewest, shortest}
use Rattle.format.specs.Telling.{as_few}
use Rattle.format.specs.Laws.Outcomes.{not_got, got_value, got_rest, by_test, in_turn}

-- the last byte of a number behind which `rest` is left
abbrev pub last_byte : (rest bs : List ℕ) → ℕ
last_byte rest bs = get_or bs (length bs - suc (length rest)) 0

-- as few bytes as a form has, or more
module _ (form rest bs : List ℕ) where
  pub as_few_lem : length form + length rest ≡ length bs → as_few form rest bs ≡ true
  as_few_lem h = eq-eqb (length form + length rest) (length bs) h

  pub not_as_few : length form + length rest < length bs → as_few form rest bs ≡ false
  not_as_few h = ne_eqb (length form + length rest) (length bs) (λ e. omega arith)

-- what the groups of a number say
record Groups (k v : ℕ) (rest bs : List ℕ) : Type 0 where
  shrinks : length rest < length bs
  alone : length bs ≡ suc (length rest) → (v ≡ last_byte rest bs) × (length (fewest k v) ≡ 1)
  padded : suc (length rest) < length bs → last_byte rest bs ≡ 0 → length (fewest k v) + length rest < length bs
  tight : suc (length rest) < length bs → (last_byte rest bs ≡ 0 → ⊥) → length (fewest k v) + length rest ≡ length bs
  positive : (last_byte rest bs ≡ 0 → ⊥) → 0 < v

last_alone : (b : ℕ) (bs : List ℕ) → last_byte bs (b ∷ bs) ≡ b
last_alone b bs = let d : suc (length bs) - suc (length bs) ≡ 0 = omega arith in rw d

last_behind : (b : ℕ) (rest bs : List ℕ) → length rest < length bs → last_byte rest (b ∷ bs) ≡ last_byte rest bs
last_behind b rest bs h = let d : suc (length bs) - suc (length rest) ≡ suc (length bs - suc (length rest)) = omega arith in rw d

above_zero : (b : ℕ) → (b ≡ 0 → ⊥) → 0 < b
above_zero zero n = absurd (n refl)
above_zero (suc b) n = omega arith

-- one byte
one_group : (k b : ℕ) (bs : List ℕ) → length (fewest k b) ≡ 1 → Groups k b bs (b ∷ bs)
one_group k b bs h = record {
  shrinks = omega arith;
  alone = λ _. (sym (last_alone b bs), h);
  padded = λ l _. absurd (omega arith);
  tight = λ l _. absurd (omega arith);
  positive = λ n. above_zero b (λ z. n (last_alone b bs ∙ z));
}

-- one more in front of others
module _ {k b w : ℕ} {rest bs : List ℕ} (g : Groups k w rest bs) where
  in_front : (v : ℕ) → v ≡ b % 128 + 128 * w → Groups (suc k) v rest (b ∷ bs)
  unfolding fewest
  in_front v is =
      let behind = last_behind b rest bs g.shrinks in
      let rest_is : v / 128 ≡ w = omega arith in
      record {
        shrinks = omega (arith, g.shrinks);
        alone = λ e. absurd (omega (arith, g.shrinks));
        padded = λ l z. by_test (ltb v 128)
            (λ t. rw t (omega (arith, g.shrinks)))
            (λ t. rw (t, rest_is) (by_test (eqb (length bs) (suc (length rest)))
            (λ q. let one = (g.alone (eqb-true (length bs) (suc (length rest)) q)).0 in absurd (omega (arith, one, sym behind ∙ z, ltb-false v 128 t)))
            (λ q. omega (arith, g.padded (omega (arith, g.shrinks, eqb-false (length bs) (suc (length rest)) q)) (sym behind ∙ z)))));
        tight = λ l n.
            let loud : last_byte rest bs ≡ 0 → ⊥ = λ z. n (behind ∙ z) in
            by_test (ltb v 128)
            (λ t. absurd (omega (arith, ltb-true v 128 t, g.positive loud)))
            (λ t. rw (t, rest_is) (by_test (eqb (length bs) (suc (length rest)))
            (λ q. let one = eqb-true (length bs) (suc (length rest)) q in omega (arith, (g.alone one).1))
            (λ q. omega (arith, g.tight (omega (arith, g.shrinks, eqb-false (length bs) (suc (length rest)) q)) loud))));
        positive = λ n. omega (arith, g.positive (λ z. n (behind ∙ z)));
      }

groups_say : (k s o : ℕ) (bs : List ℕ) {v o' : ℕ} {rest : List ℕ} → groups k s o bs ≡ got v o' rest → Groups k v rest bs
unfolding groups fewest
groups_say k s o [] e = absurd (not_got e)
groups_say zero s o (b ∷ bs) {v} {o'} {rest} e =
    by_test (leb b 15)
    (λ t. let e' : got b (suc o) bs ≡ got v o' rest = rw t at e in
    rw (← got_value e', ← got_rest e') (one_group zero b bs refl))
    (λ t. absurd (not_got (rw t at e)))
groups_say (suc k) s o (b ∷ bs) {v} {o'} {rest} e =
    by_test (ltb b 128)
    (λ t. let e' : got b (suc o) bs ≡ got v o' rest = rw t at e in
    rw (← got_value e', ← got_rest e') (one_group (suc k) b bs (rw t)))
    (λ t. in_turn (groups k s (suc o) bs) (λ w. return (b % 128 + 128 * w)) (rw t at e) λ w o₁ r₁ e₁ e₂.
    rw (← got_rest e₂) (in_front (groups_say k s (suc o) bs e₁) v (sym (got_value e₂))))

module _ (o : ℕ) (bs : List ℕ) {v o' : ℕ} {rest : List ℕ} (e : number o bs ≡ got v o' rest) where
  says : Groups 4 v rest bs
  unfolding number
  says = groups_say 4 o o bs e

  -- one byte is as few as can be
  pub one_byte_few : length bs ≡ suc (length rest) → as_few (shortest v) rest bs ≡ true
  unfolding shortest
  one_byte_few h = as_few_lem (shortest v) rest bs (omega (arith, (says.alone h).1))

  -- of several bytes the last tells
  pub last_tells : suc (length rest) < length bs → as_few (shortest v) rest bs ≡ not (eqb (last_byte rest bs) 0)
  unfolding shortest
  last_tells h =
      by_test (eqb (last_byte rest bs) 0)
      (λ t. rw t (not_as_few (shortest v) rest bs (says.padded h (eqb-true (last_byte rest bs) 0 t))))
      (λ t. rw t (as_few_lem (shortest v) rest bs (says.tight h (eqb-false (last_byte rest bs) 0 t))))
