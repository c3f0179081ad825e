-- The reader of numbers stops exactly at their faults.
use Rattle.std.specs.Prelude.{ℕ, zero, suc, ◌+◌, ◌*◌, ◌%◌, ◌≤◌, ◌<◌, List, [], ◌∷◌, ◌++◌, ◌≡◌, refl, ltb, leb, length}
use Rattle.std.proofs.Common.{sym, ap, add-zero, arith, ltb-false, leb-false, le-ltb}
use Rattle.std.proofs.lemmas.Bool.{lt-leb}
use Rattle.format.specs.Bytes.{Bytes}
use Rattle.format.specs.Reading.{stop}
use Rattle.format.specs.Numbers.{groups, number}
use Rattle.format.specs.Laws.Outcomes.{not_got, by_test}
use Rattle.format.proofs.Laws.Passing.{number_passes, Reaches, reach_step}
use Rattle.grammar.specs.Numbers.{U32}
use Rattle.grammar.specs.Faults.Numbers.{GoOn, no_byte, one_more, NumberFault, cut_off, too_large_lem}
use Rattle.grammar.proofs.Laws.Numbers.{number_sound, number_complete}
use Rattle.grammar.specs.Laws.Faults.Stops.{stop_number, stop_place, stops_first, Found, Reads}

-- groups of which `more` may follow the next one
groups_stopped {ℓ} : {C : Type ℓ} (more first o : ℕ) (bs : List ℕ) {n k : ℕ} → groups more first o bs ≡ stop n k → (GoOn bs → length bs ≤ more → 2 ≡ n → first ≡ k → C) → ((front others : List ℕ) (b : ℕ) → bs ≡ front ++ (b ∷ others) → GoOn front → length front ≡ more → 15 < b → 3 ≡ n → first ≡ k → C) → C
unfolding groups
groups_stopped more first o [] e short large = short no_byte (omega arith) (stop_number e) (stop_place e)
groups_stopped zero first o (b ∷ bs) e short large =
    by_test (leb b 15)
    (λ t. absurd (not_got (sym (rw t at e))))
    (λ t. let e' = rw t at e in large [] bs b refl no_byte refl (leb-false b 15 t) (stop_number e') (stop_place e'))
groups_stopped (suc more) first o (b ∷ bs) e short large =
    by_test (ltb b 128)
    (λ t. absurd (not_got (sym (rw t at e))))
    (λ t. stops_first (groups more first (suc o) bs) (λ v. b % 128 + 128 * v) (rw t at e) λ e₁.
    groups_stopped more first (suc o) bs e₁
    (λ g l. short (one_more (ltb-false b 128 t) g) (omega arith))
    (λ front others c is g l. large (b ∷ front) others c (ap (λ x. b ∷ x) is) (one_more (ltb-false b 128 t) g) (ap suc l)))

groups_short : {bs : List ℕ} → GoOn bs → (more first o : ℕ) → length bs ≤ more → groups more first o bs ≡ stop 2 first
unfolding groups
groups_short no_byte more first o l = refl
groups_short (one_more h g) zero first o l = absurd (omega arith)
groups_short (one_more {b = b} h g) (suc more) first o l = rw (le-ltb b 128 h, groups_short g more first (suc o) (omega arith))

groups_large : {front : List ℕ} → GoOn front → (more first o b : ℕ) (others : List ℕ) → length front ≡ more → 15 < b → groups more first o (front ++ (b ∷ others)) ≡ stop 3 first
unfolding groups
groups_large no_byte zero first o b others l h = rw (lt-leb b 15 h)
groups_large no_byte (suc more) first o b others l h = absurd (omega arith)
groups_large (one_more i g) zero first o b others l h = absurd (omega arith)
groups_large (one_more {b = c} i g) (suc more) first o b others l h = rw (le-ltb c 128 i, groups_large g more first (suc o) b others (omega arith) h)

number_stopped : (o : ℕ) (bs : List ℕ) {n k : ℕ} → Bytes bs → number o bs ≡ stop n k → Found NumberFault bs o n k
unfolding number
number_stopped o bs h e =
    groups_stopped 4 o o bs e
    (λ g l is at. rw (← is) (record { place = 0; is = omega arith; fault = cut_off g l }))
    (λ front others b split g l big is at. rw (← is, split) (record { place = 0; is = omega arith; fault = too_large_lem others g l big }))

number_stops : {bs : List ℕ} {n at : ℕ} → NumberFault bs n at → (o : ℕ) → number o bs ≡ stop n (o + at)
unfolding number
number_stops (cut_off g l) o = rw (add-zero o) (groups_short g 4 o o l)
number_stops (too_large_lem {fifth = b} others g l big) o = rw (add-zero o) (groups_large g 4 o o b others l big)

pub number_reads : Reads number (λ x. x) U32 NumberFault
number_reads = record {
  exact = record { sound = number_sound; complete = λ {front} {w} u o rest. record { value = w; next = o + length front; reads = number_complete u o rest; same = refl } };
  passes = λ end. number_passes (Reaches end) (reach_step end);
  faults = record { found = number_stopped; stops = number_stops };
}
