-- Each promise of the crate `sorting` determines what comes back, but for the two at the end.
use Rattle.std.specs.Prelude.{ℕ, List, ◌≡◌, length, take}
use Rattle.std.proofs.Common.{sym, ap, ◌∙◌, arith, length-take}
use Rattle.format.proofs.Determined.{Determines4, equal_determined}
use Rattle.sorting.proofs.Codes.{length_coded}
use Rattle.sorting.proofs.Inserts.{length_descending}
use Rattle.sorting.specs.Order.{coded, descending}
use Rattle.sorting.specs.Promises.{SortingIsBelow, SortingOffer, SortingSort}
use Rattle.sorting.specs.Windows.{Holds}

pub record Sorting : Type 0 where
  sorting_is_below : Determines4 SortingIsBelow

pub determined : Sorting
determined = record { sorting_is_below = λ key order than_key than_order. equal_determined _ }

-- THE EXCEPTIONS, which leave open what nobody asks

-- so many codes are held as the window says
held_many : {keys orders : List ℕ} {n : ℕ} → Holds keys orders n → length (descending (take n (coded keys orders))) ≡ n
held_many {keys} {orders} {n} h = omega (arith, length_descending (take n (coded keys orders)), length-take n (coded keys orders), length_coded keys orders h.same_long, h.within)

-- sorting::offer leaves open where in the window a code stands, and what the slots behind have: the held codes in falling order, and their number, are determined
pub offer_held : (keys orders : List ℕ) (n key order : ℕ) (keys' orders' keys'' orders'' : List ℕ) (r r' : ℕ) → SortingOffer keys orders n key order keys' orders' r → SortingOffer keys orders n key order keys'' orders'' r'
    → (descending (take r (coded keys' orders')) ≡ descending (take r' (coded keys'' orders''))) × (r ≡ r')
offer_held keys orders n key order keys' orders' keys'' orders'' r r' p q =
    let same = p.window ∙ sym q.window in
    (same, sym (held_many p.holds) ∙ ap length same ∙ held_many q.holds)

-- sorting::sort leaves open what the slots behind the first n have: the first n codes are determined
pub sort_first : (keys orders : List ℕ) (n : ℕ) (keys' orders' keys'' orders'' : List ℕ) → SortingSort keys orders n keys' orders' → SortingSort keys orders n keys'' orders'' → take n (coded keys' orders') ≡ take n (coded keys'' orders'')
sort_first keys orders n keys' orders' keys'' orders'' p q = p ∙ sym q
