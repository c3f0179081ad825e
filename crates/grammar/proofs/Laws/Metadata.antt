-- The reader of code metadata is exact, for any data and for branch hints.
use Rattle.std.specs.Prelude.{ℕ, zero, suc, true, List, [], ◌∷◌, ◌≡◌, refl}
use Rattle.format.specs.Bytes.{Bytes}
use Rattle.format.specs.Reading.{Reader, accepted}
use Rattle.format.specs.Options.{is_some}
use Rattle.format.specs.Parts.{Part}
use Rattle.format.specs.Tables.{Table}
use Rattle.format.specs.Metadata.{hint_of, any_item, hint_item, metadata, judge_metadata}
use Rattle.format.specs.Canonical.{bare_items}
use Rattle.format.specs.Laws.Outcomes.{false_true, judged}
use Rattle.format.specs.declared.Reason.TheVariants.{NotHint}
use Rattle.grammar.specs.Lists.{Sized}
use Rattle.grammar.specs.Metadata.{Format, Item, item as an_item, CodeMetadata, Unknown, any_data, BranchHint, unlikely, likely}
use Rattle.grammar.specs.Laws.Exact.{Exact, exact_for, fills_sound, fills_complete}
use Rattle.grammar.proofs.Laws.Lists.{sized_exact, tested_exact, table_exact}

item_part : (bs x : List ℕ) → Item Unknown bs x → Sized bs x
item_part bs x (an_item s t) = s

pub any_exact : Exact any_item (λ p. p.bytes) (Item Unknown)
unfolding any_item
any_exact = exact_for sized_exact (λ bs x s. an_item s any_data) item_part

is_hint : (x : List ℕ) → is_some (hint_of x) ≡ true → BranchHint x
unfolding hint_of
is_hint [] e = false_true e
is_hint (zero ∷ []) e = unlikely
is_hint (suc zero ∷ []) e = likely
is_hint (suc (suc b) ∷ []) e = false_true e
is_hint (b ∷ c ∷ bs) e = false_true e

hint_is : (bs x : List ℕ) → Item BranchHint bs x → Sized bs x × (is_some (hint_of x) ≡ true)
unfolding hint_of
hint_is bs x (an_item s unlikely) = (s, refl)
hint_is bs x (an_item s likely) = (s, refl)

pub hint_exact : Exact hint_item (λ p. p.bytes) (Item BranchHint)
unfolding hint_item
hint_exact = tested_exact (λ x. is_some (hint_of x)) NotHint (λ o p. o) (λ bs x s t. an_item s (is_hint x t)) hint_is

-- THE PAYLOAD, wherever it begins in what was lent
module _ {item : Reader Part} {T : Format} (exact : Exact item (λ p. p.bytes) (Item T)) where
  pub metadata_sound : (at : ℕ) (p : List ℕ) (t : Table (Table Part)) → Bytes p → judge_metadata item at p ≡ accepted t → CodeMetadata T p (bare_items t)
  unfolding judge_metadata metadata
  metadata_sound at p t h e = judged (metadata item at p) e λ o rest e₁. fills_sound (table_exact (table_exact exact)) at p h e₁

  pub metadata_complete : (at : ℕ) (p : List ℕ) (m : Table (Table (List ℕ))) → CodeMetadata T p m → (t : Table (Table Part)) × (judge_metadata item at p ≡ accepted t) × (bare_items t ≡ m)
  unfolding judge_metadata metadata
  metadata_complete at p m g = let (t, o, e, q) = fills_complete (table_exact (table_exact exact)) g at in (t, rw e, q)
