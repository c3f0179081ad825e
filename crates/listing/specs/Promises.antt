-- THE PROMISE of the program's listing, by the name of its function. It stands in the `ensures` of `list::list` and nowhere else: what is shown of the name is shown of the function.
use Rattle.std.specs.Prelude.{ℕ, List}
use Rattle.format.specs.Listing.{listing}
use Rattle.writing.specs.Wrote.{Wrote}

abbrev pub ListingList : (m old new : List ℕ) → ℕ → Type 0
ListingList m old new r = Wrote old new 0 r (listing m)
